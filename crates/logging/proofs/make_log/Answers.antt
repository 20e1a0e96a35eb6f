-- `logging::make_log` meets its contract: by what the make came to.
use mathlib.Core.Path.{sym, ◌∙◌}
use Rattle.format.specs.Diskette.{eight_inch}
use Rattle.picking.specs.Picker.{lifted_call_rule}
use Rattle.daybook.specs.Said.{of_entries}
use Rattle.logging.specs.Held.{held, left_on}
use Rattle.logging.specs.Laws.{asked_alike, made_writes, made_fails}
use Rattle.logging.proofs.make_log.Goals as goal

pub returns-then-entry_accepted-clause-comes_to : goal.returns-then-entry_accepted-clause-comes_to
returns-then-entry_accepted-clause-comes_to c =
    let a = c.args in
    let d = held a.disk.now in
    let m = c.lifted_call-answer in
    c.write_log.ensures.comes_to
    ∙ made_writes eight_inch a.time d _ _ (left_on m.new.self m.result m.new.fcb m.new.buffer m.ensures.session) a.wanted
    (asked_alike (lifted_call_rule eight_inch) d a.time 22 m.ensures.comes_to c.fcb_of-f.ensures c.blank_record-buffer.ensures)
    (sym (c.entry_accepted.ensures 22 of_entries.make) ∙ c.if-entry_accepted.true)

pub returns-clause-comes_to : goal.returns-clause-comes_to
returns-clause-comes_to c =
    let a = c.args in
    let d = held a.disk.now in
    let m = c.lifted_call-answer in
    made_fails eight_inch a.time d _ _ (left_on m.new.self m.result m.new.fcb m.new.buffer m.ensures.session) a.wanted
    (asked_alike (lifted_call_rule eight_inch) d a.time 22 m.ensures.comes_to c.fcb_of-f.ensures c.blank_record-buffer.ensures)
    (sym (c.entry_accepted.ensures 22 of_entries.make) ∙ c.if-entry_accepted.false) _ (c.missing.ensures _)
