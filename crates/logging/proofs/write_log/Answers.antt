-- `logging::write_log` meets its contract: by what the write came to.
use mathlib.Core.Path.{sym, ◌∙◌}
use Rattle.format.specs.Diskette.{eight_inch}
use Rattle.picking.specs.Picker.{lifted_call_rule}
use Rattle.daybook.specs.Said.{of_records}
use Rattle.logging.specs.Held.{held, left_on}
use Rattle.logging.specs.Laws.{asked_alike, written_closes, written_fails}
use Rattle.logging.proofs.write_log.Goals as goal

pub returns-then-record_accepted-clause-comes_to : goal.returns-then-record_accepted-clause-comes_to
returns-then-record_accepted-clause-comes_to c =
    let a = c.args in
    let d = held a.disk.now in
    let m = c.lifted_call-answer in
    c.close_log.ensures.comes_to
    ∙ written_closes eight_inch a.time d _ _ (left_on m.new.self m.result m.new.fcb m.new.buffer m.ensures.session) a.wanted a.fcb a.n
    (asked_alike (lifted_call_rule eight_inch) d a.time 34 m.ensures.comes_to c.at_record-f.ensures c.log_record-buffer.ensures)
    (sym (c.record_accepted.ensures 34 of_records.write) ∙ c.if-record_accepted.true)

pub returns-clause-comes_to : goal.returns-clause-comes_to
returns-clause-comes_to c =
    let a = c.args in
    let d = held a.disk.now in
    let m = c.lifted_call-answer in
    written_fails eight_inch a.time d _ _ (left_on m.new.self m.result m.new.fcb m.new.buffer m.ensures.session) a.wanted a.fcb a.n
    (asked_alike (lifted_call_rule eight_inch) d a.time 34 m.ensures.comes_to c.at_record-f.ensures c.log_record-buffer.ensures)
    (sym (c.record_accepted.ensures 34 of_records.write) ∙ c.if-record_accepted.false) _ (c.write_trouble.ensures _)
