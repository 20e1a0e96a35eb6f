-- `extending::extend_log` meets its contract: by what the open came to.
use mathlib.Core.Path.{sym, ◌∙◌}
use Rattle.format.specs.Diskette.{eight_inch}
use Rattle.demands.specs.Runs.{outcome_of}
use Rattle.daybook.specs.Said.{of_entries}
use Rattle.logging.specs.Held.{held, left_on}
use Rattle.logging.specs.Laws.{asked_alike}
use Rattle.extending.specs.Laws.{extended_searches, extended_fails}
use Rattle.extending.proofs.extend_log.Goals as goal

pub returns-then-entry_accepted-clause-comes_to : goal.returns-then-entry_accepted-clause-comes_to
returns-then-entry_accepted-clause-comes_to c =
    let a = c.args in
    let d = held a.disk.now in
    let m = c.call-answer in
    c.search_and_add.ensures.comes_to
    ∙ extended_searches eight_inch a.time a.wanted d a.n _ _ (left_on m.new.self m.result m.new.fcb m.new.buffer m.ensures.session)
    (asked_alike (outcome_of eight_inch) d a.time 15 m.ensures.comes_to c.fcb_of-f.ensures c.blank_record-buffer.ensures)
    (sym (c.entry_accepted.ensures 15 of_entries.opens) ∙ c.if-entry_accepted.true)

pub returns-clause-comes_to : goal.returns-clause-comes_to
returns-clause-comes_to c =
    let a = c.args in
    let d = held a.disk.now in
    let m = c.call-answer in
    extended_fails eight_inch a.time a.wanted d a.n _ _ (left_on m.new.self m.result m.new.fcb m.new.buffer m.ensures.session)
    (asked_alike (outcome_of eight_inch) d a.time 15 m.ensures.comes_to c.fcb_of-f.ensures c.blank_record-buffer.ensures)
    (sym (c.entry_accepted.ensures 15 of_entries.opens) ∙ c.if-entry_accepted.false) _ (c.missing.ensures _)
