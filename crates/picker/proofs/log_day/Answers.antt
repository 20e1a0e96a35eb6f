-- `picker::log_day` meets its contract: by what 35 came to.
use mathlib.Core.Path.{sym, ◌∙◌}
use Rattle.format.specs.Diskette.{eight_inch}
use Rattle.demands.specs.Runs.{outcome_of}
use Rattle.daybook.specs.Said.{of_entries}
use Rattle.logging.specs.Held.{held, left_on}
use Rattle.logging.specs.Laws.{asked_alike}
use Rattle.picker.specs.Laws.{logged_extends, logged_begins, logged_fails}
use Rattle.picker.proofs.log_day.Goals as goal

pub returns-then-entry_accepted-clause-comes_to : goal.returns-then-entry_accepted-clause-comes_to
returns-then-entry_accepted-clause-comes_to c =
    let a = c.args in
    let d = held a.disk.now in
    let m = c.call-answer in
    c.extend_log.ensures.comes_to
    ∙ logged_extends eight_inch a.time a.wanted d _ _ (left_on m.new.self m.result m.new.fcb m.new.buffer m.ensures.session)
    (asked_alike (outcome_of eight_inch) d a.time 35 m.ensures.comes_to c.fcb_of-f.ensures c.blank_record-buffer.ensures)
    (sym (c.entry_accepted.ensures 35 of_entries.size) ∙ c.if-entry_accepted.true) _ c.size_in.ensures

pub returns-then-is_code-clause-comes_to : goal.returns-then-is_code-clause-comes_to
returns-then-is_code-clause-comes_to c =
    let a = c.args in
    let d = held a.disk.now in
    let m = c.call-answer in
    c.begin_log.ensures.comes_to
    ∙ logged_begins eight_inch a.time a.wanted d _ _ (left_on m.new.self m.result m.new.fcb m.new.buffer m.ensures.session)
    (asked_alike (outcome_of eight_inch) d a.time 35 m.ensures.comes_to c.fcb_of-f.ensures c.blank_record-buffer.ensures)
    (sym (c.entry_accepted.ensures 35 of_entries.size) ∙ c.if-entry_accepted.false) (sym (c.is_code.ensures _) ∙ c.if-is_code.true)

pub returns-clause-comes_to : goal.returns-clause-comes_to
returns-clause-comes_to c =
    let a = c.args in
    let d = held a.disk.now in
    let m = c.call-answer in
    logged_fails eight_inch a.time a.wanted d _ _ (left_on m.new.self m.result m.new.fcb m.new.buffer m.ensures.session)
    (asked_alike (outcome_of eight_inch) d a.time 35 m.ensures.comes_to c.fcb_of-f.ensures c.blank_record-buffer.ensures)
    (sym (c.entry_accepted.ensures 35 of_entries.size) ∙ c.if-entry_accepted.false) (sym (c.is_code.ensures _) ∙ c.if-is_code.false) _ c.other.ensures
