-- `logging::begin_log` meets its contract: by what 46 came to, and the free records that it told of.
use mathlib.Core.Path.{sym, ◌∙◌}
use Rattle.format.specs.Diskette.{eight_inch}
use Rattle.demands.specs.Runs.{outcome_of}
use Rattle.daybook.specs.Said.{of_entries}
use Rattle.logging.specs.Held.{held, left_on}
use Rattle.logging.specs.Laws.{asked_alike, begun_full, begun_makes, begun_fails}
use Rattle.logging.proofs.begin_log.Goals as goal

pub returns-then-not-entry_accepted-clause-comes_to : goal.returns-then-not-entry_accepted-clause-comes_to
returns-then-not-entry_accepted-clause-comes_to c =
    let a = c.args in
    let d = held a.disk.now in
    let m = c.call-answer in
    begun_fails eight_inch a.time d _ _ (left_on m.new.self m.result m.new.fcb m.new.buffer m.ensures.session) a.wanted
    (asked_alike (outcome_of eight_inch) d a.time 46 m.ensures.comes_to c.fcb_of-f.ensures c.blank_record-buffer.ensures)
    (sym (c.entry_accepted.ensures 46 of_entries.space) ∙ c.if-not-entry_accepted.true) _ c.other.ensures

pub returns-then-space_in-eq0-clause-comes_to : goal.returns-then-space_in-eq0-clause-comes_to
returns-then-space_in-eq0-clause-comes_to c =
    let a = c.args in
    let d = held a.disk.now in
    let m = c.call-answer in
    begun_full eight_inch a.time d _ _ (left_on m.new.self m.result m.new.fcb m.new.buffer m.ensures.session) a.wanted
    (asked_alike (outcome_of eight_inch) d a.time 46 m.ensures.comes_to c.fcb_of-f.ensures c.blank_record-buffer.ensures)
    (sym (c.entry_accepted.ensures 46 of_entries.space) ∙ c.if-not-entry_accepted.false) (sym c.space_in.ensures ∙ c.if-space_in-eq0.true)

pub returns-clause-comes_to : goal.returns-clause-comes_to
returns-clause-comes_to c =
    let a = c.args in
    let d = held a.disk.now in
    let m = c.call-answer in
    c.make_log.ensures.comes_to
    ∙ begun_makes eight_inch a.time d _ _ (left_on m.new.self m.result m.new.fcb m.new.buffer m.ensures.session) a.wanted
    (asked_alike (outcome_of eight_inch) d a.time 46 m.ensures.comes_to c.fcb_of-f.ensures c.blank_record-buffer.ensures)
    (sym (c.entry_accepted.ensures 46 of_entries.space) ∙ c.if-not-entry_accepted.false) (λ z. c.if-space_in-eq0.false (c.space_in.ensures ∙ z))
