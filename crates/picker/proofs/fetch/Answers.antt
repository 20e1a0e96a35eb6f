-- `picker::fetch` meets its contract: by what the read came to; one that was refused left the bytes lent for the word.
use mathlib.Core.Path.{refl, ap, sym, ◌∙◌}
use Rattle.format.specs.Diskette.{eight_inch}
use Rattle.demands.specs.Reading.{at_record_rule}
use Rattle.demands.specs.Runs.{outcome_of}
use Rattle.daybook.specs.Said.{of_records}
use Rattle.logging.specs.Held.{held, outcome_on, left_on}
use Rattle.logging.specs.Laws.{asked_alike}
use Rattle.picker.specs.Laws.{fetched_worded, fetched_fails}
use Rattle.picker.proofs.fetch.Goals as goal

pub returns-then-record_accepted-clause-comes_to : goal.returns-then-record_accepted-clause-comes_to
returns-then-record_accepted-clause-comes_to c =
    let a = c.args in
    let d = held a.disk.now in
    let m = c.call-answer in
    let o = outcome_on m.new.self m.result m.new.fcb m.new.buffer in
    c.hand_out.ensures.comes_to o (sym (left_on m.new.self m.result m.new.fcb m.new.buffer m.ensures.session))
    ∙ fetched_worded eight_inch a.time a.wanted d a.fcb a.word.now o
    (asked_alike (outcome_of eight_inch) d a.time 33 m.ensures.comes_to (c.at_record-f.ensures ∙ ap (at_record_rule a.fcb) c.from.ensures) refl)
    (sym (c.record_accepted.ensures 33 of_records.read) ∙ c.if-record_accepted.true)

pub returns-clause-comes_to : goal.returns-clause-comes_to
returns-clause-comes_to c =
    let a = c.args in
    let d = held a.disk.now in
    let m = c.call-answer in
    fetched_fails eight_inch a.time a.wanted d a.fcb a.word.now _
    (asked_alike (outcome_of eight_inch) d a.time 33 m.ensures.comes_to (c.at_record-f.ensures ∙ ap (at_record_rule a.fcb) c.from.ensures) refl)
    _ (left_on m.new.self m.result m.new.fcb m.new.buffer m.ensures.session)
    (sym (c.record_accepted.ensures 33 of_records.read) ∙ c.if-record_accepted.false) _ (c.read_trouble.ensures _) _ c.wordless.ensures
