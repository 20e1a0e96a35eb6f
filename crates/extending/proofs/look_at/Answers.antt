-- `extending::look_at` meets its contract: by what the read came to.
use Rattle.format.specs.Diskette.{eight_inch}
use Rattle.demands.specs.Runs.{outcome_of}
use Rattle.logging.specs.Held.{held, left_on}
use Rattle.logging.specs.Laws.{asked_alike}
use Rattle.extending.specs.Laws.{tells_so}
use Rattle.extending.proofs.look_at.Goals as goal

pub returns-clause-comes_to : goal.returns-clause-comes_to
returns-clause-comes_to c =
    let a = c.args in
    let d = held a.disk.now in
    let m = c.call-answer in
    tells_so eight_inch a.time a.wanted d a.fcb a.r _ _ (left_on m.new.self m.result m.new.fcb m.new.buffer m.ensures.session)
    (asked_alike (outcome_of eight_inch) d a.time 33 m.ensures.comes_to c.at_record-f.ensures c.blank_record-buffer.ensures) _ c.tells_day.ensures
