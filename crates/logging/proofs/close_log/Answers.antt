-- `logging::close_log` meets its contract: by what the close came to.
use mathlib.Core.Path.{refl}
use Rattle.format.specs.Diskette.{eight_inch}
use Rattle.picking.specs.Picker.{lifted_call_rule}
use Rattle.logging.specs.Held.{held, left_on}
use Rattle.logging.specs.Laws.{asked_alike, closed_told}
use Rattle.logging.proofs.close_log.Goals as goal

pub returns-clause-comes_to : goal.returns-clause-comes_to
returns-clause-comes_to c =
    let a = c.args in
    let d = held a.disk.now in
    let m = c.lifted_call-answer in
    closed_told eight_inch a.time d _ _ (left_on m.new.self m.result m.new.fcb m.new.buffer m.ensures.session) a.fcb
    (asked_alike (lifted_call_rule eight_inch) d a.time 16 m.ensures.comes_to refl c.blank_record-buffer.ensures) _ c.close_told.ensures
