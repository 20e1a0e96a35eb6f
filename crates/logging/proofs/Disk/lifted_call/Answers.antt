-- `logging::Disk::lifted_call` meets its contract: the call is made on the unlocked session, and what it leaves is locked again.
use Rattle.format.specs.Diskette.{eight_inch}
use Rattle.picking.specs.Picker.{asking}
use Rattle.logging.specs.Held.{held}
use Rattle.logging.specs.Laws.{lifted_called}
use Rattle.logging.proofs.Disk.lifted_call.Goals as goal

pub returns-clause-comes_to : goal.returns-clause-comes_to
returns-clause-comes_to c =
    let a = c.args in
    lifted_called eight_inch (held a.self.now) (asking a.time a.number a.fcb.now a.buffer.now) _ _ _
    c.call-answer.ensures.comes_to c.unlock-self.ensures c.relock-session.ensures
