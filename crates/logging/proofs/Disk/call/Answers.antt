-- `logging::Disk::call` meets its contract: what is asked is the definition's.
use Rattle.format.specs.Diskette.{eight_inch}
use Rattle.logging.specs.Held.{held}
use Rattle.logging.specs.Laws.{called}
use Rattle.logging.proofs.Disk.call.Goals as goal

pub returns-clause-comes_to : goal.returns-clause-comes_to
returns-clause-comes_to c =
    let a = c.args in
    called eight_inch (held a.self.now) a.time a.number a.fcb.now a.buffer.now _ _ c.call-answer.ensures c.call_at-asked.ensures
