-- `picker::hand_out` meets its contract: what the log came to, with the word.
use Rattle.format.specs.Diskette.{eight_inch}
use Rattle.logging.specs.Held.{held}
use Rattle.picker.specs.Laws.{handed_out}
use Rattle.picker.proofs.hand_out.Goals as goal

pub returns-clause-comes_to : goal.returns-clause-comes_to
returns-clause-comes_to c o h =
    let a = c.args in
    handed_out eight_inch a.time a.wanted (held a.disk.now) _ c.log_apart.ensures.comes_to o h
