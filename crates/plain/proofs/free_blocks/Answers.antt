-- The map becomes what the definition says, and the answer is that of a call done.
use Rattle.format.specs.Diskette.{eight_inch}
use Rattle.model.specs.Calls.{freed}
use Rattle.model.specs.Kinds.{kind_of}
use Rattle.model.specs.Step.{effect, settled}
use Rattle.table.specs.Own.{calling}
use Rattle.table.specs.OwnStep.{carries_own}
use Rattle.plain.proofs.free_blocks.Goals as goal

pub returns : goal.returns
unfolding freed effect kind_of settled
returns c = λ asked image fcb buffer.
    carries_own eight_inch (calling 98 asked) _ _ _ tt (rw (c.done.ensures, c.free_pending.ensures))
