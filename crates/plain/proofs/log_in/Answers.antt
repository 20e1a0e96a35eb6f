-- The map becomes what the definition says of a directory with these marks, and the answer is that of a call done.
use Rattle.format.specs.Diskette.{eight_inch}
use Rattle.model.specs.Calls.{logged_in}
use Rattle.model.specs.Kinds.{kind_of}
use Rattle.model.specs.Step.{effect, settled}
use Rattle.table.specs.Own.{calling}
use Rattle.table.specs.OwnStep.{carries_own}
use Rattle.plain.proofs.log_in.Goals as goal

pub returns : goal.returns
unfolding logged_in effect kind_of settled
returns c = λ asked image fcb buffer marked.
    carries_own eight_inch (calling 13 asked) _ _ _ tt (rw (c.done.ensures, c.make_fresh.ensures _ marked))
