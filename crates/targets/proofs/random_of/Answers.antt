-- `targets::random_of` meets its contract: three bytes, each below 256.
use Rattle.format.specs.Fcb.{random_of_rule}
use Rattle.targets.proofs.random_of.Goals as goal

pub returns : goal.returns
unfolding random_of_rule
returns c = c.three.ensures
