-- `daybook::size_in` meets its contract: three bytes, lowest first.
use Rattle.format.specs.Fcb.{random_of_rule}
use Rattle.daybook.proofs.size_in.Goals as goal

pub returns : goal.returns
unfolding random_of_rule
returns c = c.three.ensures.0
