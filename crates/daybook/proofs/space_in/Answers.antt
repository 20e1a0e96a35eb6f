-- `daybook::space_in` meets its contract: three bytes, lowest first.
use Rattle.picking.specs.Picker.{space_in_rule}
use Rattle.daybook.proofs.space_in.Goals as goal

pub returns : goal.returns
unfolding space_in_rule
returns c = c.three.ensures.0
