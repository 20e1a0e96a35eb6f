-- `daybook::fcb_of` meets its contract: the name is put into zeros.
use Rattle.lists.specs.Splice.{copies}
use Rattle.picking.specs.Picker.{fcb_of_rule}
use Rattle.daybook.proofs.fcb_of.Goals as goal

pub returns : goal.returns
unfolding fcb_of_rule copies
returns c = c.put.ensures
