-- `daybook::blank_record` meets its contract: the bytes are written out.
use mathlib.Core.Path.{refl}
use Rattle.lists.specs.Splice.{copies}
use Rattle.picking.specs.Picker.{blank}
use Rattle.daybook.proofs.blank_record.Goals as goal

pub returns : goal.returns
unfolding blank copies
returns c = refl
