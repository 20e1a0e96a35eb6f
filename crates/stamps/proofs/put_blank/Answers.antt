-- First the one stamp, then the other.
use Rattle.format.specs.Diskette.{eight_inch}
use Rattle.model.specs.Stamps.{no_stamp}
use Rattle.stamps.specs.Due.{blank_put}
use Rattle.stamps.proofs.put_blank.Goals as goal

pub returns : goal.returns
unfolding no_stamp
returns c = blank_put eight_inch c.args.entry c.args.image.now _ _ c.put_at.ensures c.put_at-2.ensures
