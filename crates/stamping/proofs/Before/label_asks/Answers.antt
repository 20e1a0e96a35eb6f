-- Where there is a label, its row tells.
use Rattle.format.specs.Diskette.{eight_inch}
use Rattle.dates.specs.Label.{asks_bit}
use Rattle.stamping.specs.Dated.{label_none, label_low, label_says}
use Rattle.stamping.proofs.Before.label_asks.Goals as goal

pub returns-in_default : goal.returns-in_default
returns-in_default c = let b = c.args.self.now in label_none eight_inch b.image.now b.label b.dated (asks_bit c.args.what) c.in_default.is

pub row-requires : goal.row-requires
row-requires c = let b = c.args.self.now in (b.findable.image_long, label_low eight_inch b.image.now b.label b.dated c.in-Some.e c.in-Some.is)

pub returns : goal.returns
returns c =
    let b = c.args.self.now in
    label_says eight_inch b.image.now b.label b.dated c.in-Some.e c.in-Some.is (asks_bit c.args.what) _ _ c.row.ensures.0 c.asks.ensures
