-- The copy to the stamp's place is the stamp replaced in its date entry.
use Rattle.disk.specs.Eight.{eight_sound}
use Rattle.stamps.specs.Place.{number_of, number_low, stamp_put}
use borrow.Author.Rules.{rules}
use Rattle.stamps.proofs.put_stamp.Goals as goal

pub returns : goal.returns
returns c =
    let a = c.args in
    rw (← stamp_put eight_sound a.e (number_of a.which) c.requires.1 (number_low a.which) a.image.now a.stamp c.requires.0 (search rules), ← c.stamp_place.ensures.0)
    c.put.ensures
