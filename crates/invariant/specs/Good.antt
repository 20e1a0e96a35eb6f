-- The invariant of an image and a map: both are as long as the disk asks, the image is consistent and the map right. As facts, and as
-- the tests that the table of refusals makes.
use Rattle.std.specs.Prelude.{◌≡◌, true, ℕ, length}
use Rattle.format.specs.Diskette.{Bytes, Geometry, Long}
use Rattle.format.specs.Entries.{entry_at}
use Rattle.format.specs.Consistent.{consistent}
use Rattle.format.specs.Notes.{note_at_rule, map_right}
use Rattle.consistency.specs.Reflect.{image_facts, facts_image}
use Rattle.notes.specs.Right.{map_ok, ok_map}
use Rattle.invariant.specs.Inv.{Inv}

pub record Good (G : Geometry) (img map : Bytes) : Type 0 where
  pub image_long : Long G img
  pub map_long : length map ≡ G.blocks
  pub inv : Inv G (entry_at G img) (λ (b : ℕ). note_at_rule map b)

-- ---- the tests and the facts imply each other
module _ (G : Geometry) (img map : Bytes) where
  pub good_of : Long G img → length map ≡ G.blocks → consistent G img ≡ true → map_right G (entry_at G img) map ≡ true → Good G img map
  good_of long many t r = record { image_long = long; map_long = many; inv = record { dir = image_facts G img t; map = map_ok G (entry_at G img) map r } }

  pub good_consistent : Good G img map → consistent G img ≡ true
  good_consistent g = facts_image G img g.inv.dir

  pub good_right : Good G img map → map_right G (entry_at G img) map ≡ true
  good_right g = ok_map G (entry_at G img) map g.inv.map
