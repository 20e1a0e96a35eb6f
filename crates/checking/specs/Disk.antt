-- Row 255, 1 as code decides it: the image first, then, except for 13, the map.
use Rattle.std.specs.Prelude.{◌≡◌, true, false}
use Rattle.std.proofs.Common.{◌∙◌, eq-eqb, ne_eqb}
use Rattle.model.specs.declared.Asked.{Asked}
use Rattle.lists.specs.Tests.{and_fails_left, and_then, and_both, or_left, or_then}
use Rattle.format.specs.Diskette.{Geometry}
use Rattle.format.specs.Consistent.{consistent}
use Rattle.format.specs.Notes.{map_right}
use Rattle.model.specs.Lent.{Lent, rows_of}
use Rattle.model.specs.Table.{disk_right_rule}

module _ (G : Geometry) (l : Lent) (asked : Asked) where
  pub image_wrong : consistent G l.drive.image ≡ false → disk_right_rule G l asked ≡ false
  unfolding disk_right_rule
  image_wrong h = and_fails_left _ _ h

  pub log_in_right : consistent G l.drive.image ≡ true → asked.number ≡ 13 → disk_right_rule G l asked ≡ true
  unfolding disk_right_rule
  log_in_right h q = and_both _ _ h (or_left _ _ (eq-eqb asked.number 13 q))

  pub map_decides : consistent G l.drive.image ≡ true → (asked.number ≡ 13 → ⊥) → disk_right_rule G l asked ≡ map_right G (rows_of G l) l.drive.map
  unfolding disk_right_rule
  map_decides h q = and_then _ _ h ∙ or_then _ _ (ne_eqb asked.number 13 q)
