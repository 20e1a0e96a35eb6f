-- The tests of lengths and parameters, one after the other, as code makes them.
use Rattle.std.specs.Prelude.{◌≡◌, true, false, not, ◌≤◌, eqb, leb, length, get_or}
use Rattle.std.proofs.Common.{ap, ◌∙◌}
use borrow.Author.Tests.{eqb-true, eq-eqb, le-leb}
use Rattle.lists.specs.Tests.{◌or◌, and_left, and_right, and_then, or_then, or_left}
use Rattle.format.specs.Diskette.{Geometry, Long, record_bytes}
use Rattle.format.specs.Fcb.{fcb_bytes}
use Rattle.facts.specs.Long.{long_says, long_is}
use Rattle.model.specs.declared.Asked.{Asked}
use Rattle.model.specs.declared.Session.{Session}
use Rattle.model.specs.Lent.{Lent}
use Rattle.model.specs.Kinds.{uses_fcb_rule}
use Rattle.model.specs.Table.{time_right_rule, lengths_right_rule, parameters_right_rule}

module _ (G : Geometry) (l : Lent) where
  pub image_length : lengths_right_rule G l ≡ true → Long G l.drive.image
  unfolding lengths_right_rule
  image_length t = long_says G l.drive.image (and_left _ _ t)

  pub map_length : lengths_right_rule G l ≡ true → length l.drive.map ≡ G.blocks
  unfolding lengths_right_rule
  map_length t = eqb-true _ _ (and_left _ _ (and_right _ _ t))

  pub fcb_length : lengths_right_rule G l ≡ true → length l.fcb ≡ fcb_bytes
  unfolding lengths_right_rule
  fcb_length t = eqb-true _ _ (and_left _ _ (and_right _ _ (and_right _ _ t)))

  -- the last length decides where the others are right
  pub buffer_decides : Long G l.drive.image → length l.drive.map ≡ G.blocks → length l.fcb ≡ fcb_bytes
      → lengths_right_rule G l ≡ eqb (length l.buffer) record_bytes
  unfolding lengths_right_rule
  buffer_decides i m f =
      and_then _ _ (long_is G l.drive.image i) ∙ and_then _ _ (eq-eqb _ _ m) ∙ and_then _ _ (eq-eqb _ _ f)

  module _ (asked : Asked) (s : Session) where
    pub lengths_are : parameters_right_rule G l asked s ≡ true → lengths_right_rule G l ≡ true
    unfolding parameters_right_rule
    lengths_are t = and_left _ _ t

    -- byte 0 of the FCB decides where everything else is right and the FCB is used
    drive_left : lengths_right_rule G l ≡ true → s.user ≤ 15 → s.place ≤ G.entries → time_right_rule asked ≡ true
        → parameters_right_rule G l asked s ≡ (not (uses_fcb_rule asked.number) or leb (get_or l.fcb 0 0) 1)
    unfolding parameters_right_rule
    drive_left a b c t = and_then _ _ a ∙ and_then _ _ (le-leb _ _ b) ∙ and_then _ _ (le-leb _ _ c) ∙ and_then _ _ t

    pub drive_decides : lengths_right_rule G l ≡ true → s.user ≤ 15 → s.place ≤ G.entries → time_right_rule asked ≡ true → uses_fcb_rule asked.number ≡ true
        → parameters_right_rule G l asked s ≡ leb (get_or l.fcb 0 0) 1
    drive_decides a b c t u = drive_left a b c t ∙ or_then _ _ (ap not u)

    pub drive_unused : lengths_right_rule G l ≡ true → s.user ≤ 15 → s.place ≤ G.entries → time_right_rule asked ≡ true → uses_fcb_rule asked.number ≡ false
        → parameters_right_rule G l asked s ≡ true
    drive_unused a b c t u = drive_left a b c t ∙ or_left _ _ (ap not u)
