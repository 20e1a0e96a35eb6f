-- What the steps of a close come to, of the image and the map; and call 16 by the entry of its FCB.
use Rattle.std.specs.Prelude.{◌≡◌, refl, false, ℕ, ◌<◌, None, Option, Some}
use Rattle.std.proofs.Math.Path.{sym}
use Rattle.std.proofs.Common.{◌∙◌}
use Rattle.lists.specs.Fold.{fold_below}
use Rattle.format.specs.Diskette.{Bytes, Geometry, Sound, Long, slot_count}
use Rattle.format.specs.Entries.{entry_at, with_entry, slots_of}
use Rattle.format.specs.Fcb.{current}
use Rattle.facts.specs.Found.{found_row, missed_row}
use Rattle.model.specs.declared.Asked.{Asked}
use Rattle.model.specs.declared.Session.{Session}
use Rattle.model.specs.declared.Answer.{Answer}
use Rattle.model.specs.declared.Code.TheVariants.{Accepted, Failed}
use Rattle.model.specs.Lent.{lend, outcome, answer_of, ended}
use Rattle.model.specs.Closing.{closed_row_rule, closed_note, closed_map, close_changes_rule, closed_image, closed_fcb}
use Rattle.model.specs.Target.{present_entry}
use Rattle.model.specs.Calls.{entry_number, closed_at, closed}
use Rattle.model.specs.Kinds.{kind_of}
use Rattle.model.specs.Step.{effect}
use Rattle.table.specs.First.{◌&◌, here}
use Rattle.table.specs.Own.{calling}
use Rattle.fields.specs.Images.{closed_stored}
use Rattle.facts.specs.Current.{current_says}
use Rattle.current.specs.Current.{current_low}
use Rattle.table.specs.OwnStep.{own_step, refuses_own, carries_own}

-- ---- an image and a map, from their parts
pub kept_image : (G : Geometry) (img : Bytes) (e : ℕ) (fcb : Bytes) → close_changes_rule G (entry_at G img e) fcb ≡ false → img ≡ closed_image G img e fcb
unfolding closed_image
kept_image G img e fcb h = rw h

pub closed_image_law : {G : Geometry} (S : Sound G) (img : Bytes) → Long G img → (e : ℕ) → e < G.entries → (fcb row r i : Bytes)
    → row ≡ entry_at G img e → r ≡ closed_row_rule G row fcb → i ≡ with_entry G img e r → i ≡ closed_image G img e fcb
closed_image_law S img long e below fcb row r i a b c = rw (c, b, a) (sym (closed_stored S img long e below fcb))

pub closed_map_law : (G : Geometry) (img fcb row es fs map m : Bytes) (e : ℕ) → row ≡ entry_at G img e → es ≡ slots_of row → fs ≡ slots_of fcb
    → m ≡ fold_below (closed_note G es fs) map slot_count → m ≡ closed_map G (entry_at G img e) fcb map
unfolding closed_map
closed_map_law G img fcb row es fs map m e a b c d = rw (d, b, c, a)

-- ---- call 16, by what the look-up of its FCB's entry answers
module _ (G : Geometry) (img map fcb : Bytes) (s : Session) (found : Option ℕ) (is : found ≡ current G (entry_at G img) map s.user fcb) where
  -- the FCB is not current
  pub close_refused : (asked : Asked) (buffer : Bytes) (r : Answer) → found ≡ None → r ≡ answer_of Failed s → outcome r img map fcb buffer ≡ own_step G (calling 16 asked) (lend img map fcb buffer) s
  unfolding present_entry
  close_refused asked buffer r q a =
      refuses_own G (calling 16 asked) (lend img map fcb buffer) s Failed r (here (missed_row _ (sym is ∙ q)) refl) a

  -- it is, and e is its entry
  pub close_low : (e : ℕ) → found ≡ Some e → e < G.entries
  close_low e q =
      current_low G (entry_at G img) map s.user fcb e (current_says G (entry_at G img) map s.user fcb e (sym is ∙ q))

  pub close_carried : (asked : Asked) (buffer : Bytes) (e : ℕ) (r : Answer) (i m f : Bytes) → found ≡ Some e → r ≡ answer_of (Accepted (entry_number e)) (ended s)
      → i ≡ closed_image G img e fcb → m ≡ closed_map G (entry_at G img e) fcb map → f ≡ closed_fcb fcb
      → outcome r i m f buffer ≡ own_step G (calling 16 asked) (lend img map fcb buffer) s
  unfolding present_entry closed closed_at effect kind_of
  close_carried asked buffer e r i m f q a b c d =
      let p : current G (entry_at G img) map s.user fcb ≡ Some e = sym is ∙ q in
      carries_own G (calling 16 asked) (lend img map fcb buffer) s (outcome r i m f buffer) (found_row _ p & tt) (rw (p, a, b, c, d))
