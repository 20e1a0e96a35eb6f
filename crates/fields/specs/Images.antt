-- The image after a close: its rows and its records.
use Rattle.std.specs.Prelude.{◌≡◌, ℕ, ◌≤◌, ◌<◌, length}
use Rattle.std.proofs.Common.{sym}
use Rattle.lists.specs.Cases.{split, bool_cases}
use Rattle.format.specs.Diskette.{Bytes, Geometry, Sound, record_at, entry_bytes, Long}
use Rattle.format.specs.Entries.{entry_at, with_entry}
use Rattle.disk.specs.Places.{block_records}
use Rattle.rows.specs.Entries.{area_records, length_entry_at, length_with_entry, entry_own, entry_stored, entry_left, record_kept}
use Rattle.model.specs.Closing.{closed_row_rule, close_changes_rule, closed_image}
use Rattle.facts.specs.Long.{long_on}
use Rattle.model.specs.Entering.{next_row_rule}
use Rattle.fields.specs.Closing.{length_closed_row, head_closed, row_kept}
use Rattle.fields.specs.Making.{next_cong}

module _ {G : Geometry} (S : Sound G) (img : Bytes) (long : Long G img) (e : ℕ) (below : e < G.entries) (fcb : Bytes) where
  whole : length (closed_row_rule G (entry_at G img e) fcb) ≡ entry_bytes
  whole = length_closed_row G (entry_at G img e) fcb (length_entry_at S img long e below)

  -- a close that changes nothing writes back what is there
  pub closed_stored : closed_image G img e fcb ≡ with_entry G img e (closed_row_rule G (entry_at G img e) fcb)
  unfolding closed_image
  closed_stored =
      split (bool_cases (close_changes_rule G (entry_at G img e) fcb)) (λ t. rw t)
      (λ f. rw (f, row_kept G (entry_at G img e) fcb f (length_entry_at S img long e below)) (sym (entry_own S img long e below)))

  pub length_closed_image : length (closed_image G img e fcb) ≡ length img
  length_closed_image = rw closed_stored (length_with_entry S img long e below (closed_row_rule G (entry_at G img e) fcb) whole)

  pub row_closed_image : entry_at G (closed_image G img e fcb) e ≡ closed_row_rule G (entry_at G img e) fcb
  row_closed_image = rw closed_stored (entry_stored S img long e below (closed_row_rule G (entry_at G img e) fcb) whole)

  pub row_closed_image_other : (f : ℕ) → f < G.entries → (f ≡ e → ⊥) → entry_at G (closed_image G img e fcb) f ≡ entry_at G img f
  row_closed_image_other f h n = rw closed_stored (entry_left S img long e below (closed_row_rule G (entry_at G img e) fcb) whole f h (λ q. n (sym q)))

  -- every entry has its length still
  pub length_row_closed : (f : ℕ) → f < G.entries → length (entry_at G (closed_image G img e fcb) f) ≡ entry_bytes
  length_row_closed f h = length_entry_at S (closed_image G img e fcb) (long_on G length_closed_image long) f h

  -- a new extent's row is the same whether the entry is read before the close or after it: a close leaves user, name and attributes
  pub next_closed : (ext : ℕ) → next_row_rule (entry_at G (closed_image G img e fcb) e) ext ≡ next_row_rule (entry_at G img e) ext
  next_closed ext =
      let row : length (entry_at G img e) ≡ entry_bytes = length_entry_at S img long e below in
      rw row_closed_image (next_cong (closed_row_rule G (entry_at G img e) fcb) (entry_at G img e) ext whole row (head_closed G (entry_at G img e) fcb row))

  pub record_closed_image : (d : ℕ) → area_records G ≤ d → d < block_records G → record_at G (closed_image G img e fcb) d ≡ record_at G img d
  record_closed_image d a b = rw closed_stored (record_kept S img long e below (closed_row_rule G (entry_at G img e) fcb) whole d a b)
