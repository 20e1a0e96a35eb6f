-- What the look-up of a free block says.
use Rattle.std.specs.Prelude.{◌≡◌, ℕ, ◌<◌, None, Some}
use Rattle.std.proofs.Common.{arith}
use borrow.Author.Tests.{eqb-true, eqb-false}
use Rattle.format.specs.Diskette.{Bytes, Geometry}
use Rattle.format.specs.Entries.{Rows}
use Rattle.facts.specs.Found.{first_says, none_says}
use Rattle.format.specs.Notes.{free_note, note_at_rule, is_free, find_free}
use Rattle.notes.specs.Right.{NoteOk, ok_area, ok_recorded, ok_free, ok_pending, Spare}

-- b is the lowest free block
pub record FirstFree (G : Geometry) (map : Bytes) (b : ℕ) : Type 0 where
  pub below : b < G.blocks
  pub free : note_at_rule map b ≡ free_note
  pub lowest : (c : ℕ) → c < b → note_at_rule map c ≡ free_note → ⊥

module _ (G : Geometry) (map : Bytes) where
  pub free_is : (b : ℕ) → find_free G map ≡ Some b → FirstFree G map b
  unfolding find_free is_free
  free_is b q =
      let f = first_says (is_free map) 0 G.blocks b q in
      record { below = f.below; free = eqb-true _ _ f.holds; lowest = λ c h. eqb-false _ _ (f.before c (omega arith) h) }

  pub none_free : find_free G map ≡ None → (b : ℕ) → b < G.blocks → note_at_rule map b ≡ free_note → ⊥
  unfolding find_free is_free
  none_free q b h = eqb-false _ _ (none_says (is_free map) 0 G.blocks q b (omega arith) h)

-- a free note of a right map is that of a spare block
pub free_spare : (G : Geometry) (d : Rows) (b n : ℕ) → NoteOk G d b n → n ≡ free_note → Spare G d b
free_spare G d b n (ok_area q h) z = absurd (omega arith)
free_spare G d b n (ok_recorded q h y) z = absurd (omega arith)
free_spare G d b n (ok_free q s) z = s
free_spare G d b n (ok_pending e j q h l t s) z = s
