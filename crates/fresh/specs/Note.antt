-- The fresh note of a block, as the marks of a directory tell it.
use Rattle.std.specs.Prelude.{◌≡◌, cond, ℕ, ◌≤◌, ◌<◌, eqb, get_or}
use Rattle.std.proofs.Common.{lt-ltb, le-ltb}
use Rattle.lists.specs.Cases.{split, bool_cases}
use Rattle.format.specs.Diskette.{Bytes, Geometry}
use Rattle.format.specs.Entries.{Rows}
use Rattle.facts.specs.Marks.{Marked}
use Rattle.format.specs.Notes.{free_note, area_note, recorded_note, is_listed, fresh_note_rule}

-- the note that a mark tells of a block past the directory: the fresh one, where the marks are the directory's
unfoldable pub told_note_rule : ℕ → ℕ
told_note_rule mark = cond (eqb mark 0) free_note recorded_note

module _ (G : Geometry) (d : Rows) (b : ℕ) where
  pub fresh_area : b < G.area → fresh_note_rule G d b ≡ area_note
  unfolding fresh_note_rule
  fresh_area h = rw (lt-ltb b G.area h)

  pub fresh_told : (marks : Bytes) (past : G.area ≤ b) (below : b < G.blocks) (m : Marked G d marks) → fresh_note_rule G d b ≡ told_note_rule (get_or marks b 0)
  unfolding fresh_note_rule told_note_rule
  fresh_told marks past below m =
      split (bool_cases (is_listed G d b))
      (λ y. rw (le-ltb b G.area past, m.mark b past below, y))
      (λ y. rw (le-ltb b G.area past, m.mark b past below, y))
