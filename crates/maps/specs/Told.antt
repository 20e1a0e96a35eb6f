-- What the marks of a directory tell of right notes, and what a map without differences from the fresh one is.
use Rattle.std.specs.Prelude.{◌≡◌, Bool, true, false, not, cond, ℕ, ◌+◌, ◌≤◌, ◌<◌, leb, get_or}
use Rattle.std.proofs.Math.Path.{sym, subst}
use Rattle.std.proofs.Common.{ap, ◌∙◌, arith}
use Rattle.std.specs.List.{count_by, range_with_len}
use Rattle.std.proofs.Math.Dec.{eqb}
use borrow.Author.Tests.{lt-ltb, le-ltb, le-leb, lt-leb, eq-eqb, ne_eqb, eqb-true, not-true, not-false}
use Rattle.lists.specs.Cases.{split, lt_or_le, not_both, refute}
use Rattle.lists.specs.Tests.{◌and◌, ◌or◌, and_then, and_fails_left}
use Rattle.lists.specs.Below.{all_below, all_at, all_intro}
use Rattle.lists.specs.Count.{count_below, count_empty, count_next, count_zero}
use Rattle.format.specs.Diskette.{Bytes, Geometry}
use Rattle.format.specs.Entries.{Rows}
use Rattle.facts.specs.Marks.{Marked}
use Rattle.format.specs.Notes.{free_note, area_note, recorded_note, note_at_rule, is_listed, held_by_used_rule, note_right_rule, map_right, fresh_note_rule}
use Rattle.fresh.specs.Note.{told_note_rule, fresh_area, fresh_told}
use Rattle.notes.specs.Sums.{count_range}
use Rattle.notes.specs.Right.{NoteOk, ok_map, fresh_ok}

-- block b is past the directory, and its note is not the one that its mark tells
unfoldable pub differs : Geometry → Bytes → Bytes → ℕ → Bool
differs G map marks b = leb G.area b and not (eqb (note_at_rule map b) (told_note_rule (get_or marks b 0)))

unfoldable pub difference_count : Geometry → Bytes → Bytes → ℕ
difference_count G map marks = count_below (differs G map marks) G.blocks

-- the directory's blocks have its note
unfoldable pub area_right_rule : Geometry → Bytes → Bool
area_right_rule G map = all_below (λ (b : ℕ). eqb (note_at_rule map b) area_note) G.area

-- ---- one block
module _ (G : Geometry) (d : Rows) (b : ℕ) where
  pub right_area : (n : ℕ) → b < G.area → note_right_rule G d b n ≡ eqb n area_note
  unfolding note_right_rule
  right_area n h = rw (lt-ltb b G.area h)

  module _ (marks : Bytes) (past : G.area ≤ b) (below : b < G.blocks) (m : Marked G d marks) where
    marked_listed : (get_or marks b 0 ≡ 0 → ⊥) → is_listed G d b ≡ true
    marked_listed z = not-false _ (sym (m.mark b past below) ∙ ne_eqb _ _ z)

    unmarked_spare : get_or marks b 0 ≡ 0 → is_listed G d b ≡ false
    unmarked_spare z = not-true _ (sym (m.mark b past below) ∙ eq-eqb _ _ z)

    pub right_recorded : (n : ℕ) → (get_or marks b 0 ≡ 0 → ⊥) → note_right_rule G d b n ≡ eqb n recorded_note
    unfolding note_right_rule
    right_recorded n z = rw (le-ltb b G.area past, marked_listed z)

    pub right_spare : (n : ℕ) → get_or marks b 0 ≡ 0 → note_right_rule G d b n ≡ (eqb n free_note or held_by_used_rule G d n)
    unfolding note_right_rule
    right_spare n z = rw (le-ltb b G.area past, unmarked_spare z)

-- ---- the notes that differ: a sum over the blocks past the directory counts them
module _ (G : Geometry) (map marks : Bytes) where
  -- the note of b is not the one that its mark tells
  abbrev pub untold : ℕ → Bool
  untold b = not (eqb (note_at_rule map b) (told_note_rule (get_or marks b 0)))

  past_differs : (b : ℕ) → G.area ≤ b → differs G map marks b ≡ untold b
  unfolding differs
  past_differs b h = and_then _ _ (le-leb G.area b h)

  pub no_area_differs : count_below (differs G map marks) G.area ≡ 0
  unfolding differs
  no_area_differs = count_empty (differs G map marks) G.area (λ b h. and_fails_left _ _ (lt-leb G.area b h))

  -- and one by one, the note of a block more
  pub difference_adds : (b n v : ℕ) → G.area ≤ b → n ≡ count_below (differs G map marks) b → v ≡ cond (not (eqb (note_at_rule map b) (told_note_rule (get_or marks b 0)))) 1 0
      → n + v ≡ count_below (differs G map marks) (b + 1)
  difference_adds b n v h q e = sym (count_next (differs G map marks) b ∙ rw (past_differs b h, q, e))

  pub untold_counted : (n : ℕ) → G.area + n ≡ G.blocks → count_by untold (range_with_len G.area n) ≡ difference_count G map marks
  unfolding difference_count
  untold_counted n q =
      count_range untold (differs G map marks) G.area n (λ k. sym (past_differs (G.area + k) (omega arith))) no_area_differs
      ∙ ap (count_below (differs G map marks)) q

-- ---- the whole map
module _ (G : Geometry) (d : Rows) (map : Bytes) where
  pub area_wrong : G.area ≤ G.blocks → area_right_rule G map ≡ false → map_right G d map ≡ false
  unfolding map_right area_right_rule
  area_wrong h f =
      sym (refute _ (λ t. not_both _ (all_intro (λ (b : ℕ). eqb (note_at_rule map b) area_note) G.area
      (λ b l. sym (right_area G d b (note_at_rule map b) l) ∙ all_at (λ (b : ℕ). note_right_rule G d b (note_at_rule map b)) G.blocks t b (omega arith))) f))

  -- a map with no difference is right: each note is the fresh one
  pub same_right : (marks : Bytes) → Marked G d marks → area_right_rule G map ≡ true → difference_count G map marks ≡ 0 → map_right G d map ≡ true
  unfolding area_right_rule difference_count
  same_right marks m t z =
      ok_map G d map (λ b h. subst (NoteOk G d b) (sym (is_fresh b h)) (fresh_ok G d b))
    where
      is_fresh : (b : ℕ) → b < G.blocks → note_at_rule map b ≡ fresh_note_rule G d b
      is_fresh b h =
          split (lt_or_le b G.area)
          (λ l. eqb-true _ _ (all_at (λ (b : ℕ). eqb (note_at_rule map b) area_note) G.area t b l) ∙ sym (fresh_area G d b l))
          (λ l. eqb-true _ _ (not-false _ (sym (past_differs G map marks b l) ∙ count_zero (differs G map marks) G.blocks z b h))
          ∙ sym (fresh_told G d b marks l h m))
