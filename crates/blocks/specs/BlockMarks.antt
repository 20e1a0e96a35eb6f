-- What the marks say: a mark is not 0 where no block past the directory has the number, barred from the start, or a slot listed it
-- before. So one look at the mark of a slot's number decides whether the number is in range and stands there for the first time. A slot
-- of 0 lists nothing; its mark is 0 and stays so.
use Rattle.std.specs.Prelude.{◌≡◌, ◌⊎◌, Bool, true, false, eqb, leb, ltb, get_or, length}
use Rattle.std.proofs.Common.{ap, ◌∙◌, le-leb, lt-ltb, le-ltb, eq-eqb, ne_eqb}
use Rattle.std.proofs.Math.Path.{sym}
use Rattle.std.proofs.Math.Logic.{inl, inr}
use Rattle.std.proofs.Math.Bool.{not}
use Prim.Native.Nat.{ℕ, zero, suc, ◌+◌, ◌-◌, ◌*◌, ◌≤◌, ◌<◌}
use Rattle.std.proofs.Math.Nat.{add-zero}
use native.Mathlib.Omega.{arith}
use Rattle.std.proofs.Math.ListN.{length-set}
use Rattle.std.proofs.lemmas.Bool.{lt-leb}
use Rattle.lists.specs.Cases.{split, lt_or_le, eq_or_ne}
use Rattle.lists.specs.Tests.{◌and◌, ◌or◌, and_both, and_fails_left, and_fails_right, or_left, or_right, or_first, or_then, not_or}
use Rattle.lists.specs.Below.{all_below, all_cong, all_both}
use Rattle.lists.specs.Fold.{fold_below}
use Rattle.lists.specs.Splice.{splice, copies, length_fill, get_d_fill_in, get_d_fill_out}
use Rattle.lists.specs.Seen.{taken, Seen, seen_start, seen_more, seen_kept}
use Rattle.format.specs.Diskette.{Bytes, Geometry, slot_count}
use Rattle.format.specs.Entries.{Rows, slot_of, used}
use Rattle.format.specs.Consistent.{slot_right, slots_right, slots_in_all, listed, listed_once}
use Rattle.format.specs.Notes.{is_listed}
use Rattle.facts.specs.Marks.{mark_count, Marked}
use Rattle.consistency.specs.Listed.{listed_used, listed_unused}
use Rattle.marks.specs.Numbers.{start_marks_rule, number_free, mark_number}
use Rattle.blocks.specs.Runs.{mark_run, run_free}

-- no block past the directory has this number
unfoldable pub barred : Geometry → ℕ → Bool
barred G b = ltb b G.area or leb G.blocks b

-- the marks after the first x slots of all entries
pub record BlockMarks (G : Geometry) (d : Rows) (x : ℕ) (l : Bytes) : Type 0 where
  pub long : length l ≡ mark_count
  pub seen : Seen (barred G) (listed G d) x l

-- the first j slots of a row marked, and whether each slot may list what it lists
unfoldable pub mark_slots : Bytes → Bytes → ℕ → Bytes
mark_slots l r j = mark_run l r 16 j

unfoldable pub slots_free : Bytes → Bytes → Bool
slots_free l r = run_free l r 16 slot_count

-- ---- which numbers are barred
barred_low : (G : Geometry) (b : ℕ) → b < G.area → barred G b ≡ true
unfolding barred
barred_low G b h = or_left _ _ (lt-ltb _ _ h)

barred_high : (G : Geometry) (b : ℕ) → G.blocks ≤ b → barred G b ≡ true
unfolding barred
barred_high G b h = or_right _ _ (le-leb _ _ h)

inside_open : (G : Geometry) (b : ℕ) → G.area ≤ b → b < G.blocks → barred G b ≡ false
unfolding barred
inside_open G b h k = or_then _ _ (le-ltb _ _ h) ∙ lt-leb _ _ k

zero_right : (G : Geometry) (b : ℕ) → b ≡ 0 → slot_right G b ≡ true
unfolding slot_right
zero_right G b z = or_left _ _ (eq-eqb _ _ z)

right_open : (G : Geometry) (b : ℕ) → (b ≡ 0 → ⊥) → slot_right G b ≡ not (barred G b)
unfolding slot_right
right_open G b r =
    or_then _ _ (ne_eqb b 0 r)
    ∙ split (lt_or_le b G.area) (λ w. and_fails_left _ _ (lt-leb _ _ w) ∙ ap not (sym (barred_low G b w)))
    (λ w. split (lt_or_le b G.blocks) (λ v. and_both _ _ (le-leb _ _ w) (lt-ltb _ _ v) ∙ ap not (sym (inside_open G b w v)))
    (λ v. and_fails_right _ _ (le-ltb _ _ v) ∙ ap not (sym (barred_high G b v))))

-- ---- the start
module _ (G : Geometry) (d : Rows) (l : Bytes) (h : length l ≡ mark_count) (some : 0 < G.area) (m : G.area ≤ G.blocks) (n : G.blocks ≤ mark_count) where
  cleared : Bytes
  cleared = splice l 0 (copies mark_count 0)

  low : Bytes
  low = splice cleared 1 (copies (G.area - 1) 1)

  long_cleared : length cleared ≡ mark_count
  unfolding cleared
  long_cleared = length_fill l 0 mark_count 0 (omega arith) ∙ h

  long_low : length low ≡ mark_count
  unfolding low
  long_low = length_fill cleared 1 (G.area - 1) 1 (omega (arith, long_cleared)) ∙ long_cleared

  -- before the blocks only the low numbers but 0 are marked
  before : (b : ℕ) → b < G.blocks → get_or (start_marks_rule G l) b 0 ≡ get_or low b 0
  unfolding start_marks_rule low cleared
  before b p = get_d_fill_out low G.blocks (mark_count - G.blocks) 1 (omega (arith, long_low)) b (inl (omega arith))

  unmarked : (b : ℕ) → (b < 1) ⊎ (G.area ≤ b) → b < G.blocks → get_or (start_marks_rule G l) b 0 ≡ 0
  unfolding low cleared
  unmarked b p q =
      before b q
      ∙ get_d_fill_out cleared 1 (G.area - 1) 1 (omega (arith, long_cleared)) b (split p (λ w. inl w) (λ w. inr (omega arith)))
      ∙ get_d_fill_in l 0 mark_count 0 (omega arith) b (omega arith) (omega arith)

  at_low : (b : ℕ) → 0 < b → b < G.area → get_or (start_marks_rule G l) b 0 ≡ 1
  unfolding low
  at_low b p q = before b (omega arith) ∙ get_d_fill_in cleared 1 (G.area - 1) 1 (omega (arith, long_cleared)) b (omega arith) (omega arith)

  at_high : (b : ℕ) → G.blocks ≤ b → b < mark_count → get_or (start_marks_rule G l) b 0 ≡ 1
  unfolding start_marks_rule low cleared
  at_high b p q = get_d_fill_in low G.blocks (mark_count - G.blocks) 1 (omega (arith, long_low)) b p (omega arith)

  start_mark : (b : ℕ) → 0 < b → b < mark_count → eqb (get_or (start_marks_rule G l) b 0) 0 ≡ not (barred G b)
  start_mark b p k =
      split (lt_or_le b G.area) (λ w. rw (at_low b p w, barred_low G b w))
      (λ w. split (lt_or_le b G.blocks) (λ v. rw (unmarked b (inr w) v, inside_open G b w v))
      (λ v. rw (at_high b v k, barred_high G b v)))

  long_start : length (start_marks_rule G l) ≡ mark_count
  unfolding start_marks_rule low cleared
  long_start = length_fill low G.blocks (mark_count - G.blocks) 1 (omega (arith, long_low)) ∙ long_low

  pub marks_start : BlockMarks G d 0 (start_marks_rule G l)
  marks_start = record {
    long = long_start;
    seen = seen_start (barred G) (listed G d) (start_marks_rule G l) (unmarked 0 (inl (omega arith)) (omega arith))
        (λ b p k. start_mark b p (omega (arith, long_start)));
  }

module _ (G : Geometry) (d : Rows) where
  -- ---- a slot: marked, or listing none
  marks_kept : (x : ℕ) (l : Bytes) → listed G d x ≡ 0 → BlockMarks G d x l → BlockMarks G d (x + 1) l
  marks_kept x l q m = record { long = m.long; seen = seen_kept (barred G) (listed G d) l x m.seen q }

  marks_more : (x v : ℕ) (l : Bytes) → listed G d x ≡ v → v < mark_count → BlockMarks G d x l → BlockMarks G d (x + 1) (mark_number l v)
  unfolding mark_number
  marks_more x v l q h m =
      let long = m.long in
      record {
        long = length-set l v v ∙ m.long;
        seen = seen_more (barred G) (listed G d) l x m.seen v (sym q) (omega arith);
      }

  -- the look at the mark is both tests of the slot
  mark_decides : (x v : ℕ) (l : Bytes) → listed G d x ≡ v → v < mark_count → BlockMarks G d x l → number_free l v ≡ (slot_right G v and listed_once G d x)
  unfolding number_free listed_once
  mark_decides x v l q h m =
      let long = m.long in
      split (eq_or_ne v 0)
      (λ z. rw z (eq-eqb _ _ m.seen.none) ∙ sym (and_both _ _ (zero_right G v z) (or_left _ _ (eq-eqb _ _ (q ∙ z)))))
      (λ z. let once : (eqb (listed G d x) 0 or not (taken (listed G d) x (listed G d x))) ≡ not (taken (listed G d) x v) = rw q (or_then _ _ (ne_eqb v 0 z)) in
      m.seen.mark v (omega arith) (omega arith) ∙ rw (once, right_open G v z) (not_or (taken (listed G d) x v) (barred G v)))

  -- ---- the slots of an entry that is not used
  skipped : (e j : ℕ) (l : Bytes) → used (d e) ≡ false → j ≤ slot_count → BlockMarks G d (slot_count * e) l → BlockMarks G d (slot_count * e + j) l
  skipped e zero l u h m = rw add-zero m
  skipped e (suc j) l u h m =
      let q : slot_count * e + suc j ≡ slot_count * e + j + 1 = omega arith in
      rw q (marks_kept (slot_count * e + j) l (listed_unused G d e j h u) (skipped e j l u (omega arith) m))

  pub marks_skip : (e : ℕ) (l : Bytes) → used (d e) ≡ false → BlockMarks G d (slot_count * e) l → BlockMarks G d (slot_count * (e + 1)) l
  marks_skip e l u m =
      let q : slot_count * (e + 1) ≡ slot_count * e + slot_count = omega arith in rw q (skipped e slot_count l u (omega arith) m)

  -- ---- the slots of a used entry, on a disk whose block numbers are one byte
  module _ (narrow : (r : Bytes) (j : ℕ) → j < slot_count → slot_of G r j ≡ get_or r (16 + j) 0) (e : ℕ) (l : Bytes) (u : used (d e) ≡ true)
      (bytes : (j : ℕ) → j < slot_count → slot_of G (d e) j < mark_count) (m : BlockMarks G d (slot_count * e) l) where
    -- the byte of a slot is its block
    byte_listed : (j : ℕ) → j < slot_count → listed G d (slot_count * e + j) ≡ get_or (d e) (16 + j) 0
    byte_listed j h = listed_used G d e j h u ∙ narrow (d e) j h

    byte_low : (j : ℕ) → j < slot_count → get_or (d e) (16 + j) 0 < mark_count
    byte_low j h = rw (narrow (d e) j h) at (bytes j h)

    passed : (j : ℕ) → j ≤ slot_count → BlockMarks G d (slot_count * e + j) (mark_run l (d e) 16 j)
    unfolding mark_run fold_below
    passed zero h = rw add-zero m
    passed (suc j) h =
        let q : slot_count * e + suc j ≡ slot_count * e + j + 1 = omega arith in
        rw q (marks_more (slot_count * e + j) (get_or (d e) (16 + j) 0) (mark_run l (d e) 16 j) (byte_listed j h) (byte_low j h) (passed j (omega arith)))

    pub marks_row : BlockMarks G d (slot_count * (e + 1)) (mark_slots l (d e) slot_count)
    unfolding mark_slots
    marks_row = let q : slot_count * (e + 1) ≡ slot_count * e + slot_count = omega arith in rw q (passed slot_count (omega arith))

    free_right : (j : ℕ) → j < slot_count → number_free (mark_run l (d e) 16 j) (get_or (d e) (16 + j) 0) ≡ (slot_right G (slot_of G (d e) j) and listed_once G d (slot_count * e + j))
    free_right j h =
        rw (narrow (d e) j h) (mark_decides (slot_count * e + j) (get_or (d e) (16 + j) 0) (mark_run l (d e) 16 j) (byte_listed j h) (byte_low j h) (passed j (omega arith)))

    pub slots_right_law : slots_free l (d e) ≡ (slots_right G (d e) and all_below (λ (j : ℕ). listed_once G d (slot_count * e + j)) slot_count)
    unfolding slots_free run_free slots_right
    slots_right_law = all_cong _ _ slot_count free_right ∙ all_both _ _ slot_count

-- ---- the end: after all slots the marks tell which blocks are listed
pub marks_end : (G : Geometry) (d : Rows) (l : Bytes) → 0 < G.area → G.blocks ≤ mark_count → BlockMarks G d (slots_in_all G) l → Marked G d l
unfolding is_listed
marks_end G d l some n m = record {
  long = m.long;
  mark = λ b h k. let long = m.long in
      m.seen.mark b (omega arith) (omega arith) ∙ ap not (or_first _ _ (inside_open G b h k));
}
