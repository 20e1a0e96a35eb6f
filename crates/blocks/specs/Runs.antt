-- Numbers that stand in a run of a row, taken one after the other: each writes itself over its mark, and was free where the mark was 0.
-- Number 0 has the mark 0, so it is always free and changes nothing.
use Rattle.std.specs.Prelude.{◌≡◌, Bool, true, eqb}
use Rattle.std.proofs.Math.Path.{refl, ap, sym}
use Rattle.std.proofs.Common.{◌∙◌, add_assoc}
use Prim.Native.Nat.{ℕ, zero, suc, ◌+◌, ◌-◌, ◌<◌}
use native.Mathlib.Omega.{arith}
use Rattle.std.specs.Int.Bits.{bit_or}
use Rattle.std.proofs.Math.ListN.{get_or}
use borrow.Author.Tests.{eq-eqb, eqb-true}
use Rattle.lists.specs.Cases.{split, lt_or_le, bool_ext}
use Rattle.lists.specs.Tests.{◌and◌}
use Rattle.lists.specs.Below.{all_below, all_none, all_next, all_at, all_intro, all_cong, all_join}
use Rattle.lists.specs.Fold.{fold_below, fold_none, fold_next, fold_keeps, fold_cong, fold_join}
use Rattle.lists.specs.Seen.{set_none, set_keeps_none}
use Rattle.lists.specs.Bits.{or_zero, or_none}
use Rattle.lanes.specs.Lanes.{half_at, word_at, bytes_zero, zero_bytes}
use Rattle.format.specs.Diskette.{Bytes}
use Rattle.marks.specs.Numbers.{number_free, mark_number}

-- the n numbers of r from `at` on marked, and whether each was free as its turn came
unfoldable pub mark_run : Bytes → Bytes → ℕ → ℕ → Bytes
mark_run l r at n = fold_below (λ (m : Bytes) (k : ℕ). mark_number m (get_or r (at + k) 0)) l n

unfoldable pub run_free : Bytes → Bytes → ℕ → ℕ → Bool
run_free l r at n = all_below (λ (k : ℕ). number_free (mark_run l r at k) (get_or r (at + k) 0)) n

-- the n numbers of r from `at` on are taken: the marks after them, and the marks that they met or-ed together, 0 where each was free
pub record Taken (l r : Bytes) (at n : ℕ) (marks : Bytes) (met : ℕ) : Type 0 where
  pub marked : marks ≡ mark_run l r at n
  pub free : eqb met 0 ≡ run_free l r at n

module _ (l r : Bytes) (at : ℕ) where
  -- ---- one number more
  pub mark_run_none : mark_run l r at 0 ≡ l
  unfolding mark_run
  mark_run_none = fold_none _ l

  pub mark_run_next : (n : ℕ) → mark_run l r at (n + 1) ≡ mark_number (mark_run l r at n) (get_or r (at + n) 0)
  unfolding mark_run
  mark_run_next n = fold_next _ l n

  pub run_free_none : run_free l r at 0 ≡ true
  unfolding run_free
  run_free_none = all_none _

  pub run_free_next : (n : ℕ) → run_free l r at (n + 1) ≡ (run_free l r at n and number_free (mark_run l r at n) (get_or r (at + n) 0))
  unfolding run_free
  run_free_next n = all_next _ n

  -- ---- a run more
  pub mark_run_join : (m n : ℕ) → mark_run l r at (m + n) ≡ mark_run (mark_run l r at m) r (at + m) n
  unfolding mark_run
  mark_run_join m n =
      fold_join _ l m n
      ∙ fold_cong _ _ _ n (λ x k h. ap (λ (i : ℕ). mark_number x (get_or r i 0)) (sym (add_assoc at m k)))

  pub run_free_join : (m n : ℕ) → run_free l r at (m + n) ≡ (run_free l r at m and run_free (mark_run l r at m) r (at + m) n)
  unfolding run_free
  run_free_join m n =
      all_join _ m n
      ∙ ap (λ (t : Bool). run_free l r at m and t) (all_cong _ _ n (λ k h. rw (mark_run_join m k, add_assoc)))

  -- ---- number 0
  module _ (none : get_or l 0 0 ≡ 0) where
    mark_keeps_none : (m : Bytes) (b : ℕ) → get_or m 0 0 ≡ 0 → get_or (mark_number m b) 0 0 ≡ 0
    unfolding mark_number
    mark_keeps_none m b h = set_keeps_none m b h

    pub run_keeps_none : (n : ℕ) → get_or (mark_run l r at n) 0 0 ≡ 0
    unfolding mark_run
    run_keeps_none n = fold_keeps (λ (m : Bytes). get_or m 0 0 ≡ 0) _ l n none (λ m k h q. mark_keeps_none m _ q)

    pub mark_run_zeros : (n : ℕ) → ((i : ℕ) → i < n → get_or r (at + i) 0 ≡ 0) → mark_run l r at n ≡ l
    unfolding mark_run fold_below mark_number
    mark_run_zeros zero z = refl
    mark_run_zeros (suc n) z = rw (mark_run_zeros n (λ i h. z i (omega arith))) (set_none l _ (z n (omega arith)) none)

    pub run_free_zeros : (n : ℕ) → ((i : ℕ) → i < n → get_or r (at + i) 0 ≡ 0) → run_free l r at n ≡ true
    unfolding run_free number_free
    run_free_zeros n z =
        all_intro _ n (λ k h. eq-eqb (get_or (mark_run l r at k) (get_or r (at + k) 0) 0) 0 (rw (z k h, mark_run_zeros k (λ i w. z i (omega arith))) none))

    pub taken_zeros : (n : ℕ) → ((i : ℕ) → i < n → get_or r (at + i) 0 ≡ 0) → Taken l r at n l 0
    taken_zeros n z = record { marked = sym (mark_run_zeros n z); free = sym (run_free_zeros n z) }

  -- ---- the turns of a loop
  pub taken_none : Taken l r at 0 l 0
  taken_none = record { marked = sym mark_run_none; free = sym run_free_none }

  module _ (n : ℕ) (marks : Bytes) (met : ℕ) (t : Taken l r at n marks met) where
    pub taken_more : (marks' : Bytes) (old : ℕ) → old ≡ get_or marks (get_or r (at + n) 0) 0 → marks' ≡ mark_number marks (get_or r (at + n) 0)
        → Taken l r at (n + 1) marks' (bit_or met old)
    unfolding number_free
    taken_more marks' old q h = record {
      marked = h ∙ ap (λ (m : Bytes). mark_number m (get_or r (at + n) 0)) t.marked ∙ sym (mark_run_next n);
      free = or_zero met old ∙ rw (t.free, q, t.marked) (sym (run_free_next n));
    }

    pub taken_join : (k to : ℕ) (marks' : Bytes) (more : ℕ) → to ≡ at + n → Taken marks r to k marks' more → Taken l r at (n + k) marks' (bit_or met more)
    taken_join k to marks' more q u = record {
      marked = u.marked ∙ rw (q, t.marked) (sym (mark_run_join n k));
      free = or_zero met more ∙ rw (t.free, u.free, q, t.marked) (sym (run_free_join n k));
    }

    pub taken_keeps_none : get_or l 0 0 ≡ 0 → get_or marks 0 0 ≡ 0
    taken_keeps_none none = rw t.marked (run_keeps_none none n)

-- ---- the slots after the first four
-- numbers that are 0 change neither the marks nor what was met
pub taken_rest : (l r : Bytes) (at n : ℕ) (marks : Bytes) (met : ℕ) → Taken l r at n marks met
    → (k : ℕ) → get_or marks 0 0 ≡ 0 → ((i : ℕ) → i < k → get_or r (at + n + i) 0 ≡ 0) → Taken l r at (n + k) marks met
taken_rest l r at n marks met t k none z = rw or_none at (taken_join l r at n marks met t k (at + n) marks 0 refl (taken_zeros marks r (at + n) none k z))

-- the twelve numbers of r from 20 on are 0
unfoldable pub rest_zero : Bytes → Bool
rest_zero r = all_below (λ (i : ℕ). eqb (get_or r (20 + i) 0) 0) 12

module _ (r : Bytes) where
  pub rest_zeros : rest_zero r ≡ true → (i : ℕ) → i < 12 → get_or r (20 + i) 0 ≡ 0
  unfolding rest_zero
  rest_zeros t i h = eqb-true _ _ (all_at _ 12 t i h)

  -- eight of them are a word, four a half
  pub rest_word : rest_zero r ≡ true → word_at r 20 ≡ 0
  rest_word t = zero_bytes 8 r 20 (λ i h. rest_zeros t i (omega arith))

  pub rest_decides : word_at r 20 ≡ 0 → eqb (half_at r 28) 0 ≡ rest_zero r
  unfolding rest_zero
  rest_decides w =
      bool_ext _ _
      (λ t. all_intro _ 12 (λ i h. eq-eqb _ _ (split (lt_or_le i 8) (λ l. bytes_zero 8 r 20 w i l)
      (λ l. let q : 20 + i ≡ 28 + (i - 8) = omega arith in ap (λ (k : ℕ). get_or r k 0) q ∙ bytes_zero 4 r 28 (eqb-true _ _ t) (i - 8) (omega arith)))))
      (λ t. eq-eqb _ _ (zero_bytes 4 r 28 (λ i h. let q : 28 + i ≡ 20 + (8 + i) = omega arith in ap (λ (k : ℕ). get_or r k 0) q ∙ rest_zeros t (8 + i) (omega arith))))
