-- The size of a file: the last of its entries' ends.
use Rattle.std.specs.Prelude.{◌≡◌, ◌⊎◌, Bool, true, false}
use Rattle.std.proofs.Math.Path.{refl}
use Rattle.std.proofs.Common.{ap, sym, ◌∙◌, leb-true}
use Rattle.std.proofs.Math.Logic.{inl, inr}
use Prim.Native.Nat.{ℕ, zero, suc, ◌≤◌, ◌<◌, max}
use native.Mathlib.Omega.{arith}
use Rattle.lists.specs.Cases.{split, bool_cases, lt_or_le, not_both}
use Rattle.lists.specs.Tests.{and_left, and_right}
use Rattle.lists.specs.Fold.{fold_below}
use Rattle.format.specs.Diskette.{Bytes, Geometry}
use Rattle.format.specs.Entries.{Rows, ex_of, s2_of, extent_of, end_of}
use Rattle.format.specs.Consistent.{extent_right_rule}
use Rattle.facts.specs.Counts.{count_most}
use Rattle.model.specs.Calls.{larger_size_rule, file_size_rule}

module _ (d : Rows) (picks : Bytes → Bool) where
  -- a turn at an entry that is not picked, and at one that is
  pub larger_miss : (size e : ℕ) → picks (d e) ≡ false → larger_size_rule d picks size e ≡ size
  unfolding larger_size_rule
  larger_miss size e f = rw f

  pub larger_hit : (size e : ℕ) → picks (d e) ≡ true → larger_size_rule d picks size e ≡ max size (end_of (d e))
  unfolding larger_size_rule
  larger_hit size e t = rw t

  -- the largest so far
  up_to : ℕ → ℕ
  up_to n = fold_below (larger_size_rule d picks) 0 n

  next_hit : (n : ℕ) → picks (d n) ≡ true → up_to (suc n) ≡ max (up_to n) (end_of (d n))
  unfolding up_to fold_below
  next_hit n t = larger_hit (up_to n) n t

  next_miss : (n : ℕ) → picks (d n) ≡ false → up_to (suc n) ≡ up_to n
  unfolding up_to fold_below
  next_miss n f = larger_miss (up_to n) n f

  up_covers : (n e : ℕ) → e < n → picks (d e) ≡ true → end_of (d e) ≤ up_to n
  up_covers zero e h t = absurd (omega arith)
  up_covers (suc n) e h t =
      split (bool_cases (picks (d n)))
      (λ a. split (lt_or_le e n) (λ l. rw (next_hit n a) (omega (arith, up_covers n e l t)))
      (λ l. let q : e ≡ n = omega arith in rw (q, next_hit n a) (omega arith)))
      (λ a. split (lt_or_le e n) (λ l. rw (next_miss n a) (up_covers n e l t))
      (λ l. let q : e ≡ n = omega arith in not_both (picks (d e)) t (ap (λ (k : ℕ). picks (d k)) q ∙ a)))

  up_high : (n m : ℕ) → ((e : ℕ) → e < n → picks (d e) ≡ true → end_of (d e) ≤ m) → up_to n ≤ m
  unfolding up_to fold_below
  up_high zero m f = omega arith
  up_high (suc n) m f =
      let h : up_to n ≤ m = up_high n m (λ e l t. f e (omega arith) t) in
      split (bool_cases (picks (d n))) (λ t. rw (next_hit n t) (omega (arith, f n (omega arith) t))) (λ a. rw (next_miss n a) h)

  -- an entry that is picked, of this size
  pub record Sized (n size : ℕ) : Type 0 where
    pub entry : ℕ
    pub below : entry < n
    pub picked : picks (d entry) ≡ true
    pub is : end_of (d entry) ≡ size

  up_wider : (n : ℕ) → (up_to n ≡ 0) ⊎ Sized n (up_to n) → up_to (suc n) ≡ up_to n → (up_to (suc n) ≡ 0) ⊎ Sized (suc n) (up_to (suc n))
  up_wider n before q =
      split before (λ z. inl (q ∙ z))
      (λ s. let l = s.below in inr record { entry = s.entry; below = omega arith; picked = s.picked; is = s.is ∙ sym q })

  up_one : (n : ℕ) → (up_to n ≡ 0) ⊎ Sized n (up_to n)
  unfolding up_to fold_below
  up_one zero = inl refl
  up_one (suc n) =
      split (bool_cases (picks (d n)))
      (λ t. split (lt_or_le (up_to n) (end_of (d n)))
      (λ l. inr record { entry = n; below = omega arith; picked = t; is = rw (next_hit n t) (omega arith) })
      (λ l. let q : up_to (suc n) ≡ up_to n = next_hit n t ∙ omega arith in up_wider n (up_one n) q))
      (λ a. up_wider n (up_one n) (next_miss n a))

module _ (G : Geometry) (d : Rows) (picks : Bytes → Bool) where
  -- no entry that is picked is larger
  pub size_covers : (e : ℕ) → e < G.entries → picks (d e) ≡ true → end_of (d e) ≤ file_size_rule G d picks
  unfolding file_size_rule up_to
  size_covers e h t = up_covers d picks G.entries e h t

  -- the size is that of one of them, or 0
  pub size_one : (file_size_rule G d picks ≡ 0) ⊎ Sized d picks G.entries (file_size_rule G d picks)
  unfolding file_size_rule up_to
  size_one = up_one d picks G.entries

  pub size_high : (m : ℕ) → ((e : ℕ) → e < G.entries → picks (d e) ≡ true → end_of (d e) ≤ m) → file_size_rule G d picks ≤ m
  unfolding file_size_rule up_to
  size_high m f = up_high d picks G.entries m f

-- an entry whose extent is in range has at most 262,144 records, whatever its rc is
pub end_high : (row : Bytes) → extent_right_rule row ≡ true → end_of row ≤ 262144
unfolding extent_of end_of
end_high row h = omega (arith, leb-true (ex_of row) 31 (and_left _ _ h), leb-true (s2_of row) 63 (and_right _ _ h), count_most row)
