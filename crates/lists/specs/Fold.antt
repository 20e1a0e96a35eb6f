-- A value carried through the numbers below a bound: what a loop has made after its turns.
use Rattle.std.specs.Prelude.{◌≡◌}
use Rattle.std.proofs.Math.Path.{refl}
use Rattle.std.proofs.Common.{ap, sym, ◌∙◌, add-suc, arith}
use Prim.Native.Nat.{ℕ, zero, suc, ◌+◌, ◌≤◌, ◌<◌}
use Rattle.std.proofs.Math.Nat.{add-zero}
use Rattle.std.proofs.Math.Numerals.{add-one}

module _ {A : Type 0} where
  -- a after the turns 0 to n - 1
  unfoldable pub fold_below : (A → ℕ → A) → A → ℕ → A
  fold_below f a zero = a
  fold_below f a (suc n) = f (fold_below f a n) n

  pub fold_none : (f : A → ℕ → A) (a : A) → fold_below f a 0 ≡ a
  unfolding fold_below
  fold_none f a = refl

  pub fold_next : (f : A → ℕ → A) (a : A) (n : ℕ) → fold_below f a (n + 1) ≡ f (fold_below f a n) n
  unfolding fold_below
  fold_next f a n = rw add-one

  -- a turn of the loop, and its end
  pub fold_more : (f : A → ℕ → A) (a x y : A) (n : ℕ) → x ≡ fold_below f a n → y ≡ f x n → y ≡ fold_below f a (n + 1)
  fold_more f a x y n e h = h ∙ ap (λ (z : A). f z n) e ∙ sym (fold_next f a n)

  pub fold_done : (f : A → ℕ → A) (a x : A) (i n : ℕ) → i ≤ n → n ≤ i → x ≡ fold_below f a i → x ≡ fold_below f a n
  fold_done f a x i n l h e = let q : i ≡ n = omega arith in rw q at e

  -- what each turn keeps, the fold keeps
  pub fold_keeps : (P : A → Type 0) (f : A → ℕ → A) (a : A) (n : ℕ) → P a → ((x : A) (k : ℕ) → k < n → P x → P (f x k)) → P (fold_below f a n)
  unfolding fold_below
  fold_keeps P f a zero p g = p
  fold_keeps P f a (suc n) p g = g (fold_below f a n) n (omega arith) (fold_keeps P f a n p (λ x k h q. g x k (omega arith) q))

  -- what each turn brings one number further, the fold brings to n
  pub fold_builds : (P : ℕ → A → Type 0) (f : A → ℕ → A) (a : A) (n : ℕ) → P 0 a → ((k : ℕ) (x : A) → k < n → P k x → P (k + 1) (f x k)) → P n (fold_below f a n)
  unfolding fold_below
  fold_builds P f a zero p g = p
  fold_builds P f a (suc n) p g =
      rw add-one at (g n (fold_below f a n) (omega arith) (fold_builds P f a n p (λ k x h q. g k x (omega arith) q)))

  pub fold_cong : (f g : A → ℕ → A) (a : A) (n : ℕ) → ((x : A) (k : ℕ) → k < n → f x k ≡ g x k) → fold_below f a n ≡ fold_below g a n
  unfolding fold_below
  fold_cong f g a zero h = refl
  fold_cong f g a (suc n) h = rw (fold_cong f g a n (λ x k l. h x k (omega arith)), h (fold_below g a n) n (omega arith))

  -- the turns before m, and then those from m on
  pub fold_join : (f : A → ℕ → A) (a : A) (m n : ℕ) → fold_below f a (m + n) ≡ fold_below (λ (x : A) (k : ℕ). f x (m + k)) (fold_below f a m) n
  unfolding fold_below
  fold_join f a m zero = rw add-zero
  fold_join f a m (suc n) = rw (add-suc, fold_join f a m n)
