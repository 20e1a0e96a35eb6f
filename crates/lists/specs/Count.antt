-- How many numbers below a bound pass a test.
use Rattle.std.specs.Prelude.{◌≡◌, refl, Bool, true, false, not, cond, ℕ, zero, suc, ◌+◌, ◌-◌, ◌≤◌, ◌<◌}
use Rattle.std.proofs.Common.{ap, sym, add-one, arith}
use Rattle.std.proofs.lemmas.Bool.{not-false}
use Rattle.lists.specs.Cases.{split, bool_cases, lt_or_le, refute}
use Rattle.lists.specs.Below.{all_below, all_at, all_intro}

unfoldable pub count_below : (ℕ → Bool) → ℕ → ℕ
count_below p zero = 0
count_below p (suc n) = count_below p n + cond (p n) 1 0

pub count_none : (p : ℕ → Bool) → count_below p 0 ≡ 0
unfolding count_below
count_none p = refl

pub count_high : (p : ℕ → Bool) (n : ℕ) → count_below p n ≤ n
unfolding count_below
count_high p zero = omega arith
count_high p (suc n) =
    split (bool_cases (p n)) (λ e. rw e (omega (arith, count_high p n))) (λ e. rw e (omega (arith, count_high p n)))

pub count_done : (p : ℕ → Bool) (i n : ℕ) → i ≤ n → n ≤ i → (x : ℕ) → x ≡ count_below p i → x ≡ count_below p n
count_done p i n a b x e = let q : i ≡ n = omega arith in rw q at e

pub count_next : (p : ℕ → Bool) (i : ℕ) → count_below p (i + 1) ≡ count_below p i + cond (p i) 1 0
unfolding count_below
count_next p i = simp add-one

-- none is counted exactly where all fail
pub count_empty : (p : ℕ → Bool) (n : ℕ) → ((k : ℕ) → k < n → p k ≡ false) → count_below p n ≡ 0
unfolding count_below
count_empty p zero f = refl
count_empty p (suc n) f = rw (f n (omega arith)) (omega (arith, count_empty p n (λ k h. f k (omega arith))))

pub count_zero : (p : ℕ → Bool) (n : ℕ) → count_below p n ≡ 0 → (k : ℕ) → k < n → p k ≡ false
unfolding count_below
count_zero p zero z k h = absurd (omega arith)
count_zero p (suc n) z k h =
    split (bool_cases (p n)) (λ e. let q : count_below p n + 1 ≡ 0 = rw e at z in absurd (omega arith))
    (λ e. let q : count_below p n + 0 ≡ 0 = rw e at z in
    split (lt_or_le k n) (λ w. count_zero p n (omega arith) k w) (λ w. let y : n ≡ k = omega arith in rw y at e))

-- all pass exactly where no failure is counted
pub count_all : (p : ℕ → Bool) (n : ℕ) → count_below (λ (k : ℕ). not (p k)) n ≡ 0 → all_below p n ≡ true
count_all p n z = all_intro p n (λ k h. not-false _ (count_zero (λ (k : ℕ). not (p k)) n z k h))

pub count_fails : (p : ℕ → Bool) (n : ℕ) → (count_below (λ (k : ℕ). not (p k)) n ≡ 0 → ⊥) → all_below p n ≡ false
count_fails p n f = sym (refute _ (λ t. f (count_empty (λ (k : ℕ). not (p k)) n (λ k h. ap not (all_at p n t k h)))))

-- just the numbers from a on pass
pub count_from : (p : ℕ → Bool) (a n : ℕ) → a ≤ n → ((k : ℕ) → k < a → p k ≡ false) → ((k : ℕ) → a ≤ k → k < n → p k ≡ true) → count_below p n ≡ n - a
unfolding count_below
count_from p a zero h f g = omega arith
count_from p a (suc n) h f g =
    split (lt_or_le n a)
    (λ l. rw (count_empty p n (λ k b. f k (omega arith)), f n l) (omega arith))
    (λ l. rw (count_from p a n l f (λ k b c. g k b (omega arith)), g n l (omega arith)) (omega arith))

-- the turns of a loop that counts what fails, and what its count decides
pub ruleset counts = (count_none, count_next, count_all, count_fails)
