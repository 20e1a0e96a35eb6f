-- Every number below a bound passes a test; some number does; the first that does, and the last. The definitions peel at the number that a loop
-- counts, so a turn of the loop is one law.
use Rattle.std.specs.Prelude.{◌≡◌, refl, Bool, true, false, cond, ℕ, zero, suc, ◌+◌, ◌-◌, ◌≤◌, ◌<◌}
use Rattle.std.proofs.Common.{sym, ◌∙◌, add-one, arith}
use Rattle.lists.specs.Cases.{split, bool_cases, bool_ext, lt_or_le, not_both, clash}
use Rattle.lists.specs.Tests.{◌and◌, ◌or◌, and_left, and_right, and_both, or_left, or_right, or_first}

-- p holds of each number below n
unfoldable pub all_below : (ℕ → Bool) → ℕ → Bool
all_below p zero = true
all_below p (suc n) = all_below p n and p n

-- p holds of some number below n
unfoldable pub any_below : (ℕ → Bool) → ℕ → Bool
any_below p zero = false
any_below p (suc n) = any_below p n or p n

-- the first of i, i + 1, .., i + n - 1 of which p holds, or i + n
unfoldable pub first_of : (ℕ → Bool) → ℕ → ℕ → ℕ
first_of p i zero = i
first_of p i (suc n) = cond (p i) i (first_of p (suc i) n)

-- the first number from i on, below n, of which p holds, or n (or i, where i is over n)
unfoldable pub first_in : (ℕ → Bool) → ℕ → ℕ → ℕ
first_in p i n = first_of p i (n - i)

-- one past the last number below n of which p holds, or 0
unfoldable pub last_below : (ℕ → Bool) → ℕ → ℕ
last_below p zero = 0
last_below p (suc n) = cond (p n) (suc n) (last_below p n)

-- ---- every number
pub all_none : (p : ℕ → Bool) → all_below p 0 ≡ true
unfolding all_below
all_none p = refl

pub all_next : (p : ℕ → Bool) (n : ℕ) → all_below p (n + 1) ≡ (all_below p n and p n)
unfolding all_below
all_next p n = rw add-one

pub all_at : (p : ℕ → Bool) (n : ℕ) → all_below p n ≡ true → (k : ℕ) → k < n → p k ≡ true
unfolding all_below
all_at p zero e k h = absurd (omega arith)
all_at p (suc n) e k h =
    split (lt_or_le k n) (λ w. all_at p n (and_left _ _ e) k w) (λ w. let q : k ≡ n = omega arith in rw q (and_right _ _ e))

pub all_intro : (p : ℕ → Bool) (n : ℕ) → ((k : ℕ) → k < n → p k ≡ true) → all_below p n ≡ true
unfolding all_below
all_intro p zero f = refl
all_intro p (suc n) f = and_both _ _ (all_intro p n (λ k h. f k (omega arith))) (f n (omega arith))

pub all_fails : (p : ℕ → Bool) (n k : ℕ) → k < n → p k ≡ false → all_below p n ≡ false
all_fails p n k h e = split (bool_cases (all_below p n)) (λ t. not_both (p k) (all_at p n t k h) e) (λ f. f)

pub all_cong : (p q : ℕ → Bool) (n : ℕ) → ((k : ℕ) → k < n → p k ≡ q k) → all_below p n ≡ all_below q n
unfolding all_below
all_cong p q zero f = refl
all_cong p q (suc n) f = rw (all_cong p q n (λ k h. f k (omega arith)), f n (omega arith))

-- two tests of each number
pub all_both : (p q : ℕ → Bool) (n : ℕ) → all_below (λ (k : ℕ). p k and q k) n ≡ (all_below p n and all_below q n)
all_both p q n =
    bool_ext _ _
    (λ t. and_both _ _ (all_intro p n (λ k h. and_left _ _ (all_at _ n t k h))) (all_intro q n (λ k h. and_right _ _ (all_at _ n t k h))))
    (λ t. all_intro _ n (λ k h. and_both _ _ (all_at p n (and_left _ _ t) k h) (all_at q n (and_right _ _ t) k h)))

-- the numbers below m, and then those from m on
pub all_join : (p : ℕ → Bool) (m n : ℕ) → all_below p (m + n) ≡ (all_below p m and all_below (λ (k : ℕ). p (m + k)) n)
all_join p m n =
    bool_ext _ _
    (λ t. and_both _ _ (all_intro p m (λ k h. all_at p (m + n) t k (omega arith))) (all_intro _ n (λ k h. all_at p (m + n) t (m + k) (omega arith))))
    (λ t. all_intro p (m + n) (λ k h. split (lt_or_le k m) (λ w. all_at p m (and_left _ _ t) k w)
    (λ w. let q : m + (k - m) ≡ k = omega arith in rw q at (all_at _ n (and_right _ _ t) (k - m) (omega arith)))))

-- a turn of a loop that tests p i, and its end
pub all_more : (p : ℕ → Bool) (i : ℕ) → all_below p i ≡ true → p i ≡ true → all_below p (i + 1) ≡ true
all_more p i e f = all_next p i ∙ and_both _ _ e f

pub all_done : (p : ℕ → Bool) (i n : ℕ) → i ≤ n → n ≤ i → all_below p i ≡ true → true ≡ all_below p n
all_done p i n a b e = let q : i ≡ n = omega arith in sym (rw q at e)

-- ---- some number
pub record SomeBelow (p : ℕ → Bool) (n : ℕ) : Type 0 where
  pub place : ℕ
  pub below : place < n
  pub holds : p place ≡ true

pub any_none : (p : ℕ → Bool) → any_below p 0 ≡ false
unfolding any_below
any_none p = refl

pub any_next : (p : ℕ → Bool) (n : ℕ) → any_below p (n + 1) ≡ (any_below p n or p n)
unfolding any_below
any_next p n = rw add-one

pub any_at : (p : ℕ → Bool) (n k : ℕ) → k < n → p k ≡ true → any_below p n ≡ true
unfolding any_below
any_at p zero k h e = absurd (omega arith)
any_at p (suc n) k h e =
    split (lt_or_le k n) (λ w. or_left _ _ (any_at p n k w e)) (λ w. let q : k ≡ n = omega arith in or_right _ _ (rw q at e))

pub any_some : (p : ℕ → Bool) (n : ℕ) → any_below p n ≡ true → SomeBelow p n
unfolding any_below
any_some p zero e = clash (sym e)
any_some p (suc n) e =
    split (bool_cases (p n))
    (λ t. record { place = n; below = omega arith; holds = t })
    (λ f. let s = any_some p n (sym (or_first _ _ f) ∙ e) in
    let l = s.below in record { place = s.place; below = omega arith; holds = s.holds })

pub any_never : (p : ℕ → Bool) (n : ℕ) → any_below p n ≡ false → (k : ℕ) → k < n → p k ≡ false
any_never p n e k h = split (bool_cases (p k)) (λ t. not_both (any_below p n) (any_at p n k h t) e) (λ f. f)

pub any_empty : (p : ℕ → Bool) (n : ℕ) → ((k : ℕ) → k < n → p k ≡ false) → any_below p n ≡ false
any_empty p n f = split (bool_cases (any_below p n)) (λ t. let s = any_some p n t in not_both (p s.place) s.holds (f s.place s.below)) (λ e. e)

pub any_cong : (p q : ℕ → Bool) (n : ℕ) → ((k : ℕ) → k < n → p k ≡ q k) → any_below p n ≡ any_below q n
unfolding any_below
any_cong p q zero f = refl
any_cong p q (suc n) f = rw (any_cong p q n (λ k h. f k (omega arith)), f n (omega arith))

pub any_more : (p : ℕ → Bool) (i : ℕ) → any_below p i ≡ false → p i ≡ false → any_below p (i + 1) ≡ false
any_more p i e f = any_next p i ∙ or_first _ _ f ∙ e

pub any_done : (p : ℕ → Bool) (i n : ℕ) → i ≤ n → n ≤ i → any_below p i ≡ false → false ≡ any_below p n
any_done p i n a b e = let q : i ≡ n = omega arith in sym (rw q at e)

-- ---- the first number: the turns of a loop that looks for it
pub first_hit : (p : ℕ → Bool) (i n : ℕ) → i < n → p i ≡ true → first_in p i n ≡ i
unfolding first_in first_of
first_hit p i n h e = let q : n - i ≡ suc (n - suc i) = omega arith in rw (q, e)

pub first_turn : (p : ℕ → Bool) (i n : ℕ) → i < n → p i ≡ false → first_in p (i + 1) n ≡ first_in p i n
unfolding first_in first_of
first_turn p i n h e = let q : n - i ≡ suc (n - suc i) = omega arith in rw (q, e, add-one)

pub first_end : (p : ℕ → Bool) (i n : ℕ) → n ≤ i → first_in p i n ≡ i
unfolding first_in first_of
first_end p i n h = let q : n - i ≡ 0 = omega arith in rw q

-- ---- what the first number says
of_holds : (p : ℕ → Bool) (i n : ℕ) → first_of p i n < i + n → p (first_of p i n) ≡ true
unfolding first_of
of_holds p i zero h = absurd (omega arith)
of_holds p i (suc n) h =
    split (bool_cases (p i)) (λ e. rw e e)
    (λ e. let s : first_of p (suc i) n < i + suc n = rw e at h in rw e (of_holds p (suc i) n (omega arith)))

of_before : (p : ℕ → Bool) (i n j : ℕ) → i ≤ j → j < first_of p i n → p j ≡ false
unfolding first_of
of_before p i zero j a b = absurd (omega arith)
of_before p i (suc n) j a b =
    split (bool_cases (p i)) (λ e. let s : j < i = rw e at b in absurd (omega arith))
    (λ e. let s : j < first_of p (suc i) n = rw e at b in
    split (lt_or_le i j) (λ w. of_before p (suc i) n j (omega arith) s) (λ w. let q : i ≡ j = omega arith in rw q at e))

of_is : (p : ℕ → Bool) (i n k : ℕ) → i ≤ k → k < i + n → p k ≡ true → ((j : ℕ) → i ≤ j → j < k → p j ≡ false) → first_of p i n ≡ k
unfolding first_of
of_is p i zero k h l e f = absurd (omega arith)
of_is p i (suc n) k h l e f =
    split (lt_or_le i k)
    (λ w. rw (f i (omega arith) w) (of_is p (suc i) n k (omega arith) (omega arith) e (λ j a b. f j (omega arith) b)))
    (λ w. let q : i ≡ k = omega arith in rw (q, e))

of_none : (p : ℕ → Bool) (i n : ℕ) → ((j : ℕ) → i ≤ j → j < i + n → p j ≡ false) → first_of p i n ≡ i + n
unfolding first_of
of_none p i zero f = omega arith
of_none p i (suc n) f =
    rw (f i (omega arith) (omega arith)) (of_none p (suc i) n (λ j a b. f j (omega arith) (omega arith)) ∙ omega arith)

of_low : (p : ℕ → Bool) (i n : ℕ) → i ≤ first_of p i n
unfolding first_of
of_low p i zero = omega arith
of_low p i (suc n) = split (bool_cases (p i)) (λ e. rw e (omega arith)) (λ e. rw e (omega (arith, of_low p (suc i) n)))

pub first_low : (p : ℕ → Bool) (i n : ℕ) → i ≤ first_in p i n
unfolding first_in
first_low p i n = of_low p i (n - i)

pub first_holds : (p : ℕ → Bool) (i n : ℕ) → first_in p i n < n → p (first_in p i n) ≡ true
unfolding first_in
first_holds p i n h = of_holds p i (n - i) (omega arith)

pub first_before : (p : ℕ → Bool) (i n j : ℕ) → i ≤ j → j < first_in p i n → p j ≡ false
unfolding first_in
first_before p i n j a b = of_before p i (n - i) j a b

pub first_is : (p : ℕ → Bool) (i n k : ℕ) → i ≤ k → k < n → p k ≡ true → ((j : ℕ) → i ≤ j → j < k → p j ≡ false) → first_in p i n ≡ k
unfolding first_in
first_is p i n k a b e f = of_is p i (n - i) k a (omega arith) e f

pub first_none : (p : ℕ → Bool) (i n : ℕ) → i ≤ n → ((j : ℕ) → i ≤ j → j < n → p j ≡ false) → first_in p i n ≡ n
unfolding first_in
first_none p i n h f = of_none p i (n - i) (λ j a b. f j a (omega arith)) ∙ omega arith

-- ---- the last number
pub last_none : (p : ℕ → Bool) → last_below p 0 ≡ 0
unfolding last_below
last_none p = refl

pub last_hit : (p : ℕ → Bool) (n : ℕ) → p n ≡ true → last_below p (n + 1) ≡ n + 1
unfolding last_below
last_hit p n e = simp (add-one, e)

pub last_miss : (p : ℕ → Bool) (n : ℕ) → p n ≡ false → last_below p (n + 1) ≡ last_below p n
unfolding last_below
last_miss p n e = simp (add-one, e)

pub last_high : (p : ℕ → Bool) (n : ℕ) → last_below p n ≤ n
unfolding last_below
last_high p zero = omega arith
last_high p (suc n) = split (bool_cases (p n)) (λ e. rw e (omega arith)) (λ e. rw e (omega (arith, last_high p n)))

pub last_holds : (p : ℕ → Bool) (n : ℕ) → 0 < last_below p n → p (last_below p n - 1) ≡ true
unfolding last_below
last_holds p zero h = absurd (omega arith)
last_holds p (suc n) h =
    split (bool_cases (p n)) (λ e. let q : suc n - 1 ≡ n = omega arith in rw (e, q) e)
    (λ e. let l : 0 < last_below p n = rw e at h in rw e (last_holds p n l))

pub last_after : (p : ℕ → Bool) (n k : ℕ) → last_below p n ≤ k → k < n → p k ≡ false
unfolding last_below
last_after p zero k h l = absurd (omega arith)
last_after p (suc n) k h l =
    split (bool_cases (p n)) (λ e. let q : suc n ≤ k = rw e at h in absurd (omega arith))
    (λ e. let q : last_below p n ≤ k = rw e at h in
    split (lt_or_le k n) (λ w. last_after p n k q w) (λ w. let z : n ≡ k = omega arith in rw z at e))
