-- The answer of a look-up: what it is, what it says, and the turns of the loop that makes it.
use Rattle.std.specs.Prelude.{◌≡◌, refl, Bool, true, false, not, ℕ, ◌≤◌, ◌<◌, None, Option, Some, is_some}
use Rattle.std.proofs.Common.{sym, ap, ◌∙◌, arith, lt-ltb, le-ltb}
use Rattle.lists.specs.Cases.{split, clash, lt_or_le}
use Rattle.lists.specs.Below.{first_in, first_hit, first_end, first_low, first_holds, first_before, first_is, first_none}
use Rattle.format.specs.Found.{found_below}

-- ---- the two answers
pub at_not_nothing : (e : ℕ) → Some e ≡ None → ⊥
at_not_nothing e q = let z : ◌≡◌ {A = ℕ} 0 1 = cc in omega arith

pub at_once : (k e : ℕ) → Some k ≡ Some e → k ≡ e
at_once k e q = cc

-- by cases, with the answer in hand
pub found_cases : {A : Type 0} (f : Option ℕ) → ((k : ℕ) → f ≡ Some k → A) → (f ≡ None → A) → A
found_cases (Some k) a b = a k refl
found_cases None a b = b refl

-- an answer that has found something, and one that has not
pub record FoundAt (r : Option ℕ) : Type 0 where
  pub place : ℕ
  pub is : r ≡ Some place

pub is_found_law : (r : Option ℕ) → is_some r ≡ true → FoundAt r
is_found_law (Some k) h = record { place = k; is = refl }
is_found_law None h = clash (sym h)

pub found_so : (r : Option ℕ) → FoundAt r → is_some r ≡ true
found_so r f = ap is_some f.is

pub not_found : (r : Option ℕ) → is_some r ≡ false → r ≡ None
not_found (Some k) h = clash h
not_found None h = refl

-- the test of a row that asks for something found
pub found_row : (r : Option ℕ) {e : ℕ} → r ≡ Some e → not (is_some r) ≡ false
found_row r q = rw q

pub missed_row : (r : Option ℕ) → r ≡ None → not (is_some r) ≡ true
missed_row r q = rw q

-- ---- a number among n
pub found_at : (n k : ℕ) → k < n → found_below n k ≡ Some k
unfolding found_below
found_at n k h = rw (lt-ltb k n h)

pub found_nothing : (n k : ℕ) → n ≤ k → found_below n k ≡ None
unfolding found_below
found_nothing n k h = rw (le-ltb k n h)

pub found_says : (n k e : ℕ) → found_below n k ≡ Some e → (k ≡ e) × (e < n)
found_says n k e q =
    split (lt_or_le k n)
    (λ w. let p : k ≡ e = at_once k e (sym (found_at n k w) ∙ q) in (p, omega arith))
    (λ w. absurd (at_not_nothing e (sym q ∙ found_nothing n k w)))

pub nothing_says : (n k : ℕ) → found_below n k ≡ None → n ≤ k
nothing_says n k q = split (lt_or_le k n) (λ w. absurd (at_not_nothing k (sym (found_at n k w) ∙ q))) (λ w. w)

-- ---- the first number from i on, below n, that passes a test
pub record FirstAt (p : ℕ → Bool) (i n e : ℕ) : Type 0 where
  pub low : i ≤ e
  pub below : e < n
  pub holds : p e ≡ true
  pub before : (j : ℕ) → i ≤ j → j < e → p j ≡ false

module _ (p : ℕ → Bool) (i n : ℕ) where
  pub first_says : (e : ℕ) → found_below n (first_in p i n) ≡ Some e → FirstAt p i n e
  first_says e q =
      let s = found_says n (first_in p i n) e q in
      let k : first_in p i n ≡ e = s.0 in
      record {
        low = omega (arith, first_low p i n);
        below = s.1;
        holds = rw (← k) (first_holds p i n (omega (arith, s.1)));
        before = λ j a b. first_before p i n j a (omega arith);
      }

  pub first_is_at : (e : ℕ) → FirstAt p i n e → found_below n (first_in p i n) ≡ Some e
  first_is_at e f = rw (first_is p i n e f.low f.below f.holds f.before) (found_at n e f.below)

  -- none passes
  pub none_says : found_below n (first_in p i n) ≡ None → (j : ℕ) → i ≤ j → j < n → p j ≡ false
  none_says q j a b = first_before p i n j a (omega (arith, nothing_says n (first_in p i n) q))

  pub none_is : ((j : ℕ) → i ≤ j → j < n → p j ≡ false) → found_below n (first_in p i n) ≡ None
  none_is f =
      split (lt_or_le n i)
      (λ w. rw (first_end p i n (omega arith)) (found_nothing n i (omega arith)))
      (λ w. rw (first_none p i n w f) (found_nothing n n (omega arith)))

  -- the answer of a loop that has found it
  pub look_at : (k : ℕ) → first_in p i n ≡ k → k < n → Some k ≡ found_below n (first_in p i n)
  look_at k q h = sym (rw q (found_at n k h))

  -- a loop that has come to e: a hit there, and its end
  pub look_hit : (e : ℕ) → first_in p e n ≡ first_in p i n → e < n → p e ≡ true → Some e ≡ found_below n (first_in p i n)
  look_hit e q h t = look_at e (sym q ∙ first_hit p e n h t) h

  pub look_end : (e : ℕ) → first_in p e n ≡ first_in p i n → n ≤ e → None ≡ found_below n (first_in p i n)
  look_end e q h = sym (rw (← q, first_end p e n h) (found_nothing n e h))

-- two tests that agree find the same
pub find_cong : (n : ℕ) (p q : ℕ → Bool) → ((k : ℕ) → k < n → p k ≡ q k) → found_below n (first_in p 0 n) ≡ found_below n (first_in q 0 n)
find_cong n p q same =
    found_cases (found_below n (first_in q 0 n))
    (λ k h. let w = first_says q 0 n k h in
    first_is_at p 0 n k record {
      low = w.low;
      below = w.below;
      holds = same k w.below ∙ w.holds;
      before = λ j a b. same j (let c = w.below in omega arith) ∙ w.before j a b;
    } ∙ sym h)
    (λ h. none_is p 0 n (λ j a b. same j b ∙ none_says q 0 n h j a b) ∙ sym h)
