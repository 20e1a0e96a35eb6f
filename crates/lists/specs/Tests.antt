-- Conjunction and disjunction of tests. They are shut: `and_left h` finds what it is about, which it cannot through the library's
-- `◌&&◌`, whose calls are written out wherever they stand.
use Rattle.std.specs.Prelude.{◌≡◌, refl, ◌⊎◌, Bool, true, false, not, cond}
use Rattle.std.proofs.Common.{sym, ◌∙◌, inl, inr}
use Rattle.lists.specs.Cases.{clash}

unfoldable pub ◌and◌ : Bool → Bool → Bool
true and b = b
false and b = false

infixr 30 ◌and◌
unfoldable pub ◌or◌ : Bool → Bool → Bool
true or b = true
false or b = b

infixr 25 ◌or◌
pub and_left : (a b : Bool) → (a and b) ≡ true → a ≡ true
unfolding ◌and◌
and_left true b h = refl
and_left false b h = h

pub and_right : (a b : Bool) → (a and b) ≡ true → b ≡ true
unfolding ◌and◌
and_right true b h = h
and_right false b h = clash (sym h)

pub and_both : (a b : Bool) → a ≡ true → b ≡ true → (a and b) ≡ true
unfolding ◌and◌
and_both a b p q = rw (p, q)

pub and_fails_left : (a b : Bool) → a ≡ false → (a and b) ≡ false
unfolding ◌and◌
and_fails_left a b p = rw p

pub and_fails_right : (a b : Bool) → b ≡ false → (a and b) ≡ false
unfolding ◌and◌
and_fails_right true b q = q
and_fails_right false b q = refl

-- the first test held, so the second decides
pub and_then : (a b : Bool) → a ≡ true → (a and b) ≡ b
unfolding ◌and◌
and_then a b p = rw p

-- the second test held, so the first decides
pub and_first : (a b : Bool) → b ≡ true → (a and b) ≡ a
unfolding ◌and◌
and_first true b q = q
and_first false b q = refl

-- the first test held and both together failed, so the second failed
pub second_fails : (a b : Bool) → (a and b) ≡ false → a ≡ true → b ≡ false
second_fails a b h t = sym (and_then a b t) ∙ h

pub and_assoc : (a b c : Bool) → ((a and b) and c) ≡ (a and b and c)
unfolding ◌and◌
and_assoc true b c = refl
and_assoc false b c = refl

-- a test and its contrary
pub and_not : (a : Bool) → (a and not a) ≡ false
unfolding ◌and◌
and_not true = refl
and_not false = refl

pub or_left : (a b : Bool) → a ≡ true → (a or b) ≡ true
unfolding ◌or◌
or_left a b p = rw p

pub or_right : (a b : Bool) → b ≡ true → (a or b) ≡ true
unfolding ◌or◌
or_right true b q = refl
or_right false b q = q

-- the first test failed, so the second decides
pub or_then : (a b : Bool) → a ≡ false → (a or b) ≡ b
unfolding ◌or◌
or_then a b p = rw p

-- the second test failed, so the first decides
pub or_first : (a b : Bool) → b ≡ false → (a or b) ≡ a
unfolding ◌or◌
or_first true b q = refl
or_first false b q = q

pub or_neither : (a b : Bool) → (a or b) ≡ false → (a ≡ false) × (b ≡ false)
unfolding ◌or◌
or_neither true b h = clash h
or_neither false b h = (refl, h)

pub or_cases : (a b : Bool) → (a or b) ≡ true → (a ≡ true) ⊎ (b ≡ true)
unfolding ◌or◌
or_cases true b h = inl refl
or_cases false b h = inr h

-- two tests, as code decides them: by the first alone, or by the second
pub ruleset short_circuits = (and_then, and_fails_left, or_then, or_left)

-- neither of two tests holds
pub not_or : (a b : Bool) → not (a or b) ≡ (not b and not a)
unfolding ◌and◌ ◌or◌
not_or true true = refl
not_or true false = refl
not_or false true = refl
not_or false false = refl

-- a choice made twice
pub cond_or : {A : Type 0} (a b : Bool) (x y : A) → cond b x (cond a x y) ≡ cond (a or b) x y
unfolding ◌or◌
cond_or true true x y = refl
cond_or true false x y = refl
cond_or false b x y = refl

-- tests that agree are equal: where they are computed at every number of a range, one test shows that they are the same throughout
unfoldable pub agree : Bool → Bool → Bool
agree true b = b
agree false b = not b

pub agree_same : (a b : Bool) → agree a b ≡ true → a ≡ b
unfolding agree
agree_same true true h = refl
agree_same true false h = sym h
agree_same false true h = h
agree_same false false h = refl

pub same_agree : (a b : Bool) → a ≡ b → agree a b ≡ true
unfolding agree
same_agree true b h = sym h
same_agree false b h = rw (← h)
