-- Numbers and tests by cases. Every law here takes a test as `b ≡ true` or `b ≡ false`, so that `cc` can refute.
use Rattle.std.specs.Prelude.{◌≡◌, refl, ◌⊎◌, Bool, true, false, cond, ℕ, ◌≤◌, ◌<◌, ltb, eqb}
use Rattle.std.proofs.Common.{sym, inl, inr, arith, ltb-true, ltb-false, eqb-true}
use Rattle.std.proofs.lemmas.Bool.{eqb-false}

-- by cases, the case first: what an arm binds then has its type before the arm's tactics run
pub split : {A B C : Type 0} → A ⊎ B → (A → C) → (B → C) → C
split (inl a) f g = f a
split (inr b) f g = g b

pub bool_cases : (b : Bool) → (b ≡ true) ⊎ (b ≡ false)
bool_cases true = inl refl
bool_cases false = inr refl

pub lt_or_le : (a b : ℕ) → (a < b) ⊎ (b ≤ a)
lt_or_le a b = split (bool_cases (ltb a b)) (λ e. inl (ltb-true a b e)) (λ e. inr (ltb-false a b e))

pub eq_or_ne : (a b : ℕ) → (a ≡ b) ⊎ (a ≡ b → ⊥)
eq_or_ne a b = split (bool_cases (eqb a b)) (λ e. inl (eqb-true a b e)) (λ e. inr (eqb-false a b e))

-- a test does not both hold and fail
pub not_both : {A : Type 0} (b : Bool) → b ≡ true → b ≡ false → A
not_both b t f = absurd (let z : ◌≡◌ {A = ℕ} 0 1 = cc in omega arith)

pub clash : {A : Type 0} → true ≡ false → A
clash q = absurd (let z : ◌≡◌ {A = ℕ} 0 1 = cc in omega arith)

-- a test that cannot hold is false; the answer of a function that returns early
pub refute : (b : Bool) → (b ≡ true → ⊥) → false ≡ b
refute true f = absurd (f refl)
refute false f = refl

-- tests that hold together are equal
pub bool_ext : (a b : Bool) → (a ≡ true → b ≡ true) → (b ≡ true → a ≡ true) → a ≡ b
bool_ext true b f g = sym (f refl)
bool_ext false true f g = g refl
bool_ext false false f g = refl

-- a test and then another, as a choice that computes: both hold
pub cond_both : (a b : Bool) → cond a b false ≡ true → (a ≡ true) × (b ≡ true)
cond_both true b h = (refl, h)
cond_both false b h = clash (sym h)

-- what holds of both arms of a choice holds of the choice, with the test's value in hand
pub cond_either : {A : Type 0} (P : A → Type 0) (b : Bool) {x y : A} → (b ≡ true → P x) → (b ≡ false → P y) → P (cond b x y)
cond_either P true f g = f refl
cond_either P false f g = g refl
