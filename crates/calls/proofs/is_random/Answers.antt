-- Each arm is what its number's line says; no other line says so.
use mathlib.Core.Path.{◌≡◌, refl, sym}
use mathlib.Core.Bool.{false, not}
use mathlib.Core.List.{List, [], ◌∷◌}
use Prim.Native.Nat.{ℕ}
use borrow.Author.Tests.{not-true}
use Rattle.model.specs.Kinds.{Listed, calls, line_in, is_random_rule}
use Rattle.calls.specs.Arms.{at, None, rest}
use Rattle.calls.proofs.is_random.Goals as goal

abbrev numbers : List ℕ
numbers = 33 ∷ 34 ∷ []

arm : {n k : ℕ} → n ≡ k → (line_in k calls).random ≡ is_random_rule n
unfolding is_random_rule
arm q = at (λ (c : Listed). c.random) q

others : (told : Type 0) (n : ℕ) → None told n numbers → false ≡ is_random_rule n
unfolding is_random_rule
others told n x = sym (not-true _ (rest (λ (c : Listed). not c.random) told n numbers refl refl x))

pub returns-in-33 : goal.returns-in-33
returns-in-33 c = arm c.in-33.is

pub returns-in-34 : goal.returns-in-34
returns-in-34 c = arm c.in-34.is

pub returns-in_default : goal.returns-in_default
returns-in_default c = others _ _ c.in_default.in_default-own.rest
