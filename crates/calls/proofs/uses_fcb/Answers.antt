-- Each arm is what its number's line says; no other line says so.
use mathlib.Core.Path.{◌≡◌, refl, sym}
use mathlib.Core.Bool.{false, not}
use mathlib.Core.List.{List, [], ◌∷◌}
use Prim.Native.Nat.{ℕ}
use borrow.Author.Tests.{not-true}
use Rattle.model.specs.Kinds.{Listed, calls, line_in, uses_fcb_rule}
use Rattle.calls.specs.Arms.{at, None, rest}
use Rattle.calls.proofs.uses_fcb.Goals as goal

abbrev numbers : List ℕ
numbers = 15 ∷ 16 ∷ 17 ∷ 19 ∷ 20 ∷ 21 ∷ 22 ∷ 23 ∷ 33 ∷ 34 ∷ 35 ∷ 36 ∷ []

arm : {n k : ℕ} → n ≡ k → (line_in k calls).fcb ≡ uses_fcb_rule n
unfolding uses_fcb_rule
arm q = at (λ (c : Listed). c.fcb) q

others : (told : Type 0) (n : ℕ) → None told n numbers → false ≡ uses_fcb_rule n
unfolding uses_fcb_rule
others told n x = sym (not-true _ (rest (λ (c : Listed). not c.fcb) told n numbers refl refl x))

pub returns-in-15 : goal.returns-in-15
returns-in-15 c = arm c.in-15.is

pub returns-in-16 : goal.returns-in-16
returns-in-16 c = arm c.in-16.is

pub returns-in-17 : goal.returns-in-17
returns-in-17 c = arm c.in-17.is

pub returns-in-19 : goal.returns-in-19
returns-in-19 c = arm c.in-19.is

pub returns-in-20 : goal.returns-in-20
returns-in-20 c = arm c.in-20.is

pub returns-in-21 : goal.returns-in-21
returns-in-21 c = arm c.in-21.is

pub returns-in-22 : goal.returns-in-22
returns-in-22 c = arm c.in-22.is

pub returns-in-23 : goal.returns-in-23
returns-in-23 c = arm c.in-23.is

pub returns-in-33 : goal.returns-in-33
returns-in-33 c = arm c.in-33.is

pub returns-in-34 : goal.returns-in-34
returns-in-34 c = arm c.in-34.is

pub returns-in-35 : goal.returns-in-35
returns-in-35 c = arm c.in-35.is

pub returns-in-36 : goal.returns-in-36
returns-in-36 c = arm c.in-36.is

pub returns-in_default : goal.returns-in_default
returns-in_default c = others _ _ c.in_default.in_default-own.rest
