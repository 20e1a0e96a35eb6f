-- Each arm is the kind in its number's line; the rest are the numbers that none of the lines has.
use mathlib.Core.Path.{◌≡◌, refl, sym}
use mathlib.Core.List.{List, [], ◌∷◌}
use Prim.Native.Nat.{ℕ}
use Rattle.model.specs.Kinds.{Listed, calls, line_in, kind_of, same}
use Rattle.model.specs.declared.Kind.TheVariants.{Unlisted}
use Rattle.table.specs.Own.{same_is}
use Rattle.calls.specs.Arms.{at, None, rest}
use Rattle.calls.proofs.kind_of.Goals as goal

abbrev numbers : List ℕ
numbers = 13 ∷ 15 ∷ 16 ∷ 17 ∷ 18 ∷ 19 ∷ 20 ∷ 21 ∷ 22 ∷ 23 ∷ 32 ∷ 33 ∷ 34 ∷ 35 ∷ 36 ∷ 46 ∷ 98 ∷ []

arm : {n k : ℕ} → n ≡ k → (line_in k calls).kind ≡ kind_of n
unfolding kind_of
arm q = at (λ (c : Listed). c.kind) q

others : (told : Type 0) (n : ℕ) → None told n numbers → Unlisted ≡ kind_of n
unfolding kind_of
others told n x = sym (same_is (line_in n calls).kind Unlisted (rest (λ (c : Listed). same c.kind Unlisted) told n numbers refl refl x))

pub returns-in-13 : goal.returns-in-13
returns-in-13 c = arm c.in-13.is

pub returns-in-15 : goal.returns-in-15
returns-in-15 c = arm c.in-15.is

pub returns-in-16 : goal.returns-in-16
returns-in-16 c = arm c.in-16.is

pub returns-in-17 : goal.returns-in-17
returns-in-17 c = arm c.in-17.is

pub returns-in-18 : goal.returns-in-18
returns-in-18 c = arm c.in-18.is

pub returns-in-19 : goal.returns-in-19
returns-in-19 c = arm c.in-19.is

pub returns-in-20 : goal.returns-in-20
returns-in-20 c = arm c.in-20.is

pub returns-in-21 : goal.returns-in-21
returns-in-21 c = arm c.in-21.is

pub returns-in-22 : goal.returns-in-22
returns-in-22 c = arm c.in-22.is

pub returns-in-23 : goal.returns-in-23
returns-in-23 c = arm c.in-23.is

pub returns-in-32 : goal.returns-in-32
returns-in-32 c = arm c.in-32.is

pub returns-in-33 : goal.returns-in-33
returns-in-33 c = arm c.in-33.is

pub returns-in-34 : goal.returns-in-34
returns-in-34 c = arm c.in-34.is

pub returns-in-35 : goal.returns-in-35
returns-in-35 c = arm c.in-35.is

pub returns-in-36 : goal.returns-in-36
returns-in-36 c = arm c.in-36.is

pub returns-in-46 : goal.returns-in-46
returns-in-46 c = arm c.in-46.is

pub returns-in-98 : goal.returns-in-98
returns-in-98 c = arm c.in-98.is

pub returns-in_default : goal.returns-in_default
returns-in_default c = others _ _ c.in_default.in_default-own.rest
