-- Each arm is a line of one of the two kinds that move a record; no other line is.
use mathlib.Core.Path.{◌≡◌, refl, sym}
use mathlib.Core.Bool.{false, not}
use mathlib.Core.List.{List, [], ◌∷◌}
use Prim.Native.Nat.{ℕ}
use borrow.Author.Tests.{not-true}
use Rattle.model.specs.Kinds.{Listed, calls, line_in, kind_of, of_record}
use Rattle.calls.specs.Arms.{at, None, rest}
use Rattle.calls.proofs.moves_record.Goals as goal

abbrev numbers : List ℕ
numbers = 20 ∷ 21 ∷ 33 ∷ 34 ∷ []

arm : {n k : ℕ} → n ≡ k → of_record (line_in k calls).kind ≡ of_record (kind_of n)
unfolding kind_of
arm q = at (λ (c : Listed). of_record c.kind) q

others : (told : Type 0) (n : ℕ) → None told n numbers → false ≡ of_record (kind_of n)
unfolding kind_of
others told n x = sym (not-true _ (rest (λ (c : Listed). not (of_record c.kind)) told n numbers refl refl x))

pub returns-in-20 : goal.returns-in-20
returns-in-20 c = arm c.in-20.is

pub returns-in-21 : goal.returns-in-21
returns-in-21 c = arm c.in-21.is

pub returns-in-33 : goal.returns-in-33
returns-in-33 c = arm c.in-33.is

pub returns-in-34 : goal.returns-in-34
returns-in-34 c = arm c.in-34.is

pub returns-in_default : goal.returns-in_default
returns-in_default c = others _ _ c.in_default.in_default-own.rest
