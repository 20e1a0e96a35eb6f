-- Each arm is a line of that kind; no other line is.
use mathlib.Core.Path.{◌≡◌, refl, sym}
use mathlib.Core.Bool.{false, not}
use mathlib.Core.List.{List, [], ◌∷◌}
use Prim.Native.Nat.{ℕ}
use borrow.Author.Tests.{not-true}
use Rattle.model.specs.Kinds.{Listed, calls, line_in, kind_of, same}
use Rattle.model.specs.declared.Kind.TheVariants.{Write}
use Rattle.calls.specs.Arms.{at, None, rest}
use Rattle.calls.proofs.writes.Goals as goal

abbrev numbers : List ℕ
numbers = 21 ∷ 34 ∷ []

arm : {n k : ℕ} → n ≡ k → same (line_in k calls).kind Write ≡ same (kind_of n) Write
unfolding kind_of
arm q = at (λ (c : Listed). same c.kind Write) q

others : (told : Type 0) (n : ℕ) → None told n numbers → false ≡ same (kind_of n) Write
unfolding kind_of
others told n x = sym (not-true _ (rest (λ (c : Listed). not (same c.kind Write)) told n numbers refl refl x))

pub returns-in-21 : goal.returns-in-21
returns-in-21 c = arm c.in-21.is

pub returns-in-34 : goal.returns-in-34
returns-in-34 c = arm c.in-34.is

pub returns-in_default : goal.returns-in_default
returns-in_default c = others _ _ c.in_default.in_default-own.rest
