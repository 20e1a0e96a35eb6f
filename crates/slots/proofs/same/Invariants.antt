-- `slots::same` meets its contract. The invariant: no bit differs exactly where the first j slots are the same.
use mathlib.Core.Path.{◌≡◌}
use Prim.Native.Nat.{ℕ}
use lib.Dec.{eqb}
use lib.ListN.{get_or}
use Rattle.lists.specs.Below.{all_below}
use Rattle.slots.proofs.same.Given as goal

abbrev pub invariant-loop-j : goal.invariant-loop-j
invariant-loop-j l = (eqb l.differ 0 ≡ all_below (λ (k : ℕ). eqb (get_or l.fs k 0) (get_or l.es k 0)) l.j)
