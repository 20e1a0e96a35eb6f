-- The loop counts the bytes passed that may not stand in a name: none, exactly where all may.
use Rattle.format.specs.Names.{name_byte_rule}
use Rattle.lists.specs.Count.{count_below}
use lib.ListN.{get_or}
use Prim.Native.Nat.{ℕ, ◌+◌, ◌≤◌}
use mathlib.Core.Bool.{not}
use mathlib.Core.Path.{◌≡◌}
use Rattle.names.proofs.name_right.Given as goal

abbrev pub invariant-loop-i : goal.invariant-loop-i
invariant-loop-i l = (l.faults ≡ count_below (λ (k : ℕ). not (name_byte_rule l.wild (get_or l.r (l.at + k) 0))) l.i) × (l.faults ≤ l.i)
