-- The loop keeps that the first i copies of v are pasted in.
use mathlib.Core.Path.{◌≡◌}
use lib.Seq.{paste}
use Rattle.lists.specs.Splice.{copies}
use Rattle.lists.proofs.fill.Given as goal

abbrev pub invariant-loop-i : goal.invariant-loop-i
invariant-loop-i l = (l.dst ≡ paste l.initial.dst l.at (copies l.n l.v) l.i)
