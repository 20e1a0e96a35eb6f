-- The sum and the masks make the fault of the word, which tells of its lanes.
use mathlib.Core.Path.{ap, ◌∙◌}
use Prim.Native.Nat.{ℕ}
use native.Mathlib.Omega.{arith}
use lib.Dec.{eqb}
use lib.Bits.{and_le_r}
use Rattle.dates.specs.Bcd.{pair_sixes, pair_eights, fault, pair_tells}
use Rattle.dates.proofs.pair_fault.Goals as goal

pub overflow_add-result : goal.overflow_add-result
overflow_add-result c = omega (arith, and_le_r c.word-w.result pair_sixes)

pub returns : goal.returns
unfolding fault
returns c = let a = c.args in let w = c.word-w.ensures in ap (λ (x : ℕ). eqb (fault pair_sixes pair_eights x) 0) w.0 ∙ pair_tells a.r.now a.at w.1
