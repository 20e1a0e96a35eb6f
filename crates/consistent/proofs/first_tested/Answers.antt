-- Where none is passed over, nothing is said of them.
use native.Mathlib.Omega.{arith}
use Rattle.lists.specs.Below.{all_none}
use Rattle.consistent.proofs.first_tested.Goals as goal

pub returns : goal.returns
returns c = (all_none _, omega arith)
