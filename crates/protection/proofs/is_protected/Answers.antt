-- The test is the definition's.
use mathlib.Core.Path.{refl}
use Rattle.model.specs.Lent.{protected}
use Rattle.protection.proofs.is_protected.Goals as goal

pub returns : goal.returns
unfolding protected
returns c = refl
