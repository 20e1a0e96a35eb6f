-- 17, or else the one that is left.
use mathlib.Core.Path.{refl}
use Rattle.model.specs.declared.Kind.TheVariants.{Search}
use Rattle.dispatch.specs.Numbers.{other_of, at_number}
use Rattle.dispatch.proofs.search_call.Goals as goal

pub returns-then-number-eq17-clause-comes_to : goal.returns-then-number-eq17-clause-comes_to
returns-then-number-eq17-clause-comes_to c = at_number _ _ _ c.if-number-eq17.true (λ a. c.search_first.ensures a _)

pub returns-clause-comes_to : goal.returns-clause-comes_to
returns-clause-comes_to c =
    let p = c.requires in
    at_number _ _ _ (other_of Search 18 17 refl refl p.0 c.if-number-eq17.false) (λ a. c.search_next.ensures a _ _)
