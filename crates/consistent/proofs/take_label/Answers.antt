-- A second label is refused; else being right decides.
use mathlib.Core.Path.{refl, sym, ap, ◌∙◌}
use mathlib.Core.Bool.{not}
use Rattle.lists.specs.Cases.{clash}
use Rattle.lists.specs.Tests.{and_then, and_fails_left}
use Rattle.consistent.proofs.take_label.Goals as goal

pub returns-then-is_some-clause-takes : goal.returns-then-is_some-clause-takes
returns-then-is_some-clause-takes c = (sym (and_fails_left _ _ (ap not (sym c.is_some.ensures ∙ c.if-is_some.true))), λ t. clash (sym t))

pub returns-clause-takes : goal.returns-clause-takes
returns-clause-takes c = (c.label_right.ensures ∙ sym (and_then _ _ (ap not (sym c.is_some.ensures ∙ c.if-is_some.false))), λ t. refl)
