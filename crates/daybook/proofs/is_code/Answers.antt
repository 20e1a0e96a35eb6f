-- `daybook::is_code` meets its contract: A first, then H.
use mathlib.Core.Path.{sym, ◌∙◌}
use borrow.Author.Tests.{eq-eqb, ne_eqb}
use Rattle.lists.specs.Tests.{and_then, and_fails_left}
use Rattle.picking.specs.Picker.{is_code}
use Rattle.daybook.proofs.is_code.Goals as goal

pub returns-then-answer-a : goal.returns-then-answer-a
unfolding is_code
returns-then-answer-a c l = sym (and_then _ _ (eq-eqb _ _ c.if-answer-a.true))

pub returns-else-answer-a : goal.returns-else-answer-a
unfolding is_code
returns-else-answer-a c l = let z = ne_eqb _ _ c.if-answer-a.false in z ∙ sym (and_fails_left _ _ z)
