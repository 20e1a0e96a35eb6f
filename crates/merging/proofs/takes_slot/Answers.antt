-- `merging::takes_slot` meets its contract.
use Rattle.format.specs.Entries.{slot_in}
use mathlib.Core.Path.{sym, ◌∙◌}
use borrow.Author.Tests.{eq-eqb, ne_eqb}
use Rattle.lists.specs.Tests.{and_fails_left, and_then}
use Rattle.model.specs.Closing.{takes_slot_rule}
use Rattle.merging.proofs.takes_slot.Goals as goal

pub returns-else-es-j-eq0 : goal.returns-else-es-j-eq0
unfolding takes_slot_rule slot_in
returns-else-es-j-eq0 c = let some = ne_eqb _ _ c.if-es-j-eq0.false in some ∙ sym (and_fails_left _ _ some)

pub returns-then-es-j-eq0 : goal.returns-then-es-j-eq0
unfolding takes_slot_rule slot_in
returns-then-es-j-eq0 c = sym (and_then _ _ (eq-eqb _ _ c.if-es-j-eq0.true))
