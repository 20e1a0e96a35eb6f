-- `daybook::entry_accepted` meets its contract: H first, then A.
use mathlib.Core.Path.{sym, ◌∙◌}
use borrow.Author.Tests.{eq-eqb, ne_eqb}
use Rattle.lists.specs.Tests.{and_then, and_fails_left}
use Rattle.table.specs.Accepted.{accepted_answer}
use Rattle.daybook.proofs.entry_accepted.Goals as goal

pub returns-then-answer-eq0 : goal.returns-then-answer-eq0
unfolding accepted_answer
returns-then-answer-eq0 c number k = sym (and_then _ _ (eq-eqb _ _ c.if-answer-eq0.true) ∙ rw k)

pub returns-else-answer-eq0 : goal.returns-else-answer-eq0
unfolding accepted_answer
returns-else-answer-eq0 c number k = let z = ne_eqb _ _ c.if-answer-eq0.false in z ∙ sym (and_fails_left _ _ z)
