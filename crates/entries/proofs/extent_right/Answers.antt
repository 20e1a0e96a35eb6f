-- `entries::extent_right` meets its contract: the tests stand in the definition's order.
use mathlib.Core.Path.{sym, ◌∙◌}
use borrow.Author.Tests.{le-leb, lt-leb}
use Rattle.lists.specs.Tests.{and_then, and_fails_left}
use Rattle.entries.proofs.extent_right.Goals as goal

pub returns-else-r-le31 : goal.returns-else-r-le31
returns-else-r-le31 c = let past = lt-leb _ _ c.if-r-le31.false in past ∙ sym (and_fails_left _ _ past)

pub returns-then-r-le31 : goal.returns-then-r-le31
returns-then-r-le31 c = sym (and_then _ _ (le-leb _ _ c.if-r-le31.true))
