-- A session whose protection is lifted refuses nothing; one that is protected goes by the kind.
use mathlib.Core.Path.{sym, ◌∙◌}
use Rattle.lists.specs.Tests.{and_then, and_fails_left}
use Rattle.protection.proofs.refuses.Goals as goal

pub returns-then-is_protected : goal.returns-then-is_protected
returns-then-is_protected c n q = c.kind_changes.ensures n q ∙ sym (and_then _ _ (sym c.is_protected.ensures ∙ c.if-is_protected.true))

pub returns-else-is_protected : goal.returns-else-is_protected
returns-else-is_protected c n q = c.if-is_protected.false ∙ sym (and_fails_left _ _ (sym c.is_protected.ensures ∙ c.if-is_protected.false))
