-- `daybook::read_trouble` meets its contract: one code or the other, or another refusal.
use mathlib.Core.Path.{sym, ◌∙◌}
use Rattle.lists.specs.Tests.{or_left, or_right, or_then}
use Rattle.daybook.proofs.read_trouble.Goals as goal
use Rattle.daybook.proofs.read_trouble.Goals.{then-is_code-via-then-is_code, then-is_code-via-else-is_code+then-is_code-2}

pub returns-then-is_code : goal.returns-then-is_code
returns-then-is_code c l =
    elim c.then-is_code.branch [
      | then-is_code-via-then-is_code w ↦ rw (or_left _ _ (sym (c.is_code.ensures l) ∙ w.if-is_code.true))
      | then-is_code-via-else-is_code+then-is_code-2 w ↦ rw (or_right _ _ (sym (w.is_code-else-is_code.ensures l) ∙ w.if-is_code-2.true))
    ]

pub returns : goal.returns
returns c l =
    rw (
      or_then _ _ (sym (c.is_code.ensures l) ∙ c.if-is_code.false),
      sym (c.is_code-else-is_code.ensures l) ∙ c.if-is_code-2.false,
    ) c.other.ensures
