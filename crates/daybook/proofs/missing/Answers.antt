-- `daybook::missing` meets its contract: 255, 0 or another refusal.
use mathlib.Core.Path.{sym, ◌∙◌}
use Rattle.daybook.proofs.missing.Goals as goal

pub returns-then-is_code : goal.returns-then-is_code
returns-then-is_code c l = rw (sym (c.is_code.ensures l) ∙ c.if-is_code.true)

pub returns : goal.returns
returns c l = rw (sym (c.is_code.ensures l) ∙ c.if-is_code.false) c.other.ensures
