-- `daybook::write_trouble` meets its contract: the codes with a name of their own, one after the other.
use mathlib.Core.Path.{sym, ◌∙◌}
use Rattle.picking.specs.Picker.{write_trouble_rule}
use Rattle.daybook.proofs.write_trouble.Goals as goal

pub returns-then-is_code : goal.returns-then-is_code
unfolding write_trouble_rule
returns-then-is_code c l = rw (sym (c.is_code.ensures l) ∙ c.if-is_code.true)

pub returns-then-is_code-2 : goal.returns-then-is_code-2
unfolding write_trouble_rule
returns-then-is_code-2 c l =
    rw (sym (c.is_code.ensures l) ∙ c.if-is_code.false, sym (c.is_code-2.ensures l) ∙ c.if-is_code-2.true)

pub returns-then-is_code-3 : goal.returns-then-is_code-3
unfolding write_trouble_rule
returns-then-is_code-3 c l =
    rw (
      sym (c.is_code.ensures l) ∙ c.if-is_code.false,
      sym (c.is_code-2.ensures l) ∙ c.if-is_code-2.false,
      sym (c.is_code-3.ensures l) ∙ c.if-is_code-3.true,
    )

pub returns : goal.returns
unfolding write_trouble_rule
returns c l =
    rw (
      sym (c.is_code.ensures l) ∙ c.if-is_code.false,
      sym (c.is_code-2.ensures l) ∙ c.if-is_code-2.false,
      sym (c.is_code-3.ensures l) ∙ c.if-is_code-3.false,
    ) c.other.ensures
