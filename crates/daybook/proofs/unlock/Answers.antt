-- `daybook::unlock` meets its contract: the protection is lifted where it is set.
use mathlib.Core.Path.{sym, ◌∙◌}
use Rattle.picking.specs.Picker.{unlocked}
use Rattle.daybook.proofs.unlock.Goals as goal

pub returns-then-is_protected : goal.returns-then-is_protected
unfolding unlocked
returns-then-is_protected c = rw (sym c.is_protected.ensures ∙ c.if-is_protected.true) c.lift.ensures

pub returns : goal.returns
unfolding unlocked
returns c = rw (sym c.is_protected.ensures ∙ c.if-is_protected.false)
