-- `daybook::relock` meets its contract: the protection is set where it was before.
use mathlib.Core.Path.{sym, ◌∙◌}
use Rattle.picking.specs.Picker.{relocked}
use Rattle.daybook.proofs.relock.Goals as goal

pub returns-then-is_protected : goal.returns-then-is_protected
unfolding relocked
returns-then-is_protected c = rw (sym c.is_protected.ensures ∙ c.if-is_protected.true) c.protect.ensures

pub returns : goal.returns
unfolding relocked
returns c = rw (sym c.is_protected.ensures ∙ c.if-is_protected.false)
