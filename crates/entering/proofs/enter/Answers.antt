-- Of its own extent a row is as it is.
use mathlib.Core.Path.{refl, ap, sym, ◌∙◌}
use Rattle.model.specs.Entering.{copied, interface_cleared, entered}
use Rattle.fields.specs.Entering.{as_extent_own}
use Rattle.entering.proofs.enter.Goals as goal

pub returns : goal.returns
unfolding entered
returns c =
    let a = c.args in
    c.copy_fields.ensures
    ∙ ap (copied a.fcb.now) (c.clear_interface.ensures ∙ ap interface_cleared (sym (as_extent_own _ _ refl)))
