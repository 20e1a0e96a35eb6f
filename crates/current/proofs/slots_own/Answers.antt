-- `current::slots_own` meets its contract: both are taken out, and compared.
use mathlib.Core.Path.{◌≡◌, ◌∙◌}
use Rattle.format.specs.Diskette.{Bytes}
use Rattle.slots.specs.Slots.{slots_same_rule}
use Rattle.current.proofs.slots_own.Goals as goal

both : (es fs gs hs : Bytes) → es ≡ gs → fs ≡ hs → slots_same_rule es fs ≡ slots_same_rule gs hs
both es fs gs hs p q = rw (p, q)

pub returns : goal.returns
returns c = c.same.ensures ∙ both _ _ _ _ c.copy_slots.ensures c.copy_slots-2.ensures
