-- `extending::search` meets its contract: none of the records passed had the year and day.
use mathlib.Core.Path.{◌≡◌}
use mathlib.Core.Bool.{false}
use Rattle.format.specs.Diskette.{eight_inch}
use Rattle.picking.specs.Picker.{searched}
use Rattle.logging.specs.Held.{held, StillLent}
use Rattle.extending.specs.Laws.{searches}
use Rattle.extending.proofs.search.Given as goal

abbrev pub invariant-loop-r : goal.invariant-loop-r
invariant-loop-r l =
    (searches false (held l.disk) ≡ searched eight_inch l.time l.wanted (held l.initial.disk) l.fcb l.r) × StillLent l.initial.disk l.disk
