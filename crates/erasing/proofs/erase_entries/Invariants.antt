-- The loop's invariant: the entries below e are done, and marked where they were erased.
use mathlib.Core.Path.{◌≡◌}
use mathlib.Core.Bool.{true}
use lib.ListN.{length}
use Rattle.format.specs.Diskette.{eight_inch}
use Rattle.format.specs.Entries.{named}
use Rattle.erasing.specs.Erasing.{Erasing}
use Rattle.erasing.proofs.erase_entries.Given as goal

abbrev pub invariant-loop-e : goal.invariant-loop-e
invariant-loop-e l =
    Erasing eight_inch (named true l.user l.fcb 1) l.initial.image l.initial.map l.initial.picked l.e l.image l.map l.picked
    × (length l.picked ≡ eight_inch.entries)
