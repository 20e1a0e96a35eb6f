-- The loop's invariant: the image is the lent one with its entries below e renamed.
use mathlib.Core.Path.{◌≡◌}
use mathlib.Core.Bool.{false}
use Rattle.lists.specs.Fold.{fold_below}
use Rattle.format.specs.Diskette.{eight_inch}
use Rattle.format.specs.Entries.{named}
use Rattle.model.specs.Entering.{renamed_row_rule}
use Rattle.model.specs.Calls.{changed_row}
use Rattle.families.proofs.rename_entries.Given as goal

abbrev pub invariant-loop-e : goal.invariant-loop-e
invariant-loop-e l =
    l.image ≡ fold_below (changed_row eight_inch (named false l.user l.fcb 1) (renamed_row_rule l.fcb)) l.initial.image l.e
