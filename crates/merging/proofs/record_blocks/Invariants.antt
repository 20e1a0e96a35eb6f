-- `merging::record_blocks` meets its contract. The invariant: the map is what the slots below j have made of it.
use mathlib.Core.Path.{◌≡◌}
use Rattle.lists.specs.Fold.{fold_below}
use Rattle.format.specs.Diskette.{eight_inch}
use Rattle.model.specs.Closing.{closed_note}
use Rattle.merging.proofs.record_blocks.Given as goal

abbrev pub invariant-loop-j : goal.invariant-loop-j
invariant-loop-j l = l.map ≡ fold_below (closed_note eight_inch l.es l.fs) l.initial.map l.j
