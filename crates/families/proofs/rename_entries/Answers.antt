-- The loop's invariant: the image is the lent one with its entries below e renamed.
use mathlib.Core.Path.{sym}
use native.Mathlib.Omega.{arith}
use Rattle.lists.specs.Fold.{fold_none, fold_more, fold_done}
use Rattle.model.specs.Calls.{changed_rows}
use Rattle.families.proofs.rename_entries.Goals as goal

pub loop-e-init : goal.loop-e-init
loop-e-init c = sym (fold_none _ _)

pub loop-e-preserved : goal.loop-e-preserved
loop-e-preserved c = fold_more _ _ _ _ _ c.loop-e.invariant c.rename_entry.ensures

pub returns : goal.returns
unfolding changed_rows
returns c = fold_done _ _ _ _ _ (omega arith) (omega arith) c.loop-e.invariant
