-- `merging::record_blocks` meets its contract. The invariant: the map is what the slots below j have made of it.
use mathlib.Core.Path.{sym, ◌∙◌}
use native.Mathlib.Omega.{arith}
use Rattle.lists.specs.Fold.{fold_none, fold_more, fold_done}
use Rattle.format.specs.Diskette.{slot_count, eight_inch}
use Rattle.model.specs.Closing.{closed_note}
use Rattle.merging.specs.Merging.{same_none}
use Rattle.fields.specs.Closing.{recorded_none}
use Rattle.merging.proofs.record_blocks.Goals as goal

pub returns-then-slots_same : goal.returns-then-slots_same
returns-then-slots_same c = let a = c.args in sym (recorded_none eight_inch a.es a.fs
    (same_none eight_inch a.es a.fs (omega arith) (omega arith) (sym c.slots_same.ensures ∙ c.if-slots_same.true)) a.map.now)

pub loop-j-init : goal.loop-j-init
loop-j-init c = sym (fold_none _ _)

pub loop-j-preserved : goal.loop-j-preserved
loop-j-preserved c =
    let l = c.loop-j in
    fold_more (closed_note eight_inch c.args.es c.args.fs) c.args.map.now l.map _ l.j l.invariant c.record_block.ensures

pub returns : goal.returns
returns c =
    let l = c.loop-j in
    fold_done (closed_note eight_inch c.args.es c.args.fs) c.args.map.now l.map l.j slot_count (omega arith) (omega arith) l.invariant
