-- The loop keeps that the first j of the four are taken.
use Rattle.blocks.specs.Runs.{taken_none, taken_more}
use Rattle.blocks.proofs.take_four.Goals as goal

pub loop-j-init : goal.loop-j-init
loop-j-init c = taken_none _ _ _

pub loop-j-preserved : goal.loop-j-preserved
loop-j-preserved c =
    let a = c.args in let l = c.loop-j in let k = c.take_number-met in
    taken_more a.marks.now a.r.now a.at l.j l.marks l.met l.invariant k.new.marks k.result k.ensures.0 k.ensures.1
