-- `lists::put` meets its contract. The loop's invariant: the first i bytes of src are pasted in. Assumes nothing.
use native.Mathlib.Omega.{arith}
use lib.Seq.{paste-zero}
use Rattle.lists.specs.Splice.{paste_more, paste_all}
use Rattle.lists.proofs.put.Goals as goal

pub loop-i-init : goal.loop-i-init
loop-i-init c = paste-zero c.args.dst.now c.args.at c.args.src.now

pub loop-i-preserved : goal.loop-i-preserved
loop-i-preserved c =
    let b = c in
    paste_more b.args.dst.now b.loop-i.dst b.args.src.now b.args.at b.loop-i.i b.requires (omega arith) b.loop-i.invariant

pub returns : goal.returns
returns c =
    let b = c in
    paste_all b.args.dst.now b.loop-i.dst b.args.src.now b.args.at b.loop-i.i (omega arith) b.loop-i.invariant
