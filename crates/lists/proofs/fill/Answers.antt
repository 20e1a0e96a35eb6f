-- The loop keeps that the first i copies of v are pasted in.
use lib.Seq.{paste-zero}
use Rattle.lists.specs.Splice.{copies, length_copies, fill_more, paste_all}
use native.Mathlib.Omega.{arith}
use Rattle.lists.proofs.fill.Goals as goal

pub loop-i-init : goal.loop-i-init
loop-i-init c = paste-zero c.args.dst.now c.args.at (copies c.args.n c.args.v)

pub loop-i-preserved : goal.loop-i-preserved
loop-i-preserved c =
    let b = c in
    fill_more b.args.dst.now b.loop-i.dst b.args.at b.args.n b.args.v b.loop-i.i b.requires (omega arith) b.loop-i.invariant

pub returns : goal.returns
returns c =
    let b = c in
    paste_all b.args.dst.now b.loop-i.dst (copies b.args.n b.args.v) b.args.at b.loop-i.i (omega (arith, length_copies b.args.n b.args.v)) b.loop-i.invariant
