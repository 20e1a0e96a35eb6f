-- The invariant: the bytes below i are the cleared row's, the others the row's.
use native.Mathlib.Omega.{arith}
use lib.ListN.{length-set}
use borrow.Author.Rules.{rules}
use Rattle.entering.specs.Rows.{cleared_start, cleared_more, cleared_all}
use Rattle.entering.proofs.clear_interface.Goals as goal

pub loop-i-init : goal.loop-i-init
loop-i-init c = (cleared_start c.args.row (search rules), search rules)

pub loop-i-preserved : goal.loop-i-preserved
loop-i-preserved c =
    let l = c.loop-i in
    (cleared_more c.args.row (search rules) l.i l.r (omega arith) (omega arith) l.invariant.0, simp length-set l.invariant.1)

pub returns : goal.returns
returns c = let l = c.loop-i in cleared_all c.args.row (search rules) l.i l.r (omega arith) l.invariant.0
