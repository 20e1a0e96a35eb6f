-- The invariant: the bytes up to name byte i are the made row's, the others as they were.
use mathlib.Core.Path.{refl, sym}
use native.Mathlib.Omega.{arith}
use lib.ListN.{length-set}
use Rattle.model.specs.Entering.{made_row_rule}
use Rattle.fields.specs.Making.{byte_made}
use Rattle.entering.specs.Rows.{made_start, made_more, made_all, blank_zero}
use Rattle.entering.proofs.made_row.Goals as goal

pub loop-i-init : goal.loop-i-init
loop-i-init c = (made_start c.args.user c.args.fcb.now _ refl refl, refl)

pub loop-i-preserved : goal.loop-i-preserved
loop-i-preserved c =
    let l = c.loop-i in
    let a = c.args in
    (made_more (made_row_rule a.user a.fcb.now) _ l.r l.i _ (omega arith) (sym (byte_made a.user a.fcb.now l.i (omega arith))) l.invariant.0, simp length-set l.invariant.1)

pub returns : goal.returns
returns c =
    let l = c.loop-i in
    let a = c.args in
    made_all a.user a.fcb.now _ refl refl l.r l.i (blank_zero a.user) (omega arith) l.invariant.0
