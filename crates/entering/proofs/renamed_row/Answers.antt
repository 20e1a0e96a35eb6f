-- The invariant: the bytes up to name byte i are the renamed row's, the others the row's.
use mathlib.Core.Path.{◌≡◌, sym, ◌∙◌}
use native.Mathlib.Omega.{arith}
use lib.ListN.{length, length-set}
use borrow.Author.Rules.{rules}
use Rattle.model.specs.Entering.{renamed_row_rule, renamed_byte}
use Rattle.fields.specs.Making.{byte_renamed}
use Rattle.entering.specs.Rows.{renamed_start, made_more, renamed_all}
use Rattle.entering.proofs.renamed_row.Goals as goal

pub loop-i-init : goal.loop-i-init
loop-i-init c = let a = c.args in (renamed_start a.fcb.now a.row (search rules), search rules)

pub loop-i-preserved : goal.loop-i-preserved
unfolding renamed_byte
loop-i-preserved c =
    let l = c.loop-i in
    let a = c.args in
    let h : length a.row ≡ 32 = search rules in
    (made_more (renamed_row_rule a.fcb.now a.row) a.row l.r l.i _ (omega arith) (c.renamed_byte.ensures ∙ sym (byte_renamed a.fcb.now a.row h l.i (omega arith))) l.invariant.0, simp length-set l.invariant.1)

pub returns : goal.returns
returns c =
    let l = c.loop-i in
    let a = c.args in
    renamed_all a.fcb.now a.row (search rules) l.r l.i (omega arith) l.invariant.0
