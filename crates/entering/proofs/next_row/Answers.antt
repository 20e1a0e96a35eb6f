-- Zeros take the head of the row, then ex and s2.
use mathlib.Core.Path.{refl}
use borrow.Author.Rules.{rules}
use Rattle.lists.specs.Tab.{get_d_zeros}
use Rattle.lists.specs.Splice.{part}
use Rattle.entering.specs.Rows.{next_all}
use Rattle.entering.proofs.next_row.Goals as goal

pub returns : goal.returns
unfolding part
returns c =
    let a = c.args in
    next_all a.row _ a.ext (search rules) refl (get_d_zeros 32) c.put.new.dst c.put.ensures
