-- Where the FCB's end is later the three bytes are set as the definition sets them.
use mathlib.Core.Path.{sym, ◌∙◌}
use native.Mathlib.Omega.{arith}
use lib.ListN.{length-set}
use Rattle.fields.specs.Closing.{later_stays}
use Rattle.merging.specs.Merging.{later_takes}
use Rattle.merging.proofs.later_end.Goals as goal

pub returns-then-not-ends_later : goal.returns-then-not-ends_later
returns-then-not-ends_later c = sym (later_stays _ _ (sym c.ends_later.ensures ∙ c.if-not-ends_later.true))

pub bounds-row-14 : goal.bounds-row-14
bounds-row-14 c = simp length-set (omega arith)

pub bounds-row-15 : goal.bounds-row-15
bounds-row-15 c = simp length-set (omega arith)

pub returns : goal.returns
returns c =
    let l = c in
    later_takes _ _ _ (sym l.ends_later.ensures ∙ l.if-not-ends_later.false) c.count_of.ensures
