-- The first three decide, then the fourth by its first byte.
use mathlib.Core.Path.{refl, sym, ◌∙◌}
use native.Mathlib.Omega.{arith}
use Rattle.lists.specs.Tests.{and_then, and_fails_left}
use Rattle.lists.specs.Below.{all_next}
use Rattle.rows.specs.Entries.{row_empty}
use Rattle.rows.proofs.all_empty.Goals as goal

pub returns-else-three_empty : goal.returns-else-three_empty
returns-else-three_empty c =
    let some = c.if-three_empty.false in some ∙ sym (all_next _ 3 ∙ and_fails_left _ _ (sym c.three_empty.ensures ∙ some))

pub returns-then-three_empty : goal.returns-then-three_empty
returns-then-three_empty c =
    let first = sym c.three_empty.ensures ∙ c.if-three_empty.true in
    sym (all_next _ 3 ∙ and_then _ _ first ∙ row_empty c.args.four.now 96 3 refl (omega (arith, c.requires)))
