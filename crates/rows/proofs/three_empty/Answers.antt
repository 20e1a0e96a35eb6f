-- The closure tells whether a row is empty by its first byte.
use mathlib.Core.Path.{refl, sym, ◌∙◌}
use native.Mathlib.Omega.{arith}
use Rattle.std.proofs.Common.{rules}
use borrow.Author.Tests.{tests}
use Prim.Native.Nat.{ℕ, ◌*◌}
use lib.Dec.{eqb}
use lib.ListN.{get_or}
use Rattle.std.proofs.lemmas.Iterator.{YieldsList-from_range}
use Rattle.std.proofs.lemmas.Iterator.Search.{all_from_yields_List}
use Rattle.lists.specs.Below.{all_cong}
use Rattle.lists.specs.Ranges.{all_range}
use Rattle.format.specs.Diskette.{entry_bytes}
use Rattle.rows.specs.Entries.{row_empty}
use Rattle.rows.proofs.three_empty.Goals as goal

pub returns : goal.returns
returns c =
    let four = c.args.four.now in
    all_from_yields_List (λ (i : ℕ). eqb (get_or four (i * entry_bytes) 0) 229) _ _ c.all.result c.all.ensures.ran (YieldsList-from_range 0 3 3 refl refl) (λ x b q k. search (rules, tests))
    ∙ all_range _ 3 ∙ all_cong _ _ 3 (λ i h. sym (row_empty four (i * entry_bytes) i refl (omega arith)))
