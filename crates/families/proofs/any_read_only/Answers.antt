-- The closure tells the definition's test.
use mathlib.Core.Path.{refl, ◌∙◌}
use mathlib.Core.Bool.{Bool}
use Prim.Native.Nat.{ℕ}
use Rattle.std.proofs.Common.{rules}
use borrow.Author.Tests.{tests}
use Rattle.std.proofs.lemmas.Iterator.{YieldsList-from_range}
use Rattle.std.proofs.lemmas.Iterator.Search.{any_from_yields_List}
use Rattle.lists.specs.Tests.{◌and◌}
use Rattle.lists.specs.Ranges.{any_range}
use Rattle.format.specs.Diskette.{Bytes, eight_inch}
use Rattle.format.specs.Entries.{entry_at, named, read_only}
use Rattle.model.specs.Table.{any_read_only_rule}
use Rattle.families.proofs.any_read_only.Goals as goal

-- the test at each entry
abbrev guarded : Bytes → Bool → ℕ → Bytes → ℕ → Bool
guarded image wild user fcb e = named wild user fcb 1 (entry_at eight_inch image e) and read_only (entry_at eight_inch image e)

pub returns : goal.returns
unfolding any_read_only_rule
returns c map buffer =
    let a = c.args in
    let n = eight_inch.entries in
    let test = guarded a.image.now a.wild a.user a.fcb.now in
    any_from_yields_List test _ _ c.any.result c.any.ensures.ran (YieldsList-from_range 0 n n refl refl) (λ x b q k. search (rules, tests)) ∙ any_range test n
