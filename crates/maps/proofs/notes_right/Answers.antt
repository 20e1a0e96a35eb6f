-- The closure tells the definition's test, where the listed blocks are marked.
use mathlib.Core.Path.{refl, ◌∙◌}
use Prim.Native.Nat.{ℕ}
use borrow.Author.Tests.{tests}
use Rattle.std.proofs.Common.{rules}
use Rattle.std.proofs.lemmas.Iterator.{YieldsList-from_range}
use Rattle.std.proofs.lemmas.Iterator.Search.{all_from_yields_List}
use Rattle.lists.specs.Ranges.{all_range}
use Rattle.format.specs.Diskette.{eight_inch}
use Rattle.format.specs.Entries.{entry_at}
use Rattle.format.specs.Notes.{note_at_rule, note_right_rule, map_right}
use Rattle.maps.proofs.notes_right.Goals as goal

pub returns : goal.returns
unfolding map_right
returns c =
    let a = c.args in
    λ m. all_from_yields_List (λ (b : ℕ). note_right_rule eight_inch (entry_at eight_inch a.image.now) b (note_at_rule a.map.now b)) _ _
    c.all.result c.all.ensures.ran (YieldsList-from_range 0 eight_inch.blocks eight_inch.blocks refl refl) (λ x b q k. search (rules, tests))
    ∙ all_range _ eight_inch.blocks
