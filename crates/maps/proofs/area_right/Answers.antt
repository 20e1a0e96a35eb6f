-- The closure tells the definition's test.
use mathlib.Core.Path.{refl, ◌∙◌}
use Prim.Native.Nat.{ℕ}
use lib.Dec.{eqb}
use borrow.Author.Tests.{tests}
use Rattle.std.proofs.Common.{rules}
use Rattle.std.proofs.lemmas.Iterator.{YieldsList-from_range}
use Rattle.std.proofs.lemmas.Iterator.Search.{all_from_yields_List}
use Rattle.lists.specs.Ranges.{all_range}
use Rattle.format.specs.Diskette.{eight_inch}
use Rattle.format.specs.Notes.{area_note, note_at_rule}
use Rattle.maps.specs.Told.{area_right_rule}
use Rattle.maps.proofs.area_right.Goals as goal

pub returns : goal.returns
unfolding area_right_rule
returns c =
    all_from_yields_List (λ (b : ℕ). eqb (note_at_rule c.args.map.now b) area_note) _ _ c.all.result c.all.ensures.ran
    (YieldsList-from_range 0 eight_inch.area eight_inch.area refl refl) (λ x b q k. search (rules, tests)) ∙ all_range _ eight_inch.area
