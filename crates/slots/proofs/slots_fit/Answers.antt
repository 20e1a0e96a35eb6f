-- The closure tells the definition's test.
use mathlib.Core.Path.{refl, ◌∙◌}
use borrow.Author.Tests.{tests}
use Rattle.std.proofs.Common.{rules}
use Rattle.std.proofs.lemmas.Iterator.{YieldsList-from_range}
use Rattle.std.proofs.lemmas.Iterator.Search.{all_from_yields_List}
use Rattle.lists.specs.Ranges.{all_range}
use Rattle.format.specs.Diskette.{eight_inch, slot_count}
use Rattle.format.specs.Fcb.{slot_fits_rule, slots_fit_rule}
use Rattle.slots.proofs.slots_fit.Goals as goal

pub returns : goal.returns
unfolding slots_fit_rule
returns c =
    let a = c.args in
    all_from_yields_List (slot_fits_rule eight_inch a.map.now a.e a.es a.fs) _ _ c.all.result c.all.ensures.ran
    (YieldsList-from_range 0 slot_count slot_count refl refl) (λ x b q k. search (rules, tests)) ∙ all_range _ slot_count
