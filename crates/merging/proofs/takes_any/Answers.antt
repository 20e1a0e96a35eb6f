-- The closure tells the definition's test.
use mathlib.Core.Path.{refl, ◌∙◌}
use borrow.Author.Tests.{tests}
use Rattle.std.proofs.Common.{rules}
use Rattle.std.proofs.lemmas.Iterator.{YieldsList-from_range}
use Rattle.std.proofs.lemmas.Iterator.Search.{any_from_yields_List}
use Rattle.lists.specs.Ranges.{any_range}
use Rattle.format.specs.Diskette.{eight_inch, slot_count}
use Rattle.model.specs.Closing.{takes_slot_rule}
use Rattle.merging.proofs.takes_any.Goals as goal

pub returns : goal.returns
returns c =
    any_from_yields_List (takes_slot_rule eight_inch c.args.es c.args.fs) _ _ c.any.result c.any.ensures.ran
    (YieldsList-from_range 0 slot_count slot_count refl refl) (λ x b q k. search (rules, tests)) ∙ any_range _ slot_count
