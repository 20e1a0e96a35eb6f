-- The closure tells the definition's step.
use mathlib.Core.Path.{refl, ◌∙◌}
use mathlib.Core.Bool.{false}
use Rattle.std.proofs.Common.{rules}
use borrow.Author.Tests.{tests}
use Rattle.std.proofs.lemmas.Iterator.{YieldsList-from_range}
use Rattle.std.proofs.lemmas.Iterator.Consumers.{fold_from_yields_List}
use Rattle.lists.specs.Ranges.{fold_range}
use Rattle.format.specs.Diskette.{eight_inch}
use Rattle.format.specs.Entries.{entry_at, named}
use Rattle.model.specs.Calls.{larger_size_rule, file_size_rule}
use Rattle.files.proofs.largest_size.Goals as goal

pub returns : goal.returns
unfolding file_size_rule
returns c =
    let a = c.args in
    let n = eight_inch.entries in
    let step = larger_size_rule (entry_at eight_inch a.image.now) (named false a.user a.fcb.now 1) in
    fold_from_yields_List _ step 0 c.fold.result c.fold.ensures.ran (YieldsList-from_range 0 n n refl refl) (λ s e t q k. search (rules, tests)) ∙ fold_range step 0 n
