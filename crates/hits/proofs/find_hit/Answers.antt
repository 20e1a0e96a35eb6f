-- The closure tells the definition's test.
use mathlib.Core.Path.{refl}
use Rattle.std.proofs.Common.{rules}
use borrow.Author.Tests.{tests}
use Rattle.format.specs.Diskette.{eight_inch}
use Rattle.format.specs.Entries.{entry_at}
use Rattle.facts.specs.Search.{found_in_range}
use Rattle.model.specs.Search.{find_hit_rule}
use Rattle.hits.specs.Hits.{hit_test}
use Rattle.hits.proofs.find_hit.Goals as goal

pub returns : goal.returns
unfolding find_hit_rule
returns c =
    let a = c.args in
    found_in_range (hit_test eight_inch (entry_at eight_inch a.image.now) a.user a.pattern.now) a.from eight_inch.entries _ _ _ c.find.result c.find.ensures.ran refl refl (λ x b q k. search (rules, tests))
