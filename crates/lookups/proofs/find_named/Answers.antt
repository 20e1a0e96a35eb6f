-- The closure tells the definition's test.
use mathlib.Core.Path.{refl}
use Rattle.std.proofs.Common.{rules}
use borrow.Author.Tests.{tests}
use Rattle.format.specs.Diskette.{eight_inch}
use Rattle.format.specs.Entries.{entry_at, find_named_rule}
use Rattle.facts.specs.Search.{found_in_range}
use Rattle.facts.specs.Find.{named_test}
use Rattle.lookups.proofs.find_named.Goals as goal

pub returns : goal.returns
unfolding find_named_rule
returns c =
    let a = c.args in
    found_in_range (named_test (entry_at eight_inch a.image.now) a.wild a.user a.s.now a.q) 0 eight_inch.entries _ _ _ c.find.result c.find.ensures.ran refl refl (λ x b q k. search (rules, tests))
