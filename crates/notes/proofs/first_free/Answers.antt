-- The closure tells the definition's test.
use mathlib.Core.Path.{refl}
use Rattle.std.proofs.Common.{rules}
use borrow.Author.Tests.{tests}
use Rattle.format.specs.Diskette.{eight_inch}
use Rattle.format.specs.Notes.{is_free, find_free}
use Rattle.facts.specs.Search.{found_in_range}
use Rattle.notes.proofs.first_free.Goals as goal

pub returns : goal.returns
unfolding find_free is_free
returns c = found_in_range (is_free c.args.map.now) 0 eight_inch.blocks _ _ _ c.find.result c.find.ensures.ran refl refl (λ x b q k. search (rules, tests))
