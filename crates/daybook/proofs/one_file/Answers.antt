-- `daybook::one_file` meets its contract: each byte of one name against that of the other, in the low seven bits.
use mathlib.Core.Path.{◌∙◌}
use Rattle.std.proofs.Common.{rules}
use Rattle.std.proofs.lemmas.Iterator.{YieldsList-from_slice, YieldsList-from_zip}
use Rattle.std.proofs.lemmas.Iterator.Search.{all_from_yields_List}
use borrow.Author.Tests.{tests}
use Rattle.daybook.specs.Bytes.{alike, names_alike}
use Rattle.daybook.proofs.one_file.Goals as goal

pub returns : goal.returns
returns c =
    let w = c.args.wanted in
    all_from_yields_List alike c.all.new.self _ c.all.result c.all.ensures.ran
    (YieldsList-from_zip (YieldsList-from_slice w.book cc) (YieldsList-from_slice w.log cc)) (λ x b q k. search (rules, tests))
    ∙ names_alike w (search rules) (search rules)
