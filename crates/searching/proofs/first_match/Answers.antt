-- Each way out is one case of the definition: the search is over, or e is the first entry that the pattern hits, and a number of an entry.
use mathlib.Core.Path.{sym, ◌∙◌}
use Rattle.format.specs.Diskette.{eight_inch}
use Rattle.model.specs.Lent.{lend}
use Rattle.searching.specs.Searches.{answers_over, answers_found}
use Rattle.searching.proofs.first_match.Goals as goal

pub returns-in_default : goal.returns-in_default
returns-in_default c =
    let a = c.args in
    λ map fcb. answers_over eight_inch a.session (lend a.image.now map fcb a.buffer.now) a.pattern a.from c.refuse.result
    (sym c.find_hit.ensures ∙ c.in_default.is) c.refuse.ensures

pub returns : goal.returns
returns c =
    let a = c.args in
    λ map fcb. answers_found eight_inch a.session (lend a.image.now map fcb a.buffer.now) a.pattern a.from
    c.in-Some.e c.accept.result c.search_from-next.result c.read_record.new.buf
    (sym c.in-Some.ensures) (rw c.entry_number.ensures at c.accept.ensures) c.search_from-next.ensures c.read_record.ensures
