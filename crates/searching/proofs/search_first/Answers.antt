-- An FCB that may not be searched for is refused; otherwise the search goes on from entry 0.
use mathlib.Core.Path.{sym, ◌∙◌}
use Rattle.format.specs.Diskette.{Bytes, eight_inch}
use Rattle.model.specs.declared.Code.TheVariants.{BadName}
use Rattle.model.specs.Lent.{Lent, lend}
use Rattle.model.specs.Search.{pattern_of}
use Rattle.table.specs.Own.{calling}
use Rattle.table.specs.OwnStep.{refuses_own}
use Rattle.searching.specs.Searches.{first_refused, first_searched}
use Rattle.searching.proofs.search_first.Goals as goal

pub returns-then-not-pattern_right : goal.returns-then-not-pattern_right
returns-then-not-pattern_right c =
    let a = c.args in
    let l : Bytes → Lent = λ map. lend a.image.now map a.fcb.now a.buffer.now in
    λ asked map. refuses_own eight_inch (calling 17 asked) (l map) a.session BadName c.refuse.result
    (first_refused eight_inch a.session (l map) asked (sym c.pattern_right.ensures ∙ c.if-not-pattern_right.true))
    c.refuse.ensures

pub returns : goal.returns
unfolding pattern_of
returns c =
    let b = c in
    let a = b.args in
    λ asked map. let l : Lent = lend a.image.now map a.fcb.now a.buffer.now in
    c.first_match.ensures map a.fcb.now
    ∙ rw c.get.ensures (first_searched eight_inch a.session l asked (sym b.pattern_right.ensures ∙ b.if-not-pattern_right.false))
