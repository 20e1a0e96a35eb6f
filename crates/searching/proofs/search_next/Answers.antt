-- Without a search on it is refused; otherwise the search goes on from the session's place.
use mathlib.Core.Path.{◌∙◌}
use Rattle.format.specs.Diskette.{Bytes, eight_inch}
use Rattle.model.specs.declared.Code.TheVariants.{Failed}
use Rattle.model.specs.Lent.{Lent, lend}
use Rattle.table.specs.Own.{calling}
use Rattle.table.specs.OwnStep.{refuses_own}
use Rattle.searching.specs.Searches.{next_refused, next_searched}
use Rattle.searching.proofs.search_next.Goals as goal

pub returns-then-session-eq0 : goal.returns-then-session-eq0
returns-then-session-eq0 c =
    let a = c.args in
    let l : Bytes → Bytes → Lent = λ map fcb. lend a.image.now map fcb a.buffer.now in
    λ asked map fcb. refuses_own eight_inch (calling 18 asked) (l map fcb) a.session Failed c.refuse.result
    (next_refused eight_inch a.session (l map fcb) asked c.if-session-eq0.true) c.refuse.ensures

pub returns : goal.returns
returns c =
    let a = c.args in
    λ asked map fcb. let l : Lent = lend a.image.now map fcb a.buffer.now in
    c.first_match.ensures map fcb ∙ rw c.from.ensures (next_searched eight_inch a.session l asked c.if-session-eq0.false)
