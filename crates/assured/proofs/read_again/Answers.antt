-- `assured::read_again` meets its contract: r0 to r2 are set, and the call is made.
use mathlib.Core.Path.{ap, ◌∙◌}
use Rattle.format.specs.Diskette.{Bytes, eight_inch}
use Rattle.model.specs.Lent.{lend}
use Rattle.model.specs.Step.{step}
use Rattle.table.specs.Own.{calling}
use Rattle.assured.proofs.read_again.Goals as goal

pub returns : goal.returns
returns c =
    let a = c.args in
    c.call.ensures
    ∙ ap (λ (y : Bytes). step eight_inch (calling 33 a.asked) (lend a.image.now a.map.now y a.back.now) a.session)
    c.put_three.ensures
