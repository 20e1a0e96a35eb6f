-- `picker::pick` meets its contract: the day first.
use mathlib.Core.Path.{sym, ◌∙◌}
use Rattle.format.specs.Diskette.{eight_inch}
use Rattle.logging.specs.Held.{held}
use Rattle.picker.specs.Laws.{picked_over, picked_looks}
use Rattle.picker.proofs.pick.Goals as goal

pub returns-then-day_over-clause-comes_to : goal.returns-then-day_over-clause-comes_to
returns-then-day_over-clause-comes_to c =
    let a = c.args in
    picked_over eight_inch a.time a.wanted (held a.disk.now) a.word.now (sym c.day_over.ensures ∙ c.if-day_over.true) _ c.wordless.ensures

pub returns-clause-comes_to : goal.returns-clause-comes_to
returns-clause-comes_to c =
    let a = c.args in
    c.look_up.ensures.comes_to
    ∙ picked_looks eight_inch a.time a.wanted (held a.disk.now) a.word.now (sym c.day_over.ensures ∙ c.if-day_over.false)
