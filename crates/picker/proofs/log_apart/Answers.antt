-- `picker::log_apart` meets its contract: by the names.
use mathlib.Core.Path.{sym, ◌∙◌}
use Rattle.format.specs.Diskette.{eight_inch}
use Rattle.logging.specs.Held.{held}
use Rattle.picker.specs.Laws.{apart_one, apart_logs}
use Rattle.picker.proofs.log_apart.Goals as goal

pub returns-then-one_file-clause-comes_to : goal.returns-then-one_file-clause-comes_to
returns-then-one_file-clause-comes_to c =
    let a = c.args in
    apart_one eight_inch a.time a.wanted (held a.disk.now) (sym c.one_file.ensures ∙ c.if-one_file.true)

pub returns-clause-comes_to : goal.returns-clause-comes_to
returns-clause-comes_to c =
    let a = c.args in
    c.log_day.ensures.comes_to ∙ apart_logs eight_inch a.time a.wanted (held a.disk.now) (sym c.one_file.ensures ∙ c.if-one_file.false)
