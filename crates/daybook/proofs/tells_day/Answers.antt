-- `daybook::tells_day` meets its contract: it is there first.
use mathlib.Core.Path.{sym, ◌∙◌}
use Rattle.lists.specs.Tests.{and_then, and_fails_left}
use Rattle.daybook.specs.Said.{of_records}
use Rattle.daybook.proofs.tells_day.Goals as goal

pub returns-then-record_accepted : goal.returns-then-record_accepted
returns-then-record_accepted c = c.has_stamp.ensures ∙ sym (and_then _ _ (sym (c.record_accepted.ensures 33 of_records.read) ∙ c.if-record_accepted.true))

pub returns-else-record_accepted : goal.returns-else-record_accepted
returns-else-record_accepted c =
    c.if-record_accepted.false ∙ sym (and_fails_left _ _ (sym (c.record_accepted.ensures 33 of_records.read) ∙ c.if-record_accepted.false))
