-- `daybook::close_told` meets its contract: by what the answer says.
use mathlib.Core.Path.{sym, ◌∙◌}
use Rattle.daybook.specs.Said.{of_entries}
use Rattle.daybook.proofs.close_told.Goals as goal

pub returns-then-entry_accepted : goal.returns-then-entry_accepted
returns-then-entry_accepted c = rw (sym (c.entry_accepted.ensures 16 of_entries.close) ∙ c.if-entry_accepted.true)

pub returns : goal.returns
returns c = rw (sym (c.entry_accepted.ensures 16 of_entries.close) ∙ c.if-entry_accepted.false) c.other.ensures
