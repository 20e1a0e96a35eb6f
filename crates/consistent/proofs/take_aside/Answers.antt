-- Being a right date entry decides the choice, and what was called the rest.
use mathlib.Core.Path.{sym, ◌∙◌}
use Rattle.consistent.specs.Pass.{aside_taken, aside_after}
use Rattle.consistent.proofs.take_aside.Goals as goal

pub returns-then-dates_right-clause-takes : goal.returns-then-dates_right-clause-takes
unfolding aside_taken aside_after
returns-then-dates_right-clause-takes c = rw (sym c.dates_right.ensures ∙ c.if-dates_right.true) c.take_dates.ensures.takes

pub returns-clause-takes : goal.returns-clause-takes
unfolding aside_taken aside_after
returns-clause-takes c = rw (sym c.dates_right.ensures ∙ c.if-dates_right.false) c.take_label.ensures.takes
