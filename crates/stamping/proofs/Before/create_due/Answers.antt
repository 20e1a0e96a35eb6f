-- The new entry is the first empty one; the label decides whether create gets the time.
use mathlib.Core.Path.{sym, ◌∙◌}
use Rattle.format.specs.Diskette.{eight_inch}
use Rattle.format.specs.Dates.{asks_create}
use Rattle.stamps.specs.Due.{BesideFound}
use Rattle.stamping.specs.Dated.{nothing_beside, empty_beside}
use Rattle.stamping.specs.Due.{new_due_rule, create_due_law}
use Rattle.stamping.proofs.Before.create_due.Goals as goal

pub returns-then-label_asks : goal.returns-then-label_asks
unfolding new_due_rule asks_create
returns-then-label_asks c =
    let b = c.args.self.now in let d = b.dated in
    let beside : BesideFound eight_inch c.find_empty-new.result = rw c.find_empty-new.ensures (empty_beside b.image.now d.right d.dates) in (
      record { update = nothing_beside eight_inch; new = beside; first = beside },
      λ asked map fcb buffer s. create_due_law eight_inch asked _ s _ _ c.find_empty-new.ensures (sym (rw (sym c.label_asks.ensures ∙ c.if-label_asks.true))),
    )

pub returns : goal.returns
unfolding new_due_rule asks_create
returns c =
    let b = c.args.self.now in let d = b.dated in
    let beside : BesideFound eight_inch c.find_empty-new.result = rw c.find_empty-new.ensures (empty_beside b.image.now d.right d.dates) in (
      record { update = nothing_beside eight_inch; new = beside; first = nothing_beside eight_inch },
      λ asked map fcb buffer s. create_due_law eight_inch asked _ s _ _ c.find_empty-new.ensures (sym (rw (sym c.label_asks.ensures ∙ c.if-label_asks.false))),
    )
