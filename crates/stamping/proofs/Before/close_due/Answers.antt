-- The entry of the FCB decides; where there is none, the call is refused.
use mathlib.Core.Path.{refl, sym, ◌∙◌}
use Rattle.format.specs.Diskette.{eight_inch}
use Rattle.model.specs.Target.{present_entry}
use Rattle.facts.specs.Beside.{Beside}
use Rattle.stamping.specs.Dated.{nothing_beside, current_beside}
use Rattle.stamping.specs.Due.{none_put, updated_beside, close_missed, close_due_law}
use Rattle.stamping.proofs.Before.close_due.Goals as goal

pub returns-in_default : goal.returns-in_default
unfolding present_entry
returns-in_default c =
    (none_put refl, λ asked buffer. close_missed eight_inch asked _ _ _ (sym c.current_entry.ensures ∙ c.in_default.is))

pub updated-update-requires : goal.updated-update-requires
updated-update-requires c =
    let b = c.args.self.now in let d = b.dated in
    (current_beside b.image.now d.right d.dates b.map.now b.session.user b.fcb.now b.findable.user_low _ (sym c.current_entry.ensures ∙ c.in-Some.is)).below

pub returns : goal.returns
unfolding present_entry
returns c =
    let b = c.args.self.now in let d = b.dated in
    let found = sym c.current_entry.ensures ∙ c.in-Some.is in
    let beside : Beside eight_inch c.in-Some.e = current_beside b.image.now d.right d.dates b.map.now b.session.user b.fcb.now b.findable.user_low _ found in (
      record { update = updated_beside eight_inch _ _ _ c.updated-update.ensures beside; new = nothing_beside eight_inch; first = nothing_beside eight_inch },
      λ asked buffer. close_due_law eight_inch asked _ _ _ _ found c.updated-update.ensures,
    )
