-- A call that stays stamps nothing; one that moves goes by its FCB's entry, and without one is refused.
use mathlib.Core.Path.{refl, sym, ◌∙◌}
use borrow.Author.Tests.{eq-eqb, ne_eqb}
use Rattle.format.specs.Diskette.{eight_inch}
use Rattle.model.specs.Lent.{lend}
use Rattle.model.specs.Target.{present_entry, stays}
use Rattle.stamping.specs.Dated.{current_beside}
use Rattle.stamping.specs.Due.{none_put, none_due, stay_stamps, not_current}
use Rattle.stamping.proofs.Before.record_due.Goals as goal

pub returns-then-target-extent : goal.returns-then-target-extent
unfolding stays
returns-then-target-extent c =
    let b = c.args.self.now in (
      none_put refl,
      λ buffer. none_due eight_inch b.asked (lend b.image.now b.map.now b.fcb.now buffer) b.session refl
          (stay_stamps eight_inch b.asked (lend b.image.now b.map.now b.fcb.now buffer) b.session c.requires
          (rw (← c.target_of-target.ensures.extent, ← c.extent.ensures.0) (eq-eqb _ _ c.if-target-extent.true))),
    )

pub returns-in_default : goal.returns-in_default
unfolding present_entry
returns-in_default c =
    let b = c.args.self.now in (
      none_put refl,
      λ buffer. not_current eight_inch b.asked _ b.session b.dated.right b.findable.user_low c.requires _ (sym c.current_entry.ensures ∙ c.in_default.is),
    )

pub move_due-requires : goal.move_due-requires
unfolding stays
move_due-requires c =
    let b = c.args.self.now in let d = b.dated in (
      c.requires,
      rw (← c.target_of-target.ensures.extent, ← c.extent.ensures.0) (ne_eqb _ _ c.if-target-extent.false),
      current_beside b.image.now d.right d.dates b.map.now b.session.user b.fcb.now b.findable.user_low _ (sym c.current_entry.ensures ∙ c.in-Some.is),
    )

pub returns : goal.returns
returns c = (c.move_due.ensures.0, λ buffer. c.move_due.ensures.1 c.args.self.now.map.now buffer (sym c.current_entry.ensures ∙ c.in-Some.is))
