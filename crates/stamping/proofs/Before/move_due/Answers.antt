-- The target has an entry, or one is made in the first empty place.
use mathlib.Core.Path.{◌≡◌, sym, ◌∙◌}
use Rattle.format.specs.Diskette.{eight_inch}
use Rattle.format.specs.Entries.{entry_at, find_file_rule}
use Rattle.model.specs.Target.{target_extent, present_entry, target_entry}
use Rattle.stamping.specs.Dated.{nothing_beside, empty_beside}
use Rattle.stamping.specs.Due.{updated_beside, moves_due, makes_due}
use Rattle.stamping.proofs.Before.move_due.Goals as goal

pub returns-in_default : goal.returns-in_default
unfolding present_entry target_entry
returns-in_default c =
    let b = c.args.self.now in let r = c.requires in
    let u = c.updated-update.ensures in
    let target : c.find_file.result ≡ find_file_rule eight_inch (entry_at eight_inch b.image.now) b.session.user b.fcb.now 1 (target_extent b.asked.number b.fcb.now) =
    rw c.target_of-target.ensures.extent at c.find_file.ensures in (
      record { update = updated_beside eight_inch _ _ _ u r.2; new = nothing_beside eight_inch; first = nothing_beside eight_inch },
      λ map buffer at. moves_due eight_inch b.asked _ _ b.dated.right b.findable.user_low r.0 _ _ u at r.1 _ (sym target ∙ c.in_default.is),
    )

pub returns : goal.returns
unfolding present_entry target_entry
returns c =
    let b = c.args.self.now in let r = c.requires in let d = b.dated in
    let u = c.updated-update.ensures in
    let target : c.find_file.result ≡ find_file_rule eight_inch (entry_at eight_inch b.image.now) b.session.user b.fcb.now 1 (target_extent b.asked.number b.fcb.now) =
    rw c.target_of-target.ensures.extent at c.find_file.ensures in (
      record {
        update = updated_beside eight_inch _ _ _ u r.2;
        new = rw c.find_empty-made.ensures (empty_beside b.image.now d.right d.dates);
        first = nothing_beside eight_inch;
      },
      λ map buffer at. makes_due eight_inch b.asked _ _ d.right b.findable.user_low r.0 _ _ u at r.1 _ c.find_empty-made.ensures (sym target ∙ c.in-None.is),
    )
