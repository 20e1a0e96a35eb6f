-- Each way out is one case of the definition, and the look-up answers an entry of the directory, so that its row can be taken.
use Rattle.std.proofs.Common.{◌≡◌, sym, ◌∙◌, rules, ◌<◌}
use Rattle.format.specs.Diskette.{eight_inch}
use Rattle.format.specs.Entries.{entry_at, slots_of}
use Rattle.format.specs.Fcb.{slots_fit_rule}
use Rattle.facts.specs.Current.{current_wrong, current_missing}
use Rattle.facts.specs.Slots.{short_slots_of}
use Rattle.slots.specs.Slots.{same_slots_fit}
use Rattle.facts.specs.Find.{file_says}
use Rattle.current.specs.Current.{current_then}
use Rattle.current.proofs.current_entry.Goals.{then-slots_own, else-slots_own}
use Rattle.current.proofs.current_entry.Goals as goal

pub returns-then-not-fcb_right : goal.returns-then-not-fcb_right
returns-then-not-fcb_right c = sym (current_wrong _ _ _ _ _ (sym c.if-not-fcb_right.ensures))

pub returns-in_default : goal.returns-in_default
returns-in_default c =
    let missing = rw c.extent.ensures.0 at c.find_file.ensures in
    sym (current_missing _ _ _ _ _ (sym c.if-not-fcb_right.ensures) (sym missing ∙ c.in_default.is))

pub row-row-requires : goal.row-row-requires
row-row-requires c =
    let low : c.in-Some.e < eight_inch.entries = (file_says _ _ _ _ _ _ _ (sym c.in-Some.ensures)).below in
    search rules

pub slots_fit-fits-requires : goal.slots_fit-fits-requires
slots_fit-fits-requires c =
    let low : c.in-Some.e < eight_inch.entries = (file_says _ _ _ _ _ _ _ (sym c.in-Some.ensures)).below in
    search rules

-- slots that are the entry's own fit
pub returns : goal.returns
returns c =
    let d = entry_at eight_inch c.args.image.now in
    let m = c.args.map.now in
    let fcb = c.args.fcb.now in
    let e = c.in-Some.e in
    let fits : c.if-slots_own.fits ≡ slots_fit_rule eight_inch m e (slots_of (d e)) (slots_of fcb) =
    elim c.if-slots_own.branch [
      | then-slots_own w ↦ w.fits-is ∙ w.if-slots_own.true
          ∙ sym (same_slots_fit eight_inch _ _ (short_slots_of (d e)) (short_slots_of fcb) (sym (rw c.row-row.ensures.0 at w.if-slots_own.ensures)) m e)
      | else-slots_own w ↦ w.fits-is ∙ rw (w.slots_fit-fits.ensures, w.slots.ensures, w.slots-else-slots_own.ensures, c.row-row.ensures.0)
    ]
    in
    c.then_some.ensures
    ∙ current_then eight_inch d m c.args.user fcb e c.if-slots_own.fits (sym c.if-not-fcb_right.ensures)
    (sym (rw c.extent.ensures.0 at c.in-Some.ensures)) fits
