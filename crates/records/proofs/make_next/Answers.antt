-- The new row is made after the close, from the present one as it stands then.
use mathlib.Core.Path.{◌≡◌, ap, ◌∙◌}
use lib.ListN.{length}
use Rattle.format.specs.Entries.{entry_at, extent_of}
use Rattle.disk.specs.Eight.{eight_sound}
use Rattle.fields.specs.Making.{extent_next}
use Rattle.fields.specs.Images.{length_row_closed}
use Rattle.format.specs.Diskette.{Bytes, eight_inch}
use Rattle.model.specs.Closing.{closed_image}
use Rattle.model.specs.Target.{made}
use Rattle.records.proofs.make_next.Goals as goal

pub returns-clause-comes_to : goal.returns-clause-comes_to
unfolding made
returns-clause-comes_to c =
    let a = c.args in
    let img = a.lent.now.image.now in
    let fcb = a.lent.now.fcb.now in
    let next = c.next_row-row.ensures in
    let closed = c.close_entry.ensures in
    let after : Bytes = closed_image eight_inch img a.e fcb in
    let taken : c.copy_row.result ≡ entry_at eight_inch after a.e = c.copy_row.ensures ∙ ap (λ (i : Bytes). entry_at eight_inch i a.e) closed.0 in
    let whole = ap length taken ∙ length_row_closed eight_sound img c.requires.0 a.e c.requires.2 fcb a.e c.requires.2 in
    let own = ap extent_of next ∙ extent_next c.copy_row.result a.extent whole in
    rw (c.store_row.ensures, closed.0, closed.1, c.enter.ensures, own, next, taken)
