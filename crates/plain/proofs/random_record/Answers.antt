-- An FCB whose numbers are out of range is refused; otherwise the record that it stands at is put into r0 to r2.
use mathlib.Core.Path.{refl, sym, ap}
use mathlib.Core.Bool.{not}
use Rattle.format.specs.Diskette.{eight_inch}
use Rattle.model.specs.Calls.{positioned}
use Rattle.model.specs.Kinds.{kind_of}
use Rattle.model.specs.Step.{told}
use Rattle.model.specs.declared.Code.TheVariants.{Failed}
use Rattle.table.specs.First.{here}
use Rattle.table.specs.Own.{calling}
use Rattle.table.specs.OwnStep.{refuses_own, quiet_own}
use Rattle.plain.proofs.random_record.Goals as goal

pub returns-then-not-position_right : goal.returns-then-not-position_right
returns-then-not-position_right c = λ asked image map buffer.
    refuses_own eight_inch (calling 36 asked) _ _ Failed _ (here (ap not (sym c.if-not-position_right.ensures)) refl) c.refuse.ensures

pub returns : goal.returns
unfolding positioned kind_of told
returns c =
    λ asked image map buffer. quiet_own eight_inch (calling 36 asked) _ _ _ refl (ap not (sym c.if-not-position_right.ensures), tt)
    (rw (c.done.ensures, c.put_three.ensures, c.extent.ensures.0, c.from.ensures))
