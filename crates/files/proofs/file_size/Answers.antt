-- Each answer is that of the row that decides; where none holds, the largest size goes into r0 to r2.
use mathlib.Core.Path.{refl, sym, ap, ◌∙◌}
use mathlib.Core.Bool.{not}
use Rattle.format.specs.Diskette.{eight_inch}
use Rattle.model.specs.declared.Code.TheVariants.{BadName, Failed}
use Rattle.model.specs.Calls.{sized}
use Rattle.model.specs.Kinds.{kind_of}
use Rattle.model.specs.Step.{told}
use Rattle.model.specs.Table.{any_named}
use Rattle.table.specs.First.{◌&◌, here, later}
use Rattle.table.specs.Own.{calling}
use Rattle.table.specs.OwnStep.{refuses_own, quiet_own}
use Rattle.facts.specs.Found.{found_row, missed_row}
use Rattle.files.proofs.file_size.Goals as goal

pub returns-then-not-name_right : goal.returns-then-not-name_right
returns-then-not-name_right c asked map buffer =
    refuses_own eight_inch (calling 35 asked) _ _ BadName _ (here (ap not (sym c.if-not-name_right.ensures)) refl) c.refuse.ensures

pub returns-in_default : goal.returns-in_default
unfolding any_named
returns-in_default c asked map buffer =
    refuses_own eight_inch (calling 35 asked) _ _ Failed _ (later (ap not (sym c.if-not-name_right.ensures)) (here (missed_row _ (sym c.find_named.ensures ∙ c.in_default.is)) refl))
    c.refuse-in_default.ensures

pub returns : goal.returns
unfolding any_named sized kind_of told
returns c asked map buffer =
    quiet_own eight_inch (calling 35 asked) _ _ _ refl (ap not (sym c.if-not-name_right.ensures) & found_row _ (sym c.in-Some.ensures) & tt)
    (rw (c.done.ensures, c.put_three.ensures, c.largest_size-size.ensures))
