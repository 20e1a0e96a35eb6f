-- Each answer is that of the row that decides; where none holds, the FCB takes the entry found.
use mathlib.Core.Path.{refl, sym, ◌∙◌}
use mathlib.Core.List.{[]}
use Prim.Native.Nat.{◌<◌}
use borrow.Author.Rules.{rules}
use Rattle.format.specs.Diskette.{eight_inch}
use Rattle.model.specs.declared.Code.TheVariants.{BadName, Failed}
use Rattle.model.specs.Calls.{opened_at, opened}
use Rattle.model.specs.Kinds.{kind_of}
use Rattle.model.specs.Step.{told}
use Rattle.facts.specs.Found.{found_row, missed_row}
use Rattle.facts.specs.Naming.{run_own}
use Rattle.table.specs.First.{◌&◌, here, later}
use Rattle.table.specs.Own.{calling}
use Rattle.table.specs.OwnStep.{refuses_own, quiet_own}
use Rattle.asking.specs.Asked.{asked_wrong, asked_right, asked_below, asked_own}
use Rattle.files.proofs.open_file.Goals as goal

pub returns-then-not-asks_right : goal.returns-then-not-asks_right
returns-then-not-asks_right c asked map buffer =
    refuses_own eight_inch (calling 15 asked) _ _ BadName _ (asked_wrong _ _ (sym c.if-not-asks_right.ensures)) c.refuse.ensures

pub returns-in_default : goal.returns-in_default
returns-in_default c asked map buffer =
    let p = asked_right _ (sym c.if-not-asks_right.ensures) in
    refuses_own eight_inch (calling 15 asked) _ _ Failed _
    (later p.name (later p.ex (here (missed_row _ (sym (c.find_asked.ensures map buffer) ∙ c.in_default.is)) refl))) c.refuse-in_default.ensures

pub copy_row-requires : goal.copy_row-requires
copy_row-requires c =
    let low : c.in-Some.e < eight_inch.entries = asked_below eight_inch _ _ _ (sym (c.in-Some.ensures [] [])) in search rules

pub returns : goal.returns
unfolding opened opened_at kind_of told
returns c asked map buffer =
    let p = asked_right _ (sym c.if-not-asks_right.ensures) in
    let e = sym (c.in-Some.ensures map buffer) in
    quiet_own eight_inch (calling 15 asked) _ _ _ refl (p.name & p.ex & found_row _ e & tt)
    (rw (e, c.done_at.ensures, c.enter.ensures, c.copy_row.ensures, ← asked_own eight_inch run_own _ _ _ e))
