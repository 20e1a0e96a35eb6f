-- Each answer is that of the row that decides; where none holds, the first empty entry and the FCB take the new row.
use mathlib.Core.Path.{refl, sym, ap, ◌∙◌}
use Prim.Native.Nat.{◌<◌}
use Rattle.format.specs.Diskette.{eight_inch}
use Rattle.std.specs.Prelude.{is_some}
use Rattle.facts.specs.Find.{empty_says}
use Rattle.facts.specs.Found.{found_row, missed_row}
use Rattle.model.specs.declared.Code.TheVariants.{BadName, Failed, Exists}
use Rattle.model.specs.Calls.{created_at, created}
use Rattle.model.specs.Kinds.{kind_of}
use Rattle.model.specs.Step.{effect}
use Rattle.table.specs.First.{◌&◌, here, later}
use Rattle.table.specs.Own.{calling}
use Rattle.table.specs.OwnStep.{refuses_own, carries_own}
use Rattle.asking.specs.Asked.{asked_wrong, asked_right}
use borrow.Author.Rules.{rules}
use Rattle.files.proofs.make_file.Goals as goal

pub returns-then-not-asks_right : goal.returns-then-not-asks_right
returns-then-not-asks_right c asked map buffer =
    refuses_own eight_inch (calling 22 asked) _ _ BadName _ (asked_wrong _ _ (sym c.if-not-asks_right.ensures)) c.refuse.ensures

pub returns-in_default : goal.returns-in_default
returns-in_default c asked map buffer =
    let p = asked_right _ (sym c.if-not-asks_right.ensures) in
    let there = ap is_some (sym (c.find_asked.ensures map buffer) ∙ c.in_default.is) in
    refuses_own eight_inch (calling 22 asked) _ _ Exists _ (later p.name (later p.ex (here there refl))) c.refuse-in_default.ensures

pub returns-in_default-find_empty : goal.returns-in_default-find_empty
returns-in_default-find_empty c asked map buffer =
    let p = asked_right _ (sym c.if-not-asks_right.ensures) in
    let new = ap is_some (sym (c.in-None.ensures map buffer)) in
    refuses_own eight_inch (calling 22 asked) _ _ Failed _
    (later p.name (later p.ex (later new (here (missed_row _ (sym c.find_empty.ensures ∙ c.in_default-find_empty.is)) refl)))) c.refuse-in_default-find_empty.ensures

pub store_row-requires : goal.store_row-requires
store_row-requires c =
    let low : c.in-Some.e < eight_inch.entries = (empty_says eight_inch _ _ (sym c.in-Some.ensures)).below in search rules

pub returns : goal.returns
unfolding created created_at effect kind_of
returns c asked map buffer =
    let p = asked_right _ (sym c.if-not-asks_right.ensures) in
    let new = ap is_some (sym (c.in-None.ensures map buffer)) in
    let free = sym c.in-Some.ensures in
    carries_own eight_inch (calling 22 asked) _ _ _ (p.name & p.ex & new & found_row _ free & tt)
    (rw (free, c.done_at.ensures, c.store_row.ensures, c.copy_fields.ensures, c.made_row-row.ensures))
