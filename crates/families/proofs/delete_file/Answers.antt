-- Each answer is that of the row that decides; where none holds, the entries are erased and their blocks freed.
use mathlib.Core.Path.{sym, ◌∙◌}
use mathlib.Core.Bool.{true}
use Rattle.format.specs.Diskette.{eight_inch}
use Rattle.families.specs.Steps.{some_named, none_named, delete_wrong, delete_missed, delete_guarded, delete_done}
use Rattle.families.proofs.delete_file.Goals as goal

pub returns-then-not-name_right : goal.returns-then-not-name_right
returns-then-not-name_right c asked buffer = delete_wrong eight_inch asked _ _ _ (sym c.if-not-name_right.ensures) c.refuse.ensures

pub returns-in_default : goal.returns-in_default
returns-in_default c asked buffer =
    let none = none_named eight_inch _ true _ 1 (sym c.find_named.ensures ∙ c.in_default.is) in
    delete_missed eight_inch asked _ _ _ (sym c.if-not-name_right.ensures) none c.refuse-in_default.ensures

pub returns-then-any_read_only : goal.returns-then-any_read_only
returns-then-any_read_only c asked buffer =
    let some = some_named eight_inch _ true _ 1 _ (sym c.in-Some.ensures) in
    delete_guarded eight_inch asked _ _ _ (sym c.if-not-name_right.ensures) some (sym (c.if-any_read_only.ensures _ buffer))
    c.refuse-then-any_read_only.ensures

pub returns : goal.returns
returns c asked buffer =
    let some = some_named eight_inch _ true _ 1 _ (sym c.in-Some.ensures) in
    let t = c.erase_entries.ensures in
    delete_done eight_inch asked _ _ _ (sym c.if-not-name_right.ensures) some _ _ (sym (c.if-any_read_only.ensures _ buffer)) c.done.ensures t.0 t.1
