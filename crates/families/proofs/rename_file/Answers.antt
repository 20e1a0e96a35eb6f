-- Each answer is that of the row that decides; where none holds, every extent is renamed.
use mathlib.Core.Path.{sym, ◌∙◌}
use mathlib.Core.Bool.{false}
use Rattle.format.specs.Diskette.{eight_inch}
use Rattle.families.specs.Steps.{some_named, none_named, rename_wrong, rename_new_wrong, rename_missed, rename_guarded, rename_exists, rename_done}
use Rattle.families.proofs.rename_file.Goals.{then-not-name_right-via-then-not-name_right, then-not-name_right-via-else-not-name_right+then-not-name_right-2}
use Rattle.families.proofs.rename_file.Goals as goal

pub returns-then-not-name_right : goal.returns-then-not-name_right
returns-then-not-name_right c asked map buffer =
    elim c.then-not-name_right.branch [
      | then-not-name_right-via-then-not-name_right w ↦ rename_wrong eight_inch asked _ _ _ (sym w.if-not-name_right.ensures) c.refuse.ensures
      | then-not-name_right-via-else-not-name_right+then-not-name_right-2 w ↦
          rename_new_wrong eight_inch asked _ _ _ (sym w.if-not-name_right.ensures) (sym w.if-not-name_right-2.ensures) c.refuse.ensures
    ]

pub returns-in_default : goal.returns-in_default
returns-in_default c asked map buffer =
    let none = none_named eight_inch _ false _ 1 (sym c.find_named.ensures ∙ c.in_default.is) in
    rename_missed eight_inch asked _ _ _ (sym c.if-not-name_right.ensures) (sym c.if-not-name_right-2.ensures) none c.refuse-in_default.ensures

pub returns-then-any_read_only : goal.returns-then-any_read_only
returns-then-any_read_only c asked map buffer =
    let some = some_named eight_inch _ false _ 1 _ (sym c.in-Some.ensures) in
    rename_guarded eight_inch asked _ _ _ (sym c.if-not-name_right.ensures) (sym c.if-not-name_right-2.ensures) some
    (sym (c.if-any_read_only.ensures map buffer)) c.refuse-then-any_read_only.ensures

pub returns-in_default-find_named : goal.returns-in_default-find_named
returns-in_default-find_named c asked map buffer =
    let some = some_named eight_inch _ false _ 1 _ (sym c.in-Some.ensures) in
    let there = some_named eight_inch _ false _ 17 _ (sym c.find_named-2.ensures ∙ c.in_default-find_named.is) in
    rename_exists eight_inch asked _ _ _ (sym c.if-not-name_right.ensures) (sym c.if-not-name_right-2.ensures) some
    (sym (c.if-any_read_only.ensures map buffer)) there c.refuse-in_default-find_named.ensures

pub returns : goal.returns
returns c asked map buffer =
    let some = some_named eight_inch _ false _ 1 _ (sym c.in-Some.ensures) in
    let new = none_named eight_inch _ false _ 17 (sym c.in-None.ensures) in
    rename_done eight_inch asked _ _ _ (sym c.if-not-name_right.ensures) (sym c.if-not-name_right-2.ensures) some
    (sym (c.if-any_read_only.ensures map buffer)) _ new c.done.ensures c.rename_entries.ensures
