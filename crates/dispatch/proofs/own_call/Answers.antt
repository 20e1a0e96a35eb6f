-- The kind tells the number, where a kind has one call; the others go to functions of their own. The protection refuses none but reads here, and of
-- these the record calls ask themselves.
use mathlib.Core.Path.{refl, sym, ◌∙◌}
use Rattle.format.specs.Diskette.{eight_inch}
use Rattle.table.specs.Own.{not_unlisted}
use Rattle.table.specs.OwnStep.{own_at}
use Rattle.dispatch.specs.Numbers.{only_of, of_kind, of_only, of_other}
use Rattle.model.specs.declared.Kind.TheVariants.{Quiet, Search, User, Settle, Close, Delete, Create, Rename}
use Rattle.dispatch.proofs.own_call.Goals as goal

pub returns-in-Quiet-clause-comes_to : goal.returns-in-Quiet-clause-comes_to
returns-in-Quiet-clause-comes_to c =
    of_kind _ _ _ c.requires.5 Quiet (sym c.requires.0 ∙ c.in-Quiet.is) refl c.quiet_call.ensures.comes_to

pub returns-in-Search-clause-comes_to : goal.returns-in-Search-clause-comes_to
returns-in-Search-clause-comes_to c =
    of_kind _ _ _ c.requires.5 Search (sym c.requires.0 ∙ c.in-Search.is) refl c.search_call.ensures.comes_to

pub returns-in-User-clause-comes_to : goal.returns-in-User-clause-comes_to
returns-in-User-clause-comes_to c =
    let is = sym c.requires.0 ∙ c.in-User.is in
    of_kind _ _ _ c.requires.5 User is refl (c.user_number.ensures _ _ _ _ ∙ own_at eight_inch _ _ _ 32 (only_of User 32 refl refl is))

pub returns-in-Settle-clause-comes_to : goal.returns-in-Settle-clause-comes_to
returns-in-Settle-clause-comes_to c =
    of_other _ _ _ c.requires.5 Settle (sym c.requires.0 ∙ c.in-Settle.is) 98 13 refl refl refl c.requires.2 (λ a. c.free_blocks.ensures a _ _ _)

pub returns-in-Close-clause-comes_to : goal.returns-in-Close-clause-comes_to
returns-in-Close-clause-comes_to c =
    of_only _ _ _ c.requires.5 Close (sym c.requires.0 ∙ c.in-Close.is) 16 refl refl refl (λ a. c.close_file.ensures a _)

pub returns-in-Delete-clause-comes_to : goal.returns-in-Delete-clause-comes_to
returns-in-Delete-clause-comes_to c =
    of_only _ _ _ c.requires.5 Delete (sym c.requires.0 ∙ c.in-Delete.is) 19 refl refl refl (λ a. c.delete_file.ensures a _)

pub returns-in-Create-clause-comes_to : goal.returns-in-Create-clause-comes_to
returns-in-Create-clause-comes_to c =
    of_only _ _ _ c.requires.5 Create (sym c.requires.0 ∙ c.in-Create.is) 22 refl refl refl (λ a. c.make_file.ensures a _ _)

pub returns-in-Rename-clause-comes_to : goal.returns-in-Rename-clause-comes_to
returns-in-Rename-clause-comes_to c =
    of_only _ _ _ c.requires.5 Rename (sym c.requires.0 ∙ c.in-Rename.is) 23 refl refl refl (λ a. c.rename_file.ensures a _ _)

pub returns-in-Unlisted-clause-comes_to : goal.returns-in-Unlisted-clause-comes_to
returns-in-Unlisted-clause-comes_to c = not_unlisted _ c.requires.1 (sym c.requires.0 ∙ c.in-Unlisted.is)
