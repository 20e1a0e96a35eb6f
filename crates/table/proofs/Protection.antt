-- The row of 255, 2, of a read: the move that it asks for is that of the call's plan.
use Rattle.std.specs.Prelude.{◌≡◌, ℕ, None, Option, Some}
use Rattle.std.proofs.Math.Path.{refl, sym}
use Rattle.std.proofs.Common.{◌∙◌}
use Rattle.lists.specs.Cases.{split, bool_cases}
use Rattle.lists.specs.Tests.{and_fails_left, and_then}
use Rattle.format.specs.Diskette.{Geometry}
use Rattle.format.specs.Found.{number_of}
use Rattle.model.specs.declared.Asked.{Asked}
use Rattle.model.specs.declared.Session.{Session}
use Rattle.model.specs.Lent.{Lent, rows_of}
use Rattle.model.specs.Closing.{close_changes_rule}
use Rattle.model.specs.Target.{present_entry, stays, target_entry, plan_to, plan_from, plan}
use Rattle.model.specs.Table.{move_changes}
use Rattle.table.specs.Protection.{plan_changes}

module _ (G : Geometry) (asked : Asked) (l : Lent) (s : Session) where
  planned_to : (e : ℕ) (r : Option ℕ) → plan_changes G l (plan_to G asked.number s.user l e r) ≡ close_changes_rule G (rows_of G l e) l.fcb
  planned_to e (Some t) = refl
  planned_to e None = refl

  pub plan_changes_law : move_changes G asked l s ≡ plan_changes G l (plan G asked.number s.user l)
  unfolding move_changes plan plan_from
  plan_changes_law =
      split (bool_cases (stays asked.number l.fcb)) (λ t. rw t (and_fails_left _ _ refl))
      (λ f. rw f (and_then _ _ refl ∙ sym (planned_to (number_of G.entries (present_entry G s.user l)) (target_entry G asked.number s.user l))))
