-- The table decides a call that the first three rows have passed as the protection's row and the call's own do, and so does its step.
use Rattle.std.specs.Prelude.{◌≡◌, true, not, Some}
use Rattle.std.proofs.Math.Path.{ap}
use Rattle.std.proofs.Common.{◌∙◌}
use Rattle.format.specs.Diskette.{Geometry}
use Rattle.model.specs.declared.Asked.{Asked}
use Rattle.model.specs.declared.Session.{Session}
use Rattle.model.specs.declared.Code.TheVariants.{BadParameter, BadDisk, Protected}
use Rattle.model.specs.Kinds.{is_call}
use Rattle.model.specs.Lent.{Lent}
use Rattle.model.specs.Table.{parameters_right_rule, disk_right_rule, when, first_row, protection_holds, verdict}
use Rattle.model.specs.Step.{stamps_made, step}
use Rattle.model.specs.Stamps.{stamped_outcome}
use Rattle.table.specs.First.{first_passes, first_holds}
use Rattle.table.specs.Own.{ready_rows, verdict_rows}
use Rattle.table.specs.Facts.{Ready}
use Rattle.table.specs.Reflect.{parameters_right_law, disk_right_law}
use Rattle.table.specs.OwnStep.{ready_step}

module _ (G : Geometry) (asked : Asked) (l : Lent) (s : Session) where
  pub verdict_ready : is_call asked.number ≡ true → Ready G asked l s → verdict G asked l s ≡ first_row (ready_rows G asked l s)
  verdict_ready t r =
      verdict_rows G asked l s t
      ∙ first_passes (when (not (parameters_right_rule G l asked s)) BadParameter) _ (ap not (parameters_right_law G asked l s r.fits r.time r.drive))
      ∙ first_passes (when (not (disk_right_rule G l asked)) BadDisk) _ (ap not (disk_right_law G asked l s r.image_right r.map_right_law))

  pub verdict_stopped : is_call asked.number ≡ true → Ready G asked l s → protection_holds G asked l s ≡ true → verdict G asked l s ≡ Some Protected
  verdict_stopped t r h = verdict_ready t r ∙ first_holds _ _ h

  -- the step of a call is what they leave, stamped
  pub step_ready : is_call asked.number ≡ true → Ready G asked l s → step G asked l s ≡ stamped_outcome G (stamps_made G asked l s (first_row (ready_rows G asked l s))) (ready_step G asked l s)
  unfolding step ready_step
  step_ready t r = rw (verdict_ready t r)
