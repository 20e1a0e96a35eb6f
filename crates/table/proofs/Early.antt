-- The first three rows and the protection, which come before any call's own: what they refuse.
use Rattle.std.specs.Prelude.{◌≡◌, true, false, not, Some}
use Rattle.std.proofs.Common.{ap, ◌∙◌}
use Rattle.format.specs.Diskette.{Geometry}
use Rattle.model.specs.declared.Asked.{Asked}
use Rattle.model.specs.declared.Session.{Session}
use Rattle.model.specs.declared.Answer.{Answer}
use Rattle.model.specs.declared.Code.{Code}
use Rattle.model.specs.declared.Code.TheVariants.{NotListed, BadParameter, BadDisk, Protected}
use Rattle.model.specs.Lent.{Lent, outcome, answer_of}
use Rattle.model.specs.Kinds.{is_call}
use Rattle.model.specs.Table.{parameters_right_rule, disk_right_rule, protection_holds, verdict}
use Rattle.model.specs.Step.{refused_session, step}
use Rattle.table.specs.First.{first_holds, first_passes}
use Rattle.table.specs.Own.{verdict_rows, verdict_unlisted}
use Rattle.table.specs.Facts.{Ready}
use Rattle.table.proofs.OwnStep.{verdict_stopped}

module _ (G : Geometry) (asked : Asked) (l : Lent) (s : Session) where
  -- an answer that changed nothing
  pub refuses_step : (code : Code) (r : Answer) → verdict G asked l s ≡ Some code
      → r ≡ answer_of code (refused_session code s) → outcome r l.drive.image l.drive.map l.fcb l.buffer ≡ step G asked l s
  unfolding step
  refuses_step code r v q = rw (v, q)

  -- ---- each of them, in their order
  pub unlisted_step : (r : Answer) → is_call asked.number ≡ false → r ≡ answer_of NotListed (refused_session NotListed s)
      → outcome r l.drive.image l.drive.map l.fcb l.buffer ≡ step G asked l s
  unlisted_step r h = refuses_step NotListed r (verdict_unlisted G asked l s h)

  pub parameter_step : (r : Answer) → is_call asked.number ≡ true → parameters_right_rule G l asked s ≡ false
      → r ≡ answer_of BadParameter (refused_session BadParameter s) → outcome r l.drive.image l.drive.map l.fcb l.buffer ≡ step G asked l s
  parameter_step r t h =
      refuses_step BadParameter r (verdict_rows G asked l s t ∙ first_holds _ _ (ap not h))

  pub disk_step : (r : Answer) → is_call asked.number ≡ true → parameters_right_rule G l asked s ≡ true → disk_right_rule G l asked ≡ false
      → r ≡ answer_of BadDisk (refused_session BadDisk s) → outcome r l.drive.image l.drive.map l.fcb l.buffer ≡ step G asked l s
  disk_step r t p h =
      refuses_step BadDisk r (verdict_rows G asked l s t ∙ first_passes _ _ (ap not p) ∙ first_holds _ _ (ap not h))

  pub stopped_step : (r : Answer) → is_call asked.number ≡ true → Ready G asked l s → protection_holds G asked l s ≡ true
      → r ≡ answer_of Protected (refused_session Protected s) → outcome r l.drive.image l.drive.map l.fcb l.buffer ≡ step G asked l s
  stopped_step r t d h = refuses_step Protected r (verdict_stopped G asked l s t d h)
