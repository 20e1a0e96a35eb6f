-- An entry that is opened, at whatever extent, and closed at once stays as it was.
use Rattle.std.specs.Prelude.{◌≡◌, false, ℕ, ◌≤◌, length}
use Rattle.format.specs.Diskette.{Bytes, Geometry}
use Rattle.model.specs.Closing.{closed_row_rule, close_changes_rule}
use Rattle.model.specs.Entering.{entered}
use Rattle.fields.proofs.Entering.{slot_entered}
use Rattle.fields.specs.Closing.{nothing_to_close, row_kept}
use Rattle.fields.specs.OpenClose.{entered_ends}

module _ (G : Geometry) (fcb row : Bytes) (ext : ℕ) (hf : 32 ≤ length fcb) (hr : length row ≡ 32) where
  pub opened_keeps : close_changes_rule G row (entered fcb row ext) ≡ false
  opened_keeps = nothing_to_close G row (entered fcb row ext) (λ j l. slot_entered fcb row ext hf G j) (entered_ends G fcb row ext hf hr)

  pub opened_closed : closed_row_rule G row (entered fcb row ext) ≡ row
  opened_closed = row_kept G row (entered fcb row ext) opened_keeps hr
