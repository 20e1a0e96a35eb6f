-- The four buffers as code holds them, in the words of the definitions.
use Rattle.std.specs.Prelude.{◌≡◌, length}
use Rattle.model.specs.declared.Answer.{Answer}
use Rattle.model.specs.Lent.{Lent, Outcome, lend, outcome}
use Rattle.records.specs.declared.Buffers.{Buffers}

abbrev pub held : Buffers → Lent
held b = lend b.image.now b.map.now b.fcb.now b.buffer.now

-- what a call came to: its answer, and what it left in the buffers
abbrev pub outcome_on : Buffers → Answer → Outcome
outcome_on b r = outcome r b.image.now b.map.now b.fcb.now b.buffer.now

-- they are the buffers that were lent, each as long as it was: who lent them sees what became of them
pub record StillLent (before after : Buffers) : Type 0 where
  pub image : after.image.ghost_name ≡ before.image.ghost_name
  pub map : after.map.ghost_name ≡ before.map.ghost_name
  pub fcb : after.fcb.ghost_name ≡ before.fcb.ghost_name
  pub buffer : after.buffer.ghost_name ≡ before.buffer.ghost_name
  pub image_kept : length after.image.now ≡ length before.image.now
  pub map_kept : length after.map.now ≡ length before.map.now
  pub fcb_kept : length after.fcb.now ≡ length before.fcb.now
  pub buffer_kept : length after.buffer.now ≡ length before.buffer.now
