-- The disk as code holds it, in the words of the definitions.
use Rattle.std.specs.Prelude.{◌≡◌, length}
use Rattle.format.specs.Diskette.{Bytes}
use Rattle.model.specs.declared.Answer.{Answer}
use Rattle.model.specs.Lent.{Outcome, outcome}
use Rattle.demands.specs.Runs as runs
use Rattle.logging.specs.declared.Disk.{Disk}

abbrev pub held : Disk → runs.Disk
held d = runs.disk_of d.image.now d.map.now d.session

-- what a call came to: its answer, and what it left on the disk, in the FCB and in the buffer
abbrev pub outcome_on : Disk → Answer → Bytes → Bytes → Outcome
outcome_on d r fcb buffer = outcome r d.image.now d.map.now fcb buffer

-- image and map are those that were lent, each as long as it was: who lent them sees what became of them
pub record StillLent (before after : Disk) : Type 0 where
  pub image : after.image.ghost_name ≡ before.image.ghost_name
  pub map : after.map.ghost_name ≡ before.map.ghost_name
  pub image_kept : length after.image.now ≡ length before.image.now
  pub map_kept : length after.map.now ≡ length before.map.now

-- the session that the call left is the disk's
pub left_on : (d : Disk) (r : Answer) (fcb buffer : Bytes) → d.session ≡ r.session → held d ≡ runs.left (outcome_on d r fcb buffer)
left_on d r fcb buffer s = rw s
