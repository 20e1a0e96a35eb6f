-- The invariant of a disk, as facts about rows and notes: the directory is consistent, and the note of every block is right for it.
use Rattle.std.specs.Prelude.{ℕ, ◌<◌}
use Rattle.format.specs.Diskette.{Geometry}
use Rattle.format.specs.Entries.{Rows}
use Rattle.consistency.specs.Facts.{Consistent}
use Rattle.notes.specs.Right.{NoteOk}

pub record Inv (G : Geometry) (d : Rows) (m : ℕ → ℕ) : Type 0 where
  pub dir : Consistent G d
  pub map : (b : ℕ) → b < G.blocks → NoteOk G d b (m b)
