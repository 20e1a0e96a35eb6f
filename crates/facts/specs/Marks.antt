-- What one pass over the directory notes down for the calls that follow it: which blocks are listed.
use Rattle.std.specs.Prelude.{◌≡◌, not, ℕ, ◌≤◌, ◌<◌, eqb, length, get_or}
use Rattle.format.specs.Diskette.{Bytes, Geometry}
use Rattle.format.specs.Entries.{Rows}
use Rattle.format.specs.Notes.{is_listed}

-- one mark for each number that a slot can hold
abbrev pub mark_count : ℕ
mark_count = 256

-- not 0 at the blocks past the directory that some used entry lists, 0 at the others of them
pub record Marked (G : Geometry) (d : Rows) (marks : Bytes) : Type 0 where
  pub long : length marks ≡ mark_count
  pub mark : (b : ℕ) → G.area ≤ b → b < G.blocks → eqb (get_or marks b 0) 0 ≡ not (is_listed G d b)
