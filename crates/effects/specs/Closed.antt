-- The files that an FCB names, which a close changes.
use Rattle.std.specs.Prelude.{false, ℕ, ◌≤◌}
use Rattle.format.specs.Diskette.{Bytes, Geometry}
use Rattle.format.specs.Entries.{entry_at, named}
use Rattle.effects.specs.View.{view_of, Names}
use Rattle.effects.specs.Steps.{NamesUsed}
use Rattle.consistency.specs.Naming.{named_used}

-- the files that an FCB names for a user
abbrev pub by_name : ℕ → Bytes → Names
by_name user fcb r = named false user fcb 1 r

-- a user names no empty entry
pub by_name_used : (G : Geometry) (img map : Bytes) (user : ℕ) (fcb : Bytes) → user ≤ 15 → NamesUsed G (view_of G img map) (by_name user fcb)
by_name_used G img map user fcb hu e l n = named_used false user fcb 1 (entry_at G img e) n hu
