-- An entry that has stamps beside it.
use Rattle.std.specs.Prelude.{ℕ, ◌%◌, ◌<◌}
use Rattle.std.proofs.Common.{arith}
use Rattle.format.specs.Diskette.{Geometry, Sound, entries_per_record}
use Rattle.format.specs.Dates.{fourth_of}

-- it is one of the disk's, and not the fourth of its record
pub record Beside (G : Geometry) (e : ℕ) : Type 0 where
  pub below : e < G.entries
  pub beside : e % entries_per_record < 3

-- the fourth is one of the disk's too
pub fourth_below : {G : Geometry} → Sound G → (e : ℕ) → e < G.entries → fourth_of e < G.entries
fourth_below S e h = omega (arith, S.fours)
