-- Reading and writing a disk record: what comes back, and what stays.
use Rattle.std.specs.Prelude.{◌≡◌, ◌⊎◌, ℕ, ◌+◌, ◌≤◌, ◌<◌, length, get_or}
use Rattle.std.proofs.Math.Path.{ap}
use Rattle.std.proofs.Common.{sym, ◌∙◌, arith}
use Rattle.std.proofs.Math.Logic.{inl, inr}
use Rattle.lists.specs.Cases.{split}
use Rattle.lists.specs.Splice.{part, splice, length_part, length_splice, part_splice_same, part_splice_other, get_d_splice_out}
use Rattle.format.specs.Diskette.{Bytes, Geometry, Sound, record_bytes, offset_of, record_at, with_record, Long}
use Rattle.disk.specs.Places.{block_records, offset_fits, offset_apart}

module _ {G : Geometry} (S : Sound G) (img : Bytes) (long : Long G img) (d : ℕ) (below : d < block_records G) where
  pub length_record_at : length (record_at G img d) ≡ record_bytes
  unfolding record_at
  length_record_at = length_part img (offset_of G d) record_bytes (omega (arith, offset_fits S d below))

  module _ (bytes : Bytes) (whole : length bytes ≡ record_bytes) where
    room : offset_of G d + length bytes ≤ length img
    room = omega (arith, offset_fits S d below)

    pub length_with_record : length (with_record G img d bytes) ≡ length img
    unfolding with_record
    length_with_record = length_splice img (offset_of G d) bytes room

    pub record_written : record_at G (with_record G img d bytes) d ≡ bytes
    unfolding record_at with_record
    record_written = ap (part (splice img (offset_of G d) bytes) (offset_of G d)) (sym whole) ∙ part_splice_same img (offset_of G d) bytes room

    pub record_left : (e : ℕ) → e < block_records G → (d ≡ e → ⊥) → record_at G (with_record G img d bytes) e ≡ record_at G img e
    unfolding record_at with_record
    record_left e h ne =
        part_splice_other img (offset_of G d) bytes room (offset_of G e) record_bytes (omega (arith, offset_fits S e h))
        (split (offset_apart S d e ne) (λ w. inr (omega arith)) (λ w. inl w))

    -- no byte outside the record changes
    pub record_byte_left : (i : ℕ) → (i < offset_of G d) ⊎ (offset_of G d + record_bytes ≤ i) → get_or (with_record G img d bytes) i 0 ≡ get_or img i 0
    unfolding with_record
    record_byte_left i out = get_d_splice_out img (offset_of G d) bytes room i (split out (λ w. inl w) (λ w. inr (omega arith)))
