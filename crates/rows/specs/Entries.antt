-- Where the entries lie, and what a write of an entry or of a record leaves of the others.
use Rattle.std.specs.Prelude.{◌≡◌, ◌⊎◌, ℕ, ◌+◌, ◌*◌, ◌/◌, ◌%◌, ◌≤◌, ◌<◌, eqb, length, get_or, replicate}
use Rattle.std.proofs.Math.Path.{ap}
use Rattle.std.proofs.Common.{sym, ◌∙◌, mul-le-mul_left, arith}
use Rattle.std.proofs.Math.Logic.{inl, inr}
use Rattle.std.proofs.Math.ListN.{get_or-replicate, length-replicate}
use Rattle.lists.specs.Cases.{split, lt_or_le, eq_or_ne}
use Rattle.lists.specs.Splice.{part, splice, length_part, length_splice, get_d_part, part_part, part_splice_same, part_splice_other, get_d_splice_out, splice_own}
use Rattle.format.specs.Diskette.{Bytes, Geometry, Sound, record_bytes, image_bytes, disk_record, offset_of, record_at, with_record, entry_bytes, entries_per_record, Long}
use Rattle.format.specs.Entries.{entry_place_rule, entry_at, with_entry, user_of, empty}
use Rattle.disk.specs.Places.{block_records, offset_fits, offset_past, offset_apart}

-- the records of the directory
abbrev pub area_records : Geometry → ℕ
area_records G = G.per_block * G.area

-- the i-th row of four, which fill a record
abbrev pub row_of : Bytes → ℕ → Bytes
row_of four i = part four (i * entry_bytes) entry_bytes

-- the first byte of the i-th row tells whether it is empty
pub row_empty : (four : Bytes) (at i : ℕ) → at ≡ i * entry_bytes → at + entry_bytes ≤ length four → empty (row_of four i) ≡ eqb (get_or four at 0) 229
unfolding empty
row_empty four at i q h =
    let z : i * entry_bytes + 0 ≡ at = omega arith in
    ap (λ (n : ℕ). eqb n 229) (get_d_part four (i * entry_bytes) entry_bytes (omega arith) 0 (omega arith) ∙ ap (λ (k : ℕ). get_or four k 0) z)

-- a block past the directory has its records past the directory's
pub block_past : (G : Geometry) (b k : ℕ) → G.area ≤ b → area_records G ≤ disk_record G b k
block_past G b k h = omega (arith, mul-le-mul_left G.per_block h)

module _ {G : Geometry} (S : Sound G) where
  pub area_within : area_records G ≤ block_records G
  area_within = let l : G.area < G.blocks = S.area_below in mul-le-mul_left G.per_block (omega arith)

  -- an entry stands in a record of the directory
  pub entry_record : (e : ℕ) → e < G.entries → e / entries_per_record < area_records G
  entry_record e h = omega (arith, S.area_holds)

  pub entry_fits_law : (e : ℕ) → e < G.entries → entry_place_rule G e + entry_bytes ≤ image_bytes G
  unfolding entry_place_rule
  entry_fits_law e h = omega (arith, offset_fits S (e / entries_per_record) (omega (arith, entry_record e h, area_within)))

  -- where every byte of the image is the same, each entry begins with it
  pub entry_of_same : (size x : ℕ) → image_bytes G ≤ size → (e : ℕ) → e < G.entries → user_of (entry_at G (replicate size x) e) ≡ x
  unfolding entry_at
  entry_of_same size x is e h =
      get_d_part (replicate size x) (entry_place_rule G e) entry_bytes (omega (arith, length-replicate {A = ℕ} size x, entry_fits_law e h)) 0 (omega arith)
      ∙ get_or-replicate size (entry_place_rule G e + 0) x 0 (omega (arith, entry_fits_law e h))

  -- no entry lies in the system tracks
  pub entry_past : (e : ℕ) → G.reserved * G.sectors * record_bytes ≤ entry_place_rule G e
  unfolding entry_place_rule
  entry_past e = omega (arith, offset_past S (e / entries_per_record))

  pub entry_apart : (e f : ℕ) → (e ≡ f → ⊥) → (entry_place_rule G e + entry_bytes ≤ entry_place_rule G f) ⊎ (entry_place_rule G f + entry_bytes ≤ entry_place_rule G e)
  unfolding entry_place_rule
  entry_apart e f n =
      split (eq_or_ne (e / entries_per_record) (f / entries_per_record))
      (λ q. let o : offset_of G (e / entries_per_record) ≡ offset_of G (f / entries_per_record) = ap (offset_of G) q in
      split (lt_or_le e f) (λ w. inl (omega arith)) (λ w. split (lt_or_le f e) (λ v. inr (omega arith)) (λ v. absurd (n (omega arith)))))
      (λ q. split (offset_apart S (e / entries_per_record) (f / entries_per_record) q) (λ w. inl (omega arith)) (λ w. inr (omega arith)))

  -- an entry and a record past the directory
  pub entry_record_apart : (e d : ℕ) → e < G.entries → area_records G ≤ d → (entry_place_rule G e + entry_bytes ≤ offset_of G d) ⊎ (offset_of G d + record_bytes ≤ entry_place_rule G e)
  unfolding entry_place_rule
  entry_record_apart e d h past =
      split (offset_apart S (e / entries_per_record) d (λ q. omega (arith, entry_record e h))) (λ w. inl (omega arith)) (λ w. inr (omega arith))

  module _ (img : Bytes) (long : Long G img) where
    pub length_entry_at : (e : ℕ) → e < G.entries → length (entry_at G img e) ≡ entry_bytes
    unfolding entry_at
    length_entry_at e h = length_part img (entry_place_rule G e) entry_bytes (omega (arith, entry_fits_law e h))

    -- an entry is a quarter of its record
    pub entry_in_record : (e : ℕ) → e < G.entries → part (record_at G img (e / entries_per_record)) (e % entries_per_record * entry_bytes) entry_bytes ≡ entry_at G img e
    unfolding entry_at entry_place_rule record_at
    entry_in_record e h =
        part_part img (offset_of G (e / entries_per_record)) record_bytes (e % entries_per_record * entry_bytes) entry_bytes
        (omega (arith, offset_fits S (e / entries_per_record) (omega (arith, entry_record e h, area_within)))) (omega arith)

    -- the i-th row of record d
    pub row_in_record : (d i : ℕ) → i < entries_per_record → entries_per_record * d + i < G.entries → row_of (record_at G img d) i ≡ entry_at G img (entries_per_record * d + i)
    row_in_record d i h l =
        let e : ℕ = entries_per_record * d + i in
        let q : e / entries_per_record ≡ d = omega arith in
        let r : e % entries_per_record ≡ i = omega arith in
        ap (λ (k : ℕ). row_of (record_at G img d) k) (sym r) ∙ ap (λ (k : ℕ). row_of (record_at G img k) (e % entries_per_record)) (sym q) ∙ entry_in_record e l

    -- a record past the directory leaves every entry
    pub entry_kept : (d : ℕ) → area_records G ≤ d → d < block_records G → (bytes : Bytes) → length bytes ≡ record_bytes → (e : ℕ) → e < G.entries → entry_at G (with_record G img d bytes) e ≡ entry_at G img e
    unfolding entry_at with_record
    entry_kept d past below bytes whole e h =
        part_splice_other img (offset_of G d) bytes (omega (arith, offset_fits S d below)) (entry_place_rule G e) entry_bytes (omega (arith, entry_fits_law e h))
        (split (entry_record_apart e d h past) (λ w. inl w) (λ w. inr (omega arith)))

    -- an entry put back as it was
    pub entry_own : (e : ℕ) → e < G.entries → with_entry G img e (entry_at G img e) ≡ img
    unfolding entry_at with_entry
    entry_own e below = splice_own img (entry_place_rule G e) entry_bytes (omega (arith, entry_fits_law e below))

    module _ (e : ℕ) (below : e < G.entries) (row : Bytes) (whole : length row ≡ entry_bytes) where
      room : entry_place_rule G e + length row ≤ length img
      room = omega (arith, entry_fits_law e below)

      pub length_with_entry : length (with_entry G img e row) ≡ length img
      unfolding with_entry
      length_with_entry = length_splice img (entry_place_rule G e) row room

      pub entry_stored : entry_at G (with_entry G img e row) e ≡ row
      unfolding entry_at with_entry
      entry_stored = ap (part (splice img (entry_place_rule G e) row) (entry_place_rule G e)) (sym whole) ∙ part_splice_same img (entry_place_rule G e) row room

      pub entry_left : (f : ℕ) → f < G.entries → (e ≡ f → ⊥) → entry_at G (with_entry G img e row) f ≡ entry_at G img f
      unfolding entry_at with_entry
      entry_left f h n =
          part_splice_other img (entry_place_rule G e) row room (entry_place_rule G f) entry_bytes (omega (arith, entry_fits_law f h))
          (split (entry_apart e f n) (λ w. inr (omega arith)) (λ w. inl w))

      -- no byte outside the row changes
      pub entry_byte_left : (i : ℕ) → (i < entry_place_rule G e) ⊎ (entry_place_rule G e + entry_bytes ≤ i) → get_or (with_entry G img e row) i 0 ≡ get_or img i 0
      unfolding with_entry
      entry_byte_left i out = get_d_splice_out img (entry_place_rule G e) row room i (split out (λ w. inl w) (λ w. inr (omega arith)))

      -- no record past the directory changes
      pub record_kept : (d : ℕ) → area_records G ≤ d → d < block_records G → record_at G (with_entry G img e row) d ≡ record_at G img d
      unfolding record_at with_entry
      record_kept d past h =
          part_splice_other img (entry_place_rule G e) row room (offset_of G d) record_bytes (omega (arith, offset_fits S d h))
          (split (entry_record_apart e d below past) (λ w. inr (omega arith)) (λ w. inl w))
