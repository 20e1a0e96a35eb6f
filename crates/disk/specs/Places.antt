-- Where the records of a disk lie: within the image, past the system tracks, and no two on one byte.
use Rattle.std.specs.Prelude.{◌≡◌, ◌⊎◌}
use Rattle.std.proofs.Math.Logic.{inl, inr}
use Prim.Native.Nat.{ℕ, ◌+◌, ◌-◌, ◌*◌, ◌/◌, ◌%◌, ◌≤◌, ◌<◌}
use Rattle.std.proofs.Math.Nat.{mod-lt, mul_comm, mul-add}
use Rattle.std.proofs.Common.{arith}
use Rattle.lists.specs.Cases.{split, lt_or_le}
use Rattle.lists.specs.Product.{digits_below, digits_first, digits_last, same_digits}
use Rattle.format.specs.Diskette.{Geometry, Sound, record_bytes, image_bytes, disk_record, sectors_before, offset_of}

-- the records of all blocks
abbrev pub block_records : Geometry → ℕ
block_records G = G.per_block * G.blocks

-- ---- the records of blocks
pub block_record : (G : Geometry) (b k : ℕ) → b < G.blocks → k < G.per_block → disk_record G b k < block_records G
block_record G b k hb hk = digits_below G.per_block b G.blocks k hb hk

-- a disk record is one record of one block
pub block_once : (G : Geometry) (b k c l : ℕ) → k < G.per_block → l < G.per_block → disk_record G b k ≡ disk_record G c l → (b ≡ c) × (k ≡ l)
block_once G b k c l hk hl e = (digits_first G.per_block b c k l hk hl e, digits_last G.per_block b c k l hk hl e)

module _ {G : Geometry} (S : Sound G) where
  -- the digits of a place to the base of a track's sectors: the track, and the physical sector counted from 0
  sector : ℕ → ℕ
  sector d = d % G.sectors

  sector_below : (d : ℕ) → sector d < G.sectors
  unfolding sector
  sector_below d = mod-lt d S.some_sector

  digit : ℕ → ℕ
  digit d = G.physical (sector d) - 1

  digit_below : (d : ℕ) → digit d < G.sectors
  unfolding digit
  digit_below d = omega (arith, S.physical_low (sector d) (sector_below d), S.physical_high (sector d) (sector_below d))

  before_digits : (d : ℕ) → sectors_before G d ≡ G.sectors * (G.reserved + d / G.sectors) + digit d
  unfolding sectors_before digit sector
  before_digits d = omega (arith, S.physical_low (d % G.sectors) (mod-lt d S.some_sector))

  pub offset_fits : (d : ℕ) → d < block_records G → offset_of G d + record_bytes ≤ image_bytes G
  unfolding offset_of
  offset_fits d h = omega (arith, S.image_holds d h)

  -- no record lies in the system tracks
  pub offset_past : (d : ℕ) → G.reserved * G.sectors * record_bytes ≤ offset_of G d
  unfolding offset_of
  offset_past d = omega (arith, before_digits d, mul-add G.sectors G.reserved (d / G.sectors), mul_comm G.sectors G.reserved)

  before_once : (d e : ℕ) → sectors_before G d ≡ sectors_before G e → d ≡ e
  unfolding digit sector
  before_once d e q =
      let n : ℕ = G.sectors in
      let r : ℕ = G.reserved in
      let w : n * (r + d / n) + digit d ≡ n * (r + e / n) + digit e = omega (arith, before_digits d, before_digits e) in
      let t : r + d / n ≡ r + e / n = digits_first n (r + d / n) (r + e / n) (digit d) (digit e) (digit_below d) (digit_below e) w in
      let p : digit d ≡ digit e = digits_last n (r + d / n) (r + e / n) (digit d) (digit e) (digit_below d) (digit_below e) w in
      let m : d % n ≡ e % n =
      S.physical_once (d % n) (e % n) (sector_below d) (sector_below e)
      (omega (arith, S.physical_low (d % n) (sector_below d), S.physical_low (e % n) (sector_below e))) in
      same_digits n d e (omega arith) m

  -- two records are apart: this holds of any disk records, also of those past the last block
  pub offset_apart : (d e : ℕ) → (d ≡ e → ⊥) → (offset_of G d + record_bytes ≤ offset_of G e) ⊎ (offset_of G e + record_bytes ≤ offset_of G d)
  unfolding offset_of
  offset_apart d e ne =
      split (lt_or_le (sectors_before G d) (sectors_before G e)) (λ w. inl (omega arith))
      (λ w. split (lt_or_le (sectors_before G e) (sectors_before G d)) (λ v. inr (omega arith)) (λ v. absurd (ne (before_once d e (omega arith)))))

  pub offset_once : (d e : ℕ) → offset_of G d ≡ offset_of G e → d ≡ e
  unfolding offset_of
  offset_once d e q = before_once d e (omega arith)

  -- ---- the sectors that belong to no block: no record of a block shares a byte with them
  pub spare_apart : (d x : ℕ) → d < block_records G → block_records G ≤ x → (offset_of G d + record_bytes ≤ offset_of G x) ⊎ (offset_of G x + record_bytes ≤ offset_of G d)
  spare_apart d x hd hx = offset_apart d x (λ q. omega arith)
