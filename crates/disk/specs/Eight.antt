-- The 8-inch disk's sizes are what the laws ask of a disk. Its sector table holds each of 1 to 26 once: a second table takes every
-- physical sector back to its logical one. A formula gives the sector table's numbers.
use Rattle.std.specs.Prelude.{◌≡◌, refl, Bool, List, [], ◌∷◌, ◌⊎◌, ℕ, ◌+◌, ◌-◌, ◌*◌, ◌/◌, ◌%◌, ◌≤◌, ◌<◌, eqb, leb, get_or}
use Rattle.std.proofs.Common.{ap, sym, ◌∙◌, arith, eqb-true, leb-true}
use Rattle.lists.specs.Table.{every_from, table_at}
use Rattle.lists.specs.Tests.{◌and◌}
use Rattle.format.specs.Diskette.{skew, skewed, eight_inch, Sound, record_bytes, image_bytes, sectors_before, offset_of, extent_records, slots_on}
use Rattle.disk.specs.Places.{block_records, spare_apart}

-- the logical sector, counted from 0, of each physical one
logical : List ℕ
logical = 0 ∷ 13 ∷ 9 ∷ 22 ∷ 5 ∷ 18 ∷ 1 ∷ 14 ∷ 10 ∷ 23 ∷ 6 ∷ 19 ∷ 2 ∷ 15 ∷ 11 ∷ 24 ∷ 7 ∷ 20 ∷ 3 ∷ 16 ∷ 12 ∷ 25 ∷ 8 ∷ 21 ∷ 4 ∷ 17 ∷ []

low : ℕ → ℕ → Bool
low s p = leb 1 p

high : ℕ → ℕ → Bool
high s p = leb p 26

back : ℕ → ℕ → Bool
back s p = eqb (get_or logical (p - 1) 0) s

pub skewed_low : (s : ℕ) → s < eight_inch.sectors → 1 ≤ skewed s
unfolding skew skewed low every_from ◌and◌
skewed_low s h = leb-true 1 (skewed s) (table_at low skew refl s h)

pub skewed_high : (s : ℕ) → s < eight_inch.sectors → skewed s ≤ eight_inch.sectors
unfolding skew skewed high every_from ◌and◌
skewed_high s h = leb-true (skewed s) 26 (table_at high skew refl s h)

skewed_back : (s : ℕ) → s < eight_inch.sectors → get_or logical (skewed s - 1) 0 ≡ s
unfolding skew skewed back logical every_from ◌and◌
skewed_back s h = eqb-true (get_or logical (skewed s - 1) 0) s (table_at back skew refl s h)

pub skewed_once : (s t : ℕ) → s < eight_inch.sectors → t < eight_inch.sectors → skewed s ≡ skewed t → s ≡ t
skewed_once s t hs ht e = sym (skewed_back s hs) ∙ ap (λ (p : ℕ). get_or logical (p - 1) 0) e ∙ skewed_back t ht

-- the physical sector as code computes it (request [3]), and that at all 26 this is the published table's
abbrev pub computed : ℕ → ℕ
computed s = 6 * s % 26 + s / 13 + 1

agrees : ℕ → ℕ → Bool
agrees s p = eqb (computed s) p

pub skewed_computed : (s : ℕ) → s < eight_inch.sectors → computed s ≡ skewed s
unfolding skew skewed agrees every_from ◌and◌
skewed_computed s h = eqb-true (computed s) (skewed s) (table_at agrees skew refl s h)

eight_slots : extent_records ≤ slots_on eight_inch * eight_inch.per_block
unfolding slots_on
eight_slots = omega arith

-- every record of a block, and six more, lies in the image
eight_place : (d : ℕ) → d < block_records eight_inch + 6 → sectors_before eight_inch d < eight_inch.records
unfolding sectors_before
eight_place d h =
    let s : d % 26 < 26 = omega arith in let a = skewed_low (d % 26) s in let b = skewed_high (d % 26) s in omega arith

pub eight_sound : Sound eight_inch
eight_sound = record {
  some_sector = omega arith;
  some_record = omega arith;
  physical_low = skewed_low;
  physical_high = skewed_high;
  physical_once = skewed_once;
  area_holds = omega arith;
  area_some = omega arith;
  area_below = omega arith;
  image_holds = λ d h. eight_place d (omega arith);
  slots_hold = eight_slots;
  fours = refl;
  some_entry = omega arith;
}

-- the last six logical sectors of track 76, as the disk records past the last block's: they lie in the image, and no record of a
-- block shares a byte with them
pub six_spare : (x : ℕ) → block_records eight_inch ≤ x → x < block_records eight_inch + 6
    → (offset_of eight_inch x + record_bytes ≤ image_bytes eight_inch)
    × ((d : ℕ) → d < block_records eight_inch → (offset_of eight_inch d + record_bytes ≤ offset_of eight_inch x) ⊎ (offset_of eight_inch x + record_bytes ≤ offset_of eight_inch d))
unfolding offset_of
six_spare x a b = (let p = eight_place x (omega arith) in omega arith, λ d h. spare_apart eight_sound d x h a)
