-- What a disk with one entry has: an extent of user 0's file A, with its rc, which lists one block.
use Rattle.std.specs.Prelude.{◌≡◌, true, [], ◌∷◌, ◌++◌, ℕ, zero, suc, ◌/◌, ◌%◌, ◌≤◌, ◌<◌, length, get_or, replicate}
use Rattle.std.proofs.Math.Path.{refl}
use Rattle.std.proofs.Common.{◌∙◌}
use Rattle.std.proofs.Math.Bool.{false}
use native.Mathlib.Omega.{arith}
use Rattle.std.proofs.lemmas.List.{get_or-replicate}
use Rattle.lists.specs.Tests.{◌and◌, ◌or◌}
use Rattle.lists.specs.Below.{all_below}
use Rattle.lists.specs.Splice.{part}
use Rattle.format.specs.Diskette.{Bytes, eight_inch, extents, extent_records, slot_count}
use Rattle.format.specs.Names.{name_byte_rule, name_right_rule, byte_like_rule, name_like_rule}
use Rattle.format.specs.Entries.{with_entry, slot_of, rc_of, count_of, used, extent_of, slot_in, slots_of, named}
use Rattle.format.specs.Fcb.{fcb_bytes}
use Rattle.facts.specs.Counts.{count_is, count_full}
use Rattle.consistency.specs.Facts.{Fine}

pub record Entry : Type 0 where
  pub extent : ℕ
  pub rc : ℕ
  pub block : ℕ

abbrev pub entry_of : ℕ → ℕ → ℕ → Entry
entry_of extent rc block = record { extent = extent; rc = rc; block = block }

-- its extent and its block are in range
pub record InRange (f : Entry) : Type 0 where
  pub extent : f.extent < extents
  pub low : 2 ≤ f.block
  pub high : f.block ≤ 242

-- the bytes before the slots
abbrev file_head : Entry → Bytes
file_head f = 0 ∷ 65 ∷ 32 ∷ 32 ∷ 32 ∷ 32 ∷ 32 ∷ 32 ∷ 32 ∷ 32 ∷ 32 ∷ 32 ∷ f.extent % 32 ∷ 0 ∷ f.extent / 32 ∷ f.rc ∷ []

abbrev pub file_slots : Entry → Bytes
file_slots f = f.block ∷ replicate 15 0

unfoldable pub file_row : Entry → Bytes
file_row f = file_head f ++ file_slots f

unfoldable pub one_file_rule : Bytes → Entry → Bytes
one_file_rule img f = with_entry eight_inch img 0 (file_row f)

-- an FCB of file A
unfoldable pub file_fcb : Bytes
file_fcb = 0 ∷ 65 ∷ 32 ∷ 32 ∷ 32 ∷ 32 ∷ 32 ∷ 32 ∷ 32 ∷ 32 ∷ 32 ∷ 32 ∷ replicate 24 0

pub length_file_fcb : length file_fcb ≡ fcb_bytes
unfolding file_fcb
length_file_fcb = refl

-- ---- the row
pub drive_low : get_or file_fcb 0 0 ≤ 1
unfolding file_fcb
drive_low = omega arith

pub fcb_name : name_right_rule false file_fcb 1 ≡ true
unfolding name_right_rule name_byte_rule all_below file_fcb ◌and◌ ◌or◌
fcb_name = refl

module _ (f : Entry) where
  pub length_file : length (file_row f) ≡ 32
  unfolding file_row
  length_file = refl

  pub file_used : used (file_row f) ≡ true
  unfolding file_row used
  file_used = refl

  pub file_slot : (j : ℕ) → slot_of eight_inch (file_row f) j ≡ get_or (file_slots f) j 0
  unfolding slot_of slot_in slots_of part file_row
  file_slot j = refl

  pub slot_first : (j : ℕ) → j < slot_count → (get_or (file_slots f) j 0 ≡ 0 → ⊥) → j ≡ 0
  slot_first zero h real = refl
  slot_first (suc j) h real = absurd (real (get_or-replicate 15 j 0 0 (omega arith)))

  file_name : name_right_rule false (file_row f) 1 ≡ true
  unfolding name_right_rule name_byte_rule all_below file_row ◌and◌ ◌or◌
  file_name = refl

  pub file_asked : named false 0 file_fcb 1 (file_row f) ≡ true
  unfolding named name_like_rule byte_like_rule all_below file_fcb file_row ◌and◌ ◌or◌
  file_asked = refl

  pub file_extent : extent_of (file_row f) ≡ f.extent
  unfolding extent_of file_row
  file_extent = omega arith

  pub file_rc : rc_of (file_row f) ≡ f.rc
  unfolding file_row
  file_rc = refl

  pub file_count : f.rc ≤ extent_records → count_of (file_row f) ≡ f.rc
  file_count h = count_is (file_row f) (rw file_rc h) ∙ file_rc

  pub file_full : extent_records ≤ f.rc → count_of (file_row f) ≡ extent_records
  file_full h = count_full (file_row f) (rw file_rc h)

  pub file_fine : InRange f → Fine eight_inch (file_row f)
  unfolding file_row
  file_fine r = record {
    user = omega arith;
    name = file_name;
    numbers = record { ex = omega arith; s2 = omega (arith, r.extent) };
    low = λ j l real. let q : j ≡ 0 = slot_first j l (λ z. real (file_slot j ∙ z)) in rw (file_slot j, q) r.low;
    high = λ j l real. let q : j ≡ 0 = slot_first j l (λ z. real (file_slot j ∙ z)) in rw (file_slot j, q) (omega (arith, r.high));
  }
