-- What the steps of a close come to, of a row.
use Rattle.std.specs.Prelude.{◌≡◌, Bool, true, false, not, ℕ, ◌≤◌, ltb, length, set}
use Rattle.std.proofs.Common.{arith, le-ltb}
use Rattle.std.proofs.lemmas.Bool.{not-true}
use Rattle.lists.specs.Splice.{splice}
use Rattle.lists.specs.Tests.{◌and◌, and_left, and_right}
use Rattle.lists.specs.Below.{any_below}
use Rattle.format.specs.Diskette.{Bytes, Geometry, slot_bytes, slot_count}
use Rattle.format.specs.Entries.{ex_of, s2_of, count_of, with_numbers, end_of, slots_of}
use Rattle.model.specs.Closing.{takes_slot_rule, merged_slots, ends_later_rule, later_end_rule, closed_row_rule, close_changes_rule}
use Rattle.fields.specs.Closing.{takes_none, keeps_intro}
use Rattle.facts.specs.Counts.{end_none, end_some}
use Rattle.facts.specs.Slots.{short_slots_of}
use Rattle.slots.specs.Slots.{slots_same_rule, same_slot}

-- ---- slots that are the same: nothing is taken
pub same_none : (G : Geometry) (es fs : Bytes) → length es ≤ slot_bytes → length fs ≤ slot_bytes → slots_same_rule es fs ≡ true
    → any_below (takes_slot_rule G es fs) slot_count ≡ false
same_none G es fs l k same = takes_none G es fs (λ j h. same_slot G es fs l k same j)

-- ---- the end
module _ (row fcb : Bytes) where
  -- by a test of the FCB's count, then of the two ends
  pub never_later : count_of fcb ≡ 0 → ends_later_rule row fcb ≡ false
  unfolding ends_later_rule
  never_later z = rw (end_none fcb z) (le-ltb (end_of row) 0 (omega arith))

  pub later_by : (count_of fcb ≡ 0 → ⊥) → ends_later_rule row fcb ≡ ltb (end_of row) (end_of fcb)
  unfolding ends_later_rule
  later_by n = rw (end_some fcb n)

  pub later_takes : (n : ℕ) → ends_later_rule row fcb ≡ true → n ≡ count_of fcb → set (set (set row 12 (ex_of fcb)) 14 (s2_of fcb)) 15 n ≡ later_end_rule row fcb
  unfolding later_end_rule with_numbers
  later_takes n t q = rw (q, t)

-- ---- what code looks for first: the FCB's slots are the row's, and its end is no later
unfoldable pub close_keeps_rule : Bytes → Bytes → Bool
close_keeps_rule row fcb = slots_same_rule (slots_of row) (slots_of fcb) and not (ends_later_rule row fcb)

pub keeps_row : (G : Geometry) (row fcb : Bytes) → close_keeps_rule row fcb ≡ true → close_changes_rule G row fcb ≡ false
unfolding close_keeps_rule
keeps_row G row fcb h =
    keeps_intro G row fcb (same_none G (slots_of row) (slots_of fcb) (short_slots_of row) (short_slots_of fcb) (and_left _ _ h)) (not-true _ (and_right _ _ h))

-- ---- a row, from its parts
pub closed_row_law : (G : Geometry) (row fcb es fs m n r : Bytes) → es ≡ slots_of row → fs ≡ slots_of fcb → m ≡ merged_slots G es fs → n ≡ later_end_rule row fcb
    → r ≡ splice n 16 m → r ≡ closed_row_rule G row fcb
unfolding closed_row_rule
closed_row_law G row fcb es fs m n r a b c d e = rw (e, c, d, a, b)
