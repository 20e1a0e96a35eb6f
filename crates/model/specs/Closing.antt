-- Document 01 on call 16, which is also the first half of a move.
use Rattle.std.specs.Prelude.{Bool, cond, not, ℕ, eqb, ltb, get_or, set}
use Rattle.lists.specs.Tests.{◌and◌, ◌or◌}
use Rattle.lists.specs.Below.{any_below}
use Rattle.lists.specs.Splice.{splice}
use Rattle.lists.specs.Tab.{tab}
use Rattle.lists.specs.Fold.{fold_below}
use Rattle.format.specs.Diskette.{Bytes, Geometry, slot_count, slot_bytes}
use Rattle.format.specs.Names.{seven_bits}
use Rattle.format.specs.Entries.{entry_at, with_entry, ex_of, s2_of, count_of, with_numbers, slots_of, slot_in, slot_at, end_of}
use Rattle.format.specs.Fcb.{fcb_end}
use Rattle.format.specs.Notes.{with_note, recorded_note}

-- a slot where the entry (es) has 0 and the FCB (fs) doesn't takes the FCB's block
unfoldable pub takes_slot_rule : Geometry → Bytes → Bytes → ℕ → Bool
takes_slot_rule G es fs j = eqb (slot_in G es j) 0 and not (eqb (slot_in G fs j) 0)

-- the bytes of a slot that is taken are the FCB's
unfoldable pub merged_byte_rule : Geometry → Bytes → Bytes → ℕ → ℕ
merged_byte_rule G es fs i = cond (takes_slot_rule G es fs (slot_at G i)) (get_or fs i 0) (get_or es i 0)

unfoldable pub merged_slots : Geometry → Bytes → Bytes → Bytes
merged_slots G es fs = tab slot_bytes (merged_byte_rule G es fs)

-- the FCB's end is later than the entry's: in one extent, its count is the larger
unfoldable pub ends_later_rule : Bytes → Bytes → Bool
ends_later_rule row fcb = ltb (end_of row) (fcb_end fcb)

-- the entry's end becomes the FCB's where that is later: its rc becomes the FCB's count where that is the larger of the two counts, and else
-- stays the byte that it is
unfoldable pub later_end_rule : Bytes → Bytes → Bytes
later_end_rule row fcb = cond (ends_later_rule row fcb) (with_numbers row (ex_of fcb) (s2_of fcb) (count_of fcb)) row

unfoldable pub closed_row_rule : Geometry → Bytes → Bytes → Bytes
closed_row_rule G row fcb = splice (later_end_rule row fcb) 16 (merged_slots G (slots_of row) (slots_of fcb))

-- the notes of the blocks taken become recorded
unfoldable pub closed_note : Geometry → Bytes → Bytes → Bytes → ℕ → Bytes
closed_note G es fs map j = cond (takes_slot_rule G es fs j) (with_note map (slot_in G fs j) recorded_note) map

unfoldable pub closed_map : Geometry → Bytes → Bytes → Bytes → Bytes
closed_map G row fcb map = fold_below (closed_note G (slots_of row) (slots_of fcb)) map slot_count

-- the close changes the entry: a block is recorded, or a larger count
unfoldable pub close_changes_rule : Geometry → Bytes → Bytes → Bool
close_changes_rule G row fcb = any_below (takes_slot_rule G (slots_of row) (slots_of fcb)) slot_count or ends_later_rule row fcb

unfoldable pub closed_image : Geometry → Bytes → ℕ → Bytes → Bytes
closed_image G img e fcb =
    cond (close_changes_rule G (entry_at G img e) fcb) (with_entry G img e (closed_row_rule G (entry_at G img e) fcb)) img

-- f5' and f6' in the FCB are cleared
unfoldable pub closed_fcb : Bytes → Bytes
closed_fcb fcb = set (set fcb 5 (seven_bits (get_or fcb 5 0))) 6 (seven_bits (get_or fcb 6 0))
