-- Document 01, "When an FCB is current". An FCB is 36 bytes: a row's fields in bytes 1 to 31, then cr and r0 to r2.
use Rattle.std.specs.Prelude.{Bool, false, cond, ℕ, ◌+◌, ◌*◌, eqb, leb, get_or, None, Option, Some}
use Rattle.lists.specs.Tests.{◌and◌, ◌or◌}
use Rattle.lists.specs.Below.{all_below}
use Rattle.format.specs.Diskette.{Bytes, Geometry, slot_count}
use Rattle.format.specs.Names.{name_right_rule}
use Rattle.format.specs.Entries.{Rows, slots_of, slot_in, extent_of, count_of, count_in, end_of, find_file_rule}
use Rattle.format.specs.Consistent.{extent_right_rule}
use Rattle.format.specs.Notes.{pending_for, note_at_rule}

abbrev pub fcb_bytes : ℕ
fcb_bytes = 36

abbrev pub cr_of : Bytes → ℕ
cr_of fcb = get_or fcb 32 0

-- cr 0 to 128
abbrev pub cr_right : Bytes → Bool
cr_right fcb = leb (cr_of fcb) 128

-- r0 + 256 r1 + 65,536 r2
unfoldable pub random_of_rule : Bytes → ℕ
random_of_rule fcb = get_or fcb 33 0 + 256 * get_or fcb 34 0 + 65536 * get_or fcb 35 0

-- What an FCB counts in an extent, and one past the last record that it counts: as a row does, but where its count is 0 it counts nothing at
-- all. On a disk whose entries cover several extents it may have been opened at one that its entry has not come to, and then says nothing of
-- those before; on this disk 0 is never the larger count, and nothing changes by it
unfoldable pub fcb_count_in : Bytes → ℕ → ℕ
fcb_count_in fcb ext = cond (eqb (count_of fcb) 0) 0 (count_in fcb ext)

unfoldable pub fcb_end : Bytes → ℕ
fcb_end fcb = cond (eqb (count_of fcb) 0) 0 (end_of fcb)

-- its name obeys the name rule; ex, s2 and cr are in range
unfoldable pub fcb_right_rule : Bytes → Bool
fcb_right_rule fcb = name_right_rule false fcb 1 and extent_right_rule fcb and cr_right fcb

-- slot j of the FCB (fs) equals the entry's (es), or the entry's is 0 and the FCB's block is noted pending for e, j
unfoldable pub slot_fits_rule : Geometry → Bytes → ℕ → Bytes → Bytes → ℕ → Bool
slot_fits_rule G map e es fs j =
    eqb (slot_in G fs j) (slot_in G es j) or (eqb (slot_in G es j) 0 and eqb (note_at_rule map (slot_in G fs j)) (pending_for e j))

unfoldable pub slots_fit_rule : Geometry → Bytes → ℕ → Bytes → Bytes → Bool
slots_fit_rule G map e es fs = all_below (slot_fits_rule G map e es fs) slot_count

-- the entry found, if the FCB's slots fit it
abbrev pub fitting : Geometry → Rows → Bytes → Bytes → Option ℕ → Option ℕ
fitting G d map fcb (Some e) = cond (slots_fit_rule G map e (slots_of (d e)) (slots_of fcb)) (Some e) None
fitting G d map fcb None = None

-- the entry of a current FCB; `None` where it is not current
unfoldable pub current : Geometry → Rows → Bytes → ℕ → Bytes → Option ℕ
current G d map user fcb = cond (fcb_right_rule fcb) (fitting G d map fcb (find_file_rule G d user fcb 1 (extent_of fcb))) None
