-- Document 01 on 20, 21, 33 and 34: the target, where it is, and the plan. The target is computed once; reading and writing then
-- have one rule each.
use Rattle.std.specs.Prelude.{Bool, false, cond, not, ℕ, ◌+◌, ◌/◌, ◌%◌, max, eqb, ltb, set, None, Option, Some}
use Rattle.lists.specs.Tests.{◌and◌, ◌or◌}
use Rattle.format.specs.Diskette.{Bytes, Geometry, disk_record, record_at, with_record, extent_records}
use Rattle.format.specs.Entries.{Rows, entry_at, with_entry, slot_of, with_slot, count_of, extent_of, covers, count_in, slot_for_rule, find_file_rule, find_empty_rule, read_only}
use Rattle.format.specs.Notes.{pending_for, with_note, find_free}
use Rattle.format.specs.Fcb.{cr_of, random_of_rule, fcb_count_in, current}
use Rattle.format.specs.Found.{number_of}
use Rattle.model.specs.declared.Plan.{Plan}
use Rattle.model.specs.declared.Plan.TheVariants.{Stay, Move, Make}
use Rattle.model.specs.Kinds.{is_random_rule}
use Rattle.model.specs.Lent.{Lent, lend, rows_of}
use Rattle.model.specs.Closing.{closed_image, closed_map}
use Rattle.model.specs.Entering.{entered, next_row_rule}

-- the target's extent, and its record there
unfoldable pub target_extent : ℕ → Bytes → ℕ
target_extent n fcb =
    cond (is_random_rule n) (random_of_rule fcb / extent_records) (cond (eqb (cr_of fcb) extent_records) (extent_of fcb + 1) (extent_of fcb))

unfoldable pub target_record : ℕ → Bytes → ℕ
target_record n fcb = cond (is_random_rule n) (random_of_rule fcb % extent_records) (cond (eqb (cr_of fcb) extent_records) 0 (cr_of fcb))

-- cr afterwards: one past the target for 20 and 21, the target's record for 33 and 34
unfoldable pub cr_after : ℕ → Bytes → ℕ
cr_after n fcb = cond (is_random_rule n) (target_record n fcb) (target_record n fcb + 1)

-- the FCB's own entry
unfoldable pub present_entry : Geometry → ℕ → Lent → Option ℕ
present_entry G user l = current G (rows_of G l) l.drive.map user l.fcb

-- the target's extent is the FCB's: no move
unfoldable pub stays : ℕ → Bytes → Bool
stays n fcb = eqb (target_extent n fcb) (extent_of fcb)

-- the FCB's entry covers the target's extent: the FCB's slots, and its end, hold there too
unfoldable pub within : Geometry → ℕ → Bytes → Bool
within G n fcb = covers G fcb (target_extent n fcb)

-- the slot of the target's record
unfoldable pub target_slot : Geometry → ℕ → Bytes → ℕ
target_slot G n fcb = slot_for_rule G (target_extent n fcb) (target_record n fcb)

-- t1' in the entry that was found
abbrev pub read_only_in : Rows → Option ℕ → Bool
read_only_in d (Some t) = read_only (d t)
read_only_in d None = false

module _ (G : Geometry) (n user : ℕ) (l : Lent) where
  -- the target's own entry
  unfoldable pub target_entry : Option ℕ
  target_entry = find_file_rule G (rows_of G l) user l.fcb 1 (target_extent n l.fcb)

  -- the block in its slot once the FCB has come to the target's extent: the FCB's own, or that of the entry moved to; 0 is none
  abbrev pub row_slot : Option ℕ → ℕ
  row_slot (Some t) = slot_of G (rows_of G l t) (target_slot G n l.fcb)
  row_slot None = 0

  unfoldable pub block_there : ℕ
  block_there = cond (within G n l.fcb) (slot_of G l.fcb (target_slot G n l.fcb)) (row_slot target_entry)

  -- the larger of the counts that the FCB, come there, and the entry have
  abbrev pub count_at : Option ℕ → ℕ
  count_at (Some t) = count_in (rows_of G l t) (target_extent n l.fcb)
  count_at None = 0

  unfoldable pub count_there : ℕ
  count_there = cond (within G n l.fcb) (max (fcb_count_in l.fcb (target_extent n l.fcb)) (count_at target_entry)) (count_at target_entry)

  -- the record is there exactly when the target is below that count and its slot isn't 0
  unfoldable pub record_there : Bool
  record_there = ltb (target_record n l.fcb) count_there and not (eqb block_there 0)

  -- a slot of 0 takes the first free block
  unfoldable pub target_block : ℕ
  target_block = cond (eqb block_there 0) (number_of G.blocks (find_free G l.drive.map)) block_there

  -- t1' in the FCB's entry or in the target's
  unfoldable pub read_only_there : Bool
  read_only_there = read_only_in (rows_of G l) (present_entry G user l) or read_only_in (rows_of G l) target_entry

  -- ---- the plan; it is read only where the table has passed, so the look-ups that it needs have found something
  abbrev pub plan_to : ℕ → Option ℕ → Plan
  plan_to e (Some t) = Move e t target_block
  plan_to e None = Make e (number_of G.entries (find_empty_rule G (rows_of G l))) target_block

  unfoldable pub plan_from : ℕ → Plan
  plan_from e = cond (stays n l.fcb) (Stay e target_block) (plan_to e target_entry)

  unfoldable pub plan : Plan
  plan = plan_from (number_of G.entries (present_entry G user l))

-- ---- moving: the present extent (entry e) is closed, then the FCB takes the target's entry (t), which a write may have to make. The target's row
-- is read after the close: on a disk whose entries cover several extents the two may be one
unfoldable pub moved : Geometry → ℕ → Lent → ℕ → ℕ → Lent
moved G ext l e t =
    let img = closed_image G l.drive.image e l.fcb in
    lend img (closed_map G (rows_of G l e) l.fcb l.drive.map) (entered l.fcb (entry_at G img t) ext) l.buffer

-- ext is the new entry's extent; its name and attributes are those that the present entry has after the close
unfoldable pub made : Geometry → ℕ → Lent → ℕ → ℕ → Lent
made G ext l e t =
    let img = closed_image G l.drive.image e l.fcb in
    let next = next_row_rule (entry_at G img e) ext in
    lend (with_entry G img t next) (closed_map G (rows_of G l e) l.fcb l.drive.map) (entered l.fcb next ext) l.buffer

-- ---- reading and writing record r of an extent, in block b, with the FCB come to that extent; cr afterwards is given
unfoldable pub place_in : Geometry → ℕ → ℕ → ℕ
place_in G b r = disk_record G b (r % G.per_block)

unfoldable pub have_read : Geometry → ℕ → ℕ → ℕ → Lent → Lent
have_read G b r cr l = lend l.drive.image l.drive.map (set l.fcb 32 cr) (record_at G l.drive.image (place_in G b r))

-- the FCB's rc becomes the largest of its own count, the entry's and target + 1; the entry's is handed in
unfoldable pub written_count : Bytes → ℕ → ℕ → ℕ
written_count fcb count r = max (max (count_of fcb) count) (r + 1)

unfoldable pub written_fcb : Geometry → Bytes → ℕ → ℕ → ℕ → ℕ → ℕ → Bytes
written_fcb G fcb count j b r cr = set (set (with_slot G fcb j b) 15 (written_count fcb count r)) 32 cr

-- a slot of 0 takes the block, noted pending
unfoldable pub written_map : Geometry → Bytes → Bytes → ℕ → ℕ → ℕ → Bytes
written_map G map fcb t j b = cond (eqb (slot_of G fcb j) 0) (with_note map b (pending_for t j)) map

-- record r goes to block b, in slot j of entry t
unfoldable pub have_written : Geometry → ℕ → ℕ → ℕ → ℕ → ℕ → Lent → Lent
have_written G t j b r cr l =
    lend (with_record G l.drive.image (place_in G b r) l.buffer) (written_map G l.drive.map l.fcb t j b)
    (written_fcb G l.fcb (count_in (entry_at G l.drive.image t) (extent_of l.fcb)) j b r cr) l.buffer
