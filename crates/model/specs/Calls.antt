-- Document 01, "The calls": what each call does once the table has passed it. A call other than 17 and 18 ends a search; whatever a
-- rule doesn't change stays.
use Rattle.std.specs.Prelude.{Bool, true, false, cond, ℕ, ◌+◌, ◌*◌, ◌/◌, ◌%◌, max, eqb, set}
use Rattle.lists.specs.Splice.{splice}
use Rattle.lists.specs.Fold.{fold_below}
use Rattle.format.specs.Diskette.{Bytes, Geometry, record_at, entries_per_record, extent_records}
use Rattle.format.specs.Entries.{Rows, entry_at, with_entry, ex_of, extent_of, end_of, named, find_empty_rule}
use Rattle.format.specs.Notes.{fresh_map, freed_map, released_map, free_count_rule}
use Rattle.format.specs.Fcb.{cr_of}
use Rattle.format.specs.Found.{number_of}
use Rattle.model.specs.declared.Session.{Session}
use Rattle.model.specs.declared.Code.TheVariants.{Accepted}
use Rattle.model.specs.declared.Plan.{Plan}
use Rattle.model.specs.declared.Plan.TheVariants.{Stay, Move, Make}
use Rattle.model.specs.Lent.{Lent, lend, rows_of, Outcome, ends, ended, searching, with_user}
use Rattle.model.specs.Closing.{closed_image, closed_map, closed_fcb}
use Rattle.model.specs.Entering.{copied, entered, made_row_rule, renamed_row_rule, three_bytes}
use Rattle.model.specs.Target.{target_extent, target_record, target_slot, cr_after, present_entry, plan, moved, made, have_read, have_written}
use Rattle.model.specs.Table.{asked_entry}
use Rattle.model.specs.Search.{find_hit_rule}

-- a call done, which ends a search: A is 0, or the number that the call gives
abbrev pub done : ℕ → Session → Lent → Outcome
done a s l = ends (Accepted a) (ended s) l

-- entries are answered mod 4
abbrev pub entry_number : ℕ → ℕ
entry_number e = e % entries_per_record

-- what a quiet call leaves: it touches neither image nor map nor user, and A is the entry mod 4 or, for one that names no entry, 0
pub record Told : Type 0 where
  pub entry : ℕ
  pub fcb : Bytes
  pub buffer : Bytes

abbrev pub tell : ℕ → Bytes → Bytes → Told
tell e f b = record { entry = e; fcb = f; buffer = b }

abbrev pub quietly : Told → Session → Lent → Outcome
quietly t s l = done (entry_number t.entry) s (lend l.drive.image l.drive.map t.fcb t.buffer)

-- ---- rows that a test picks are changed, one after the other
unfoldable pub changed_row : Geometry → (Bytes → Bool) → (Bytes → Bytes) → Bytes → ℕ → Bytes
changed_row G picks change img e = cond (picks (entry_at G img e)) (with_entry G img e (change (entry_at G img e))) img

unfoldable pub changed_rows : Geometry → (Bytes → Bool) → (Bytes → Bytes) → Bytes → Bytes
changed_rows G picks change img = fold_below (changed_row G picks change) img G.entries

-- byte 0 to E5H only
unfoldable pub erased_row : Bytes → Bytes
erased_row row = set row 0 229

-- the largest of 128 × extent + count over the name's entries
unfoldable pub larger_size_rule : Rows → (Bytes → Bool) → ℕ → ℕ → ℕ
larger_size_rule d picks size e = cond (picks (d e)) (max size (end_of (d e))) size

unfoldable pub file_size_rule : Geometry → Rows → (Bytes → Bool) → ℕ
file_size_rule G d picks = fold_below (larger_size_rule d picks) 0 G.entries

module _ (G : Geometry) (s : Session) (l : Lent) where
  -- 13: the map becomes the fresh map
  unfoldable pub logged_in : Outcome
  logged_in = done 0 s (lend l.drive.image (fresh_map G (rows_of G l)) l.fcb l.buffer)

  -- 98: every pending note becomes 0
  unfoldable pub freed : Outcome
  freed = done 0 s (lend l.drive.image (freed_map G l.drive.map) l.fcb l.buffer)

  -- 32: argument 255 returns the user in A; otherwise sets it
  unfoldable pub user_set : ℕ → Outcome
  user_set argument = cond (eqb argument 255) (done s.user s l) (done 0 (with_user s argument) l)

  -- 15: FCB bytes 1 to 31 become the entry's
  unfoldable pub opened_at : ℕ → Told
  opened_at e = tell e (entered l.fcb (rows_of G l e) (ex_of l.fcb)) l.buffer

  unfoldable pub opened : Told
  opened = opened_at (number_of G.entries (asked_entry G l s.user))

  -- 16: the entry takes the FCB's blocks and count
  unfoldable pub closed_at : ℕ → Outcome
  closed_at e =
      done (entry_number e) s
      (lend (closed_image G l.drive.image e l.fcb) (closed_map G (rows_of G l e) l.fcb l.drive.map) (closed_fcb l.fcb) l.buffer)

  unfoldable pub closed : Outcome
  closed = closed_at (number_of G.entries (present_entry G s.user l))

  -- 17, 18: the buffer gets the directory record of four entries holding the match; the search goes on one past it
  unfoldable pub found_at : Bytes → ℕ → Outcome
  found_at pattern e =
      ends (Accepted (entry_number e)) (searching s pattern (e + 1))
      (lend l.drive.image l.drive.map l.fcb (record_at G l.drive.image (e / entries_per_record)))

  unfoldable pub searched : Bytes → ℕ → Outcome
  searched pattern place = found_at pattern (number_of G.entries (find_hit_rule G (rows_of G l) s.user pattern place))

  -- 19: all extents matching the name become empty; their blocks, and pending ones held for them, become free
  unfoldable pub deletes : Bytes → Bool
  deletes row = named true s.user l.fcb 1 row

  unfoldable pub deleted : Outcome
  deleted =
      done 0 s
      (lend (changed_rows G deletes erased_row l.drive.image) (released_map G (rows_of G l) (λ (e : ℕ). deletes (rows_of G l e)) l.drive.map)
      l.fcb l.buffer)

  -- 22: the first empty entry becomes the new file's; FCB bytes 1 to 31 become the same
  unfoldable pub created_at : ℕ → Outcome
  created_at e =
      done (entry_number e) s
      (lend (with_entry G l.drive.image e (made_row_rule s.user l.fcb)) l.drive.map (copied l.fcb (made_row_rule s.user l.fcb)) l.buffer)

  unfoldable pub created : Outcome
  created = created_at (number_of G.entries (find_empty_rule G (rows_of G l)))

  -- 23: in every extent the name becomes FCB bytes 17 to 27
  unfoldable pub renamed : Outcome
  renamed = done 0 s (lend (changed_rows G (named false s.user l.fcb 1) (renamed_row_rule l.fcb) l.drive.image) l.drive.map l.fcb l.buffer)

  -- 20, 33: the FCB comes to the target's extent; the buffer gets the record
  unfoldable pub read_at : ℕ → ℕ → Lent → Outcome
  read_at n b there = done 0 s (have_read G b (target_record n l.fcb) (cr_after n l.fcb) there)

  -- a read never makes an entry: the table refuses one of an extent without
  abbrev pub reading : ℕ → Plan → Outcome
  reading n (Stay e b) = read_at n b l
  reading n (Move e t b) = read_at n b (moved G (target_extent n l.fcb) l e t)
  reading n (Make e t b) = read_at n b (made G (target_extent n l.fcb) l e t)

  unfoldable pub read : ℕ → Outcome
  read n = reading n (plan G n s.user l)

  -- 21, 34: the FCB comes to the target's extent; the buffer's bytes go to the record
  unfoldable pub written_at : ℕ → ℕ → ℕ → Lent → Outcome
  written_at n t b there = done 0 s (have_written G t (target_slot G n l.fcb) b (target_record n l.fcb) (cr_after n l.fcb) there)

  abbrev pub writing : ℕ → Plan → Outcome
  writing n (Stay e b) = written_at n e b l
  writing n (Move e t b) = written_at n t b (moved G (target_extent n l.fcb) l e t)
  writing n (Make e t b) = written_at n t b (made G (target_extent n l.fcb) l e t)

  unfoldable pub written : ℕ → Outcome
  written n = writing n (plan G n s.user l)

  -- 35: the size in r0 to r2, lowest byte first
  unfoldable pub sized : Told
  sized = tell 0 (splice l.fcb 33 (three_bytes (file_size_rule G (rows_of G l) (named false s.user l.fcb 1)))) l.buffer

  -- 36: 128 × extent + cr
  unfoldable pub positioned : Told
  positioned = tell 0 (splice l.fcb 33 (three_bytes (extent_records * extent_of l.fcb + cr_of l.fcb))) l.buffer

  -- 46: the records of the free blocks, lowest byte first
  unfoldable pub space : Told
  space = tell 0 l.fcb (splice l.buffer 0 (three_bytes (G.per_block * free_count_rule G l.drive.map)))
