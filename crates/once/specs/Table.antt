-- The picker's answers as a table, in words of the directory and the map: the first row that holds decides. Nothing here speaks of calls, but for the
-- codes of the refusals that have no name of their own: 255, 4 for a length, the session or the time, 255, 1 for a damaged disk, 255, 9 for a bad name.
use Rattle.std.specs.Prelude.{Bool, false, cond, not, ℕ, ◌/◌, eqb, leb, ltb, length, Option, is_some}
use Rattle.lists.specs.Tests.{◌and◌, ◌or◌}
use Rattle.lists.specs.Below.{any_below}
use Rattle.format.specs.Diskette.{Bytes, Geometry, is_long, record_bytes, extent_records}
use Rattle.format.specs.Names.{name_right_rule}
use Rattle.format.specs.Entries.{entry_at, named, find_file_rule, find_named_rule, find_empty_rule}
use Rattle.format.specs.Dates.{bcd}
use Rattle.format.specs.Consistent.{consistent}
use Rattle.format.specs.Notes.{map_right, find_free}
use Rattle.model.specs.Target.{read_only_in}
use Rattle.model.specs.Calls.{file_size_rule}
use Rattle.demands.specs.Runs.{Disk}
use Rattle.stored.specs.Closed.{seen_on}
use Rattle.stored.specs.Told.{block_in, is_stored, bytes_stored}
use Rattle.picking.specs.declared.Wanted.{Wanted}
use Rattle.picking.specs.declared.Time.{Time}
use Rattle.picking.specs.declared.Pick.{Pick}
use Rattle.picking.specs.declared.Pick.TheVariants.{Logged, Again, DayOver, NoBook, NoWord, OneFile, NoFirst, LogFull, LogReadOnly, DirectoryFull, DiskFull, Other}
use Rattle.picking.specs.Picker.{fcb_of_rule, has_stamp_rule, one_file_rule, last_day, full_log}

-- a name that obeys the name rule
abbrev pub name_is : Bytes → Bool
name_is name = name_right_rule false (fcb_of_rule name) 1

module _ (G : Geometry) (d : Disk) where
  -- ---- the disk, the session and the time
  -- the lengths of image and map, the user, the search place, and the time in BCD
  unfoldable pub parameters_are : Time → Bool
  parameters_are t =
      is_long G d.drive.image and eqb (length d.drive.map) G.blocks and leb d.session.user 15 and leb d.session.place G.entries
      and (bcd t.hour and bcd t.minute)

  unfoldable pub disk_is : Bool
  disk_is = consistent G d.drive.image and map_right G (entry_at G d.drive.image) d.drive.map

  -- ---- a file of the session's user: it has an entry at all; the entry of one of its extents; its size; a record of it is there, and its bytes
  unfoldable pub has_entry : Bytes → Bool
  has_entry name = is_some (find_named_rule G (entry_at G d.drive.image) false d.session.user (fcb_of_rule name) 1)

  unfoldable pub extent_at : Bytes → ℕ → Option ℕ
  extent_at name ext = find_file_rule G (entry_at G d.drive.image) d.session.user (fcb_of_rule name) 1 ext

  unfoldable pub size_is : Bytes → ℕ
  size_is name = file_size_rule G (entry_at G d.drive.image) (named false d.session.user (fcb_of_rule name) 1)

  abbrev pub record_is : Bytes → ℕ → Bool
  record_is name r = is_stored G (seen_on G d) d.session.user (fcb_of_rule name) r

  abbrev pub bytes_are : Bytes → ℕ → Bytes
  bytes_are name r = bytes_stored G (seen_on G d) d.session.user (fcb_of_rule name) r

  -- ---- the disk's room
  abbrev pub some_empty : Bool
  some_empty = is_some (find_empty_rule G (entry_at G d.drive.image))

  abbrev pub some_free : Bool
  some_free = is_some (find_free G d.drive.map)

module _ (G : Geometry) (w : Wanted) (d : Disk) where
  -- ---- the log
  -- one of its records has the year and day; a record that is not there has none
  unfoldable pub has_day : Bool
  has_day = any_below (λ (r : ℕ). record_is G d w.log r and has_stamp_rule w.year w.day (bytes_are G d w.log r)) (size_is G d w.log)

  -- the entry of its next record, and t1' there or in its extent 0
  abbrev pub next_entry : Option ℕ
  next_entry = extent_at G d w.log (size_is G d w.log / extent_records)

  unfoldable pub log_locked : Bool
  log_locked = read_only_in (entry_at G d.drive.image) (extent_at G d w.log 0) or read_only_in (entry_at G d.drive.image) next_entry

  -- the next record has no block yet
  unfoldable pub no_block : Bool
  no_block = eqb (block_in G (entry_at G d.drive.image) (size_is G d w.log) next_entry) 0

  -- a log that is there, and has not the year and day
  unfoldable pub growing : Pick
  growing =
      cond (leb full_log (size_is G d w.log)) LogFull
      (cond log_locked LogReadOnly
      (cond (not (is_some next_entry) and not (some_empty G d)) DirectoryFull
      (cond (no_block and not (some_free G d)) DiskFull Logged)))

  -- a log that is to be made
  unfoldable pub beginning : Pick
  beginning = cond (not (some_free G d)) DiskFull (cond (not (some_empty G d)) DirectoryFull Logged)

  unfoldable pub log_answer : Pick
  log_answer =
      cond (not (name_is w.log)) (Other 255 9)
      (cond (not (has_entry G d w.log)) beginning
      (cond (not (is_some (extent_at G d w.log 0))) NoFirst
      (cond has_day Again growing)))

  -- ---- the word, and the whole
  -- the record of the day can be read into the bytes that are lent
  unfoldable pub word_answer : Bytes → Pick
  word_answer buffer =
      cond (not (eqb (length buffer) record_bytes)) (Other 255 4)
      (cond (not (record_is G d w.book w.day)) NoWord
      (cond (one_file_rule w) OneFile log_answer))

  unfoldable pub book_answer : Bytes → Pick
  book_answer buffer =
      cond (not (name_is w.book)) (Other 255 9)
      (cond (not (is_some (extent_at G d w.book 0))) NoBook (word_answer buffer))

  unfoldable pub answer : Time → Bytes → Pick
  answer t buffer =
      cond (ltb last_day w.day) DayOver
      (cond (not (parameters_are G d t)) (Other 255 4)
      (cond (not (disk_is G d)) (Other 255 1) (book_answer buffer)))
