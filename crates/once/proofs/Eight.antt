-- The seven theorems on the 8-inch disk, in their order: what the contract of the picker says, in words of calls, of the directory and of bytes. Its names
-- are eleven bytes each, as its types have them.
use Rattle.std.specs.Prelude.{◌≡◌, ◌⊎◌, true, false, cond, ℕ, ◌*◌, ◌≤◌, ◌<◌, length, get_or}
use Rattle.std.proofs.Common.{arith}
use Rattle.format.specs.Diskette.{Bytes, eight_inch, record_bytes, Long}
use Rattle.format.specs.Entries.{entry_at}
use Rattle.format.specs.Dates.{is_dates}
use Rattle.format.specs.Consistent.{consistent}
use Rattle.format.specs.Notes.{map_right, note_at_rule, free_note, recorded_note, is_pending}
use Rattle.disk.specs.Eight.{eight_sound}
use Rattle.model.specs.declared.Asked.{Asked}
use Rattle.model.specs.Lent.{ended, protected}
use Rattle.model.specs.Table.{time_right_rule}
use Rattle.demands.specs.Runs.{Disk}
use Rattle.stored.specs.Closed.{Restamped}
use Rattle.stored.specs.Looking.{ReadsAs}
use Rattle.picking.specs.declared.Wanted.{Wanted}
use Rattle.picking.specs.declared.Time.{Time}
use Rattle.picking.specs.declared.Pick.TheVariants.{Logged, Again}
use Rattle.picking.specs.Picker.{fcb_of_rule, last_day, call_at, has_stamp_rule, log_record_rule, picked}
use Rattle.once.specs.Again.{LoggedOnce, Repeats, SecondRun}
use Rattle.once.proofs.Again.{logged_once, again_says, repeats_again, second_run}
use Rattle.once.specs.Bytes.{Named, same_year, same_day}
use Rattle.once.specs.Calls.{Timed}
use Rattle.once.specs.Picks.{PickAccess}
use Rattle.once.proofs.Picks.{pick_run}
use Rattle.once.specs.Session.{book_opened, session_handed_back, nothing_accepted}
use Rattle.once.specs.Table.{answer}
use Rattle.once.specs.Unharmed.{Touched}
use Rattle.once.proofs.Unharmed.{trouble_unharmed, bytes_unharmed, stays_right, one_entry, protected_unharmed, notes_unharmed, one_note_changes, nothing_pending, protection_stays}
use Rattle.once.proofs.Word.{word_read, word_as_lent, word_handed_out}

-- three bytes can count its records
countable : eight_inch.per_block * eight_inch.blocks < 16777216
countable = omega arith

module _ (t : Time) (w : Wanted) (nm : Named w) (d : Disk) (buffer : Bytes) where
  -- ---- 1: a word that is handed out is what 33 gives for the day's record of the book, through a fresh open, on the disk as it came; whenever that
  -- gives one it is handed out, whatever the answer; and else the bytes lent stay
  pub one_read : (picked eight_inch t w d buffer).given ≡ true → ReadsAs eight_inch (call_at t 0) d (fcb_of_rule w.book) w.day (picked eight_inch t w d buffer).word
  one_read = word_read eight_sound countable t w nm d buffer

  pub one_handed_out : w.day ≤ last_day → length buffer ≡ record_bytes → (v : Bytes) → ReadsAs eight_inch (call_at t 0) d (fcb_of_rule w.book) w.day v
      → ((picked eight_inch t w d buffer).given ≡ true) × ((picked eight_inch t w d buffer).word ≡ v)
  one_handed_out = word_handed_out eight_sound countable t w nm d buffer

  pub one_as_lent : (picked eight_inch t w d buffer).given ≡ false → (picked eight_inch t w d buffer).word ≡ buffer
  one_as_lent = word_as_lent eight_sound countable t w nm d buffer

  -- ---- 2: "again" exactly where the word can be read, the two are two files and a log record has the year and day, as the calls tell it at any time;
  -- and after "picked and logged" the log has one record more
  pub two_again : (a : Asked) (time : time_right_rule a ≡ true) → (picked eight_inch t w d buffer).pick ≡ Again → Repeats eight_inch w a d
  two_again a time = again_says eight_sound countable w nm a time t d buffer

  pub two_repeats : Timed t → length buffer ≡ record_bytes → (a : Asked) (time : time_right_rule a ≡ true) → Repeats eight_inch w a d
      → (picked eight_inch t w d buffer).pick ≡ Again
  two_repeats timed long a time r = (repeats_again eight_sound countable w nm a time t timed d buffer long r).0

  pub two_logged : (a : Asked) (time : time_right_rule a ≡ true) → (picked eight_inch t w d buffer).pick ≡ Logged
      → LoggedOnce eight_inch w a d (picked eight_inch t w d buffer).disk
  two_logged a time = logged_once eight_sound countable w nm a time t d buffer

  -- ---- 3: a second run, at any time in BCD and with any 128 bytes
  pub three_second : ((picked eight_inch t w d buffer).pick ≡ Logged) ⊎ ((picked eight_inch t w d buffer).pick ≡ Again) → (again : Time) → Timed again → (other : Bytes)
      → length other ≡ record_bytes → SecondRun eight_inch w again (picked eight_inch t w d buffer) (picked eight_inch again w (picked eight_inch t w d buffer).disk other)
  three_second = second_run eight_sound countable w nm t d buffer

  -- ---- 4: on trouble, and on "again", no byte of image or map changes but access stamps of book and log, of the time handed in; and none at all on a
  -- protected session
  pub four_unharmed : ((picked eight_inch t w d buffer).pick ≡ Logged → ⊥) → Restamped eight_inch (PickAccess eight_inch t w d) d (picked eight_inch t w d buffer).disk
  four_unharmed = trouble_unharmed eight_sound countable t w nm d buffer

  pub four_protected : protected d.session ≡ true → ((picked eight_inch t w d buffer).pick ≡ Logged → ⊥)
      → ((picked eight_inch t w d buffer).disk.drive.image ≡ d.drive.image) × ((picked eight_inch t w d buffer).disk.drive.map ≡ d.drive.map)
  four_protected = protected_unharmed eight_sound countable t w nm d buffer

  -- ---- 5: in any run no byte changes but in entries of the log and stamps beside them, in the one record written, and in the access stamp of the book; at
  -- most one entry changes, date entries aside; image and map stay right and as long as they were
  pub five_bytes : (i : ℕ) → (get_or (picked eight_inch t w d buffer).disk.drive.image i 0 ≡ get_or d.drive.image i 0) ⊎ Touched eight_inch t w d (picked eight_inch t w d buffer).disk i
  five_bytes = bytes_unharmed eight_sound countable t w nm d buffer

  pub five_entry : (j k : ℕ) → j < eight_inch.entries → k < eight_inch.entries → is_dates (entry_at eight_inch d.drive.image j) ≡ false
      → is_dates (entry_at eight_inch d.drive.image k) ≡ false
      → (entry_at eight_inch (picked eight_inch t w d buffer).disk.drive.image j ≡ entry_at eight_inch d.drive.image j → ⊥)
      → (entry_at eight_inch (picked eight_inch t w d buffer).disk.drive.image k ≡ entry_at eight_inch d.drive.image k → ⊥) → j ≡ k
  five_entry = one_entry eight_sound countable t w nm d buffer

  pub five_map : Long eight_inch d.drive.image → length d.drive.map ≡ eight_inch.blocks → consistent eight_inch d.drive.image ≡ true
      → map_right eight_inch (entry_at eight_inch d.drive.image) d.drive.map ≡ true
      → Long eight_inch (picked eight_inch t w d buffer).disk.drive.image × (length (picked eight_inch t w d buffer).disk.drive.map ≡ eight_inch.blocks)
      × (consistent eight_inch (picked eight_inch t w d buffer).disk.drive.image ≡ true)
      × (map_right eight_inch (entry_at eight_inch (picked eight_inch t w d buffer).disk.drive.image) (picked eight_inch t w d buffer).disk.drive.map ≡ true)
  five_map = stays_right eight_sound countable t w nm d buffer

  -- nothing is pending that was not before
  pub five_pending : (b : ℕ) → b < eight_inch.blocks → is_pending (note_at_rule (picked eight_inch t w d buffer).disk.drive.map b) ≡ true
      → note_at_rule (picked eight_inch t w d buffer).disk.drive.map b ≡ note_at_rule d.drive.map b
  five_pending = nothing_pending eight_sound countable t w nm d buffer

  -- each note stays, but that of at most one block, which was free and is recorded now
  pub five_notes : (b : ℕ) → b < eight_inch.blocks → (note_at_rule (picked eight_inch t w d buffer).disk.drive.map b ≡ note_at_rule d.drive.map b)
      ⊎ ((note_at_rule d.drive.map b ≡ free_note) × (note_at_rule (picked eight_inch t w d buffer).disk.drive.map b ≡ recorded_note))
  five_notes = notes_unharmed eight_sound countable t w nm d buffer

  pub five_one_note : (b c : ℕ) → b < eight_inch.blocks → c < eight_inch.blocks
      → (note_at_rule (picked eight_inch t w d buffer).disk.drive.map b ≡ note_at_rule d.drive.map b → ⊥)
      → (note_at_rule (picked eight_inch t w d buffer).disk.drive.map c ≡ note_at_rule d.drive.map c → ⊥) → b ≡ c
  five_one_note = one_note_changes eight_sound countable t w nm d buffer

  -- the protection is what it was; the search is ended where the book was opened, before which no call is made, and after which none where it was refused;
  -- nothing changes at all then
  pub five_protection : (picked eight_inch t w d buffer).disk.session.lifted ≡ d.session.lifted
  five_protection = protection_stays eight_sound countable t w nm d buffer

  pub five_nothing : book_opened eight_inch t w d buffer ≡ false → (picked eight_inch t w d buffer).disk ≡ d
  five_nothing = nothing_accepted eight_inch t w d buffer

  pub five_session : (picked eight_inch t w d buffer).disk.session ≡ cond (book_opened eight_inch t w d buffer) (ended d.session) d.session
  five_session = session_handed_back eight_inch t w d buffer

  -- ---- 6: the answer is that of the table, in words of the directory, for any disk, map, session and time and any bytes lent
  pub six_answers : (picked eight_inch t w d buffer).pick ≡ answer eight_inch w d t buffer
  six_answers = (pick_run eight_sound countable t w nm d buffer).pick

-- ---- 7: a log record has the nine bytes of one year and day only
pub seven_year : (y d z e : ℕ) → has_stamp_rule y d (log_record_rule z e) ≡ true → y ≤ 99999 → z ≤ 99999 → z ≡ y
seven_year = same_year

pub seven_day : (y d z e : ℕ) → has_stamp_rule y d (log_record_rule z e) ≡ true → d ≤ 999 → e ≤ 999 → e ≡ d
seven_day = same_day
