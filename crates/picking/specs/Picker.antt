-- Document 02, [11], the word picker: what it answers, the word, and the disk that it leaves, made of calls alone. Each call is one `step`.
use Rattle.std.specs.Prelude.{Bool, true, false, cond, [], ◌∷◌, ◌++◌, ℕ, ◌+◌, ◌*◌, ◌/◌, ◌%◌, eqb, leb, ltb, get_or}
use Rattle.lists.specs.Tests.{◌and◌, ◌or◌}
use Rattle.lists.specs.Below.{all_below}
use Rattle.lists.specs.Fold.{fold_below}
use Rattle.lists.specs.Splice.{splice, copies}
use Rattle.format.specs.Diskette.{Bytes, Geometry, record_bytes}
use Rattle.format.specs.Names.{name_like_rule}
use Rattle.format.specs.Fcb.{fcb_bytes, random_of_rule}
use Rattle.model.specs.declared.Asked.{Asked}
use Rattle.model.specs.declared.Session.{Session}
use Rattle.model.specs.Lent.{Outcome, lift, protect, protected}
use Rattle.table.specs.Accepted.{accepted_answer}
use Rattle.demands.specs.Runs.{Request, Disk, outcome_of, left}
use Rattle.demands.specs.Reading.{at_record_rule}
use Rattle.picking.specs.declared.Wanted.{Wanted}
use Rattle.picking.specs.declared.Time.{Time}
use Rattle.picking.specs.declared.Pick.{Pick}
use Rattle.picking.specs.declared.Pick.TheVariants.{Logged, Again, DayOver, NoBook, NoWord, OneFile, NoFirst, LogFull, LogReadOnly, DirectoryFull, DiskFull, Other}
use Rattle.picking.specs.declared.Told.{Told}

-- ---- what a run comes to
-- how it ended, whether the word was handed out, the 128 bytes lent for it, and the disk
pub record Picked : Type 0 where
  pub pick : Pick
  pub given : Bool
  pub word : Bytes
  pub disk : Disk

-- and of the log alone
pub record Logging : Type 0 where
  pub pick : Pick
  pub disk : Disk

-- the same, of what code hands back
abbrev pub picks : Told → Bytes → Disk → Picked
picks r word d = record { pick = r.pick; given = r.given; word = word; disk = d }

abbrev pub notes : Pick → Disk → Logging
notes p d = record { pick = p; disk = d }

-- ---- the bytes
-- the FCB of a name: drive 0, extent 0, all else 0
unfoldable pub fcb_of_rule : Bytes → Bytes
fcb_of_rule name = splice (copies fcb_bytes 0) 1 name

-- a buffer whose bytes do not matter
unfoldable pub blank : Bytes
blank = copies record_bytes 0

-- the digit of n at a power of ten
abbrev pub digit : ℕ → ℕ → ℕ
digit n ten = 48 + n / ten % 10

-- five digits of the year, a space, three digits of the day
unfoldable pub stamp_of_rule : ℕ → ℕ → Bytes
stamp_of_rule year day =
    digit year 10000 ∷ digit year 1000 ∷ digit year 100 ∷ digit year 10 ∷ digit year 1 ∷ 32 ∷ digit day 100 ∷ digit day 10 ∷ digit day 1 ∷ []

-- CR, LF, and 1AH to the end
unfoldable pub log_record_rule : ℕ → ℕ → Bytes
log_record_rule year day = stamp_of_rule year day ++ (13 ∷ 10 ∷ copies 117 26)

-- a record has the year and day when its first nine bytes are those
unfoldable pub has_stamp_rule : ℕ → ℕ → Bytes → Bool
has_stamp_rule year day bytes = all_below (λ (i : ℕ). eqb (get_or bytes i 0) (get_or (stamp_of_rule year day) i 0)) 9

-- the low seven bits of the names are the same
unfoldable pub one_file_rule : Wanted → Bool
one_file_rule w = name_like_rule false w.book 0 w.log 0

-- 46's answer: the records that are free, in three bytes
unfoldable pub space_in_rule : Bytes → ℕ
space_in_rule b = get_or b 0 0 + 256 * get_or b 1 0 + 65536 * get_or b 2 0

-- the last day of a year, and the records of a full log
abbrev pub last_day : ℕ
last_day = 365

abbrev pub full_log : ℕ
full_log = 1024

-- ---- the calls
-- call n at a time
abbrev pub call_at : Time → ℕ → Asked
call_at t n = record { number = n; argument = 0; day = t.day; hour = t.hour; minute = t.minute }

abbrev pub asking : Time → ℕ → Bytes → Bytes → Request
asking t n fcb buffer = record { asked = call_at t n; fcb = fcb; buffer = buffer }

-- call n was accepted
abbrev pub accepted : ℕ → Outcome → Bool
accepted n o = accepted_answer n o.answer

-- A and H are these
unfoldable pub is_code : ℕ → ℕ → Outcome → Bool
is_code a h o = eqb o.answer.a a and eqb o.answer.h h

abbrev pub otherwise : Outcome → Pick
otherwise o = Other o.answer.a o.answer.h

abbrev pub tell : Pick → Outcome → Logging
tell p o = record { pick = p; disk = left o }

-- 15 of a name, extent 0
abbrev pub opening : Time → Bytes → Request
opening t name = asking t 15 (fcb_of_rule name) blank

-- 33 of record r through the FCB f
abbrev pub reading : Time → Bytes → ℕ → Bytes → Request
reading t f r buffer = asking t 33 (at_record_rule f r) buffer

-- 35 of a name
abbrev pub sizing : Time → Bytes → Request
sizing t name = asking t 35 (fcb_of_rule name) blank

-- 46
abbrev pub spacing : Time → Bytes → Request
spacing t name = asking t 46 (fcb_of_rule name) blank

-- 22 of a name
abbrev pub making : Time → Bytes → Request
making t name = asking t 22 (fcb_of_rule name) blank

-- 34 of the log's record n through the FCB f
abbrev pub writing : Time → Wanted → Bytes → ℕ → Request
writing t w f n = asking t 34 (at_record_rule f n) (log_record_rule w.year w.day)

-- 16 through the FCB f
abbrev pub closing : Time → Bytes → Request
closing t f = asking t 16 f blank

-- ---- the protection, lifted for one call and afterwards what it was before
unfoldable pub unlocked : Session → Session
unlocked s = cond (protected s) (lift s) s

-- t with the protection that s had
unfoldable pub relocked : Session → Session → Session
relocked s t = cond (protected s) (protect t) t

unfoldable pub lifted_call_rule : Geometry → Disk → Request → Outcome
lifted_call_rule G d q =
    let o = outcome_of G record { drive = d.drive; session = unlocked d.session } q in
    record { answer = record { a = o.answer.a; h = o.answer.h; session = relocked d.session o.answer.session }; lent = o.lent }

-- the log closed, which ends a write
unfoldable pub closed : Geometry → Time → Disk → Bytes → Logging
closed G t d f = let o = lifted_call_rule G d (closing t f) in tell (cond (accepted 16 o) Logged (otherwise o)) o

-- what a refused write of the log comes to
unfoldable pub write_trouble_rule : Outcome → Pick
write_trouble_rule o = cond (is_code 255 3 o) LogReadOnly (cond (is_code 5 0 o) DirectoryFull (cond (is_code 2 0 o) DiskFull (otherwise o)))

-- ---- the log searched, one read after the other; where a record was found no more are read
pub record Search : Type 0 where
  pub found : Bool
  pub disk : Disk

module _ (G : Geometry) (t : Time) (w : Wanted) where
  -- what 33 told of one record: it is there, and has the year and day
  abbrev pub tells : Outcome → Search
  tells o = record { found = accepted 33 o and has_stamp_rule w.year w.day o.lent.buffer; disk = left o }

  -- record r, through the FCB f that the open of the log handed back
  unfoldable pub look : Bytes → Search → ℕ → Search
  look f s r = cond s.found s (tells (outcome_of G s.disk (reading t f r blank)))

  -- the records below n
  unfoldable pub searched : Disk → Bytes → ℕ → Search
  searched d f n = fold_below (look f) record { found = false; disk = d } n

  -- ---- the log written
  -- record n of the log, and the close through the FCB that the write handed back
  unfoldable pub written : Disk → Bytes → ℕ → Logging
  written d f n = let o = lifted_call_rule G d (writing t w f n) in cond (accepted 34 o) (closed G t (left o) o.lent.fcb) (tell (write_trouble_rule o) o)

  -- a new log, and its record 0
  unfoldable pub made : Disk → Logging
  made d =
      let o = lifted_call_rule G d (making t w.log) in
      cond (accepted 22 o) (written (left o) o.lent.fcb 0) (tell (cond (is_code 255 0 o) DirectoryFull (otherwise o)) o)

  -- the log is missing: 46 first, so that a full disk leaves no empty log behind
  unfoldable pub begun : Disk → Logging
  begun d =
      let o = outcome_of G d (spacing t w.log) in
      cond (accepted 46 o) (cond (eqb (space_in_rule o.lent.buffer) 0) (tell DiskFull o) (made (left o))) (tell (otherwise o) o)

  -- ---- a log that is there
  -- it was searched: where no record had the year and day, it is written at n
  unfoldable pub added : Search → Bytes → ℕ → Logging
  added s f n =
      cond s.found record { pick = Again; disk = s.disk }
      (cond (leb full_log n) record { pick = LogFull; disk = s.disk } (written s.disk f n))

  -- it has n records: it is opened and searched
  unfoldable pub extended : Disk → ℕ → Logging
  extended d n =
      let o = outcome_of G d (opening t w.log) in
      cond (accepted 15 o) (added (searched (left o) o.lent.fcb n) o.lent.fcb n) (tell (cond (is_code 255 0 o) NoFirst (otherwise o)) o)

  -- by the size of the log
  unfoldable pub logged : Disk → Logging
  logged d =
      let o = outcome_of G d (sizing t w.log) in
      cond (accepted 35 o) (extended (left o) (random_of_rule o.lent.fcb)) (cond (is_code 255 0 o) (begun (left o)) (tell (otherwise o) o))

  -- ---- the word
  -- it was read: it is handed out whatever becomes of the log
  unfoldable pub worded : Outcome → Picked
  worded o =
      let l = cond (one_file_rule w) (tell OneFile o) (logged (left o)) in
      record { pick = l.pick; given = true; word = o.lent.buffer; disk = l.disk }

  -- no word: the bytes lent for it stay
  abbrev pub wordless : Pick → Bytes → Disk → Picked
  wordless p buffer d = record { pick = p; given = false; word = buffer; disk = d }

  -- 33 of the day's record, through the FCB f that the open handed back
  unfoldable pub fetched : Disk → Bytes → Bytes → Picked
  fetched d f buffer =
      let o = outcome_of G d (reading t f w.day buffer) in
      cond (accepted 33 o) (worded o) (wordless (cond (is_code 1 0 o or is_code 4 0 o) NoWord (otherwise o)) buffer (left o))

  -- 15 of the book
  unfoldable pub looked : Disk → Bytes → Picked
  looked d buffer =
      let o = outcome_of G d (opening t w.book) in
      cond (accepted 15 o) (fetched (left o) o.lent.fcb buffer) (wordless (cond (is_code 255 0 o) NoBook (otherwise o)) buffer (left o))

  -- the picker
  unfoldable pub picked : Disk → Bytes → Picked
  picked d buffer = cond (ltb last_day w.day) (wordless DayOver buffer d) (looked d buffer)
