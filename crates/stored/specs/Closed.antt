-- The closed records of a file, told by its entries alone; FCBs that say what their entry says; and a disk that differs from another in access
-- stamps alone.
use Rattle.std.specs.Prelude.{◌≡◌, ◌⊎◌, true, false, List, [], ℕ, ◌/◌, ◌%◌, ◌≤◌, ◌<◌, length, get_or}
use Rattle.format.specs.Diskette.{Bytes, Geometry, extent_records, slot_count}
use Rattle.format.specs.Entries.{entry_at, ex_of, slot_of, slot_for_rule, is_file_rule, count_in}
use Rattle.format.specs.Dates.{is_dates, fourth_of, asks_access, dated}
use Rattle.format.specs.Dates as Dates
use Rattle.format.specs.Fcb.{fcb_bytes, cr_of}
use Rattle.model.specs.declared.Asked.{Asked}
use Rattle.model.specs.Lent.{protected}
use Rattle.model.specs.Closing.{close_changes_rule}
use Rattle.model.specs.Target.{place_in}
use Rattle.model.specs.Stamps.{Stamp, stamped_with, time_stamp_rule}
use Rattle.table.specs.Own.{calling}
use Rattle.table.specs.Total.{InRange}
use Rattle.invariant.specs.Good.{Good}
use Rattle.invariant.specs.Stamps.{Each, Placed}
use Rattle.effects.specs.View.{View, view_of}
use Rattle.effects.specs.Cur.{Cur}
use Rattle.demands.specs.Runs.{Request, Disk}

-- call n, with whatever is asked besides its number
abbrev pub asks : Asked → ℕ → Bytes → Bytes → Request
asks a n fcb buffer = record { asked = calling n a; fcb = fcb; buffer = buffer }

-- ---- a disk whose image, map and session are right
pub record Sane (G : Geometry) (d : Disk) : Type 0 where
  pub good : Good G d.drive.image d.drive.map
  pub range : InRange G d.session

abbrev pub seen_on : Geometry → Disk → View
seen_on G d = view_of G d.drive.image d.drive.map

-- ---- files and their records
-- an FCB with which extent 0 of a file is asked for
pub record Begins (f : Bytes) : Type 0 where
  pub long : length f ≡ fcb_bytes
  pub drive : get_or f 0 0 ≤ 1
  pub ex : ex_of f ≡ 0
  pub cr : cr_of f ≤ 128

-- the user's file that f names has an extent 0
pub record First (G : Geometry) (s : View) (user : ℕ) (f : Bytes) : Type 0 where
  pub entry : ℕ
  pub low : entry < G.entries
  pub file : is_file_rule G user f 1 0 (s.rows entry) ≡ true

-- record r of the user's file that f names is there, and is v: an entry covers its extent, counts it, and has a block for it
pub record Stored (G : Geometry) (s : View) (user : ℕ) (f : Bytes) (r : ℕ) (v : Bytes) : Type 0 where
  pub entry : ℕ
  pub low : entry < G.entries
  pub file : is_file_rule G user f 1 (r / extent_records) (s.rows entry) ≡ true
  pub counted : r % extent_records < count_in (s.rows entry) (r / extent_records)
  pub real : slot_of G (s.rows entry) (slot_for_rule G (r / extent_records) (r % extent_records)) ≡ 0 → ⊥
  pub dat : s.recs (place_in G (slot_of G (s.rows entry) (slot_for_rule G (r / extent_records) (r % extent_records))) (r % extent_records)) ≡ v

-- ---- an FCB that is current and has nothing to close: its blocks are its entry's, and it counts no more
pub record Fresh (G : Geometry) (d : Disk) (f : Bytes) (e : ℕ) : Type 0 where
  pub sane : Sane G d
  pub long : length f ≡ fcb_bytes
  pub drive : get_or f 0 0 ≤ 1
  pub cur : Cur G (seen_on G d) d.session.user f e
  pub slots : (j : ℕ) → j < slot_count → slot_of G f j ≡ slot_of G (entry_at G d.drive.image e) j
  pub same : close_changes_rule G (entry_at G d.drive.image e) f ≡ false

-- ---- access stamps
-- the stamp is the access stamp, of the time that is asked with, beside the user's entry that f asks for: the label asks for such stamps, so that the
-- first of the two is one, the fourth entry is a date entry, and the session is not protected
pub record Access (G : Geometry) (a : Asked) (d : Disk) (f : Bytes) (x : Stamp) : Type 0 where
  pub first : x.which ≡ 0
  pub time : x.bytes ≡ time_stamp_rule a
  pub low : x.entry < G.entries
  pub file : is_file_rule G d.session.user f 1 (ex_of f) (entry_at G d.drive.image x.entry) ≡ true
  pub asked : Dates.asks G (entry_at G d.drive.image) asks_access ≡ true
  pub dates : is_dates (entry_at G d.drive.image (fourth_of x.entry)) ≡ true
  pub lifted : protected d.session ≡ false

-- the image is the same but for stamps, which are such as P allows, and the map is the same; user and protection are, and a session in range stays so
pub record Restamped (G : Geometry) (P : Stamp → Type 0) (d t : Disk) : Type 0 where
  pub stamps : List Stamp
  pub each : Each P stamps
  pub placed : Each (Placed G) stamps
  pub dates : (stamps ≡ []) ⊎ (dated (entry_at G d.drive.image) ≡ true)
  pub image : t.drive.image ≡ stamped_with G stamps d.drive.image
  pub map : t.drive.map ≡ d.drive.map
  pub user : t.session.user ≡ d.session.user
  pub lifted : t.session.lifted ≡ d.session.lifted
  pub range : InRange G d.session → InRange G t.session
