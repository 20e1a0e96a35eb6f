-- What is said of a whole run of the picker: its answer is the table's; the word is the day's record of the book, or stays as it was lent; and the disk
-- is the same but for access stamps of book and log, or has the log grown.
use Rattle.std.specs.Prelude.{◌≡◌, ◌⊎◌, Bool, not, eqb, ltb, length, is_some}
use Rattle.std.proofs.Math.Bool.{true, false, cond}
use Rattle.lists.specs.Tests.{◌and◌}
use Rattle.format.specs.Diskette.{Bytes, Geometry, record_bytes}
use Rattle.model.specs.Stamps.{Stamp}
use Rattle.demands.specs.Runs.{Disk}
use Rattle.stored.specs.Closed.{Sane, Access, Restamped}
use Rattle.picking.specs.declared.Wanted.{Wanted}
use Rattle.picking.specs.declared.Time.{Time}
use Rattle.picking.specs.declared.Pick.TheVariants.{Logged}
use Rattle.picking.specs.Picker.{Picked, fcb_of_rule, one_file_rule, last_day, call_at}
use Rattle.once.specs.Growth.{LogGrew}
use Rattle.once.specs.Logs.{is_logged, LogAccess}
use Rattle.once.specs.Table.{parameters_are, disk_is, name_is, extent_at, record_is, bytes_are, answer}

-- ---- what is said of a run
-- the day is one of a year, all is right, and the book has the day's record: the word can be read
unfoldable pub has_word : Geometry → Time → Wanted → Disk → Bytes → Bool
has_word G t w d buffer =
    not (ltb last_day w.day) and parameters_are G d t and disk_is G d and name_is w.book and is_some (extent_at G d w.book 0)
    and eqb (length buffer) record_bytes and record_is G d w.book w.day

-- the stamps that may be put: access stamps of the book and of the log, of the time that is asked with
abbrev pub BookAccess : Geometry → Time → Wanted → Disk → Stamp → Type 0
BookAccess G t w d = Access G (call_at t 0) d (fcb_of_rule w.book)

abbrev pub PickAccess : Geometry → Time → Wanted → Disk → Stamp → Type 0
PickAccess G t w d x = BookAccess G t w d x ⊎ LogAccess G t w d x

-- the log grew, after access stamps of the book
pub record PickGrew (G : Geometry) (t : Time) (w : Wanted) (d e : Disk) : Type 0 where
  pub sane : Sane G d
  pub apart : one_file_rule w ≡ false
  pub mid : Disk
  pub before : Restamped G (PickAccess G t w d) d mid
  pub log : LogGrew G w mid e

pub data Left (G : Geometry) (t : Time) (w : Wanted) (d : Disk) (p : Picked) : Type 0 where
  same : is_logged p.pick ≡ false → Restamped G (PickAccess G t w d) d p.disk → Left G t w d p
  more : p.pick ≡ Logged → p.given ≡ true → PickGrew G t w d p.disk → Left G t w d p

pub record PickRun (G : Geometry) (t : Time) (w : Wanted) (d : Disk) (buffer : Bytes) (p : Picked) : Type 0 where
  pub pick : p.pick ≡ answer G w d t buffer
  pub given : p.given ≡ has_word G t w d buffer
  pub word : p.word ≡ cond (has_word G t w d buffer) (bytes_are G d w.book w.day) buffer
  pub left : Left G t w d p
