-- Document 02, [8], "Dates on the files": labels, date entries, and the two stamps that stand beside an entry.
use Rattle.std.specs.Prelude.{Bool, not, ℕ, ◌+◌, ◌*◌, ◌/◌, ◌%◌, eqb, leb, get_or}
use Rattle.lists.specs.Tests.{◌and◌}
use Rattle.lists.specs.Splice.{part, splice}
use Rattle.lists.specs.Below.{all_below, any_below}
use Rattle.format.specs.Diskette.{Bytes, Geometry, entries_per_record}
use Rattle.format.specs.Entries.{Rows, entry_at, with_entry, user_of}

-- byte 0 is 20H: a label; 21H: a date entry. Neither is empty or used
unfoldable pub is_label : Bytes → Bool
is_label r = eqb (user_of r) 32

unfoldable pub is_dates : Bytes → Bool
is_dates r = eqb (user_of r) 33

-- ---- stamps: day, low byte first, hour and minute
abbrev pub stamp_bytes : ℕ
stamp_bytes = 4

-- two decimal digits
unfoldable pub bcd : ℕ → Bool
bcd b = leb (b % 16) 9 and leb (b / 16) 9

-- hour and minute of the stamp in r at a place
unfoldable pub stamp_right : Bytes → ℕ → Bool
stamp_right r at = bcd (get_or r (at + 2) 0) and bcd (get_or r (at + 3) 0)

-- ---- a label: its byte 12 asks for stamps, and bytes 24 to 31 are its own two
unfoldable pub asks_create : Bytes → Bool
asks_create r = eqb (get_or r 12 0 / 16 % 2) 1

unfoldable pub asks_update : Bytes → Bool
asks_update r = eqb (get_or r 12 0 / 32 % 2) 1

unfoldable pub asks_access : Bytes → Bool
asks_access r = eqb (get_or r 12 0 / 64 % 2) 1

unfoldable pub label_right_rule : Bytes → Bool
label_right_rule r = is_label r and stamp_right r 24 and stamp_right r 28 and not (asks_create r and asks_access r)

-- the label asks
unfoldable pub asks : Geometry → Rows → (Bytes → Bool) → Bool
asks G d what = any_below (λ (e : ℕ). is_label (d e) and what (d e)) G.entries

-- ---- a date entry: from byte 1 on, ten bytes for each of the three entries before it, of which the first eight are stamps: create or access
-- (0), update (1)
abbrev pub stamp_place : ℕ → ℕ → ℕ
stamp_place k which = 1 + 10 * k + 4 * which

unfoldable pub dates_right_rule : Bytes → Bool
dates_right_rule r = is_dates r and all_below (λ (k : ℕ). stamp_right r (stamp_place k 0) and stamp_right r (stamp_place k 1)) 3

-- the fourth position of a record, and the one of an entry's record
abbrev pub is_fourth : ℕ → Bool
is_fourth e = eqb (e % entries_per_record) 3

abbrev pub fourth_of : ℕ → ℕ
fourth_of e = entries_per_record * (e / entries_per_record) + 3

-- the disk has date entries
abbrev pub dated : Rows → Bool
dated d = is_dates (d 3)

-- ---- a stamp beside entry e, and the image with that stamp replaced
unfoldable pub stamp_at : Geometry → Bytes → ℕ → ℕ → Bytes
stamp_at G img e which = part (entry_at G img (fourth_of e)) (stamp_place (e % entries_per_record) which) stamp_bytes

unfoldable pub with_stamp : Geometry → Bytes → ℕ → ℕ → Bytes → Bytes
with_stamp G img e which stamp =
    with_entry G img (fourth_of e) (splice (entry_at G img (fourth_of e)) (stamp_place (e % entries_per_record) which) stamp)
