-- Document 01, "Directory entries": a row is the 32 bytes of an entry. Bytes 1 to 31 of an FCB are laid out the same way.
use Rattle.std.specs.Prelude.{Bool, false, cond, ℕ, ◌+◌, ◌*◌, ◌/◌, ◌%◌, min, eqb, leb, ltb, get_or, set, Option}
use Rattle.lists.specs.Tests.{◌and◌}
use Rattle.lists.specs.Splice.{part, splice}
use Rattle.lists.specs.Below.{first_in}
use Rattle.format.specs.Diskette.{Bytes, Geometry, offset_of, entry_bytes, entries_per_record, extent_records, slot_bytes}
use Rattle.format.specs.Names.{name_like_rule}
use Rattle.format.specs.Found.{found_below}

-- ---- where an entry stands
unfoldable pub entry_place_rule : Geometry → ℕ → ℕ
entry_place_rule G e = offset_of G (e / entries_per_record) + e % entries_per_record * entry_bytes

-- entry e of an image, and the image with that entry replaced
unfoldable pub entry_at : Geometry → Bytes → ℕ → Bytes
entry_at G img e = part img (entry_place_rule G e) entry_bytes

unfoldable pub with_entry : Geometry → Bytes → ℕ → Bytes → Bytes
with_entry G img e row = splice img (entry_place_rule G e) row

-- ---- the fields of a row
abbrev pub user_of : Bytes → ℕ
user_of r = get_or r 0 0

abbrev pub ex_of : Bytes → ℕ
ex_of r = get_or r 12 0

abbrev pub s2_of : Bytes → ℕ
s2_of r = get_or r 14 0

-- rc may be any byte; what it counts is `count_of`
abbrev pub rc_of : Bytes → ℕ
rc_of r = get_or r 15 0

-- the count of records that a row or an FCB carries: the smaller of rc and 128
unfoldable pub count_of : Bytes → ℕ
count_of r = min (rc_of r) extent_records

-- a row with other numbers
unfoldable pub with_numbers : Bytes → ℕ → ℕ → ℕ → Bytes
with_numbers r ex s2 count = set (set (set r 12 ex) 14 s2) 15 count

-- the sixteen bytes of the block numbers
unfoldable pub slots_of : Bytes → Bytes
slots_of r = part r 16 slot_bytes

-- ---- the slots. Each question has its own name, since other disks answer them otherwise
-- the block number in slot j of such sixteen bytes
unfoldable pub slot_in : Geometry → Bytes → ℕ → ℕ
slot_in G ss j = get_or ss j 0

-- the slot of which byte i of them is a part
unfoldable pub slot_at : Geometry → ℕ → ℕ
slot_at G i = i

-- slot j of a row or an FCB
unfoldable pub slot_of : Geometry → Bytes → ℕ → ℕ
slot_of G r j = slot_in G (slots_of r) j

-- a row or an FCB with block b in slot j
unfoldable pub with_slot : Geometry → Bytes → ℕ → ℕ → Bytes
with_slot G r j b = set r (16 + j) b

-- byte 0 is E5H
unfoldable pub empty : Bytes → Bool
empty r = eqb (user_of r) 229

-- byte 0 is a user, 0 to 15
unfoldable pub used : Bytes → Bool
used r = leb (user_of r) 15

-- t1'
unfoldable pub read_only : Bytes → Bool
read_only r = leb 128 (get_or r 9 0)

-- ---- what an entry says of extents: here too each question has its own name. Byte 13 is s1, which no rule reads
unfoldable pub extent_of : Bytes → ℕ
extent_of r = 32 * s2_of r + ex_of r

-- an entry covers a run of extents, of one s2; a number for the run that an extent is in. On this disk every extent is a run by itself
unfoldable pub run_of : Geometry → ℕ → ℕ
run_of G ext = ext

-- the row covers the extent: its own is of the same run
unfoldable pub covers : Geometry → Bytes → ℕ → Bool
covers G r ext = eqb (run_of G (extent_of r)) (run_of G ext)

-- the records of that extent which the row counts: in its own as many as it carries, 128 in an earlier one of the run, none in a later one
unfoldable pub count_in : Bytes → ℕ → ℕ
count_in r ext = cond (ltb ext (extent_of r)) extent_records (cond (eqb ext (extent_of r)) (count_of r) 0)

-- one past the last record that a row or an FCB counts
unfoldable pub end_of : Bytes → ℕ
end_of r = extent_records * extent_of r + count_of r

-- the slot that holds record k of the extent
unfoldable pub slot_for_rule : Geometry → ℕ → ℕ → ℕ
slot_for_rule G ext k = k / G.per_block

-- ---- looking for entries
abbrev pub Rows : Type 0
Rows = ℕ → Bytes

-- the row is the user's, and its name is what the name in s at q asks for
unfoldable pub named : Bool → ℕ → Bytes → ℕ → Bytes → Bool
named wild user s q row = eqb (user_of row) user and name_like_rule wild s q row 1

-- the row is the user's, of the name in s at q, and covers the extent
unfoldable pub is_file_rule : Geometry → ℕ → Bytes → ℕ → ℕ → Bytes → Bool
is_file_rule G user s q ext row = named false user s q row and covers G row ext

-- the entry of this user, name and extent
unfoldable pub find_file_rule : Geometry → Rows → ℕ → Bytes → ℕ → ℕ → Option ℕ
find_file_rule G d user s q ext = found_below G.entries (first_in (λ (e : ℕ). is_file_rule G user s q ext (d e)) 0 G.entries)

-- the first entry of this user whose name is asked for
unfoldable pub find_named_rule : Geometry → Rows → Bool → ℕ → Bytes → ℕ → Option ℕ
find_named_rule G d wild user s q = found_below G.entries (first_in (λ (e : ℕ). named wild user s q (d e)) 0 G.entries)

-- the first empty entry
unfoldable pub find_empty_rule : Geometry → Rows → Option ℕ
find_empty_rule G d = found_below G.entries (first_in (λ (e : ℕ). empty (d e)) 0 G.entries)
