-- Stamps, by computing, on a disk that is small enough for that: a label, two empty entries and a date entry, and three blocks. They are put
-- down where the laws of stamps say, and nothing else of the date entry changes. And the protection, on the same disk.
use Rattle.std.specs.Prelude.{◌≡◌, refl, [], ◌∷◌, ◌++◌, ℕ, ◌+◌, replicate, set}
use Rattle.std.proofs.Common.{arith}
use Rattle.lists.specs.Below.{all_below, any_below, first_of, first_in}
use Rattle.lists.specs.Fold.{fold_below}
use Rattle.lists.specs.Seen.{taken}
use Rattle.lists.specs.Splice.{part, splice}
use Rattle.lists.specs.Tab.{tab}
use Rattle.lists.specs.Tests.{◌and◌, ◌or◌, agree}
use Rattle.format.specs.Consistent.{slot_right, slots_right, file_right, aside_right, entry_right, listed, listed_once, same_file_rule, alone, dates_placed, label_once, places_right, consistent_rows, consistent}
use Rattle.format.specs.Dates.{is_label, is_dates, bcd, stamp_right, asks_create, asks_update, asks_access, label_right_rule, asks, dates_right_rule, with_stamp}
use Rattle.format.specs.Diskette.{Bytes, Geometry, Sound, slots_on, is_long, sectors_before, offset_of, record_at, with_record}
use Rattle.format.specs.Entries.{entry_place_rule, entry_at, with_entry, count_of, with_numbers, slots_of, slot_in, slot_at, slot_of, with_slot, empty, used, read_only, extent_of, run_of, covers, count_in, end_of, slot_for_rule, named, is_file_rule, find_file_rule, find_empty_rule}
use Rattle.format.specs.Fcb.{fcb_end, fcb_count_in, random_of_rule, fcb_right_rule, slot_fits_rule, slots_fit_rule, current}
use Rattle.format.specs.Found.{found_below}
use Rattle.format.specs.Names.{name_byte_rule, name_right_rule, byte_like_rule, name_like_rule}
use Rattle.format.specs.Notes.{pending_for, is_pending, pending_entry, pending_slot, is_listed, held_by_used_rule, note_right_rule, map_right, fresh_note_rule, fresh_map, is_free, find_free, with_note}
use Rattle.model.specs.Calls.{logged_in, opened_at, opened, closed_at, closed, created_at, created, read_at, read, written_at, written}
use Rattle.model.specs.Closing.{takes_slot_rule, merged_byte_rule, merged_slots, ends_later_rule, later_end_rule, closed_row_rule, closed_note, closed_map, close_changes_rule, closed_image, closed_fcb}
use Rattle.model.specs.Entering.{copied, interface_byte, interface_cleared, as_extent, entered, made_row_rule, next_row_rule}
use Rattle.model.specs.Kinds.{kind_of, uses_fcb_rule, is_random_rule, is_call}
use Rattle.model.specs.Stamps.{time_stamp_rule, no_stamp, access_stamps, close_stamps, new_stamps, create_stamps}
use Rattle.model.specs.Step.{told, settled, effect, step}
use Rattle.model.specs.Table.{time_right_rule, lengths_right_rule, parameters_right_rule, disk_right_rule, asked_entry, first_row, would_succeed, move_changes, protection_holds, table, verdict}
use Rattle.model.specs.Target.{target_extent, target_record, cr_after, present_entry, stays, within, target_slot, target_entry, block_there, target_block, read_only_there, count_there, record_there, plan_from, plan, moved, made, place_in, have_read, written_count, written_fcb, written_map, have_written}
use Rattle.model.specs.declared.Asked.{Asked}
use Rattle.model.specs.declared.Session.{Session}
use Rattle.model.specs.Lent.{lend, Outcome, lift, protect, protected}
use Rattle.examples.specs.Erased.{start, blank, next}
use Rattle.examples.specs.OneFile.{file_fcb}
use Rattle.examples.specs.Dates.{label_with}

-- ---- the disk
abbrev pub tiny : Geometry
tiny = record { records = 24; sectors = 8; reserved = 0; per_block = 8; blocks = 3; area = 1; entries = 4; physical = λ (s : ℕ). s + 1 }

-- the laws of any sound disk are laws of this one
pub tiny_sound : Sound tiny
unfolding sectors_before slots_on
tiny_sound = record {
  some_sector = omega arith;
  some_record = omega arith;
  physical_low = λ s h. omega arith;
  physical_high = λ s h. omega arith;
  physical_once = λ s t h l q. omega arith;
  area_holds = omega arith;
  area_some = omega arith;
  area_below = omega arith;
  image_holds = λ d h. omega arith;
  slots_hold = omega arith;
  fours = refl;
  some_entry = omega arith;
}

-- a date entry with these stamps beside entry 1 and entry 2, and 9 in every other byte
abbrev beside : Bytes → Bytes → Bytes → Bytes → Bytes
beside c u d v = 33 ∷ (replicate 10 9 ++ (c ++ (u ++ (9 ∷ 9 ∷ (d ++ (v ++ (9 ∷ 9 ∷ 9 ∷ [])))))))

abbrev nines : Bytes
nines = replicate 4 9

abbrev zeros : Bytes
zeros = replicate 4 0

-- with a label that asks, and this date entry
unfoldable pub disk_with : ℕ → Bytes → Bytes
disk_with asking dates = label_with asking ++ (replicate 64 229 ++ (dates ++ replicate 2944 229))

-- ---- calls one after the other, each on what the one before left: at 12:30 on day 256 + k
abbrev noon : ℕ → Bytes
noon k = k ∷ 1 ∷ 18 ∷ 48 ∷ []

abbrev at : ℕ → ℕ → Asked
at n k = record { number = n; argument = 0; day = 256 + k; hour = 18; minute = 48 }

abbrev logged_as : Session → ℕ → Bytes → Outcome
logged_as s asking dates = step tiny (at 13 0) (lend (disk_with asking dates) (replicate 3 0) file_fcb blank) s

abbrev logged_on : ℕ → Bytes → Outcome
logged_on asking dates = logged_as (lift start) asking dates

-- file A is made
abbrev made_on : ℕ → Outcome
made_on asking = next tiny (at 22 1) (logged_on asking (beside nines nines nines nines))

-- on a disk whose label asks for create and update: a record is written, and the file closed twice
abbrev wrote : Outcome
wrote = next tiny (at 21 2) (made_on 48)

abbrev closed_once : Outcome
closed_once = next tiny (at 16 3) wrote

abbrev closed_twice : Outcome
closed_twice = next tiny (at 16 4) closed_once

-- or the record after its extent's last is written, which makes an entry
abbrev at_end : Outcome → Outcome
at_end o = record { answer = o.answer; lent = lend o.lent.drive.image o.lent.drive.map (set o.lent.fcb 32 128) o.lent.buffer }

abbrev moved_on : Outcome
moved_on = next tiny (at 21 3) (at_end wrote)

-- on one whose label asks for access and update: the file is opened
abbrev opened_again : Outcome
opened_again = next tiny (at 15 2) (made_on 96)

-- ---- the protection is set on what a call left
abbrev protect_again : Outcome → Outcome
protect_again o = record { answer = record { a = o.answer.a; h = o.answer.h; session = protect o.answer.session }; lent = o.lent }

-- record r of the file is read
abbrev read_again : ℕ → Outcome → Outcome
read_again r o = next tiny (at 33 5) record { answer = o.answer; lent = lend o.lent.drive.image o.lent.drive.map (set (set o.lent.fcb 33 r) 34 0) o.lent.buffer }

-- the call is accepted and answers a; the date entry is then this
abbrev Leaves : Outcome → ℕ → Bytes → Type 0
Leaves o a dates = (o.answer.a ≡ a) × (o.answer.h ≡ 0) × (entry_at tiny o.lent.drive.image 3 ≡ dates)

abbrev Answers : Outcome → ℕ → ℕ → Type 0
Answers o a h = (o.answer.a ≡ a) × (o.answer.h ≡ h)

pub record Stamps : Type 0 where
  -- create is the time of the make, update is zero
  pub make : Leaves (made_on 48) 1 (beside (noon 1) zeros nines nines)
  -- a write within an extent stamps nothing
  pub write : Leaves wrote 0 (beside (noon 1) zeros nines nines)
  -- update is the time of the close; one that changes nothing stamps nothing
  pub close : Leaves closed_once 1 (beside (noon 1) (noon 3) nines nines)
  pub close_twice : Leaves closed_twice 1 (beside (noon 1) (noon 3) nines nines)
  -- a move updates the entry that it closes; the stamps of the one that it makes are zero
  pub move : Leaves moved_on 0 (beside (noon 1) (noon 3) zeros zeros)
  -- where create is not asked for a new entry's two stamps are zero; access is the time of the open
  pub make_no_create : Leaves (made_on 96) 1 (beside zeros zeros nines nines)
  pub access : Leaves opened_again 1 (beside (noon 2) zeros nines nines)
  -- an open on a protected session is accepted and stamps nothing
  pub access_protected : Leaves (next tiny (at 15 2) (protect_again (made_on 96))) 1 (beside zeros zeros nines nines)
  -- without date entries nothing is stamped, whatever the label asks
  pub undated : Leaves (next tiny (at 22 1) (logged_on 48 (replicate 32 229))) 1 (replicate 32 229)
  -- a label that asks for create and access, an hour that is no BCD
  pub create_access : Answers (logged_on 80 (beside nines nines nines nines)) 255 1
  pub bad_hour : Answers (logged_on 48 (beside nines (9 ∷ 9 ∷ 10 ∷ 9 ∷ []) nines nines)) 255 1
  -- a make on a session of zeros, and a write where the protection was set again, are refused; a read that stays is not, before the close and after it
  pub make_protected : Answers (next tiny (at 22 1) (logged_as start 48 (beside nines nines nines nines))) 255 2
  pub write_protected : Answers (next tiny (at 21 2) (protect_again (made_on 48))) 255 2
  pub read_protected : Answers (read_again 0 (protect_again wrote)) 0 0
  pub read_closed : Answers (read_again 0 (protect_again closed_once)) 0 0
  -- a read whose move would change an entry is refused, and accepted once the protection is lifted; after a close it is not refused, since its
  -- move changes nothing; and one of a record that is not there answers 1
  pub move_protected : Answers (read_again 0 (protect_again moved_on)) 255 2
  pub move_lifted : Answers (read_again 0 moved_on) 0 0
  pub move_closed : Answers (read_again 0 (protect_again (next tiny (at 16 4) moved_on))) 0 0
  pub no_record_protected : Answers (read_again 9 (protect_again moved_on)) 1 0

pub stamps : Stamps
unfolding disk_with file_fcb all_below any_below first_of first_in fold_below taken part splice tab ◌and◌ ◌or◌ agree slot_right slots_right file_right
    aside_right entry_right listed listed_once same_file_rule alone dates_placed label_once places_right consistent_rows consistent is_label is_dates bcd
    stamp_right asks_create asks_update asks_access label_right_rule asks dates_right_rule with_stamp slots_on is_long sectors_before offset_of record_at with_record
    entry_place_rule entry_at with_entry count_of with_numbers slots_of slot_in slot_at slot_of with_slot empty used read_only extent_of run_of covers count_in
    end_of slot_for_rule named is_file_rule find_file_rule find_empty_rule fcb_end fcb_count_in random_of_rule fcb_right_rule slot_fits_rule slots_fit_rule current found_below name_byte_rule name_right_rule byte_like_rule name_like_rule
    pending_for is_pending pending_entry pending_slot is_listed held_by_used_rule note_right_rule map_right fresh_note_rule fresh_map is_free find_free with_note
    logged_in opened_at opened closed_at closed created_at created read_at read written_at written takes_slot_rule merged_byte_rule merged_slots ends_later_rule later_end_rule
    closed_row_rule closed_note closed_map close_changes_rule closed_image closed_fcb copied interface_byte interface_cleared as_extent entered made_row_rule next_row_rule
    kind_of uses_fcb_rule is_random_rule is_call time_stamp_rule no_stamp access_stamps close_stamps new_stamps create_stamps told settled effect step time_right_rule
    lengths_right_rule parameters_right_rule disk_right_rule asked_entry first_row protected would_succeed move_changes protection_holds table verdict target_extent target_record cr_after present_entry stays within
    target_slot target_entry block_there target_block read_only_there count_there record_there plan_from plan moved made place_in have_read written_count written_fcb written_map have_written
stamps = record {
  make = (refl, refl, refl);
  write = (refl, refl, refl);
  close = (refl, refl, refl);
  close_twice = (refl, refl, refl);
  move = (refl, refl, refl);
  make_no_create = (refl, refl, refl);
  access = (refl, refl, refl);
  access_protected = (refl, refl, refl);
  undated = (refl, refl, refl);
  create_access = (refl, refl);
  bad_hour = (refl, refl);
  make_protected = (refl, refl);
  write_protected = (refl, refl);
  read_protected = (refl, refl);
  read_closed = (refl, refl);
  move_protected = (refl, refl);
  move_lifted = (refl, refl);
  move_closed = (refl, refl);
  no_record_protected = (refl, refl);
}
