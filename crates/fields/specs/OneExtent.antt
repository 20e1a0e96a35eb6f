-- On the 8-inch disk an entry covers one extent, and a block number takes one byte. There the definitions that are said for other disks too are
-- document 01's own words. These laws stand here for the reader; two more are `facts/Naming: covers-own` (the extent that a row covers) and
-- `hits/Hits: extent-by-bytes` (the extent that byte 12 of a search asks for).
use Rattle.std.specs.Prelude.{◌≡◌, refl, true, cond, not, ℕ, ◌+◌, ◌%◌, ◌≤◌, ◌<◌, max, eqb, ltb, length, get_or, set}
use Rattle.std.proofs.Common.{ap, ◌∙◌, arith}
use Rattle.std.proofs.Math.Path.{sym}
use borrow.Author.Tests.{eqb-true, eq-eqb, ne_eqb, ltb-true, ltb-false, lt-ltb, le-ltb}
use Rattle.lists.specs.Cases.{split, bool_cases, not_both}
use Rattle.lists.specs.Tests.{◌and◌, and_first}
use Rattle.lists.specs.Splice.{splice, set_own}
use Rattle.lists.specs.Tab.{tab}
use Rattle.format.specs.Diskette.{Bytes, Geometry, eight_inch, Long, slot_count, slots_on, extent_records}
use Rattle.format.specs.Entries.{Rows, with_entry, ex_of, s2_of, rc_of, count_of, with_numbers, slots_of, slot_in, slot_at, used, extent_of, run_of, covers, count_in, end_of}
use Rattle.format.specs.Notes.{is_pending, pending_entry, pending_slot, held_by_used_rule}
use Rattle.format.specs.Fcb.{fcb_end}
use Rattle.facts.specs.Counts.{count_there_law, count_high}
use Rattle.facts.specs.Naming.{covers_own}
use Rattle.consistency.specs.Facts.{Numbers}
use Rattle.disk.specs.Eight.{eight_sound}
use Rattle.rows.specs.Entries.{length_entry_at}
use Rattle.model.specs.Lent.{Lent, lend, rows_of}
use Rattle.model.specs.Closing.{takes_slot_rule, merged_byte_rule, merged_slots, ends_later_rule, later_end_rule, closed_row_rule, closed_map, closed_image}
use Rattle.model.specs.Entering.{copied, interface_cleared, entered, next_row_rule}
use Rattle.model.specs.Target.{target_extent, stays, within, moved, made, written_count, have_written}
use Rattle.fields.specs.Entering.{as_extent_own}
use Rattle.fields.specs.Making.{extent_next}
use Rattle.fields.specs.Images.{row_closed_image_other, next_closed}
use Rattle.fields.specs.Target.{rc_written, count_written_high}

-- a note is pending for a used entry: each of the sixteen places is a slot
pub held_own : (d : Rows) (n : ℕ) → held_by_used_rule eight_inch d n ≡ (is_pending n and ltb (pending_entry n) eight_inch.entries and used (d (pending_entry n)))
unfolding held_by_used_rule pending_slot slots_on
held_own d n = rw (and_first (used (d (pending_entry n))) (ltb (n % 16) slot_count) (lt-ltb (n % 16) slot_count (omega arith)))

-- bytes 1 to 31 of an FCB become the entry's, with the high bits of bytes 5 to 8 cleared
pub entered_own : (fcb row : Bytes) (ext : ℕ) → covers eight_inch row ext ≡ true → entered fcb row ext ≡ copied fcb (interface_cleared row)
unfolding entered
entered_own fcb row ext h = rw (as_extent_own row ext (sym (eqb-true _ _ (sym (covers_own row ext) ∙ h))))

-- ---- a target
module _ (G : Geometry) (single : (x : ℕ) → run_of G x ≡ x) (n : ℕ) (fcb : Bytes) where
  -- what lies within the FCB's entry lies in its extent
  pub within_extent : within G n fcb ≡ true → target_extent n fcb ≡ extent_of fcb
  unfolding within covers
  within_extent w = sym (single (target_extent n fcb)) ∙ sym (eqb-true _ _ w) ∙ single (extent_of fcb)

  -- so a move is one to another entry
  pub within_stays : within G n fcb ≡ stays n fcb
  unfolding within covers stays
  within_stays =
      split (bool_cases (within G n fcb)) (λ w. w ∙ sym (eq-eqb (target_extent n fcb) (extent_of fcb) (within_extent w)))
      (λ w. w ∙ sym (ne_eqb (target_extent n fcb) (extent_of fcb) (λ q. not_both _ (eq-eqb _ _ (ap (run_of G) (sym q))) w)))

-- the present extent is closed, then the FCB takes bytes 1 to 31 of the target's entry
pub moved_own : (ext : ℕ) (l : Lent) (e t : ℕ) → Long eight_inch l.drive.image → e < eight_inch.entries → t < eight_inch.entries → (t ≡ e → ⊥)
    → covers eight_inch (rows_of eight_inch l t) ext ≡ true
    → moved eight_inch ext l e t
    ≡ lend (closed_image eight_inch l.drive.image e l.fcb) (closed_map eight_inch (rows_of eight_inch l e) l.fcb l.drive.map)
    (copied l.fcb (interface_cleared (rows_of eight_inch l t))) l.buffer
unfolding moved
moved_own ext l e t long he ht other h =
    rw (row_closed_image_other eight_sound l.drive.image long e he l.fcb t ht other, entered_own l.fcb (rows_of eight_inch l t) ext h)

-- the present extent is closed, the new entry has the present one's user, name bytes and attributes, and the FCB takes bytes 1 to 31 of it
pub made_own : (ext : ℕ) (l : Lent) (e t : ℕ) → Long eight_inch l.drive.image → e < eight_inch.entries
    → made eight_inch ext l e t
    ≡ lend (with_entry eight_inch (closed_image eight_inch l.drive.image e l.fcb) t (next_row_rule (rows_of eight_inch l e) ext))
    (closed_map eight_inch (rows_of eight_inch l e) l.fcb l.drive.map) (copied l.fcb (interface_cleared (next_row_rule (rows_of eight_inch l e) ext))) l.buffer
unfolding made entered
made_own ext l e t long he =
    let row : Bytes = rows_of eight_inch l e in
    let own : extent_of (next_row_rule row ext) ≡ ext = extent_next row ext (length_entry_at eight_sound l.drive.image long e he) in
    rw (next_closed eight_sound l.drive.image long e he l.fcb ext, as_extent_own (next_row_rule row ext) ext (sym own))

-- ---- a close
-- each slot where the entry has 0 and the FCB doesn't takes the FCB's block
abbrev pub slot_after : Bytes → Bytes → ℕ → ℕ
slot_after es fs j = cond (eqb (get_or es j 0) 0 and not (eqb (get_or fs j 0) 0)) (get_or fs j 0) (get_or es j 0)

module _ (row fcb : Bytes) (long : length row ≡ 32) (n : Numbers row) (m : Numbers fcb) (same : extent_of row ≡ extent_of fcb) where
  -- the end is later exactly where the count is larger
  later_count : ends_later_rule row fcb ≡ ltb (count_of row) (count_of fcb)
  unfolding ends_later_rule fcb_end end_of
  later_count =
      split (bool_cases (eqb (count_of fcb) 0))
      (λ z. let c : count_of fcb ≡ 0 = eqb-true _ _ z in rw z (le-ltb (end_of row) 0 (omega arith) ∙ sym (le-ltb (count_of row) (count_of fcb) (omega arith))))
      (λ z. rw z (split (bool_cases (ltb (count_of row) (count_of fcb)))
      (λ t. lt-ltb (end_of row) (end_of fcb) (omega (arith, ltb-true (count_of row) (count_of fcb) t)) ∙ sym t)
      (λ f. le-ltb (end_of row) (end_of fcb) (omega (arith, ltb-false (count_of row) (count_of fcb) f)) ∙ sym f)))

  -- the entry's rc becomes the FCB's count where that is the larger of the two counts, and else stays the byte that it is
  larger_count : later_end_rule row fcb ≡ set row 15 (cond (ltb (count_of row) (count_of fcb)) (count_of fcb) (rc_of row))
  unfolding later_end_rule with_numbers extent_of
  larger_count =
      let a : ex_of row ≡ ex_of fcb = (let x = n.ex in let y = m.ex in omega arith) in
      let b : s2_of row ≡ s2_of fcb = (let x = n.ex in let y = m.ex in omega arith) in
      split (bool_cases (ltb (count_of row) (count_of fcb)))
      (λ t. rw (later_count, t, set_own row 12 (ex_of fcb) (omega arith) a, set_own row 14 (s2_of fcb) (omega arith) b))
      (λ f. rw (later_count, f, set_own row 15 (rc_of row) (omega arith) refl))

  pub closed_own : closed_row_rule eight_inch row fcb
      ≡ splice (set row 15 (cond (ltb (count_of row) (count_of fcb)) (count_of fcb) (rc_of row))) 16 (tab slot_count (slot_after (slots_of row) (slots_of fcb)))
  unfolding closed_row_rule merged_slots merged_byte_rule takes_slot_rule slot_in slot_at
  closed_own = rw larger_count

-- ---- a write
-- the FCB's rc becomes the largest of its own count, the entry's and target + 1: at most 128, whatever the two bytes were
pub written_own : (l : Lent) (t j b r cr : ℕ) → length l.fcb ≡ 36 → j < slots_on eight_inch → r < extent_records → extent_of l.fcb ≡ extent_of (rows_of eight_inch l t)
    → (rc_of (have_written eight_inch t j b r cr l).fcb ≡ max (max (count_of l.fcb) (count_of (rows_of eight_inch l t))) (r + 1))
    × (rc_of (have_written eight_inch t j b r cr l).fcb ≤ extent_records)
unfolding have_written written_count
written_own l t j b r cr long hj hr same =
    let row : Bytes = rows_of eight_inch l t in
    let count : ℕ = count_in row (extent_of l.fcb) in
    let is = rc_written eight_inch l.fcb count j b r cr hj long in
    (rw (is, count_there_law row (extent_of l.fcb) same), rw is (count_written_high l.fcb count r (count_high row (extent_of l.fcb)) hr))
