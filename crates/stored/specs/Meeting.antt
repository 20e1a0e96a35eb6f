-- What 33 and 34 meet through a fresh FCB: at any record, what the entry of its extent says.
use Rattle.std.specs.Prelude.{◌≡◌, refl, true, ℕ, ◌/◌, ◌%◌, ◌<◌, max, None, Option, Some}
use Rattle.std.proofs.Math.Path.{ap}
use Rattle.std.proofs.Common.{sym, ◌∙◌, arith}
use Rattle.lists.specs.Cases.{split, bool_cases}
use Rattle.lists.specs.Tests.{◌or◌}
use Rattle.format.specs.Diskette.{Bytes, Geometry, Sound, extent_records}
use Rattle.format.specs.Entries.{entry_at, find_file_rule, slot_of, slot_for_rule, count_in}
use Rattle.format.specs.Fcb.{fcb_count_in}
use Rattle.facts.specs.Slots.{slot_for_low}
use Rattle.rows.specs.Entries.{length_entry_at}
use Rattle.model.specs.Kinds.{is_random_rule}
use Rattle.model.specs.Lent.{Lent, lend}
use Rattle.model.specs.Closing.{closed_row_rule}
use Rattle.model.specs.Target.{target_extent, target_record, target_slot, present_entry, within, read_only_in, target_entry, row_slot, block_there, count_at, count_there, record_there, read_only_there}
use Rattle.fields.specs.Agree.{SameName, name_cong}
use Rattle.fields.specs.Closing.{count_closed, row_kept}
use Rattle.fields.specs.Target.{extent_random, record_random}
use Rattle.table.specs.Present.{target_present}
use Rattle.demands.specs.Runs.{Disk}
use Rattle.demands.specs.Reading.{at_record_rule, rest_at_record, random_at_record}
use Rattle.stored.specs.Closed.{Fresh, seen_on}
use Rattle.stored.specs.Quiet.{fresh_record, fresh_present}
use Rattle.stored.specs.Told.{block_in, counted_in, extent_entry, is_stored, entry_named}

module _ {G : Geometry} (S : Sound G) (n : ℕ) (random : is_random_rule n ≡ true) (d : Disk) (f : Bytes) (e : ℕ) (k : Fresh G d f e) (r : ℕ)
    (small : r < 16777216) (buffer : Bytes) where
  abbrev user : ℕ
  user = d.session.user

  abbrev g : Bytes
  g = at_record_rule f r

  abbrev l : Lent
  l = lend d.drive.image d.drive.map (at_record_rule f r) buffer

  abbrev there : Option ℕ
  there = extent_entry G (seen_on G d) d.session.user f r

  k_record : Fresh G d g e
  k_record = fresh_record G d f e k r

  pub met_extent : target_extent n g ≡ r / extent_records
  met_extent = extent_random n g random ∙ ap (λ (x : ℕ). x / 128) (random_at_record f r k.long small)

  pub met_record : target_record n g ≡ r % extent_records
  met_record = record_random n g random ∙ ap (λ (x : ℕ). x % 128) (random_at_record f r k.long small)

  met_slot : target_slot G n g ≡ slot_for_rule G (r / extent_records) (r % extent_records)
  unfolding target_slot
  met_slot = rw (met_extent, met_record)

  pub met_present : present_entry G user l ≡ Some e
  met_present = fresh_present G d g e k_record buffer

  same_name : SameName g 1 f 1
  same_name = name_cong g f (λ i a b. rest_at_record f r k.long i (omega arith) (omega arith))

  -- the entry of the record's extent
  pub met_entry : target_entry G n user l ≡ there
  unfolding target_entry extent_entry
  met_entry = ap (find_file_rule G (entry_at G d.drive.image) user g 1) met_extent ∙ entry_named G (seen_on G d) user f g same_name r

  -- which is the FCB's own where that covers the extent
  met_within : within G n g ≡ true → there ≡ Some e
  met_within t = sym met_entry ∙ target_present G n user l e met_present t

  row_slot_law : (x : Option ℕ) → row_slot G n user l x ≡ block_in G (entry_at G d.drive.image) r x
  row_slot_law (Some t) = ap (slot_of G (entry_at G d.drive.image t)) met_slot
  row_slot_law None = refl

  pub met_block : block_there G n user l ≡ block_in G (entry_at G d.drive.image) r there
  unfolding block_there
  met_block =
      split (bool_cases (within G n g))
      (λ t. rw t (ap (slot_of G g) met_slot
      ∙ k_record.slots (slot_for_rule G (r / extent_records) (r % extent_records)) (slot_for_low S (r / extent_records) (r % extent_records) (omega arith))
      ∙ ap (block_in G (entry_at G d.drive.image) r) (sym (met_within t))))
      (λ t. rw t (ap (row_slot G n user l) met_entry ∙ row_slot_law there))

  count_at_law : (x : Option ℕ) → count_at G n user l x ≡ counted_in G (entry_at G d.drive.image) r x
  count_at_law (Some t) = ap (count_in (entry_at G d.drive.image t)) met_extent
  count_at_law None = refl

  -- the FCB counts no more than its entry, since a close would leave that as it is
  own_count : (ext : ℕ) → max (fcb_count_in g ext) (count_in (entry_at G d.drive.image e) ext) ≡ count_in (entry_at G d.drive.image e) ext
  own_count ext =
      let row : Bytes = entry_at G d.drive.image e in
      let hr = length_entry_at S d.drive.image k.sane.good.image_long e k.cur.low in
      let merged = count_closed G row g hr ext in
      let same : count_in (closed_row_rule G row g) ext ≡ count_in row ext = ap (λ (x : Bytes). count_in x ext) (row_kept G row g k_record.same hr) in
      omega arith

  pub met_count : count_there G n user l ≡ counted_in G (entry_at G d.drive.image) r there
  unfolding count_there
  met_count =
      split (bool_cases (within G n g))
      (λ t. rw t (ap (max (fcb_count_in g (target_extent n g))) (ap (count_at G n user l) met_entry ∙ ap (count_at G n user l) (met_within t))
      ∙ own_count (target_extent n g) ∙ count_at_law (Some e) ∙ ap (counted_in G (entry_at G d.drive.image) r) (sym (met_within t))))
      (λ t. rw t (ap (count_at G n user l) met_entry ∙ count_at_law there))

  -- the record is there exactly where it is stored
  pub met_there : record_there G n user l ≡ is_stored G (seen_on G d) user f r
  unfolding record_there is_stored
  met_there = rw (met_record, met_count, met_block)

  pub met_locked : read_only_there G n user l ≡ (read_only_in (entry_at G d.drive.image) (Some e) or read_only_in (entry_at G d.drive.image) there)
  unfolding read_only_there
  met_locked = rw (met_present, met_entry)
