-- What a right note says, by cases, and the maps that are right.
use Rattle.std.specs.Prelude.{◌≡◌, false, ℕ, ◌≤◌, ◌<◌, length}
use Rattle.std.proofs.Math.Bool.{true}
use Rattle.std.proofs.Common.{arith}
use Rattle.std.proofs.Math.Dec.{eqb, ltb}
use borrow.Author.Tests.{lt-ltb, le-ltb, ltb-true, eq-eqb, eqb-true}
use Rattle.lists.specs.Cases.{split, bool_cases, lt_or_le}
use Rattle.lists.specs.Tests.{◌and◌, ◌or◌, and_left, and_right, and_both, or_left, or_right, or_cases}
use Rattle.lists.specs.Below.{all_at, all_intro}
use Rattle.lists.specs.Tab.{length_tab, get_d_tab, tab_cong}
use Rattle.format.specs.Diskette.{Bytes, Geometry, slot_count, slots_on}
use Rattle.format.specs.Entries.{Rows, used}
use Rattle.format.specs.Notes.{free_note, area_note, recorded_note, pending_for, is_pending, pending_entry, pending_slot, note_at_rule, is_listed, held_by_used_rule, note_right_rule, map_right, fresh_note_rule, fresh_map, settled_note_rule, freed_map}
use Rattle.facts.specs.Slots.{slots_on_high}
use Rattle.notes.specs.Numbers.{pending_is, pending_entry_law, pending_slot_law, pending_back, settled_not}

-- a block past the directory that no used entry lists
pub record Spare (G : Geometry) (d : Rows) (b : ℕ) : Type 0 where
  pub past : G.area ≤ b
  pub unlisted : is_listed G d b ≡ false

-- the note n is right for block b: one case for each kind of note
pub data NoteOk (G : Geometry) (d : Rows) (b n : ℕ) : Type 0 where
  ok_area : n ≡ area_note → b < G.area → NoteOk G d b n
  ok_recorded : n ≡ recorded_note → G.area ≤ b → is_listed G d b ≡ true → NoteOk G d b n
  ok_free : n ≡ free_note → Spare G d b → NoteOk G d b n
  ok_pending : (e j : ℕ) → n ≡ pending_for e j → e < G.entries → j < slots_on G → used (d e) ≡ true → Spare G d b → NoteOk G d b n

module _ (G : Geometry) (d : Rows) where
  -- a note that is pending for a used entry
  pub held_by : (e j : ℕ) → e < G.entries → j < slots_on G → used (d e) ≡ true → held_by_used_rule G d (pending_for e j) ≡ true
  unfolding held_by_used_rule
  held_by e j h l t =
      let low : j < slot_count = omega (arith, slots_on_high G) in
      let q : pending_entry (pending_for e j) ≡ e = pending_entry_law e j low in
      and_both _ _ (pending_is e j) (and_both _ _ (rw q (lt-ltb e G.entries h)) (and_both _ _ (rw q t) (rw (pending_slot_law e j low) (lt-ltb j (slots_on G) l))))

  -- ---- the test and the cases, both ways
  pub right_ok : (b n : ℕ) → note_right_rule G d b n ≡ true → NoteOk G d b n
  unfolding note_right_rule held_by_used_rule
  right_ok b n t =
      split (lt_or_le b G.area)
      (λ h. let z : eqb n area_note ≡ true = rw (lt-ltb b G.area h) at t in ok_area (eqb-true _ _ z) h)
      (λ h. split (bool_cases (is_listed G d b))
      (λ y. let z : eqb n recorded_note ≡ true = rw (le-ltb b G.area h, y) at t in ok_recorded (eqb-true _ _ z) h y)
      (λ y. let s : Spare G d b = record { past = h; unlisted = y } in
      let z : (eqb n free_note or (is_pending n and ltb (pending_entry n) G.entries and used (d (pending_entry n)) and ltb (pending_slot n) (slots_on G))) ≡ true = rw (le-ltb b G.area h, y) at t in
      split (or_cases _ _ z) (λ w. ok_free (eqb-true _ _ w) s)
      (λ w. ok_pending (pending_entry n) (pending_slot n) (pending_back n (and_left _ _ w)) (ltb-true _ _ (and_left _ _ (and_right _ _ w)))
      (ltb-true (pending_slot n) (slots_on G) (and_right _ _ (and_right _ _ (and_right _ _ w)))) (and_left _ _ (and_right _ _ (and_right _ _ w))) s)))

  pub ok_right : (b n : ℕ) → NoteOk G d b n → note_right_rule G d b n ≡ true
  unfolding note_right_rule
  ok_right b n (ok_area q h) = rw (lt-ltb b G.area h) (eq-eqb n area_note q)
  ok_right b n (ok_recorded q h y) = rw (le-ltb b G.area h, y) (eq-eqb n recorded_note q)
  ok_right b n (ok_free q s) = rw (le-ltb b G.area s.past, s.unlisted) (or_left _ _ (eq-eqb n free_note q))
  ok_right b n (ok_pending e j q h l t s) =
      rw (le-ltb b G.area s.past, s.unlisted) (or_right _ _ (rw q (held_by e j h l t)))

  pub map_ok : (map : Bytes) → map_right G d map ≡ true → (b : ℕ) → b < G.blocks → NoteOk G d b (note_at_rule map b)
  unfolding map_right
  map_ok map t b h = right_ok b (note_at_rule map b) (all_at (λ (b : ℕ). note_right_rule G d b (note_at_rule map b)) G.blocks t b h)

  pub ok_map : (map : Bytes) → ((b : ℕ) → b < G.blocks → NoteOk G d b (note_at_rule map b)) → map_right G d map ≡ true
  unfolding map_right
  ok_map map f = all_intro (λ (b : ℕ). note_right_rule G d b (note_at_rule map b)) G.blocks (λ b h. ok_right b (note_at_rule map b) (f b h))

  -- ---- the fresh map
  pub length_fresh : length (fresh_map G d) ≡ G.blocks
  unfolding fresh_map
  length_fresh = length_tab G.blocks (fresh_note_rule G d)

  pub fresh_at : (b : ℕ) → b < G.blocks → note_at_rule (fresh_map G d) b ≡ fresh_note_rule G d b
  unfolding fresh_map
  fresh_at b h = get_d_tab G.blocks (fresh_note_rule G d) b h

  pub fresh_ok : (b : ℕ) → NoteOk G d b (fresh_note_rule G d b)
  unfolding fresh_note_rule
  fresh_ok b =
      split (lt_or_le b G.area) (λ h. ok_area (rw (lt-ltb b G.area h)) h)
      (λ h. split (bool_cases (is_listed G d b))
      (λ y. ok_recorded (rw (le-ltb b G.area h, y)) h y)
      (λ y. ok_free (rw (le-ltb b G.area h, y)) record { past = h; unlisted = y }))

  pub fresh_right : map_right G d (fresh_map G d) ≡ true
  fresh_right = ok_map (fresh_map G d) (λ b h. rw (fresh_at b h) (fresh_ok b))

  pub fresh_settled : (b : ℕ) → is_pending (fresh_note_rule G d b) ≡ false
  unfolding fresh_note_rule
  fresh_settled b =
      split (lt_or_le b G.area) (λ h. rw (lt-ltb b G.area h) (settled_not 1 (omega arith)))
      (λ h. split (bool_cases (is_listed G d b))
      (λ y. rw (le-ltb b G.area h, y) (settled_not 2 (omega arith)))
      (λ y. rw (le-ltb b G.area h, y) (settled_not 0 (omega arith))))

  pub fresh_unpending : (b : ℕ) → b < G.blocks → is_pending (note_at_rule (fresh_map G d) b) ≡ false
  fresh_unpending b h = rw (fresh_at b h) (fresh_settled b)

  -- ---- freeing what is pending makes a right map the fresh one
  pub ok_settles : (b n : ℕ) → NoteOk G d b n → settled_note_rule n ≡ fresh_note_rule G d b
  unfolding settled_note_rule fresh_note_rule
  ok_settles b n (ok_area q h) = rw (q, lt-ltb b G.area h, settled_not 1 (omega arith))
  ok_settles b n (ok_recorded q h y) = rw (q, le-ltb b G.area h, y, settled_not 2 (omega arith))
  ok_settles b n (ok_free q s) = rw (q, le-ltb b G.area s.past, s.unlisted, settled_not 0 (omega arith))
  ok_settles b n (ok_pending e j q h l t s) = rw (q, le-ltb b G.area s.past, s.unlisted, pending_is e j)

  pub freed_fresh : (map : Bytes) → map_right G d map ≡ true → freed_map G map ≡ fresh_map G d
  unfolding freed_map fresh_map
  freed_fresh map t =
      tab_cong G.blocks (λ (b : ℕ). settled_note_rule (note_at_rule map b)) (fresh_note_rule G d) (λ b h. ok_settles b (note_at_rule map b) (map_ok map t b h))

pub freed_at : (G : Geometry) (map : Bytes) (b : ℕ) → b < G.blocks → note_at_rule (freed_map G map) b ≡ settled_note_rule (note_at_rule map b)
unfolding freed_map
freed_at G map b h = get_d_tab G.blocks (λ (b : ℕ). settled_note_rule (note_at_rule map b)) b h
