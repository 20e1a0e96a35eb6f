-- Where a record call's target is, and what reading and writing it leave, field by field.
use Rattle.std.specs.Prelude.{◌≡◌, true, false, ℕ, ◌+◌, ◌/◌, ◌%◌, ◌≤◌, ◌<◌, eqb, length, get_or, set}
use Rattle.std.proofs.Common.{◌∙◌, mod-lt}
use native.Mathlib.Omega.{arith}
use Rattle.std.proofs.Math.ListN.{length-set}
use Rattle.std.proofs.Math.Seq.{get_or-set_same, get_or-set_other}
use borrow.Author.Tests.{eqb-true, eq-eqb, ne_eqb}
use Rattle.lists.specs.Cases.{split, bool_cases, eq_or_ne}
use Rattle.format.specs.Diskette.{Bytes, Geometry, Sound, slots_on, extent_records}
use Rattle.format.specs.Entries.{rc_of, count_of, slot_of, with_slot, extent_of}
use Rattle.format.specs.Notes.{note_at_rule, pending_for, with_note}
use Rattle.format.specs.Fcb.{cr_of, random_of_rule}
use Rattle.disk.specs.Places.{block_records, block_record}
use Rattle.facts.specs.Counts.{count_most}
use Rattle.facts.specs.Slots.{slot_for_below, slot_bytes_law, length_with_slot, byte_with_slot, slot_with_slot, slot_with_slot_other}
use Rattle.model.specs.Kinds.{is_random_rule}
use Rattle.model.specs.Target.{target_extent, target_record, cr_after, stays, target_slot, place_in, written_count, written_fcb, written_map}
use Rattle.fields.specs.Agree.{Agree, SameName, name_cong, slot_cong, extent_cong, random_cong}

-- ---- the target
module _ (n : ℕ) (fcb : Bytes) where
  -- 33 and 34
  module _ (random : is_random_rule n ≡ true) where
    pub extent_random : target_extent n fcb ≡ random_of_rule fcb / 128
    unfolding target_extent
    extent_random = rw random

    pub record_random : target_record n fcb ≡ random_of_rule fcb % 128
    unfolding target_record
    record_random = rw random

    pub cr_after_random : cr_after n fcb ≡ target_record n fcb
    unfolding cr_after
    cr_after_random = rw random

  -- 20 and 21: the record at cr, or past the last of the extent the first of the next
  module _ (sequential : is_random_rule n ≡ false) where
    pub extent_within : (cr_of fcb ≡ 128 → ⊥) → target_extent n fcb ≡ extent_of fcb
    unfolding target_extent
    extent_within h = rw (sequential, ne_eqb (cr_of fcb) 128 h)

    pub record_within : (cr_of fcb ≡ 128 → ⊥) → target_record n fcb ≡ cr_of fcb
    unfolding target_record
    record_within h = rw (sequential, ne_eqb (cr_of fcb) 128 h)

    pub extent_past : cr_of fcb ≡ 128 → target_extent n fcb ≡ extent_of fcb + 1
    unfolding target_extent
    extent_past h = rw (sequential, eq-eqb (cr_of fcb) 128 h)

    pub record_past : cr_of fcb ≡ 128 → target_record n fcb ≡ 0
    unfolding target_record
    record_past h = rw (sequential, eq-eqb (cr_of fcb) 128 h)

    pub cr_after_sequential : cr_after n fcb ≡ target_record n fcb + 1
    unfolding cr_after
    cr_after_sequential = rw sequential

  -- the target's record is one of an extent's 128
  pub record_below : cr_of fcb ≤ 128 → target_record n fcb < 128
  record_below h =
      split (bool_cases (is_random_rule n)) (λ r. rw (record_random r) (omega arith))
      (λ s. split (eq_or_ne (cr_of fcb) 128) (λ e. rw (record_past s e) (omega arith)) (λ e. rw (record_within s e) (omega arith)))

  pub cr_after_high : cr_of fcb ≤ 128 → cr_after n fcb ≤ 128
  cr_after_high h =
      split (bool_cases (is_random_rule n)) (λ r. rw (cr_after_random r) (omega (arith, record_below h)))
      (λ s. rw (cr_after_sequential s) (omega (arith, record_below h)))

  pub stays_extent : stays n fcb ≡ true → target_extent n fcb ≡ extent_of fcb
  unfolding stays
  stays_extent t = eqb-true _ _ t

-- ---- the slot and the place of a record
module _ {G : Geometry} (S : Sound G) where
  pub target_slot_below : (n : ℕ) (fcb : Bytes) → cr_of fcb ≤ 128 → target_slot G n fcb < slots_on G
  unfolding target_slot
  target_slot_below n fcb h = slot_for_below S (target_extent n fcb) (target_record n fcb) (record_below n fcb h)

  pub place_below : (b r : ℕ) → b < G.blocks → place_in G b r < block_records G
  unfolding place_in
  place_below b r h = block_record G b (r % G.per_block) h (mod-lt r S.some_record)

-- ---- reading: the buffer gets the record, the FCB its cr
module _ (fcb : Bytes) (cr : ℕ) where
  pub byte_read : (i : ℕ) → (i ≡ 32 → ⊥) → get_or (set fcb 32 cr) i 0 ≡ get_or fcb i 0
  byte_read i h = get_or-set_other fcb 32 i cr 0 h

  pub cr_read : length fcb ≡ 36 → cr_of (set fcb 32 cr) ≡ cr
  cr_read hf = get_or-set_same fcb 32 cr 0 (omega arith)

  pub head_read : Agree (set fcb 32 cr) fcb 0 32
  head_read i a b = byte_read i (λ q. omega arith)

  pub name_read : SameName (set fcb 32 cr) 1 fcb 1
  name_read = name_cong (set fcb 32 cr) fcb (λ i a b. head_read i (omega arith) (omega arith))

  pub slot_read : (G : Geometry) (j : ℕ) → slot_of G (set fcb 32 cr) j ≡ slot_of G fcb j
  slot_read = slot_cong (set fcb 32 cr) fcb (λ i a b. head_read i (omega arith) b)

  pub extent_read : extent_of (set fcb 32 cr) ≡ extent_of fcb
  extent_read = extent_cong (set fcb 32 cr) fcb (λ i a b. head_read i (omega arith) (omega arith))

  pub random_read : random_of_rule (set fcb 32 cr) ≡ random_of_rule fcb
  random_read = random_cong (set fcb 32 cr) fcb (λ i a b. byte_read i (λ q. omega arith))

-- ---- writing: the record, the note, and the FCB's slot, rc and cr
module _ (fcb : Bytes) (count r : ℕ) where
  pub count_written_target : r < written_count fcb count r
  unfolding written_count
  count_written_target = omega arith

  pub count_written_high : count ≤ extent_records → r < extent_records → written_count fcb count r ≤ extent_records
  unfolding written_count
  count_written_high b c = omega (arith, count_most fcb)

module _ (G : Geometry) (fcb : Bytes) (count j b r cr : ℕ) where
  -- the FCB with its block and its count
  counted : Bytes
  counted = set (with_slot G fcb j b) 15 (written_count fcb count r)

  counted_long : length counted ≡ length fcb
  unfolding counted
  counted_long = length-set (with_slot G fcb j b) 15 (written_count fcb count r) ∙ length_with_slot G fcb j b

  pub length_written_fcb : length (written_fcb G fcb count j b r cr) ≡ length fcb
  unfolding written_fcb counted
  length_written_fcb = length-set counted 32 cr ∙ counted_long

  past_slots : (i : ℕ) → (i ≡ 15 → ⊥) → (i ≡ 32 → ⊥) → get_or (written_fcb G fcb count j b r cr) i 0 ≡ get_or (with_slot G fcb j b) i 0
  unfolding written_fcb counted
  past_slots i q o = get_or-set_other counted 32 i cr 0 o ∙ get_or-set_other (with_slot G fcb j b) 15 i (written_count fcb count r) 0 q

  slot_past : (k : ℕ) → slot_of G (written_fcb G fcb count j b r cr) k ≡ slot_of G (with_slot G fcb j b) k
  slot_past = slot_bytes_law G (written_fcb G fcb count j b r cr) (with_slot G fcb j b) (λ i h. past_slots (16 + i) (λ z. omega arith) (λ z. omega arith))

  module _ (hj : j < slots_on G) where
    pub byte_written : (i : ℕ) → (16 ≤ i → i < 32 → ⊥) → (i ≡ 15 → ⊥) → (i ≡ 32 → ⊥) → get_or (written_fcb G fcb count j b r cr) i 0 ≡ get_or fcb i 0
    byte_written i p q o = past_slots i q o ∙ byte_with_slot G fcb j b hj i p

    pub random_written : random_of_rule (written_fcb G fcb count j b r cr) ≡ random_of_rule fcb
    random_written =
        random_cong (written_fcb G fcb count j b r cr) fcb (λ i p q. byte_written i (λ y z. omega arith) (λ z. omega arith) (λ z. omega arith))

    -- byte 0, the name, ex, s1 and s2 stay
    pub head_written : Agree (written_fcb G fcb count j b r cr) fcb 0 15
    head_written i p q = byte_written i (λ y z. omega arith) (λ z. omega arith) (λ z. omega arith)

    pub name_written : SameName (written_fcb G fcb count j b r cr) 1 fcb 1
    name_written = name_cong (written_fcb G fcb count j b r cr) fcb (λ i p q. head_written i (omega arith) (omega arith))

    pub extent_written : extent_of (written_fcb G fcb count j b r cr) ≡ extent_of fcb
    extent_written = extent_cong (written_fcb G fcb count j b r cr) fcb (λ i p q. head_written i (omega arith) q)

    pub slot_written_other : (k : ℕ) → (k ≡ j → ⊥) → slot_of G (written_fcb G fcb count j b r cr) k ≡ slot_of G fcb k
    slot_written_other k n = slot_past k ∙ slot_with_slot_other G fcb j b hj k n

    module _ (hf : length fcb ≡ 36) where
      pub slot_written : slot_of G (written_fcb G fcb count j b r cr) j ≡ b
      slot_written = slot_past j ∙ slot_with_slot G fcb j b hj (omega arith)

      pub rc_written : rc_of (written_fcb G fcb count j b r cr) ≡ written_count fcb count r
      unfolding written_fcb counted
      rc_written =
          get_or-set_other counted 32 15 cr 0 (λ z. omega arith)
          ∙ get_or-set_same (with_slot G fcb j b) 15 (written_count fcb count r) 0 (omega (arith, length_with_slot G fcb j b))

      -- the record is counted, whatever count is handed in
      pub target_counted : r < extent_records → r < count_of (written_fcb G fcb count j b r cr)
      unfolding count_of
      target_counted h = let q = rc_written in let t = count_written_target fcb count r in omega arith

      pub cr_written : cr_of (written_fcb G fcb count j b r cr) ≡ cr
      unfolding written_fcb counted
      cr_written = get_or-set_same counted 32 cr 0 (omega (arith, counted_long))

module _ (G : Geometry) (map fcb : Bytes) (t j b : ℕ) where
  -- a slot that has a block: no note changes
  pub map_written_kept : (slot_of G fcb j ≡ 0 → ⊥) → written_map G map fcb t j b ≡ map
  unfolding written_map
  map_written_kept n = rw (ne_eqb (slot_of G fcb j) 0 n)

  -- a slot of 0: the block taken is pending for it
  pub note_written : slot_of G fcb j ≡ 0 → b < length map → note_at_rule (written_map G map fcb t j b) b ≡ pending_for t j
  unfolding written_map with_note
  note_written z h = rw (eq-eqb (slot_of G fcb j) 0 z) (get_or-set_same map b (pending_for t j) 0 h)

  pub note_written_other : (c : ℕ) → (c ≡ b → ⊥) → note_at_rule (written_map G map fcb t j b) c ≡ note_at_rule map c
  unfolding written_map with_note
  note_written_other c n =
      split (bool_cases (eqb (slot_of G fcb j) 0)) (λ e. rw e (get_or-set_other map b c (pending_for t j) 0 n)) (λ e. rw e)
