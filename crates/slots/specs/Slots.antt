-- The slots of an FCB against an entry's, one by one: each is the entry's, or holds a block that is pending for it.
use Rattle.std.specs.Prelude.{◌≡◌, Bool, true, ℕ, ◌+◌, ◌≤◌, ◌<◌, eqb, get_or, length}
use Rattle.std.proofs.Math.Path.{sym}
use Rattle.std.proofs.Common.{ap, ◌∙◌, arith}
use Rattle.std.proofs.Math.ListN.{get_or-eq_default}
use borrow.Author.Tests.{eqb-true, eq-eqb, ne_eqb}
use Rattle.lists.specs.Cases.{split, lt_or_le}
use Rattle.lists.specs.Tests.{and_left, and_right, and_both, and_then, or_then, or_left, or_right, or_cases}
use Rattle.lists.specs.Below.{all_below, all_at, all_intro, all_next}
use Rattle.std.specs.Int.Bits.{bit_or, bit_xor}
use Rattle.lists.specs.Bits.{or_zero, xor_zero}
use Rattle.format.specs.Diskette.{Bytes, Geometry, slot_bytes, slot_count, eight_inch}
use Rattle.format.specs.Entries.{slots_of, slot_in, slot_of}
use Rattle.format.specs.Notes.{pending_for, note_at_rule}
use Rattle.format.specs.Fcb.{slot_fits_rule, slots_fit_rule}
use Rattle.facts.specs.Slots.{slot_in_slots_of, slot_in_cong}

-- slot j of the FCB fits entry e, whose row is r
pub data SlotOk (G : Geometry) (map : Bytes) (e : ℕ) (r fcb : Bytes) (j : ℕ) : Type 0 where
  slot_same : slot_of G fcb j ≡ slot_of G r j → SlotOk G map e r fcb j
  slot_pending : slot_of G r j ≡ 0 → note_at_rule map (slot_of G fcb j) ≡ pending_for e j → SlotOk G map e r fcb j

module _ (G : Geometry) (map : Bytes) (e : ℕ) (r fcb : Bytes) where
  pub slot_says : (j : ℕ) → slot_fits_rule G map e (slots_of r) (slots_of fcb) j ≡ true → SlotOk G map e r fcb j
  unfolding slot_fits_rule
  slot_says j t =
      let p : slot_in G (slots_of r) j ≡ slot_of G r j = slot_in_slots_of G r j in
      let q : slot_in G (slots_of fcb) j ≡ slot_of G fcb j = slot_in_slots_of G fcb j in
      split (or_cases _ _ t) (λ w. slot_same (sym q ∙ eqb-true _ _ w ∙ p))
      (λ w. slot_pending (sym p ∙ eqb-true _ _ (and_left _ _ w)) (ap (note_at_rule map) (sym q) ∙ eqb-true _ _ (and_right _ _ w)))

  pub slot_is : (j : ℕ) → SlotOk G map e r fcb j → slot_fits_rule G map e (slots_of r) (slots_of fcb) j ≡ true
  unfolding slot_fits_rule
  slot_is j (slot_same q) = or_left _ _ (eq-eqb _ _ (slot_in_slots_of G fcb j ∙ q ∙ sym (slot_in_slots_of G r j)))
  slot_is j (slot_pending z q) =
      or_right _ _ (and_both _ _ (eq-eqb _ _ (slot_in_slots_of G r j ∙ z)) (eq-eqb _ _ (ap (note_at_rule map) (slot_in_slots_of G fcb j) ∙ q)))

  pub slots_say : slots_fit_rule G map e (slots_of r) (slots_of fcb) ≡ true → (j : ℕ) → j < slot_count → SlotOk G map e r fcb j
  unfolding slots_fit_rule
  slots_say t j h = slot_says j (all_at (slot_fits_rule G map e (slots_of r) (slots_of fcb)) slot_count t j h)

  pub slots_are : ((j : ℕ) → j < slot_count → SlotOk G map e r fcb j) → slots_fit_rule G map e (slots_of r) (slots_of fcb) ≡ true
  unfolding slots_fit_rule
  slots_are f = all_intro (slot_fits_rule G map e (slots_of r) (slots_of fcb)) slot_count (λ j h. slot_is j (f j h))

-- on the 8-inch disk, slots that differ, where the entry's is 0: the note of the FCB's block decides
pub slot_by_note : (map es fs : Bytes) (e j b n p : ℕ) → (get_or fs j 0 ≡ get_or es j 0 → ⊥) → get_or es j 0 ≡ 0
    → b ≡ get_or fs j 0 → n ≡ note_at_rule map b → p ≡ pending_for e j → eqb n p ≡ slot_fits_rule eight_inch map e es fs j
unfolding slot_fits_rule slot_in
slot_by_note map es fs e j b n p x z hb hn hp =
    rw (hn, hp, hb) (sym (or_then _ _ (ne_eqb _ _ x) ∙ and_then _ _ (eq-eqb _ _ z)))

-- ---- the usual case: the slots of the FCB are the entry's, byte by byte
unfoldable pub slots_same_rule : Bytes → Bytes → Bool
slots_same_rule es fs = all_below (λ (i : ℕ). eqb (get_or fs i 0) (get_or es i 0)) slot_bytes

module _ (G : Geometry) (es fs : Bytes) (l : length es ≤ slot_bytes) (k : length fs ≤ slot_bytes) (same : slots_same_rule es fs ≡ true) where
  byte_same : (i : ℕ) → get_or fs i 0 ≡ get_or es i 0
  unfolding slots_same_rule
  byte_same i =
      split (lt_or_le i slot_bytes) (λ h. eqb-true _ _ (all_at _ slot_bytes same i h))
      (λ h. get_or-eq_default fs 0 {n = i} (omega arith) ∙ sym (get_or-eq_default es 0 {n = i} (omega arith)))

  pub same_slot : (j : ℕ) → slot_in G fs j ≡ slot_in G es j
  same_slot = slot_in_cong G fs es byte_same

  pub same_slots_fit : (map : Bytes) (e : ℕ) → slots_fit_rule G map e es fs ≡ true
  unfolding slots_fit_rule slot_fits_rule
  same_slots_fit map e = all_intro (slot_fits_rule G map e es fs) slot_count (λ j h. or_left _ _ (eq-eqb _ _ (same_slot j)))

-- a turn of the loop that or-s the bits in which slots differ
pub same_more : (es fs : Bytes) (d j : ℕ) → eqb d 0 ≡ all_below (λ (k : ℕ). eqb (get_or fs k 0) (get_or es k 0)) j
    → eqb (bit_or d (bit_xor (get_or fs j 0) (get_or es j 0))) 0 ≡ all_below (λ (k : ℕ). eqb (get_or fs k 0) (get_or es k 0)) (j + 1)
same_more es fs d j h = or_zero d _ ∙ rw (h, xor_zero (get_or fs j 0) (get_or es j 0)) (sym (all_next _ j))
