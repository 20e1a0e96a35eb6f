-- A close, field by field: the entry, the notes, and the FCB.
use Rattle.std.specs.Prelude.{◌≡◌, ◌⊎◌, Bool, false, cond, eqb, set}
use Rattle.std.proofs.Math.Path.{refl, ap, sym}
use Rattle.std.proofs.Common.{◌∙◌}
use Rattle.std.proofs.Math.Logic.{inl, inr}
use Rattle.std.proofs.Math.Bool.{true, not}
use Prim.Native.Nat.{ℕ, zero, suc, ◌+◌, ◌*◌, ◌≤◌, ◌<◌, max}
use native.Mathlib.Omega.{arith}
use Rattle.std.proofs.Math.ListN.{length, get_or, length-set, get_or-eq_default}
use Rattle.std.proofs.Math.Seq.{get_or-set_same, get_or-set_other}
use borrow.Author.Tests.{eqb-true, eqb-false, eq-eqb, ne_eqb, ltb-true, ltb-false, le-ltb, not-true}
use Rattle.lists.specs.Cases.{split, bool_cases, lt_or_le, eq_or_ne, not_both}
use Rattle.lists.specs.Tests.{◌and◌, and_not, and_left, and_right, and_both, and_then, and_fails_left, and_fails_right, cond_or, or_then, or_neither, or_cases}
use Rattle.lists.specs.Below.{any_below, any_at, any_some, any_never, any_empty}
use Rattle.lists.specs.Splice.{part, length_part, splice_own, length_splice, get_d_splice_out, part_splice_same}
use Rattle.lists.specs.Tab.{length_tab, get_d_tab, tab_get_d, tab_cong}
use Rattle.lists.specs.Fold.{fold_below, fold_keeps}
use Rattle.format.specs.Diskette.{Bytes, Geometry, slot_count, slot_bytes, extent_records}
use Rattle.format.specs.Names.{seven_bits, name_right_rule}
use Rattle.format.specs.Entries.{ex_of, s2_of, count_of, with_numbers, slot_of, slot_in, slot_at, slots_of, read_only, extent_of, run_of, end_of, count_in}
use Rattle.facts.specs.Slots.{slot_in_slots_of, past_slots_of}
use Rattle.facts.specs.Counts.{count_most, count_by_end, fcb_count_by_end, end_none, end_some, later_larger}
use Rattle.facts.specs.Numbers.{length_with_numbers, byte_with_numbers, ex_with_numbers, s2_with_numbers, count_with_numbers}
use Rattle.format.specs.Notes.{note_at_rule, with_note, recorded_note}
use Rattle.format.specs.Fcb.{fcb_count_in, fcb_end, fcb_right_rule}
use Rattle.model.specs.Closing.{takes_slot_rule, merged_byte_rule, merged_slots, ends_later_rule, later_end_rule, closed_row_rule, closed_note, closed_map, close_changes_rule, closed_fcb}
use Rattle.consistency.specs.Facts.{Numbers, SameFile}
use Rattle.facts.specs.Names.{right_cong, like_intro}
use Rattle.fields.specs.Agree.{Agree, SameName, name_cong, slot_cong, read_only_cong, extent_cong, count_cong, fcb_right_cong}

-- ---- the slots taken
-- slot j after it, as a number
unfoldable pub merged_slot : Geometry → Bytes → Bytes → ℕ → ℕ
merged_slot G es fs j = cond (takes_slot_rule G es fs j) (slot_in G fs j) (slot_in G es j)

pub length_merged_slots : (G : Geometry) (es fs : Bytes) → length (merged_slots G es fs) ≡ slot_bytes
unfolding merged_slots
length_merged_slots G es fs = length_tab slot_bytes (merged_byte_rule G es fs)

module _ (G : Geometry) (es fs : Bytes) where
  byte_merged : (i : ℕ) → i < slot_bytes → get_or (merged_slots G es fs) i 0 ≡ cond (takes_slot_rule G es fs (slot_at G i)) (get_or fs i 0) (get_or es i 0)
  unfolding merged_slots merged_byte_rule
  byte_merged i h = get_d_tab slot_bytes (merged_byte_rule G es fs) i h

  past_merged : (i : ℕ) → slot_bytes ≤ i → get_or (merged_slots G es fs) i 0 ≡ 0
  past_merged i h = get_or-eq_default (merged_slots G es fs) 0 {n = i} (omega (arith, length_merged_slots G es fs))

  -- bytes past the sixteen are 0 in what is merged, where they are in both; so the rule holds for every byte
  module _ (pe : (i : ℕ) → slot_bytes ≤ i → get_or es i 0 ≡ 0) (pf : (i : ℕ) → slot_bytes ≤ i → get_or fs i 0 ≡ 0) where
    every_byte : (i : ℕ) → get_or (merged_slots G es fs) i 0 ≡ cond (takes_slot_rule G es fs (slot_at G i)) (get_or fs i 0) (get_or es i 0)
    every_byte i =
        split (lt_or_le i slot_bytes) (λ l. byte_merged i l)
        (λ l. past_merged i l ∙ split (bool_cases (takes_slot_rule G es fs (slot_at G i))) (λ t. rw t (sym (pf i l))) (λ f. rw f (sym (pe i l))))

    at_slot : (i j : ℕ) → slot_at G i ≡ j → get_or (merged_slots G es fs) i 0 ≡ cond (takes_slot_rule G es fs j) (get_or fs i 0) (get_or es i 0)
    at_slot i j q = every_byte i ∙ rw q

    pub slot_merged : (j : ℕ) → slot_in G (merged_slots G es fs) j ≡ merged_slot G es fs j
    unfolding merged_slot slot_in slot_at
    slot_merged j = at_slot j j refl

  -- where no slot is taken, the slots and the notes stay
  module _ (none : any_below (takes_slot_rule G es fs) slot_count ≡ false) where
    pub merged_none : length es ≡ slot_bytes → merged_slots G es fs ≡ es
    unfolding merged_slots merged_byte_rule slot_at
    merged_none long =
        tab_cong slot_bytes (merged_byte_rule G es fs) (λ (i : ℕ). get_or es i 0) (λ i h. rw (any_never (takes_slot_rule G es fs) slot_count none i h))
        ∙ tab_get_d es slot_bytes long

    pub recorded_none : (map : Bytes) → fold_below (closed_note G es fs) map slot_count ≡ map
    unfolding closed_note
    recorded_none map =
        fold_keeps (λ (m : Bytes). m ≡ map) (closed_note G es fs) map slot_count refl
        (λ m j h q. rw (any_never (takes_slot_rule G es fs) slot_count none j h) q)

  -- where the FCB's slots are the entry's, none is taken
  pub takes_none : ((j : ℕ) → j < slot_count → slot_in G fs j ≡ slot_in G es j) → any_below (takes_slot_rule G es fs) slot_count ≡ false
  unfolding takes_slot_rule
  takes_none same = any_empty (takes_slot_rule G es fs) slot_count (λ j h. rw (same j h) (and_not (eqb (slot_in G es j) 0)))

module _ (G : Geometry) (row fcb : Bytes) (j : ℕ) where
  -- slot j is taken exactly when the entry has 0 there and the FCB doesn't
  takes_is : takes_slot_rule G (slots_of row) (slots_of fcb) j ≡ (eqb (slot_of G row j) 0 and not (eqb (slot_of G fcb j) 0))
  unfolding takes_slot_rule slot_of
  takes_is = refl

  pub takes_intro : slot_of G row j ≡ 0 → (slot_of G fcb j ≡ 0 → ⊥) → takes_slot_rule G (slots_of row) (slots_of fcb) j ≡ true
  takes_intro z n = takes_is ∙ and_both _ _ (eq-eqb _ _ z) (ap not (ne_eqb _ _ n))

  pub takes_row : takes_slot_rule G (slots_of row) (slots_of fcb) j ≡ true → slot_of G row j ≡ 0
  takes_row t = eqb-true _ _ (and_left _ _ (sym takes_is ∙ t))

  pub takes_fcb : takes_slot_rule G (slots_of row) (slots_of fcb) j ≡ true → slot_of G fcb j ≡ 0 → ⊥
  takes_fcb t = eqb-false _ _ (not-true _ (and_right _ _ (sym takes_is ∙ t)))

  -- the entry keeps its own block, and takes what the FCB has for 0
  pub merged_old : (slot_of G row j ≡ 0 → ⊥) → merged_slot G (slots_of row) (slots_of fcb) j ≡ slot_of G row j
  unfolding merged_slot
  merged_old n = rw (takes_is, and_fails_left _ (not (eqb (slot_of G fcb j) 0)) (ne_eqb _ _ n)) (slot_in_slots_of G row j)

  pub merged_new : slot_of G row j ≡ 0 → merged_slot G (slots_of row) (slots_of fcb) j ≡ slot_of G fcb j
  unfolding merged_slot
  merged_new z =
      split (eq_or_ne (slot_of G fcb j) 0)
      (λ q. rw (takes_is, and_fails_right (eqb (slot_of G row j) 0) _ (ap not (eq-eqb _ _ q))) (slot_in_slots_of G row j ∙ z ∙ sym q))
      (λ n. rw (takes_intro z n) (slot_in_slots_of G fcb j))

-- ---- the end
-- ex, s2 and the count are the same
pub record SameEnd (r t : Bytes) : Type 0 where
  pub ex : ex_of r ≡ ex_of t
  pub s2 : s2_of r ≡ s2_of t
  pub count : count_of r ≡ count_of t

pub same_extent : (r t : Bytes) → SameEnd r t → extent_of r ≡ extent_of t
unfolding extent_of
same_extent r t s = rw (s.ex, s.s2)

same_end : (r t : Bytes) → SameEnd r t → end_of r ≡ end_of t
unfolding end_of
same_end r t s = rw (same_extent r t s, s.count)

module _ (row fcb : Bytes) where
  later_is : ends_later_rule row fcb ≡ true → later_end_rule row fcb ≡ with_numbers row (ex_of fcb) (s2_of fcb) (count_of fcb)
  unfolding later_end_rule
  later_is t = rw t

  pub later_stays : ends_later_rule row fcb ≡ false → later_end_rule row fcb ≡ row
  unfolding later_end_rule
  later_stays f = rw f

  length_later : length row ≡ 32 → length (later_end_rule row fcb) ≡ 32
  length_later hr =
      split (bool_cases (ends_later_rule row fcb)) (λ t. rw (later_is t) (length_with_numbers row (ex_of fcb) (s2_of fcb) (count_of fcb) ∙ hr)) (λ f. rw (later_stays f) hr)

  byte_later : (i : ℕ) → (i ≡ 12 → ⊥) → (i ≡ 14 → ⊥) → (i ≡ 15 → ⊥) → get_or (later_end_rule row fcb) i 0 ≡ get_or row i 0
  byte_later i a b c =
      split (bool_cases (ends_later_rule row fcb)) (λ t. rw (later_is t) (byte_with_numbers row (ex_of fcb) (s2_of fcb) (count_of fcb) i a b c)) (λ f. rw (later_stays f))

  later_cases : length row ≡ 32 → ((end_of row < fcb_end fcb) × SameEnd (later_end_rule row fcb) fcb) ⊎ ((fcb_end fcb ≤ end_of row) × SameEnd (later_end_rule row fcb) row)
  unfolding ends_later_rule
  later_cases hr =
      let long : 32 ≤ length row = omega arith in
      split (bool_cases (ends_later_rule row fcb))
      (λ t. inl (
        ltb-true _ _ t,
        rw (later_is t) (record {
          ex = ex_with_numbers row (ex_of fcb) (s2_of fcb) (count_of fcb) long;
          s2 = s2_with_numbers row (ex_of fcb) (s2_of fcb) (count_of fcb) long;
          count = count_with_numbers row (ex_of fcb) (s2_of fcb) (count_of fcb) long (count_most fcb);
        }),
      ))
      (λ f. inr (ltb-false (end_of row) (fcb_end fcb) f, rw (later_stays f) (record { ex = refl; s2 = refl; count = refl })))

-- ---- the entry
module _ (G : Geometry) (row fcb : Bytes) (hr : length row ≡ 32) where
  room : 16 + length (merged_slots G (slots_of row) (slots_of fcb)) ≤ length (later_end_rule row fcb)
  room = omega (arith, length_merged_slots G (slots_of row) (slots_of fcb), length_later row fcb hr)

  pub length_closed_row : length (closed_row_rule G row fcb) ≡ 32
  unfolding closed_row_rule
  length_closed_row = length_splice (later_end_rule row fcb) 16 (merged_slots G (slots_of row) (slots_of fcb)) room ∙ length_later row fcb hr

  below_slots : (i : ℕ) → i < 16 → get_or (closed_row_rule G row fcb) i 0 ≡ get_or (later_end_rule row fcb) i 0
  unfolding closed_row_rule
  below_slots i h = get_d_splice_out (later_end_rule row fcb) 16 (merged_slots G (slots_of row) (slots_of fcb)) room i (inl h)

  -- user and name stay
  pub head_closed : Agree (closed_row_rule G row fcb) row 0 12
  head_closed i a h = below_slots i (omega arith) ∙ byte_later row fcb i (λ q. omega arith) (λ q. omega arith) (λ q. omega arith)

  closed_same : SameEnd (closed_row_rule G row fcb) (later_end_rule row fcb)
  closed_same = record { ex = below_slots 12 (omega arith); s2 = below_slots 14 (omega arith); count = count_cong _ _ (λ i a b. below_slots i b) }

  closed_then : (t : Bytes) → SameEnd (later_end_rule row fcb) t → SameEnd (closed_row_rule G row fcb) t
  closed_then t s = record { ex = closed_same.ex ∙ s.ex; s2 = closed_same.s2 ∙ s.s2; count = closed_same.count ∙ s.count }

  -- its end is the FCB's where that is later, and else its own
  pub end_closed_cases : ((end_of row < fcb_end fcb) × SameEnd (closed_row_rule G row fcb) fcb) ⊎ ((fcb_end fcb ≤ end_of row) × SameEnd (closed_row_rule G row fcb) row)
  end_closed_cases =
      split (later_cases row fcb hr) (λ p. inl (p.0, closed_then fcb p.1)) (λ p. inr (p.0, closed_then row p.1))

  pub end_closed : end_of (closed_row_rule G row fcb) ≡ max (end_of row) (fcb_end fcb)
  end_closed =
      split end_closed_cases
      (λ p. let q = same_end (closed_row_rule G row fcb) fcb p.1 in let l = p.0 in
      let e = end_some fcb (λ z. let y = end_none fcb z in omega arith) in omega arith)
      (λ p. let q = same_end (closed_row_rule G row fcb) row p.1 in let l = p.0 in omega arith)

  pub numbers_closed : Numbers row → Numbers fcb → Numbers (closed_row_rule G row fcb)
  numbers_closed n m =
      split end_closed_cases
      (λ p. record { ex = rw p.1.ex m.ex; s2 = rw p.1.s2 m.s2 })
      (λ p. record { ex = rw p.1.ex n.ex; s2 = rw p.1.s2 n.s2 })

  -- it counts the larger number of records, in each extent
  pub count_closed : (ext : ℕ) → count_in (closed_row_rule G row fcb) ext ≡ max (count_in row ext) (fcb_count_in fcb ext)
  count_closed ext =
      rw (count_by_end (closed_row_rule G row fcb) ext, count_by_end row ext, fcb_count_by_end fcb ext, end_closed)
      (later_larger extent_records (extent_records * ext) (end_of row) (fcb_end fcb))

  pub slots_closed : slots_of (closed_row_rule G row fcb) ≡ merged_slots G (slots_of row) (slots_of fcb)
  unfolding closed_row_rule slots_of
  slots_closed =
      ap (part (closed_row_rule G row fcb) 16) (sym (length_merged_slots G (slots_of row) (slots_of fcb)))
      ∙ part_splice_same (later_end_rule row fcb) 16 (merged_slots G (slots_of row) (slots_of fcb)) room

  pub slot_closed : (j : ℕ) → slot_of G (closed_row_rule G row fcb) j ≡ merged_slot G (slots_of row) (slots_of fcb) j
  unfolding slot_of
  slot_closed j = ap (λ (ss : Bytes). slot_in G ss j) slots_closed ∙ slot_merged G (slots_of row) (slots_of fcb) (past_slots_of row) (past_slots_of fcb) j

  -- the entry's own block stays; where it had 0, the FCB's comes
  pub slot_closed_old : (j : ℕ) → (slot_of G row j ≡ 0 → ⊥) → slot_of G (closed_row_rule G row fcb) j ≡ slot_of G row j
  slot_closed_old j n = slot_closed j ∙ merged_old G row fcb j n

  pub slot_closed_new : (j : ℕ) → slot_of G row j ≡ 0 → slot_of G (closed_row_rule G row fcb) j ≡ slot_of G fcb j
  slot_closed_new j z = slot_closed j ∙ merged_new G row fcb j z

  -- a slot stays, or takes the FCB's block
  pub slot_closed_cases : (j : ℕ)
      → (slot_of G (closed_row_rule G row fcb) j ≡ slot_of G row j)
      ⊎ ((slot_of G row j ≡ 0) × (slot_of G fcb j ≡ 0 → ⊥) × (slot_of G (closed_row_rule G row fcb) j ≡ slot_of G fcb j))
  slot_closed_cases j =
      split (eq_or_ne (slot_of G row j) 0)
      (λ z. split (eq_or_ne (slot_of G fcb j) 0) (λ y. inl (slot_closed_new j z ∙ y ∙ sym z)) (λ n. inr (z, n, slot_closed_new j z)))
      (λ n. inl (slot_closed_old j n))

  pub name_closed : SameName (closed_row_rule G row fcb) 1 row 1
  name_closed = name_cong (closed_row_rule G row fcb) row (λ i a b. head_closed i (omega arith) b)

  -- an entry of the same file, with the same attributes, that covers the same extents where the FCB's extent is one of them
  pub file_closed : run_of G (extent_of row) ≡ run_of G (extent_of fcb) → SameFile G (closed_row_rule G row fcb) row
  file_closed q = record {
    user = head_closed 0 (omega arith) (omega arith);
    name = like_intro row 1 (closed_row_rule G row fcb) 1 (λ i l. sym (name_closed i l));
    run = split end_closed_cases
        (λ p. ap (run_of G) (same_extent (closed_row_rule G row fcb) fcb p.1) ∙ sym q)
        (λ p. ap (run_of G) (same_extent (closed_row_rule G row fcb) row p.1));
  }

  pub read_only_closed : read_only (closed_row_rule G row fcb) ≡ read_only row
  read_only_closed = read_only_cong (closed_row_rule G row fcb) row (head_closed 9 (omega arith) (omega arith))

  pub right_closed : (wild : Bool) → name_right_rule wild (closed_row_rule G row fcb) 1 ≡ name_right_rule wild row 1
  right_closed wild = right_cong wild (closed_row_rule G row fcb) 1 row 1 name_closed

-- ---- a close changes the entry exactly where it records a block or brings a later end; else it changes nothing
module _ (G : Geometry) (row fcb : Bytes) where
  pub keeps_intro : any_below (takes_slot_rule G (slots_of row) (slots_of fcb)) slot_count ≡ false → ends_later_rule row fcb ≡ false → close_changes_rule G row fcb ≡ false
  unfolding close_changes_rule
  keeps_intro n e = or_then _ _ n ∙ e

  -- an FCB that has the entry's slots, and ends no later
  pub nothing_to_close : ((j : ℕ) → j < slot_count → slot_of G fcb j ≡ slot_of G row j) → fcb_end fcb ≤ end_of row → close_changes_rule G row fcb ≡ false
  unfolding ends_later_rule slot_of
  nothing_to_close slots end = keeps_intro (takes_none G (slots_of row) (slots_of fcb) slots) (le-ltb (end_of row) (fcb_end fcb) end)

  module _ (keeps : close_changes_rule G row fcb ≡ false) where
    neither : (any_below (takes_slot_rule G (slots_of row) (slots_of fcb)) slot_count ≡ false) × (ends_later_rule row fcb ≡ false)
    unfolding close_changes_rule
    neither = or_neither _ _ keeps

    pub unchanged_end : fcb_end fcb ≤ end_of row
    unfolding ends_later_rule
    unchanged_end = ltb-false (end_of row) (fcb_end fcb) neither.1

    pub row_kept : length row ≡ 32 → closed_row_rule G row fcb ≡ row
    unfolding closed_row_rule slots_of
    row_kept long =
        rw (later_stays row fcb neither.1, merged_none G (slots_of row) (slots_of fcb) neither.0 (length_part row 16 slot_bytes (omega arith)))
        (splice_own row 16 slot_bytes (omega arith))

    pub map_kept : (map : Bytes) → closed_map G row fcb map ≡ map
    unfolding closed_map
    map_kept map = recorded_none G (slots_of row) (slots_of fcb) neither.0 map

  pub row_changed : length row ≡ 32 → close_changes_rule G row fcb ≡ true → closed_row_rule G row fcb ≡ row → ⊥
  unfolding close_changes_rule ends_later_rule
  row_changed long t q =
      split (or_cases _ _ t)
      (λ s. let w = any_some (takes_slot_rule G (slots_of row) (slots_of fcb)) slot_count s in
      takes_fcb G row fcb w.place w.holds
      (sym (slot_closed_new G row fcb long w.place (takes_row G row fcb w.place w.holds)) ∙ ap (λ (r : Bytes). slot_of G r w.place) q
      ∙ takes_row G row fcb w.place w.holds))
      (λ s. let l = ltb-true (end_of row) (fcb_end fcb) s in let m = end_closed G row fcb long in let e = ap end_of q in omega arith)

-- ---- the notes
-- a slot takes block b
pub record Takes (G : Geometry) (row fcb : Bytes) (b : ℕ) : Type 0 where
  pub slot : ℕ
  pub below : slot < slot_count
  pub was : slot_of G row slot ≡ 0
  pub is : slot_of G fcb slot ≡ b
  pub some : b ≡ 0 → ⊥

-- slot j takes block b, as a test of the slots
unfoldable pub takes_block : Geometry → Bytes → Bytes → ℕ → ℕ → Bool
takes_block G es fs b j = takes_slot_rule G es fs j and eqb (slot_in G fs j) b

pub length_closed_note : (G : Geometry) (es fs map : Bytes) (j : ℕ) → length (closed_note G es fs map j) ≡ length map
unfolding closed_note with_note
length_closed_note G es fs map j =
    split (bool_cases (takes_slot_rule G es fs j)) (λ t. rw t (length-set map (slot_in G fs j) recorded_note)) (λ f. rw f)

-- the note of b after one slot
pub note_closed_note : (G : Geometry) (es fs map : Bytes) (b j : ℕ) → b < length map
    → note_at_rule (closed_note G es fs map j) b ≡ cond (takes_block G es fs b j) recorded_note (note_at_rule map b)
unfolding closed_note with_note takes_block
note_closed_note G es fs map b j h =
    split (bool_cases (takes_slot_rule G es fs j))
    (λ t. split (eq_or_ne b (slot_in G fs j))
    (λ q. rw (and_then (takes_slot_rule G es fs j) (eqb (slot_in G fs j) b) t, eq-eqb _ _ (sym q), t) (rw q (get_or-set_same map (slot_in G fs j) recorded_note 0 (omega arith))))
    (λ n. rw (and_then (takes_slot_rule G es fs j) (eqb (slot_in G fs j) b) t, ne_eqb (slot_in G fs j) b (λ z. n (sym z)), t) (get_or-set_other map (slot_in G fs j) b recorded_note 0 n)))
    (λ f. rw (and_fails_left (takes_slot_rule G es fs j) (eqb (slot_in G fs j) b) f, f))

pub length_closed_map : (G : Geometry) (row fcb map : Bytes) → length (closed_map G row fcb map) ≡ length map
unfolding closed_map
length_closed_map G row fcb map =
    fold_keeps (λ (m : Bytes). length m ≡ length map) (closed_note G (slots_of row) (slots_of fcb)) map slot_count refl
    (λ m j h e. length_closed_note G (slots_of row) (slots_of fcb) m j ∙ e)

-- the note of b after n slots
notes_after : (G : Geometry) (es fs map : Bytes) (b : ℕ) → b < length map → (n : ℕ)
    → (length (fold_below (closed_note G es fs) map n) ≡ length map)
    × (note_at_rule (fold_below (closed_note G es fs) map n) b ≡ cond (any_below (takes_block G es fs b) n) recorded_note (note_at_rule map b))
unfolding fold_below any_below
notes_after G es fs map b h zero = (refl, refl)
notes_after G es fs map b h (suc n) =
    let m : Bytes = fold_below (closed_note G es fs) map n in
    let l : length m ≡ length map = (notes_after G es fs map b h n).0 in
    let e : note_at_rule m b ≡ cond (any_below (takes_block G es fs b) n) recorded_note (note_at_rule map b) = (notes_after G es fs map b h n).1 in (
      length_closed_note G es fs m n ∙ l,
      note_closed_note G es fs m b n (omega arith) ∙ ap (cond (takes_block G es fs b n) recorded_note) e
          ∙ cond_or (any_below (takes_block G es fs b) n) (takes_block G es fs b n) recorded_note (note_at_rule map b),
    )

module _ (G : Geometry) (row fcb map : Bytes) (b : ℕ) where
  pub note_closed : b < length map
      → note_at_rule (closed_map G row fcb map) b ≡ cond (any_below (takes_block G (slots_of row) (slots_of fcb) b) slot_count) recorded_note (note_at_rule map b)
  unfolding closed_map
  note_closed h = (notes_after G (slots_of row) (slots_of fcb) map b h slot_count).1

  pub taken_some : any_below (takes_block G (slots_of row) (slots_of fcb) b) slot_count ≡ true → Takes G row fcb b
  unfolding takes_block
  taken_some t =
      let s = any_some (takes_block G (slots_of row) (slots_of fcb) b) slot_count t in
      let j : ℕ = s.place in
      let l : j < slot_count = s.below in
      let k : takes_slot_rule G (slots_of row) (slots_of fcb) j ≡ true = and_left _ _ s.holds in
      let e : slot_of G fcb j ≡ b = sym (slot_in_slots_of G fcb j) ∙ eqb-true _ _ (and_right _ _ s.holds) in
      record { slot = j; below = l; was = takes_row G row fcb j k; is = e; some = λ z. takes_fcb G row fcb j k (e ∙ z) }

  pub some_taken : Takes G row fcb b → any_below (takes_block G (slots_of row) (slots_of fcb) b) slot_count ≡ true
  unfolding takes_block
  some_taken t =
      any_at (takes_block G (slots_of row) (slots_of fcb) b) slot_count t.slot t.below
      (and_both _ _ (takes_intro G row fcb t.slot t.was (λ z. t.some (sym t.is ∙ z)))
      (eq-eqb _ _ (slot_in_slots_of G fcb t.slot ∙ t.is)))

  -- a block taken is recorded, and no other note changes
  pub note_closed_taken : b < length map → Takes G row fcb b → note_at_rule (closed_map G row fcb map) b ≡ recorded_note
  note_closed_taken h t = note_closed h ∙ rw (some_taken t)

  pub note_closed_left : b < length map → (Takes G row fcb b → ⊥) → note_at_rule (closed_map G row fcb map) b ≡ note_at_rule map b
  note_closed_left h n =
      note_closed h
      ∙ split (bool_cases (any_below (takes_block G (slots_of row) (slots_of fcb) b) slot_count)) (λ t. absurd (n (taken_some t))) (λ f. rw f)

  pub note_closed_cases : b < length map
      → (Takes G row fcb b × (note_at_rule (closed_map G row fcb map) b ≡ recorded_note))
      ⊎ ((Takes G row fcb b → ⊥) × (note_at_rule (closed_map G row fcb map) b ≡ note_at_rule map b))
  note_closed_cases h =
      split (bool_cases (any_below (takes_block G (slots_of row) (slots_of fcb) b) slot_count))
      (λ t. inl (taken_some t, note_closed_taken h (taken_some t)))
      (λ f. let n : Takes G row fcb b → ⊥ = λ t. not_both _ (some_taken t) f in inr (n, note_closed_left h n))

-- ---- the FCB: f5' and f6' are cleared, and nothing else
module _ (fcb : Bytes) where
  pub byte_closed_fcb : (i : ℕ) → (i ≡ 5 → ⊥) → (i ≡ 6 → ⊥) → get_or (closed_fcb fcb) i 0 ≡ get_or fcb i 0
  unfolding closed_fcb
  byte_closed_fcb i a b = get_or-set_other (set fcb 5 (seven_bits (get_or fcb 5 0))) 6 i _ 0 b ∙ get_or-set_other fcb 5 i _ 0 a

  pub byte5_closed_fcb : 32 ≤ length fcb → get_or (closed_fcb fcb) 5 0 ≡ seven_bits (get_or fcb 5 0)
  unfolding closed_fcb
  byte5_closed_fcb h = get_or-set_other (set fcb 5 (seven_bits (get_or fcb 5 0))) 6 5 _ 0 (λ q. omega arith) ∙ get_or-set_same fcb 5 _ 0 (omega arith)

  pub byte6_closed_fcb : 32 ≤ length fcb → get_or (closed_fcb fcb) 6 0 ≡ seven_bits (get_or fcb 6 0)
  unfolding closed_fcb
  byte6_closed_fcb h = get_or-set_same (set fcb 5 (seven_bits (get_or fcb 5 0))) 6 _ 0 (omega (arith, length-set fcb 5 (seven_bits (get_or fcb 5 0))))

  -- what lies past the name
  pub rest_closed_fcb : (n : ℕ) → Agree (closed_fcb fcb) fcb 7 n
  rest_closed_fcb n i a b = byte_closed_fcb i (λ q. omega arith) (λ q. omega arith)

  module _ (hf : 32 ≤ length fcb) where
    pub name_closed_fcb : SameName (closed_fcb fcb) 1 fcb 1
    name_closed_fcb i h =
        split (eq_or_ne (1 + i) 5) (λ q. rw (q, byte5_closed_fcb hf) (omega arith))
        (λ a. split (eq_or_ne (1 + i) 6) (λ q. rw (q, byte6_closed_fcb hf) (omega arith)) (λ b. ap seven_bits (byte_closed_fcb (1 + i) a b)))

    pub slot_closed_fcb : (G : Geometry) (j : ℕ) → slot_of G (closed_fcb fcb) j ≡ slot_of G fcb j
    slot_closed_fcb = slot_cong (closed_fcb fcb) fcb (λ i a b. rest_closed_fcb 32 i (omega arith) b)

    pub extent_closed_fcb : extent_of (closed_fcb fcb) ≡ extent_of fcb
    extent_closed_fcb = extent_cong (closed_fcb fcb) fcb (λ i a b. rest_closed_fcb 32 i (omega arith) (omega arith))

    pub fcb_right_closed_fcb : fcb_right_rule (closed_fcb fcb) ≡ fcb_right_rule fcb
    fcb_right_closed_fcb = fcb_right_cong (closed_fcb fcb) fcb name_closed_fcb (λ i a b. rest_closed_fcb 36 i (omega arith) (omega arith))
