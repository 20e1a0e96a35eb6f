-- What an FCB holds once it has taken an entry, byte by byte and field by field.
use Rattle.std.specs.Prelude.{◌≡◌, ◌⊎◌, ℕ, ◌+◌, ◌-◌, ◌/◌, ◌%◌, ◌≤◌, ◌<◌, leb, length}
use Rattle.std.proofs.Math.Path.{ap}
use Rattle.std.proofs.Common.{sym, ◌∙◌, inl, inr, le-leb, eq-eqb, ne_eqb}
use native.Mathlib.Omega.{arith}
use Rattle.std.proofs.Math.ListN.{get_or}
use Rattle.std.proofs.lemmas.Bool.{lt-leb}
use Rattle.lists.specs.Cases.{split, bool_cases, eq_or_ne}
use Rattle.lists.specs.Tests.{◌and◌, and_both, and_fails_left, and_fails_right}
use Rattle.lists.specs.Splice.{part, length_part, get_d_part, length_splice, get_d_splice_at, get_d_splice_out}
use Rattle.lists.specs.Tab.{length_tab, get_d_tab}
use Rattle.format.specs.Diskette.{Bytes, Geometry, entry_bytes}
use Rattle.format.specs.Names.{seven_bits}
use Rattle.format.specs.Entries.{ex_of, s2_of, count_of, with_numbers, slot_of, extent_of, count_in}
use Rattle.format.specs.Fcb.{cr_of}
use Rattle.facts.specs.Numbers.{ex_with_numbers, s2_with_numbers, count_with_numbers}
use Rattle.facts.specs.Counts.{count_there_law, count_high}
use Rattle.model.specs.Entering.{copied, interface_byte, interface_cleared, as_extent, entered}
use Rattle.fields.specs.Agree.{Agree, SameName, slot_cong, extent_cong, count_cong, name_cong}

-- ---- an FCB whose bytes 1 to 31 become the row's: byte 0 and those from 32 on stay
module _ (fcb row : Bytes) (hf : 32 ≤ length fcb) (hr : 32 ≤ length row) where
  taken_long : length (part row 1 31) ≡ 31
  taken_long = length_part row 1 31 (omega arith)

  room : 1 + length (part row 1 31) ≤ length fcb
  room = omega (arith, taken_long)

  pub length_copied : length (copied fcb row) ≡ length fcb
  unfolding copied
  length_copied = length_splice fcb 1 (part row 1 31) room

  pub row_copied : Agree (copied fcb row) row 1 32
  unfolding copied
  row_copied i a b =
      get_d_splice_at fcb 1 (part row 1 31) room i a (omega (arith, taken_long)) ∙ get_d_part row 1 31 (omega arith) (i - 1) (omega arith)
      ∙ (let q : 1 + (i - 1) ≡ i = omega arith in ap (λ (k : ℕ). get_or row k 0) q)

  pub first_copied : get_or (copied fcb row) 0 0 ≡ get_or fcb 0 0
  unfolding copied
  first_copied = get_d_splice_out fcb 1 (part row 1 31) room 0 (inl (omega arith))

  pub rest_copied : (n : ℕ) → Agree (copied fcb row) fcb 32 n
  unfolding copied
  rest_copied n i a b = get_d_splice_out fcb 1 (part row 1 31) room i (inr (omega (arith, taken_long)))

  pub name_copied : SameName (copied fcb row) 1 row 1
  name_copied = name_cong (copied fcb row) row (λ i a b. row_copied i a (omega arith))

  pub slot_copied : (G : Geometry) (j : ℕ) → slot_of G (copied fcb row) j ≡ slot_of G row j
  slot_copied = slot_cong (copied fcb row) row (λ i a b. row_copied i (omega arith) b)

  pub extent_copied : extent_of (copied fcb row) ≡ extent_of row
  extent_copied = extent_cong (copied fcb row) row (λ i a b. row_copied i (omega arith) (omega arith))

-- ---- the row with the high bits of bytes 5 to 8 cleared
pub interface_in : (row : Bytes) (i : ℕ) → 5 ≤ i → i ≤ 8 → interface_byte row i ≡ seven_bits (get_or row i 0)
unfolding interface_byte
interface_in row i a b = rw (and_both (leb 5 i) (leb i 8) (le-leb _ _ a) (le-leb _ _ b))

pub interface_out : (row : Bytes) (i : ℕ) → (i < 5) ⊎ (8 < i) → interface_byte row i ≡ get_or row i 0
unfolding interface_byte
interface_out row i (inl h) = rw (and_fails_left (leb 5 i) (leb i 8) (lt-leb _ _ h))
interface_out row i (inr h) = rw (and_fails_right (leb 5 i) (leb i 8) (lt-leb _ _ h))

pub interface_bits : (row : Bytes) (i : ℕ) → seven_bits (interface_byte row i) ≡ seven_bits (get_or row i 0)
unfolding interface_byte
interface_bits row i = split (bool_cases (leb 5 i and leb i 8)) (λ t. rw t (omega arith)) (λ f. rw f)

pub length_interface_cleared : (row : Bytes) → length (interface_cleared row) ≡ 32
unfolding interface_cleared
length_interface_cleared row = length_tab entry_bytes (interface_byte row)

pub byte_interface_cleared : (row : Bytes) (i : ℕ) → i < 32 → get_or (interface_cleared row) i 0 ≡ interface_byte row i
unfolding interface_cleared
byte_interface_cleared row i h = get_d_tab entry_bytes (interface_byte row) i h

-- ---- the row as of an extent
-- its own: the row as it is
pub as_extent_own : (row : Bytes) (ext : ℕ) → ext ≡ extent_of row → as_extent row ext ≡ row
unfolding as_extent
as_extent_own row ext q = rw (eq-eqb ext (extent_of row) q)

module _ (row : Bytes) (ext : ℕ) where
  -- another one: the row with that extent's numbers
  pub as_extent_other : (ext ≡ extent_of row → ⊥) → as_extent row ext ≡ with_numbers row (ext % 32) (ext / 32) (count_in row ext)
  unfolding as_extent
  as_extent_other n = rw (ne_eqb ext (extent_of row) n)

  module _ (hr : 32 ≤ length row) where
    pub ex_other : ex_of (with_numbers row (ext % 32) (ext / 32) (count_in row ext)) ≡ ext % 32
    ex_other = ex_with_numbers row (ext % 32) (ext / 32) (count_in row ext) hr

    pub s2_other : s2_of (with_numbers row (ext % 32) (ext / 32) (count_in row ext)) ≡ ext / 32
    s2_other = s2_with_numbers row (ext % 32) (ext / 32) (count_in row ext) hr

    count_other : count_of (with_numbers row (ext % 32) (ext / 32) (count_in row ext)) ≡ count_in row ext
    count_other = count_with_numbers row (ext % 32) (ext / 32) (count_in row ext) hr (count_high row ext)

    -- it speaks of that extent
    extent_as_extent : extent_of (as_extent row ext) ≡ ext
    unfolding as_extent extent_of
    extent_as_extent =
        split (eq_or_ne ext (extent_of row)) (λ q. rw (eq-eqb ext (extent_of row) q) (sym q)) (λ n. rw (ne_eqb ext (extent_of row) n, ex_other, s2_other) (omega arith))

    count_as_extent : count_of (as_extent row ext) ≡ count_in row ext
    unfolding as_extent
    count_as_extent =
        split (eq_or_ne ext (extent_of row)) (λ q. rw (eq-eqb ext (extent_of row) q) (sym (count_there_law row ext q))) (λ n. rw (ne_eqb ext (extent_of row) n) count_other)

-- ---- an FCB that takes an entry, as of an extent
module _ (fcb row : Bytes) (ext : ℕ) (hf : 32 ≤ length fcb) where
  cleared_long : 32 ≤ length (interface_cleared (as_extent row ext))
  cleared_long = omega (arith, length_interface_cleared (as_extent row ext))

  pub length_entered : length (entered fcb row ext) ≡ length fcb
  unfolding entered
  length_entered = length_copied fcb (interface_cleared (as_extent row ext)) hf cleared_long

  pub first_entered : get_or (entered fcb row ext) 0 0 ≡ get_or fcb 0 0
  unfolding entered
  first_entered = first_copied fcb (interface_cleared (as_extent row ext)) hf cleared_long

  pub byte_entered : (i : ℕ) → 1 ≤ i → i < 32 → get_or (entered fcb row ext) i 0 ≡ interface_byte (as_extent row ext) i
  unfolding entered
  byte_entered i a b = row_copied fcb (interface_cleared (as_extent row ext)) hf cleared_long i a b ∙ byte_interface_cleared (as_extent row ext) i b

  -- from byte 9 on they are the row's own, as of the extent; from 32 on the FCB's
  pub row_entered : Agree (entered fcb row ext) (as_extent row ext) 9 32
  row_entered i a b = byte_entered i (omega arith) b ∙ interface_out (as_extent row ext) i (inr (omega arith))

  pub rest_entered : (n : ℕ) → Agree (entered fcb row ext) fcb 32 n
  unfolding entered
  rest_entered n = rest_copied fcb (interface_cleared (as_extent row ext)) hf cleared_long n

  pub cr_entered : cr_of (entered fcb row ext) ≡ cr_of fcb
  cr_entered = rest_entered 36 32 (omega arith) (omega arith)

  module _ (hr : 32 ≤ length row) where
    pub extent_entered : extent_of (entered fcb row ext) ≡ ext
    extent_entered = extent_cong (entered fcb row ext) (as_extent row ext) (λ i a b. row_entered i (omega arith) (omega arith)) ∙ extent_as_extent row ext hr

    pub count_entered : count_of (entered fcb row ext) ≡ count_in row ext
    count_entered = count_cong (entered fcb row ext) (as_extent row ext) (λ i a b. row_entered i (omega arith) (omega arith)) ∙ count_as_extent row ext hr
