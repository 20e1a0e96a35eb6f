-- An FCB that takes an entry: its name, its slots, and that it is right, by the row as of an extent.
use Rattle.std.specs.Prelude.{◌≡◌, true, ℕ, ◌+◌, ◌/◌, ◌%◌, ◌≤◌, ◌<◌, length}
use Rattle.std.proofs.Math.Path.{ap}
use Rattle.std.proofs.Common.{◌∙◌, le-leb}
use Rattle.std.proofs.Math.Bool.{false}
use native.Mathlib.Omega.{arith}
use Rattle.std.proofs.Math.ListN.{get_or}
use Rattle.lists.specs.Cases.{split, eq_or_ne}
use Rattle.lists.specs.Tests.{and_both}
use Rattle.format.specs.Diskette.{Bytes, Geometry, extents}
use Rattle.format.specs.Names.{seven_bits, name_right_rule}
use Rattle.format.specs.Entries.{slot_of, extent_of, count_in}
use Rattle.format.specs.Fcb.{cr_of, fcb_right_rule}
use Rattle.facts.specs.Names.{right_cong}
use Rattle.facts.specs.Numbers.{byte_with_numbers}
use Rattle.consistency.specs.Facts.{Numbers}
use Rattle.consistency.specs.Reflect.{numbers_intro}
use Rattle.model.specs.Entering.{as_extent, entered}
use Rattle.fields.specs.Agree.{SameName, slot_cong, numbers_cong}
use Rattle.fields.specs.Entering.{as_extent_own, as_extent_other, ex_other, s2_other, interface_bits, byte_entered, row_entered, cr_entered}

-- ---- the row as of an extent
module _ (row : Bytes) (ext : ℕ) where
  byte_as_extent : (i : ℕ) → (i ≡ 12 → ⊥) → (i ≡ 14 → ⊥) → (i ≡ 15 → ⊥) → get_or (as_extent row ext) i 0 ≡ get_or row i 0
  byte_as_extent i a b c =
      split (eq_or_ne ext (extent_of row)) (λ q. rw (as_extent_own row ext q))
      (λ n. rw (as_extent_other row ext n) (byte_with_numbers row (ext % 32) (ext / 32) (count_in row ext) i a b c))

  module _ (hr : 32 ≤ length row) where
    -- and its ex and s2 are in range, where the row's are
    numbers_as_extent : Numbers row → ext < extents → Numbers (as_extent row ext)
    numbers_as_extent m x =
        split (eq_or_ne ext (extent_of row)) (λ q. rw (as_extent_own row ext q) m)
        (λ n. rw (as_extent_other row ext n) record { ex = rw (ex_other row ext hr) (omega arith); s2 = rw (s2_other row ext hr) (omega arith) })

-- ---- an FCB that takes an entry, as of an extent
module _ (fcb row : Bytes) (ext : ℕ) (hf : 32 ≤ length fcb) where
  pub name_entered : SameName (entered fcb row ext) 1 row 1
  name_entered i h =
      ap seven_bits (byte_entered fcb row ext hf (1 + i) (omega arith) (omega arith)) ∙ interface_bits (as_extent row ext) (1 + i)
      ∙ ap seven_bits (byte_as_extent row ext (1 + i) (λ q. omega arith) (λ q. omega arith) (λ q. omega arith))

  pub slot_entered : (G : Geometry) (j : ℕ) → slot_of G (entered fcb row ext) j ≡ slot_of G row j
  slot_entered =
      slot_cong (entered fcb row ext) row
      (λ i a b. row_entered fcb row ext hf i (omega arith) b ∙ byte_as_extent row ext i (λ q. omega arith) (λ q. omega arith) (λ q. omega arith))

  module _ (hr : 32 ≤ length row) where
    -- it is right where the row, the extent and cr are
    pub fcb_right_entered : name_right_rule false row 1 ≡ true → Numbers row → ext < extents → cr_of fcb ≤ 128 → fcb_right_rule (entered fcb row ext) ≡ true
    unfolding fcb_right_rule
    fcb_right_entered n m x c =
        and_both _ _ (right_cong false (entered fcb row ext) 1 row 1 name_entered ∙ n)
        (and_both _ _
        (numbers_cong (entered fcb row ext) (as_extent row ext) (λ i a b. row_entered fcb row ext hf i (omega arith) (omega arith)) ∙ numbers_intro (as_extent row ext) (numbers_as_extent row ext hr m x))
        (rw cr_entered (le-leb _ _ c)))
