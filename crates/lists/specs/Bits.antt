-- Bits of numbers or-ed together, and those in which numbers differ.
use Rattle.std.specs.Prelude.{◌≡◌, ℕ, eqb}
use Rattle.std.proofs.Common.{ap, sym, ◌∙◌, arith, eqb-true, eq-eqb}
use Rattle.std.specs.Int.Bits.{bit_or, bit_xor, or_add_and, xor_add_and, xor_self}
use Rattle.std.proofs.lemmas.Nat.{and_le_l, and_le_r}
use Rattle.lists.specs.Cases.{bool_ext}
use Rattle.lists.specs.Tests.{◌and◌, and_left, and_right, and_both}

-- 0 has no bits to give
pub or_none : (a : ℕ) → bit_or a 0 ≡ a
or_none a = omega (arith, or_add_and a 0, and_le_r a 0)

-- the common bits are in each of the two, so where the or is 0 both are
module _ (a b : ℕ) where
  pub or_left_zero : bit_or a b ≡ 0 → a ≡ 0
  or_left_zero h = omega (arith, or_add_and a b, and_le_r a b)

  pub or_right_zero : bit_or a b ≡ 0 → b ≡ 0
  or_right_zero h = omega (arith, or_add_and a b, and_le_l a b)

  pub or_both_zero : a ≡ 0 → b ≡ 0 → bit_or a b ≡ 0
  or_both_zero p q = omega (arith, or_add_and a b)

  -- a or b is 0 exactly when both are
  pub or_zero : eqb (bit_or a b) 0 ≡ (eqb a 0 and eqb b 0)
  or_zero =
      bool_ext _ _
      (λ t. and_both _ _ (eq-eqb a 0 (or_left_zero (eqb-true _ _ t))) (eq-eqb b 0 (or_right_zero (eqb-true _ _ t))))
      (λ t. eq-eqb _ _ (or_both_zero (eqb-true a 0 (and_left _ _ t)) (eqb-true b 0 (and_right _ _ t))))

  -- no bit of a and b differs exactly when they are the same
  pub xor_zero : eqb (bit_xor a b) 0 ≡ eqb a b
  xor_zero =
      bool_ext _ _
      (λ t. let z : bit_xor a b ≡ 0 = eqb-true (bit_xor a b) 0 t in eq-eqb a b (omega (arith, xor_add_and a b, and_le_l a b, and_le_r a b)))
      (λ t. eq-eqb _ _ (ap (bit_xor a) (sym (eqb-true a b t)) ∙ xor_self a))
