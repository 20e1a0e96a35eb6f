-- Laws of names: the plain statements behind the tests, and how equality of seven-bit names carries over.
use Rattle.std.specs.Prelude.{◌≡◌, refl, Bool, true, false, not, ℕ, ◌+◌, ◌<◌, eqb, get_or}
use Rattle.std.proofs.Common.{sym, ap, ◌∙◌, arith, eqb-true, eq-eqb, ne_eqb}
use Rattle.std.proofs.Math.Nat.{add-zero}
use Rattle.std.proofs.lemmas.Bool.{eqb-false, not-true}
use Rattle.lists.specs.Tests.{◌and◌, and_left, and_right, and_both, or_right, or_first}
use Rattle.lists.specs.Below.{all_at, all_intro, all_cong}
use Rattle.format.specs.Diskette.{Bytes}
use Rattle.format.specs.Names.{name_bytes, seven_bits, name_byte_rule, name_right_rule, byte_like_rule, name_like_rule}

-- byte i of the name in r at p, in the seven bits that are compared
abbrev pub name_bits : Bytes → ℕ → ℕ → ℕ
name_bits r p i = seven_bits (get_or r (p + i) 0)

-- ---- one name is another
exact_byte : (x y : ℕ) → byte_like_rule false x y ≡ eqb (seven_bits x) (seven_bits y)
unfolding byte_like_rule ◌and◌
exact_byte x y = or_first _ _ refl

pub same_byte : (x y : ℕ) → seven_bits x ≡ seven_bits y → byte_like_rule false x y ≡ true
same_byte x y e = exact_byte x y ∙ eq-eqb _ _ e

pub like_at : (s : Bytes) (q : ℕ) (r : Bytes) (p : ℕ) → name_like_rule false s q r p ≡ true → (i : ℕ) → i < name_bytes → name_bits s q i ≡ name_bits r p i
unfolding name_like_rule
like_at s q r p h i l = eqb-true _ _ (sym (exact_byte _ _) ∙ all_at _ name_bytes h i l)

pub like_intro : (s : Bytes) (q : ℕ) (r : Bytes) (p : ℕ) → ((i : ℕ) → i < name_bytes → name_bits s q i ≡ name_bits r p i) → name_like_rule false s q r p ≡ true
unfolding name_like_rule
like_intro s q r p f = all_intro _ name_bytes (λ i l. exact_byte _ _ ∙ eq-eqb _ _ (f i l))

pub like_refl : (r : Bytes) (p : ℕ) → name_like_rule false r p r p ≡ true
like_refl r p = like_intro r p r p (λ i l. refl)

pub like_sym : (s : Bytes) (q : ℕ) (r : Bytes) (p : ℕ) → name_like_rule false s q r p ≡ true → name_like_rule false r p s q ≡ true
like_sym s q r p h = like_intro r p s q (λ i l. sym (like_at s q r p h i l))

pub like_trans : (s : Bytes) (q : ℕ) (r : Bytes) (p : ℕ) (t : Bytes) (o : ℕ) → name_like_rule false s q r p ≡ true → name_like_rule false r p t o ≡ true → name_like_rule false s q t o ≡ true
like_trans s q r p t o h k = like_intro s q t o (λ i l. like_at s q r p h i l ∙ like_at r p t o k i l)

byte_cong : (wild : Bool) (x y : ℕ) → seven_bits x ≡ seven_bits y → name_byte_rule wild x ≡ name_byte_rule wild y
unfolding name_byte_rule
byte_cong wild x y e = rw e

-- ---- the tests depend on the seven bits of the eleven bytes alone
module _ (wild : Bool) (s : Bytes) (q : ℕ) (r : Bytes) (p : ℕ) (same : (i : ℕ) → i < name_bytes → name_bits s q i ≡ name_bits r p i) where
  -- either side of a comparison
  pub like_cong_left : (t : Bytes) (o : ℕ) → name_like_rule wild s q t o ≡ name_like_rule wild r p t o
  unfolding name_like_rule byte_like_rule
  like_cong_left t o = all_cong _ _ name_bytes (λ i l. rw (same i l))

  pub like_cong_right : (t : Bytes) (o : ℕ) → name_like_rule wild t o s q ≡ name_like_rule wild t o r p
  unfolding name_like_rule byte_like_rule
  like_cong_right t o = all_cong _ _ name_bytes (λ i l. rw (same i l))

  -- the name rule
  pub right_cong : name_right_rule wild s q ≡ name_right_rule wild r p
  unfolding name_right_rule
  right_cong =
      let first : seven_bits (get_or s q 0) ≡ seven_bits (get_or r p 0) = simp add-zero at (same 0 (omega arith)) in
      rw (all_cong (λ (i : ℕ). name_byte_rule wild (get_or s (q + i) 0)) (λ (i : ℕ). name_byte_rule wild (get_or r (p + i) 0)) name_bytes (λ i l. byte_cong wild _ _ (same i l)), first)

-- ---- the name rule, taken apart
pub record Named (wild : Bool) (r : Bytes) (at : ℕ) : Type 0 where
  pub bytes : (i : ℕ) → i < name_bytes → name_byte_rule wild (get_or r (at + i) 0) ≡ true
  pub first : seven_bits (get_or r at 0) ≡ 32 → ⊥

pub right_elim : (wild : Bool) (r : Bytes) (at : ℕ) → name_right_rule wild r at ≡ true → Named wild r at
unfolding name_right_rule
right_elim wild r at h =
    record { bytes = all_at _ name_bytes (and_left _ _ h); first = eqb-false _ _ (not-true _ (and_right _ _ h)) }

pub right_intro : (wild : Bool) (r : Bytes) (at : ℕ) → Named wild r at → name_right_rule wild r at ≡ true
unfolding name_right_rule
right_intro wild r at n = and_both _ _ (all_intro _ name_bytes n.bytes) (ap not (ne_eqb _ _ n.first))

-- ---- patterns
-- a pattern whose bytes are all 3FH asks for any name
pub like_any : (s : Bytes) (q : ℕ) (r : Bytes) (p : ℕ) → ((i : ℕ) → i < name_bytes → name_bits s q i ≡ 63) → name_like_rule true s q r p ≡ true
unfolding name_like_rule byte_like_rule ◌and◌
like_any s q r p f = all_intro _ name_bytes (λ i l. or_right _ _ (eq-eqb _ _ (f i l)))
