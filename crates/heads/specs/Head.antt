-- The head of a row: none of its sixteen bytes shows a fault exactly where the row has a user, a name, ex and s2 in range.
use Rattle.std.specs.Prelude.{◌≡◌, Bool, true, not, ℕ, suc, ◌+◌, ◌-◌, ◌/◌, ◌≤◌, ◌<◌, eqb}
use Rattle.std.proofs.Math.Path.{refl, sym}
use Rattle.std.proofs.Common.{ap, ◌∙◌}
use Rattle.std.proofs.Math.Bool.{false}
use native.Mathlib.Omega.{arith}
use Rattle.std.proofs.Math.ListN.{get_or}
use Rattle.std.specs.Int.Bits.{bit_or}
use borrow.Author.Tests.{eqb-true, eqb-false, eq-eqb, ne_eqb, lt-ltb, not-true}
use Rattle.lists.specs.Cases.{split, lt_or_le, eq_or_ne, bool_ext}
use Rattle.lists.specs.Tests.{◌and◌, and_left, and_right, and_both, and_fails_left, and_fails_right, and_then}
use Rattle.lists.specs.Bits.{or_left_zero, or_right_zero, or_both_zero}
use Rattle.lists.specs.Tab.{tab, get_d_tab}
use Rattle.lanes.specs.Lanes.{word_at, bytes_zero, zero_bytes, word_rest, rest_zero_law, zero_rest}
use Rattle.format.specs.Diskette.{Bytes}
use Rattle.format.specs.Names.{name_bytes, seven_bits, name_byte_rule, name_right_rule}
use Rattle.format.specs.Entries.{used}
use Rattle.format.specs.Consistent.{extent_right_rule}
use Rattle.facts.specs.Names.{Named, right_elim, right_intro}
use Rattle.faults.specs.Faults.{head_bytes}
use Rattle.faults.specs.Bytes.{byte_fault, byte_ok}
use Rattle.faults.proofs.Bytes.{fault_tells}

-- the name, ex and s2 of a row or an FCB
unfoldable pub fields_right_rule : Bytes → Bool
fields_right_rule r = name_right_rule false r 1 and extent_right_rule r

-- a used entry, but for its slots
unfoldable pub row_right_rule : Bytes → Bool
row_right_rule r = used r and fields_right_rule r

-- what is wrong with byte i of a row's head
unfoldable pub head_fault : Bytes → ℕ → ℕ
head_fault r i = byte_fault i (get_or r i 0)

-- ---- what the bytes of a name may be
name_ok : (i b : ℕ) → 0 < i → i < 12 → byte_ok i b ≡ true → (name_byte_rule false b and not (eqb i 1 and eqb (seven_bits b) 32)) ≡ true
unfolding byte_ok
name_ok i b h l t = rw (ne_eqb i 0 (λ q. omega arith), lt-ltb i 12 l) at t

ok_name : (i b : ℕ) → 0 < i → i < 12 → name_byte_rule false b ≡ true → (i ≡ 1 → seven_bits b ≡ 32 → ⊥) → byte_ok i b ≡ true
unfolding byte_ok
ok_name i b h l t n =
    let z : (eqb i 1 and eqb (seven_bits b) 32) ≡ false =
    split (eq_or_ne i 1) (λ q. and_fails_right (eqb i 1) (eqb (seven_bits b) 32) (ne_eqb _ _ (n q))) (λ q. and_fails_left (eqb i 1) (eqb (seven_bits b) 32) (ne_eqb i 1 q)) in
    rw (ne_eqb i 0 (λ q. omega arith), lt-ltb i 12 l) (and_both _ _ t (ap not z))

module _ (r : Bytes) (bytes : (i : ℕ) → i < head_bytes → get_or r i 0 < 256) where
  -- a byte shows no fault exactly where it is what it may be
  no_fault : (i : ℕ) → i < head_bytes → head_fault r i ≡ 0 → byte_ok i (get_or r i 0) ≡ true
  unfolding head_fault
  no_fault i h z = sym (fault_tells i (get_or r i 0) h (bytes i h)) ∙ eq-eqb _ _ z

  ok_clear : (i : ℕ) → i < head_bytes → byte_ok i (get_or r i 0) ≡ true → head_fault r i ≡ 0
  unfolding head_fault
  ok_clear i h t = eqb-true _ _ (fault_tells i (get_or r i 0) h (bytes i h) ∙ t)

  -- byte 0
  user_ok : byte_ok 0 (get_or r 0 0) ≡ used r
  unfolding byte_ok used
  user_ok = refl

  -- ---- no fault from byte 1 on: the fields are right
  module _ (clear : (i : ℕ) → i < 15 → head_fault r (1 + i) ≡ 0) where
    fine : (i : ℕ) → i < 15 → byte_ok (1 + i) (get_or r (1 + i) 0) ≡ true
    fine i h = no_fault (1 + i) (omega arith) (clear i h)

    name_bytes_law : (i : ℕ) → i < name_bytes → name_byte_rule false (get_or r (1 + i) 0) ≡ true
    name_bytes_law i h = and_left _ _ (name_ok (1 + i) (get_or r (1 + i) 0) (omega arith) (omega arith) (fine i (omega arith)))

    name_first : seven_bits (get_or r 1 0) ≡ 32 → ⊥
    name_first =
        eqb-false _ _ (sym (and_then _ _ refl) ∙ not-true _ (and_right _ _ (name_ok 1 (get_or r 1 0) (omega arith) (omega arith) (fine 0 (omega arith)))))

    pub clear_fields : fields_right_rule r ≡ true
    unfolding fields_right_rule byte_ok
    clear_fields =
        and_both _ _ (right_intro false r 1 (record { bytes = name_bytes_law; first = name_first }))
        (and_both _ _ (fine 11 (omega arith)) (fine 13 (omega arith)))

  -- ---- the fields are right: no fault from byte 1 on
  module _ (right : fields_right_rule r ≡ true) where
    name : Named false r 1
    unfolding fields_right_rule
    name = right_elim false r 1 (and_left _ _ right)

    numbers : extent_right_rule r ≡ true
    unfolding fields_right_rule
    numbers = and_right _ _ right

    later : (i : ℕ) → 12 ≤ i → i < head_bytes → byte_ok i (get_or r i 0) ≡ true
    unfolding byte_ok
    later i h l =
        split (eq_or_ne i 12) (λ q. rw q (and_left _ _ numbers))
        (λ a. split (eq_or_ne i 13) (λ q. rw q refl)
        (λ b. split (eq_or_ne i 14) (λ q. rw q (and_right _ _ numbers))
        (λ c. let q : i ≡ 15 = omega arith in rw q refl)))

    pub fields_clear : (i : ℕ) → i < 15 → head_fault r (1 + i) ≡ 0
    fields_clear i h =
        ok_clear (1 + i) (omega arith) (split (lt_or_le i name_bytes)
        (λ w. ok_name (1 + i) (get_or r (1 + i) 0) (omega arith) (omega arith) (name.bytes i w) (λ e. rw e name.first))
        (λ w. later (1 + i) (omega arith) (omega arith)))

  -- ---- the faults side by side, as two words
  module _ (out : Bytes) (q : out ≡ tab head_bytes (head_fault r)) (byte : get_or out 0 0 < 256) where
    out_at : (i : ℕ) → i < head_bytes → get_or out i 0 ≡ head_fault r i
    out_at i h = ap (λ (l : Bytes). get_or l i 0) q ∙ get_d_tab head_bytes (head_fault r) i h

    -- byte 1 + i of those that show no fault
    zero_at : word_at out 0 / 256 ≡ 0 → word_at out 8 ≡ 0 → (i : ℕ) → i < 15 → get_or out (1 + i) 0 ≡ 0
    zero_at a b i h =
        split (lt_or_le i 7) (λ w. let p : 0 + suc i ≡ 1 + i = omega arith in rw p at (rest_zero_law out 0 byte a i w))
        (λ w. let p : 8 + (i - 7) ≡ 1 + i = omega arith in rw p at (bytes_zero 8 out 8 b (i - 7) (omega arith)))

    -- all but the first, by what is left of the first word without it
    pub fields_tell : eqb (bit_or (word_at out 0 / 256) (word_at out 8)) 0 ≡ fields_right_rule r
    fields_tell =
        bool_ext _ _
        (λ t. clear_fields (λ i h. sym (out_at (1 + i) (omega arith))
        ∙ zero_at (or_left_zero _ (word_at out 8) (eqb-true _ _ t)) (or_right_zero (word_at out 0 / 256) _ (eqb-true _ _ t)) i h))
        (λ t. eq-eqb _ _ (or_both_zero (word_at out 0 / 256) (word_at out 8)
        (zero_rest out 0 byte (λ i h. let p : 1 + i ≡ 0 + suc i = omega arith in rw p at (out_at (1 + i) (omega arith) ∙ fields_clear t i (omega arith))))
        (zero_bytes 8 out 8 (λ i h. let p : 1 + (7 + i) ≡ 8 + i = omega arith in rw p at (out_at (1 + (7 + i)) (omega arith) ∙ fields_clear t (7 + i) (omega arith))))))

    -- all sixteen
    pub words_tell : eqb (bit_or (word_at out 0) (word_at out 8)) 0 ≡ row_right_rule r
    unfolding row_right_rule
    words_tell =
        bool_ext _ _
        (λ t. let a = or_left_zero (word_at out 0) (word_at out 8) (eqb-true _ _ t) in let b = or_right_zero (word_at out 0) (word_at out 8) (eqb-true _ _ t) in
        let z : word_at out 0 / 256 ≡ 0 = omega arith in
        and_both _ _ (sym user_ok ∙ no_fault 0 (omega arith) (sym (out_at 0 (omega arith)) ∙ bytes_zero 8 out 0 a 0 (omega arith)))
        (sym fields_tell ∙ eq-eqb _ _ (or_both_zero (word_at out 0 / 256) (word_at out 8) z b)))
        (λ t. let f = eqb-true _ _ (fields_tell ∙ and_right _ _ t) in
        let u : get_or out 0 0 ≡ 0 = out_at 0 (omega arith) ∙ ok_clear 0 (omega arith) (user_ok ∙ and_left _ _ t) in
        let a = or_left_zero (word_at out 0 / 256) (word_at out 8) f in
        eq-eqb _ _ (or_both_zero (word_at out 0) (word_at out 8) (omega (arith, word_rest out 0)) (or_right_zero (word_at out 0 / 256) (word_at out 8) f)))
