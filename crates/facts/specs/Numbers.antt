-- A row with other numbers: what it holds, and what stays.
use Rattle.std.specs.Prelude.{◌≡◌, ℕ, ◌≤◌, length, get_or, set}
use Rattle.std.proofs.Common.{◌∙◌, arith}
use Rattle.std.proofs.Math.ListN.{length-set}
use Rattle.std.proofs.Math.Seq.{get_or-set_same, get_or-set_other}
use Rattle.format.specs.Diskette.{Bytes, extent_records}
use Rattle.format.specs.Entries.{ex_of, s2_of, rc_of, count_of, with_numbers}
use Rattle.facts.specs.Counts.{count_is}

module _ (r : Bytes) (ex s2 count : ℕ) where
  pub length_with_numbers : length (with_numbers r ex s2 count) ≡ length r
  unfolding with_numbers
  length_with_numbers = length-set (set (set r 12 ex) 14 s2) 15 count ∙ length-set (set r 12 ex) 14 s2 ∙ length-set r 12 ex

  pub byte_with_numbers : (i : ℕ) → (i ≡ 12 → ⊥) → (i ≡ 14 → ⊥) → (i ≡ 15 → ⊥) → get_or (with_numbers r ex s2 count) i 0 ≡ get_or r i 0
  unfolding with_numbers
  byte_with_numbers i a b c =
      get_or-set_other (set (set r 12 ex) 14 s2) 15 i count 0 c ∙ get_or-set_other (set r 12 ex) 14 i s2 0 b ∙ get_or-set_other r 12 i ex 0 a

  module _ (long : 32 ≤ length r) where
    pub ex_with_numbers : ex_of (with_numbers r ex s2 count) ≡ ex
    unfolding with_numbers
    ex_with_numbers =
        get_or-set_other (set (set r 12 ex) 14 s2) 15 12 count 0 (λ q. omega arith) ∙ get_or-set_other (set r 12 ex) 14 12 s2 0 (λ q. omega arith)
        ∙ get_or-set_same r 12 ex 0 (omega arith)

    pub s2_with_numbers : s2_of (with_numbers r ex s2 count) ≡ s2
    unfolding with_numbers
    s2_with_numbers =
        get_or-set_other (set (set r 12 ex) 14 s2) 15 14 count 0 (λ q. omega arith) ∙ get_or-set_same (set r 12 ex) 14 s2 0 (omega (arith, length-set r 12 ex))

    rc_with_numbers : rc_of (with_numbers r ex s2 count) ≡ count
    unfolding with_numbers
    rc_with_numbers = get_or-set_same (set (set r 12 ex) 14 s2) 15 count 0 (omega (arith, length-set (set r 12 ex) 14 s2, length-set r 12 ex))

    pub count_with_numbers : count ≤ extent_records → count_of (with_numbers r ex s2 count) ≡ count
    count_with_numbers h = count_is (with_numbers r ex s2 count) (rw rc_with_numbers h) ∙ rc_with_numbers
