-- Names compared by words: the first eight bytes at once, each in its low seven bits.
use Rattle.std.specs.Prelude.{◌≡◌, refl, true, false, ℕ, ◌+◌, ◌<◌, get_or}
use Rattle.std.proofs.Common.{ap, sym, ◌∙◌, arith}
use Rattle.std.specs.Int.Bits.{bit_and}
use Rattle.std.proofs.lemmas.Nat.{and_mask}
use Rattle.lists.specs.Cases.{refute}
use Rattle.lists.specs.Below.{all_below, all_intro}
use Rattle.lanes.specs.Lanes.{lanes, bytes_at, word_at, lanes_cong, lanes_and, lanes_same}
use Rattle.format.specs.Diskette.{Bytes}
use Rattle.format.specs.Names.{byte_like_rule, name_like_rule}
use Rattle.facts.specs.Names.{name_bits, like_at, same_byte}

-- the low seven bits of each of eight bytes
abbrev pub sevens : ℕ
sevens = 9187201950435737471

abbrev pub eight : ℕ
eight = 8

sevens_lanes : sevens ≡ lanes eight (λ (i : ℕ). 127)
unfolding lanes
sevens_lanes = refl

pub seven_lanes : (l : Bytes) (at : ℕ) → ((i : ℕ) → i < eight → get_or l (at + i) 0 < 256) → bit_and (word_at l at) sevens ≡ lanes eight (name_bits l at)
unfolding bytes_at
seven_lanes l at p =
    ap (bit_and (lanes eight (λ (i : ℕ). get_or l (at + i) 0))) sevens_lanes
    ∙ lanes_and eight (λ (i : ℕ). get_or l (at + i) 0) (λ (i : ℕ). 127) p (λ i h. omega arith)
    ∙ lanes_cong eight _ _ (λ i h. and_mask (get_or l (at + i) 0) 7)

module _ (s : Bytes) (q : ℕ) (r : Bytes) (p : ℕ) (in-s : (i : ℕ) → i < eight → get_or s (q + i) 0 < 256) (in-r : (i : ℕ) → i < eight → get_or r (p + i) 0 < 256) where
  -- words that are the same in their sevens: the first eight bytes are what is asked for
  pub words_like : bit_and (word_at s q) sevens ≡ bit_and (word_at r p) sevens → all_below (λ (i : ℕ). byte_like_rule false (get_or s (q + i) 0) (get_or r (p + i) 0)) eight ≡ true
  words_like e =
      all_intro _ eight (λ i h. same_byte _ _
      (lanes_same eight (name_bits s q) (name_bits r p) (λ k l. omega arith) (λ k l. omega arith)
      (sym (seven_lanes s q in-s) ∙ e ∙ seven_lanes r p in-r) i h))

  -- words that are not: the names differ
  pub words_differ : (bit_and (word_at s q) sevens ≡ bit_and (word_at r p) sevens → ⊥) → false ≡ name_like_rule false s q r p
  words_differ n =
      refute _ (λ t. n (seven_lanes s q in-s ∙ lanes_cong eight (name_bits s q) (name_bits r p) (λ i h. like_at s q r p t i (omega arith)) ∙ sym (seven_lanes r p in-r)))
