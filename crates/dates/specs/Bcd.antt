-- Two decimal digits, told by sums and masks: a digit is over 9 where its 8 is set, and its 4 or its 2. Six added to those two carries into the
-- 8 then, and never further, so that bytes side by side in one number are told at once.
use Rattle.std.specs.Prelude.{◌≡◌, refl, Bool, true, false, not, cond, eqb, leb, get_or}
use Rattle.std.proofs.Math.Path.{ap, sym}
use Rattle.std.proofs.Common.{◌∙◌, arith}
use Prim.Native.Nat.{ℕ, zero, suc, ◌+◌, ◌*◌, ◌%◌, ◌≤◌, ◌<◌}
use Rattle.std.specs.Int.Bits.{bit_and, bit_or, and_le_l, and_le_r, and_zero_r}
use borrow.Author.Tests.{eqb-true, eq-eqb}
use Rattle.lists.specs.Cases.{bool_ext, refute, not_both, cond_either}
use Rattle.lists.specs.Tests.{◌and◌, ◌or◌, and_left, and_right, and_both, and_then, agree, agree_same}
use Rattle.lists.specs.Below.{all_below, all_at, all_intro}
use Rattle.lists.specs.Bits.{or_zero}
use Rattle.lanes.specs.Lanes.{lanes, bytes_at, word_at, lanes_and, lanes_zero, zero_lanes}
use Rattle.format.specs.Diskette.{Bytes}
use Rattle.format.specs.Dates.{is_label, is_dates, bcd, stamp_right, asks_create, asks_access, label_right_rule, dates_right_rule}

-- what is wrong with a number of bytes, where `sixes` has a 6 for each digit that counts and `eights` an 8: 0 where nothing is
unfoldable pub fault : ℕ → ℕ → ℕ → ℕ
fault sixes eights w = bit_and (bit_and (bit_and w sixes + sixes) w) eights

-- ---- one byte
told : ℕ → Bool
told b = agree (eqb (fault 102 136 b) 0) (bcd b)

-- one test that the checker computes, for all bytes
all_told : all_below told 256 ≡ true
unfolding all_below told agree fault bcd ◌and◌
all_told = refl

fault_tells : (b : ℕ) → b < 256 → eqb (fault 102 136 b) 0 ≡ bcd b
unfolding told
fault_tells b h = agree_same _ _ (all_at told 256 all_told b h)

-- the masks of a byte that counts, or does not
six : Bool → ℕ
six t = cond t 102 0

eight : Bool → ℕ
eight t = cond t 136 0

six_low : (t : Bool) → six t ≤ 102
unfolding six
six_low true = omega arith
six_low false = omega arith

eight_low : (t : Bool) → eight t < 256
unfolding eight
eight_low true = omega arith
eight_low false = omega arith

lane_tells : (t : Bool) (b : ℕ) → b < 256 → eqb (fault (six t) (eight t) b) 0 ≡ (not t or bcd b)
unfolding six eight fault ◌or◌
lane_tells true b h = fault_tells b h
lane_tells false b h = eq-eqb _ _ (and_zero_r (bit_and (bit_and b 0 + 0) b))

-- ---- n bytes side by side, of which those that `counts` names count
lanes_add : (n : ℕ) (f g : ℕ → ℕ) → lanes n f + lanes n g ≡ lanes n (λ (i : ℕ). f i + g i)
unfolding lanes
lanes_add zero f g = refl
lanes_add (suc n) f g = let rest = lanes_add n (λ (i : ℕ). f (suc i)) (λ (i : ℕ). g (suc i)) in omega arith

module _ (n : ℕ) (counts : ℕ → Bool) where
  sixes : ℕ
  sixes = lanes n (λ (i : ℕ). six (counts i))

  eights : ℕ
  eights = lanes n (λ (i : ℕ). eight (counts i))

  module _ (f : ℕ → ℕ) (bytes : (i : ℕ) → i < n → f i < 256) where
    lane_fault : ℕ → ℕ
    lane_fault i = fault (six (counts i)) (eight (counts i)) (f i)

    -- no sum leaves its lane
    fault_lanes : fault sixes eights (lanes n f) ≡ lanes n lane_fault
    unfolding sixes eights fault lane_fault
    fault_lanes =
        let six-byte : (i : ℕ) → i < n → six (counts i) < 256 = λ i h. omega (arith, six_low (counts i)) in
        let low : (i : ℕ) → i < n → bit_and (f i) (six (counts i)) + six (counts i) < 256 =
        λ i h. omega (arith, and_le_r (f i) (six (counts i)), six_low (counts i)) in
        let sum : ℕ → ℕ = λ (i : ℕ). bit_and (f i) (six (counts i)) + six (counts i) in
        ap (λ (w : ℕ). bit_and (bit_and (w + sixes) (lanes n f)) eights) (lanes_and n f (λ (i : ℕ). six (counts i)) bytes six-byte)
        ∙ ap (λ (w : ℕ). bit_and (bit_and w (lanes n f)) eights) (lanes_add n (λ (i : ℕ). bit_and (f i) (six (counts i))) (λ (i : ℕ). six (counts i)))
        ∙ ap (λ (w : ℕ). bit_and w eights) (lanes_and n sum f low bytes)
        ∙ lanes_and n (λ (i : ℕ). bit_and (sum i) (f i)) (λ (i : ℕ). eight (counts i))
        (λ i h. omega (arith, low i h, and_le_l (sum i) (f i))) (λ i h. eight_low (counts i))

    lanes_tell : eqb (fault sixes eights (lanes n f)) 0 ≡ all_below (λ (i : ℕ). not (counts i) or bcd (f i)) n
    unfolding lane_fault
    lanes_tell =
        bool_ext _ _
        (λ t. all_intro _ n (λ i h. sym (lane_tells (counts i) (f i) (bytes i h)) ∙ eq-eqb _ _ (lanes_zero n lane_fault (sym fault_lanes ∙ eqb-true _ _ t) i h)))
        (λ t. eq-eqb _ _ (fault_lanes ∙ zero_lanes n lane_fault (λ i h. eqb-true _ _ (lane_tells (counts i) (f i) (bytes i h) ∙ all_at _ n t i h))))

-- the masks of hour and minute as two bytes, and of two stamps in a row, of which hour and minute count: 6666H, 8888H, 6666000066660000H and
-- 8888000088880000H
abbrev pub time_sixes : ℕ
time_sixes = 26214

abbrev pub time_eights : ℕ
time_eights = 34952

abbrev pub pair_sixes : ℕ
pair_sixes = 7378585041211097088

abbrev pub pair_eights : ℕ
pair_eights = 9838113388281462784

pub time_tells : (hour minute : ℕ) → hour < 256 → minute < 256 → eqb (fault time_sixes time_eights (hour + minute * 256)) 0 ≡ (bcd hour and bcd minute)
unfolding sixes eights six eight lanes all_below ◌and◌ ◌or◌
time_tells hour minute h m =
    let f : ℕ → ℕ = λ (i : ℕ). cond (eqb i 0) hour minute in
    let q : hour + minute * 256 ≡ lanes 2 f = omega arith in
    ap (λ (w : ℕ). eqb (fault time_sixes time_eights w) 0) q
    ∙ lanes_tell 2 (λ (i : ℕ). true) f (λ i l. cond_either (λ (x : ℕ). x < 256) (eqb i 0) (λ t. h) (λ t. m))

-- of eight lanes the last two of each four
last_two : (a b c e : Bool) → (((((a and b) and true) and true) and c) and e) ≡ ((a and b) and c and e)
unfolding ◌and◌
last_two true true c e = refl
last_two true false c e = refl
last_two false b c e = refl

pub pair_tells : (r : Bytes) (at : ℕ) → ((i : ℕ) → i < 8 → get_or r (at + i) 0 < 256)
    → eqb (fault pair_sixes pair_eights (word_at r at)) 0 ≡ (stamp_right r at and stamp_right r (at + 4))
unfolding sixes eights six eight lanes bytes_at stamp_right all_below ◌and◌ ◌or◌
pair_tells r at bytes =
    let digits : ℕ → Bool = λ (k : ℕ). bcd (get_or r k 0) in
    let p : at + 6 ≡ at + 4 + 2 = omega arith in
    let q : at + 7 ≡ at + 4 + 3 = omega arith in
    lanes_tell 8 (λ (i : ℕ). leb 2 (i % 4)) (λ (i : ℕ). get_or r (at + i) 0) bytes
    ∙ last_two (digits (at + 2)) (digits (at + 3)) (digits (at + 6)) (digits (at + 7))
    ∙ ap (λ (k : ℕ). (digits (at + 2) and digits (at + 3)) and digits k and digits (at + 7)) p
    ∙ ap (λ (k : ℕ). (digits (at + 2) and digits (at + 3)) and digits (at + 4 + 2) and digits k) q

-- and of the three pairs of a date entry
pub three_tell : (r : Bytes) (a b c : ℕ) → is_dates r ≡ true → eqb a 0 ≡ (stamp_right r 1 and stamp_right r 5)
    → eqb b 0 ≡ (stamp_right r 11 and stamp_right r 15) → eqb c 0 ≡ (stamp_right r 21 and stamp_right r 25) → eqb (bit_or (bit_or a b) c) 0 ≡ dates_right_rule r
unfolding dates_right_rule all_below ◌and◌
three_tell r a b c i p q s =
    or_zero (bit_or a b) c ∙ ap (λ (x : Bool). x and eqb c 0) (or_zero a b) ∙ rw (p, q, s) (sym (and_then _ _ i))

-- ---- a label: its own pair, and then what it asks
module _ (r : Bytes) where
  pub pair_fails : (stamp_right r 24 and stamp_right r 28) ≡ false → label_right_rule r ≡ false
  unfolding label_right_rule
  pair_fails h =
      sym (refute _ (λ t. let s = and_right _ _ t in not_both _ (and_both _ _ (and_left _ _ s) (and_left _ _ (and_right _ _ s))) h))

  pub asking_decides : is_label r ≡ true → (stamp_right r 24 and stamp_right r 28) ≡ true → label_right_rule r ≡ not (asks_create r and asks_access r)
  unfolding label_right_rule
  asking_decides i h = and_then _ _ i ∙ and_then _ _ (and_left _ _ h) ∙ and_then _ _ (and_right _ _ h)
