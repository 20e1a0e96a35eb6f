-- Bytes side by side in one number, the first lowest, each in a lane of its own: what is done to the number is done to every byte at
-- once, as long as no sum leaves its lane.
use Rattle.std.specs.Prelude.{◌≡◌, refl, true, ℕ, zero, suc, ◌+◌, ◌-◌, ◌*◌, ◌/◌, ◌<◌, get_or, ltb, List}
use Rattle.std.proofs.Common.{ap, ◌∙◌, add-zero, arith, ltb-true}
use Rattle.lists.specs.Cases.{split, lt_or_le}
use Rattle.lists.specs.Below.{all_below, all_at}
use Rattle.std.specs.Int.Bits.{bit_and}
use Rattle.std.proofs.lemmas.Nat.{and_block}

-- f 0, f 1, .., f (n - 1)
unfoldable pub lanes : ℕ → (ℕ → ℕ) → ℕ
lanes zero f = 0
lanes (suc n) f = lanes n (λ (i : ℕ). f (suc i)) * 256 + f 0

-- n bytes of a list from a place on: four make a half, eight a word
unfoldable pub bytes_at : ℕ → List ℕ → ℕ → ℕ
bytes_at n l at = lanes n (λ (i : ℕ). get_or l (at + i) 0)

abbrev pub half_at : List ℕ → ℕ → ℕ
half_at = bytes_at 4

abbrev pub word_at : List ℕ → ℕ → ℕ
word_at = bytes_at 8

pub lanes_cong : (n : ℕ) (f g : ℕ → ℕ) → ((i : ℕ) → i < n → f i ≡ g i) → lanes n f ≡ lanes n g
unfolding lanes
lanes_cong zero f g p = refl
lanes_cong (suc n) f g p =
    let rest = lanes_cong n (λ (i : ℕ). f (suc i)) (λ (i : ℕ). g (suc i)) (λ i h. p (suc i) (omega arith)) in
    let first = p 0 (omega arith) in
    rw (rest, first)

-- a highest lane of 0 may be left out
pub lanes_short : (n : ℕ) (f : ℕ → ℕ) → f n ≡ 0 → lanes (suc n) f ≡ lanes n f
unfolding lanes
lanes_short zero f q = omega arith
lanes_short (suc n) f q = ap (λ (x : ℕ). x * 256 + f 0) (lanes_short n (λ (i : ℕ). f (suc i)) q)

-- eight lanes of which the last three are 0
pub five_lanes : (f : ℕ → ℕ) → f 5 ≡ 0 → f 6 ≡ 0 → f 7 ≡ 0 → lanes 8 f ≡ lanes 4 f + f 4 * 4294967296
unfolding lanes
five_lanes f a b c = omega arith

-- numbers that are bytes, where one test over all eight says so
pub eight_bytes : (f : ℕ → ℕ) → all_below (λ (i : ℕ). ltb (f i) 256) 8 ≡ true → (i : ℕ) → i < 8 → f i < 256
eight_bytes f t i h = ltb-true (f i) 256 (all_at (λ (k : ℕ). ltb (f k) 256) 8 t i h)

-- ---- bits that two numbers share
pub lanes_and : (n : ℕ) (f g : ℕ → ℕ) → ((i : ℕ) → i < n → f i < 256) → ((i : ℕ) → i < n → g i < 256) → bit_and (lanes n f) (lanes n g) ≡ lanes n (λ (i : ℕ). bit_and (f i) (g i))
unfolding lanes
lanes_and zero f g p q = refl
lanes_and (suc n) f g p q =
    and_block 8 (lanes n (λ (i : ℕ). f (suc i))) (lanes n (λ (i : ℕ). g (suc i))) (f 0) (g 0) (p 0 (omega arith)) (q 0 (omega arith))
    ∙ ap (λ (x : ℕ). x * 256 + bit_and (f 0) (g 0))
    (lanes_and n (λ (i : ℕ). f (suc i)) (λ (i : ℕ). g (suc i)) (λ i h. p (suc i) (omega arith)) (λ i h. q (suc i) (omega arith)))

-- ---- what the number says of its lanes
pub lanes_same : (n : ℕ) (f g : ℕ → ℕ) → ((i : ℕ) → i < n → f i < 256) → ((i : ℕ) → i < n → g i < 256) → lanes n f ≡ lanes n g → (i : ℕ) → i < n → f i ≡ g i
unfolding lanes
lanes_same zero f g p q e i h = elim h [ ]
lanes_same (suc n) f g p q e zero h = let a = p 0 h in let b = q 0 h in omega arith
lanes_same (suc n) f g p q e (suc i) h =
    let a = p 0 (omega arith) in
    let b = q 0 (omega arith) in
    lanes_same n (λ (k : ℕ). f (suc k)) (λ (k : ℕ). g (suc k)) (λ k l. p (suc k) (omega arith)) (λ k l. q (suc k) (omega arith)) (omega arith) i (omega arith)

pub lanes_zero : (n : ℕ) (f : ℕ → ℕ) → lanes n f ≡ 0 → (i : ℕ) → i < n → f i ≡ 0
unfolding lanes
lanes_zero zero f e i h = elim h [ ]
lanes_zero (suc n) f e zero h = omega arith
lanes_zero (suc n) f e (suc i) h = lanes_zero n (λ (k : ℕ). f (suc k)) (omega arith) i (omega arith)

pub zero_lanes : (n : ℕ) (f : ℕ → ℕ) → ((i : ℕ) → i < n → f i ≡ 0) → lanes n f ≡ 0
unfolding lanes
zero_lanes zero f p = refl
zero_lanes (suc n) f p =
    let rest = zero_lanes n (λ (i : ℕ). f (suc i)) (λ i h. p (suc i) (omega arith)) in
    let first = p 0 (omega arith) in
    omega arith

-- ---- bytes of a list: their sums, and those that make 0
pub half_sum : (l : List ℕ) (at : ℕ) → half_at l at ≡ get_or l at 0 + get_or l (at + 1) 0 * 256 + get_or l (at + 2) 0 * 65536 + get_or l (at + 3) 0 * 16777216
unfolding bytes_at lanes
half_sum l at = rw add-zero (omega arith)

further : (l : List ℕ) (at m n : ℕ) → get_or l (at + m + n) 0 ≡ get_or l (at + (m + n)) 0
further l at m n = ap (λ (k : ℕ). get_or l k 0) (omega arith)

pub word_sum : (l : List ℕ) (at : ℕ) → word_at l at ≡ half_at l at + half_at l (at + 4) * 4294967296
unfolding bytes_at lanes
word_sum l at =
    rw add-zero (omega (arith, half_sum l at, half_sum l (at + 4), further l at 4 1, further l at 4 2, further l at 4 3))

-- bytes, if those of the two fours are
pub word_bytes : (l : List ℕ) (at : ℕ) → ((i : ℕ) → i < 4 → get_or l (at + i) 0 < 256) → ((i : ℕ) → i < 4 → get_or l (at + 4 + i) 0 < 256) → (i : ℕ) → i < 8 → get_or l (at + i) 0 < 256
word_bytes l at p q i h =
    split (lt_or_le i 4) (λ w. p i w)
    (λ w. let e : at + 4 + (i - 4) ≡ at + i = omega arith in rw e at (q (i - 4) (omega arith)))

pub bytes_zero : (n : ℕ) (l : List ℕ) (at : ℕ) → bytes_at n l at ≡ 0 → (i : ℕ) → i < n → get_or l (at + i) 0 ≡ 0
unfolding bytes_at
bytes_zero n l at e i h = lanes_zero n (λ (k : ℕ). get_or l (at + k) 0) e i h

pub zero_bytes : (n : ℕ) (l : List ℕ) (at : ℕ) → ((i : ℕ) → i < n → get_or l (at + i) 0 ≡ 0) → bytes_at n l at ≡ 0
unfolding bytes_at
zero_bytes n l at p = zero_lanes n (λ (i : ℕ). get_or l (at + i) 0) p

-- ---- a word without its first byte
pub word_rest : (l : List ℕ) (at : ℕ) → word_at l at ≡ lanes 7 (λ (i : ℕ). get_or l (at + suc i) 0) * 256 + get_or l at 0
unfolding bytes_at lanes
word_rest l at = rw add-zero refl

module _ (l : List ℕ) (at : ℕ) (byte : get_or l at 0 < 256) where
  pub rest_zero_law : word_at l at / 256 ≡ 0 → (i : ℕ) → i < 7 → get_or l (at + suc i) 0 ≡ 0
  rest_zero_law e i h = lanes_zero 7 (λ (k : ℕ). get_or l (at + suc k) 0) (omega (arith, word_rest l at)) i h

  pub zero_rest : ((i : ℕ) → i < 7 → get_or l (at + suc i) 0 ≡ 0) → word_at l at / 256 ≡ 0
  zero_rest p = let z = zero_lanes 7 (λ (i : ℕ). get_or l (at + suc i) 0) p in omega (arith, word_rest l at)
