-- The slots of a row or an FCB, by value and one by one, and the slot of a record.
use Rattle.std.specs.Prelude.{◌≡◌, refl, ℕ, ◌+◌, ◌≤◌, ◌<◌, length, take, drop, get_or, set}
use Rattle.std.proofs.Common.{sym, ◌∙◌, mul_comm, arith, length-take, get_or-take, get_or-drop, get_or-set_same}
use Rattle.std.proofs.Math.ListN.{length-set, get_or-eq_default}
use Rattle.std.proofs.Math.Seq.{get_or-set_other}
use Rattle.lists.specs.Cases.{split, lt_or_le}
use Rattle.lists.specs.Splice.{part}
use Rattle.lists.specs.Product.{first_below}
use Rattle.format.specs.Diskette.{Bytes, Geometry, Sound, slot_bytes, slot_count, slots_on, eight_inch}
use Rattle.format.specs.Entries.{slots_of, slot_in, slot_of, slot_for_rule, with_slot}

pub byte_slots_of : (r : Bytes) (i : ℕ) → i < slot_bytes → get_or (slots_of r) i 0 ≡ get_or r (16 + i) 0
unfolding slots_of part
byte_slots_of r i h = rw (get_or-take, get_or-drop)

pub past_slots_of : (r : Bytes) (i : ℕ) → slot_bytes ≤ i → get_or (slots_of r) i 0 ≡ 0
unfolding slots_of part
past_slots_of r i h = get_or-eq_default (take slot_bytes (drop 16 r)) 0 {n = i} (simp length-take (omega arith))

pub short_slots_of : (r : Bytes) → length (slots_of r) ≤ slot_bytes
unfolding slots_of part
short_slots_of r = simp length-take (omega arith)

pub slot_in_slots_of : (G : Geometry) (r : Bytes) (j : ℕ) → slot_in G (slots_of r) j ≡ slot_of G r j
unfolding slot_of
slot_in_slots_of G r j = refl

-- on the 8-inch disk a block number is one byte: the byte of a row or an FCB that is its slot j
pub slot_byte : (r : Bytes) (j : ℕ) → j < slot_bytes → slot_of eight_inch r j ≡ get_or r (16 + j) 0
unfolding slot_of slot_in
slot_byte r j h = byte_slots_of r j h

-- sixteen bytes that agree have the same slots
pub slot_in_cong : (G : Geometry) (es fs : Bytes) → ((i : ℕ) → get_or es i 0 ≡ get_or fs i 0) → (j : ℕ) → slot_in G es j ≡ slot_in G fs j
unfolding slot_in
slot_in_cong G es fs h j = h j

-- rows that agree in bytes 16 to 31
pub slot_bytes_law : (G : Geometry) (r t : Bytes) → ((i : ℕ) → i < slot_bytes → get_or r (16 + i) 0 ≡ get_or t (16 + i) 0) → (j : ℕ) → slot_of G r j ≡ slot_of G t j
unfolding slot_of
slot_bytes_law G r t h j =
    slot_in_cong G (slots_of r) (slots_of t)
    (λ i. split (lt_or_le i slot_bytes) (λ l. rw (byte_slots_of r i l, byte_slots_of t i l) (h i l)) (λ l. rw (past_slots_of r i l, past_slots_of t i l))) j

-- rows whose bytes 16 to 31 are 0
pub slot_zero : (G : Geometry) (r : Bytes) → ((i : ℕ) → i < slot_bytes → get_or r (16 + i) 0 ≡ 0) → (j : ℕ) → slot_of G r j ≡ 0
unfolding slot_of slot_in
slot_zero G r h j =
    let z : (i : ℕ) → get_or (slots_of r) i 0 ≡ 0 = λ i. split (lt_or_le i slot_bytes) (λ l. byte_slots_of r i l ∙ h i l) (λ l. past_slots_of r i l) in
    z j

-- ---- how many slots there are
pub slots_on_high : (G : Geometry) → slots_on G ≤ slot_count
unfolding slots_on
slots_on_high G = omega arith

pub slot_place : (G : Geometry) {j : ℕ} → j < slots_on G → j < slot_count
slot_place G h = omega (arith, slots_on_high G)

-- a byte of the slots, after a byte was set
set_same : (r : Bytes) (i v : ℕ) → i < slot_bytes → 32 ≤ length r → get_or (slots_of (set r (16 + i) v)) i 0 ≡ v
set_same r i v h l = byte_slots_of (set r (16 + i) v) i h ∙ get_or-set_same r (16 + i) v 0 (omega arith)

set_other : (r : Bytes) (i v k : ℕ) → (k ≡ i → ⊥) → get_or (slots_of (set r (16 + i) v)) k 0 ≡ get_or (slots_of r) k 0
set_other r i v k n =
    split (lt_or_le k slot_bytes)
    (λ l. byte_slots_of (set r (16 + i) v) k l ∙ get_or-set_other r (16 + i) (16 + k) v 0 (λ q. n (omega arith)) ∙ sym (byte_slots_of r k l))
    (λ l. past_slots_of (set r (16 + i) v) k l ∙ sym (past_slots_of r k l))

-- ---- a block put into a slot
module _ (G : Geometry) (r : Bytes) (j b : ℕ) where
  pub length_with_slot : length (with_slot G r j b) ≡ length r
  unfolding with_slot
  length_with_slot = length-set r (16 + j) b

  module _ (h : j < slots_on G) where
    -- the bytes outside the slots stay
    pub byte_with_slot : (i : ℕ) → (16 ≤ i → i < 32 → ⊥) → get_or (with_slot G r j b) i 0 ≡ get_or r i 0
    unfolding with_slot
    byte_with_slot i out = let e = slot_place G h in get_or-set_other r (16 + j) i b 0 (λ q. out (omega arith) (omega arith))

    pub slot_with_slot : 32 ≤ length r → slot_of G (with_slot G r j b) j ≡ b
    unfolding with_slot slot_of slot_in
    slot_with_slot l = set_same r j b (slot_place G h) l

    pub slot_with_slot_other : (k : ℕ) → (k ≡ j → ⊥) → slot_of G (with_slot G r j b) k ≡ slot_of G r k
    unfolding with_slot slot_of slot_in
    slot_with_slot_other k n = set_other r j b k n

-- each record of an extent has a slot
pub slot_for_below : {G : Geometry} (S : Sound G) (ext k : ℕ) → k < 128 → slot_for_rule G ext k < slots_on G
unfolding slot_for_rule
slot_for_below {G} S ext k h = first_below G.per_block k (slots_on G) (omega (arith, S.slots_hold, mul_comm G.per_block (slots_on G)))

pub slot_for_low : {G : Geometry} (S : Sound G) (ext k : ℕ) → k < 128 → slot_for_rule G ext k < slot_count
slot_for_low {G} S ext k h = slot_place G (slot_for_below S ext k h)
