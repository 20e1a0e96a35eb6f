-- The rows that are made: a new file's, a new extent's, and a renamed one, byte by byte and field by field.
use Rattle.std.specs.Prelude.{◌≡◌, false, ◌∷◌, ◌++◌, length, take, replicate}
use Rattle.std.proofs.Math.Path.{refl, ap}
use Rattle.std.proofs.Common.{sym, ◌∙◌, inl, inr, length-take-le, ext_get_or}
use Prim.Native.Nat.{ℕ, suc, ◌+◌, ◌-◌, ◌/◌, ◌%◌, ◌≤◌, ◌<◌}
use native.Mathlib.Omega.{arith}
use Rattle.std.proofs.Math.ListN.{get_or, length-append, get_or-append}
use Rattle.std.proofs.Math.Seq.{get_or-take}
use Rattle.std.proofs.lemmas.Bool.{lt-leb}
use Rattle.lists.specs.Splice.{length_splice, get_d_splice_in, get_d_splice_out, get_d_append_past}
use Rattle.lists.specs.Tab.{tab, length_tab, get_d_tab, get_d_zeros}
use Rattle.format.specs.Diskette.{Bytes, Geometry, slot_bytes}
use Rattle.format.specs.Names.{seven_bits, name_bytes}
use Rattle.format.specs.Entries.{user_of, ex_of, s2_of, slot_of, read_only, extent_of}
use Rattle.facts.specs.Slots.{slot_zero}
use Rattle.model.specs.Entering.{made_row_rule, next_row_rule, renamed_byte, renamed_row_rule}
use Rattle.fields.specs.Agree.{Agree, SameName, name_cong, slot_cong, extent_cong}

-- ---- 22: user, name without attributes, ex, zeros
module _ (user : ℕ) (fcb : Bytes) where
  bare : Bytes
  bare = tab name_bytes (λ (i : ℕ). seven_bits (get_or fcb (1 + i) 0))

  bare_long : length bare ≡ 11
  unfolding bare
  bare_long = length_tab name_bytes _

  pub length_made_row : length (made_row_rule user fcb) ≡ 32
  unfolding made_row_rule bare
  length_made_row = ap suc (length-append bare _ ∙ omega (arith, bare_long))

  past_user : (i : ℕ) → get_or (made_row_rule user fcb) (1 + i) 0 ≡ get_or (bare ++ (ex_of fcb ∷ replicate 19 0)) i 0
  unfolding made_row_rule bare
  past_user i = let q : 1 + i ≡ suc i = omega arith in rw q

  past_name : (i : ℕ) → get_or (made_row_rule user fcb) (12 + i) 0 ≡ get_or (ex_of fcb ∷ replicate 19 0) i 0
  past_name i =
      let q : 12 + i ≡ 1 + (11 + i) = omega arith in
      ap (λ (k : ℕ). get_or (made_row_rule user fcb) k 0) q ∙ past_user (11 + i) ∙ get_d_append_past bare (ex_of fcb ∷ replicate 19 0) 11 bare_long i

  pub user_made : user_of (made_row_rule user fcb) ≡ user
  unfolding made_row_rule
  user_made = refl

  pub byte_made : (i : ℕ) → i < name_bytes → get_or (made_row_rule user fcb) (1 + i) 0 ≡ seven_bits (get_or fcb (1 + i) 0)
  unfolding bare
  byte_made i h = past_user i ∙ get_or-append bare _ 0 i (omega (arith, bare_long)) ∙ get_d_tab name_bytes _ i h

  pub ex_made : ex_of (made_row_rule user fcb) ≡ ex_of fcb
  ex_made = past_name 0

  -- s1, s2, rc and the slots
  pub zero_made : (i : ℕ) → 13 ≤ i → get_or (made_row_rule user fcb) i 0 ≡ 0
  zero_made i h =
      let q : i ≡ 12 + suc (i - 13) = omega arith in
      ap (λ (k : ℕ). get_or (made_row_rule user fcb) k 0) q ∙ past_name (suc (i - 13)) ∙ get_d_zeros 19 (i - 13)

  pub s2_made : s2_of (made_row_rule user fcb) ≡ 0
  s2_made = zero_made 14 (omega arith)

  pub slot_made : (G : Geometry) (j : ℕ) → slot_of G (made_row_rule user fcb) j ≡ 0
  slot_made G = slot_zero G (made_row_rule user fcb) (λ i h. zero_made (16 + i) (omega arith))

  pub extent_made : extent_of (made_row_rule user fcb) ≡ ex_of fcb
  unfolding extent_of
  extent_made = rw (s2_made, ex_made) (omega arith)

  pub name_made : SameName (made_row_rule user fcb) 1 fcb 1
  name_made i h = ap seven_bits (byte_made i h) ∙ omega arith

  pub read_only_made : read_only (made_row_rule user fcb) ≡ false
  unfolding read_only
  read_only_made = rw (byte_made 8 (omega arith)) (lt-leb 128 (seven_bits (get_or fcb 9 0)) (omega arith))

-- ---- a move that makes an entry: the row's user, name and attributes, the extent's ex and s2, zeros
module _ (row : Bytes) (ext : ℕ) (hr : length row ≡ 32) where
  head_long : length (take 12 row) ≡ 12
  head_long = length-take-le 12 row (omega arith)

  numbers : Bytes
  numbers = ext % 32 ∷ 0 ∷ ext / 32 ∷ 0 ∷ replicate slot_bytes 0

  pub length_next_row : length (next_row_rule row ext) ≡ 32
  unfolding next_row_rule
  length_next_row = length-append (take 12 row) _ ∙ omega (arith, head_long)

  pub head_next : Agree (next_row_rule row ext) row 0 12
  unfolding next_row_rule
  head_next i a h = get_or-append (take 12 row) _ 0 i (omega (arith, head_long)) ∙ get_or-take 12 row i 0 h

  past_head : (k : ℕ) → get_or (next_row_rule row ext) (12 + k) 0 ≡ get_or numbers k 0
  unfolding next_row_rule numbers
  past_head k = get_d_append_past (take 12 row) numbers 12 head_long k

  pub user_next : user_of (next_row_rule row ext) ≡ user_of row
  user_next = head_next 0 (omega arith) (omega arith)

  pub name_next : SameName (next_row_rule row ext) 1 row 1
  name_next = name_cong (next_row_rule row ext) row (λ i a b. head_next i (omega arith) b)

  pub ex_next : ex_of (next_row_rule row ext) ≡ ext % 32
  unfolding numbers
  ex_next = past_head 0

  pub s1_next : get_or (next_row_rule row ext) 13 0 ≡ 0
  unfolding numbers
  s1_next = past_head 1

  pub s2_next : s2_of (next_row_rule row ext) ≡ ext / 32
  unfolding numbers
  s2_next = past_head 2

  -- rc and the slots
  pub zero_next : (i : ℕ) → 15 ≤ i → get_or (next_row_rule row ext) i 0 ≡ 0
  unfolding numbers
  zero_next i h =
      let q : i ≡ 12 + suc (suc (suc (i - 15))) = omega arith in
      ap (λ (k : ℕ). get_or (next_row_rule row ext) k 0) q ∙ past_head (suc (suc (suc (i - 15)))) ∙ get_d_zeros 17 (i - 15)

  pub slot_next : (G : Geometry) (j : ℕ) → slot_of G (next_row_rule row ext) j ≡ 0
  slot_next G = slot_zero G (next_row_rule row ext) (λ i h. zero_next (16 + i) (omega arith))

  pub extent_next : extent_of (next_row_rule row ext) ≡ ext
  unfolding extent_of
  extent_next = rw (s2_next, ex_next) (omega arith)

-- the row's first twelve bytes are all that a new one takes of it
pub next_cong : (row t : Bytes) (ext : ℕ) → length row ≡ 32 → length t ≡ 32 → Agree row t 0 12 → next_row_rule row ext ≡ next_row_rule t ext
unfolding next_row_rule
next_cong row t ext hr ht h =
    let heads : take 12 row ≡ take 12 t =
    ext_get_or 0 (take 12 row) (take 12 t) (head_long row ext hr ∙ sym (head_long t ext ht))
    (λ i b. let low : i < 12 = omega (arith, head_long row ext hr) in get_or-take 12 row i 0 low ∙ h i (omega arith) low ∙ sym (get_or-take 12 t i 0 low)) in
    rw heads

-- ---- 23: the name in seven bits, with the attributes that were there
module _ (fcb row : Bytes) where
  pub bits_renamed : (i : ℕ) → seven_bits (renamed_byte fcb row i) ≡ seven_bits (get_or fcb (17 + i) 0)
  unfolding renamed_byte
  bits_renamed i = omega arith

  module _ (hr : length row ≡ 32) where
    bytes_long : length (tab name_bytes (renamed_byte fcb row)) ≡ 11
    bytes_long = length_tab name_bytes (renamed_byte fcb row)

    room : 1 + length (tab name_bytes (renamed_byte fcb row)) ≤ length row
    room = omega (arith, bytes_long)

    pub length_renamed_row : length (renamed_row_rule fcb row) ≡ 32
    unfolding renamed_row_rule
    length_renamed_row = length_splice row 1 (tab name_bytes (renamed_byte fcb row)) room ∙ hr

    pub byte_renamed : (i : ℕ) → i < name_bytes → get_or (renamed_row_rule fcb row) (1 + i) 0 ≡ renamed_byte fcb row i
    unfolding renamed_row_rule
    byte_renamed i h =
        get_d_splice_in row 1 (tab name_bytes (renamed_byte fcb row)) room i (omega (arith, bytes_long)) ∙ get_d_tab name_bytes (renamed_byte fcb row) i h

    pub user_renamed : user_of (renamed_row_rule fcb row) ≡ user_of row
    unfolding renamed_row_rule
    user_renamed = get_d_splice_out row 1 (tab name_bytes (renamed_byte fcb row)) room 0 (inl (omega arith))

    pub rest_renamed : (n : ℕ) → Agree (renamed_row_rule fcb row) row 12 n
    unfolding renamed_row_rule
    rest_renamed n i a b = get_d_splice_out row 1 (tab name_bytes (renamed_byte fcb row)) room i (inr (omega (arith, bytes_long)))

    pub name_renamed : SameName (renamed_row_rule fcb row) 1 fcb 17
    name_renamed i h = ap seven_bits (byte_renamed i h) ∙ bits_renamed i

    pub slot_renamed : (G : Geometry) (j : ℕ) → slot_of G (renamed_row_rule fcb row) j ≡ slot_of G row j
    slot_renamed = slot_cong (renamed_row_rule fcb row) row (λ i a b. rest_renamed 32 i (omega arith) b)

    pub extent_renamed : extent_of (renamed_row_rule fcb row) ≡ extent_of row
    extent_renamed = extent_cong (renamed_row_rule fcb row) row (rest_renamed 15)
