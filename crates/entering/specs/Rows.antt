-- Rows made byte by byte: what the steps of the code come to.
use Rattle.std.specs.Prelude.{◌≡◌, ◌∷◌, ℕ, suc, ◌+◌, ◌-◌, ◌/◌, ◌%◌, ◌≤◌, ◌<◌, length, get_or, set, replicate}
use Rattle.std.proofs.Common.{ap, ◌∙◌, inl, inr, arith}
use Rattle.std.proofs.Math.Path.{sym}
use Rattle.lists.specs.Splice.{part, splice, length_part, get_d_part}
use Rattle.lists.specs.Tab.{Filled, filled_none, filled_more, filled_up, filled_kept, filled_splice, filled_all, filled_list, get_d_zeros}
use Rattle.format.specs.Diskette.{Bytes, entry_bytes}
use Rattle.format.specs.Names.{seven_bits, name_bytes}
use Rattle.format.specs.Entries.{ex_of}
use Rattle.model.specs.Entering.{interface_byte, interface_cleared, made_row_rule, next_row_rule, renamed_row_rule}
use Rattle.fields.specs.Entering.{interface_in, interface_out}
use Rattle.fields.specs.Making.{length_made_row, user_made, ex_made, zero_made, length_next_row, head_next, ex_next, s1_next, s2_next, zero_next, length_renamed_row, user_renamed, rest_renamed}

-- ---- the high bits of bytes 5 to 8
module _ (row : Bytes) (hr : length row ≡ entry_bytes) where
  pub cleared_start : Filled (interface_byte row) row 5 row
  cleared_start =
      filled_up (interface_byte row) row 0 5 row (omega arith) (λ k a b. sym (interface_out row k (inl b))) (filled_none (interface_byte row) row)

  pub cleared_more : (i : ℕ) (l : Bytes) → 5 ≤ i → i < 9 → Filled (interface_byte row) row i l
      → Filled (interface_byte row) row (i + 1) (set l i (seven_bits (get_or l i 0)))
  cleared_more i l a b f =
      let ll : length l ≡ length row = f.long in
      filled_more (interface_byte row) row i l _ (omega arith)
      (ap seven_bits (f.left i (omega arith)) ∙ sym (interface_in row i a (omega arith))) f

  pub cleared_all : (i : ℕ) (l : Bytes) → i ≡ 9 → Filled (interface_byte row) row i l → l ≡ interface_cleared row
  unfolding interface_cleared
  cleared_all i l q f =
      filled_all (interface_byte row) row entry_bytes entry_bytes l hr (omega arith)
      (filled_up (interface_byte row) row i entry_bytes l (omega arith) (λ k a b. sym (interface_out row k (inr (omega arith)))) f)

-- ---- rows that take the bytes of another, t, one after the other: the first i are t's, the others are as they were in old
abbrev pub Made : Bytes → Bytes → ℕ → Bytes → Type 0
Made t old i l = Filled (λ (k : ℕ). get_or t k 0) old i l

-- a turn of a loop that sets a name byte
pub made_more : (t old l : Bytes) (i v : ℕ) → 1 + i < length old → v ≡ get_or t (1 + i) 0 → Made t old (1 + i) l → Made t old (1 + (i + 1)) (set l (1 + i) v)
made_more t old l i v h e f =
    let ll : length l ≡ length old = f.long in
    let q : 1 + (i + 1) ≡ (1 + i) + 1 = omega arith in
    rw q (filled_more (λ (k : ℕ). get_or t k 0) old (1 + i) l v (omega arith) e f)

-- ---- 22: the user and zeros, then the name, then ex
pub blank_zero : (user k : ℕ) → 1 ≤ k → get_or (user ∷ replicate 31 0) k 0 ≡ 0
blank_zero user k h = let q : k ≡ suc (k - 1) = omega arith in rw q (get_d_zeros 31 (k - 1))

module _ (user : ℕ) (fcb old : Bytes) (long : length old ≡ entry_bytes) (first : get_or old 0 0 ≡ user) where
  pub made_start : Made (made_row_rule user fcb) old 1 old
  made_start =
      filled_up (λ (k : ℕ). get_or (made_row_rule user fcb) k 0) old 0 1 old (omega arith)
      (λ k a b. let q : k ≡ 0 = omega arith in rw q (first ∙ sym (user_made user fcb))) (filled_none _ old)

  pub made_all : (l : Bytes) (i : ℕ) → ((k : ℕ) → 1 ≤ k → get_or old k 0 ≡ 0) → i ≡ name_bytes → Made (made_row_rule user fcb) old (1 + i) l
      → set l 12 (ex_of fcb) ≡ made_row_rule user fcb
  made_all l i zero q f =
      let t : Bytes = made_row_rule user fcb in
      let ll : length l ≡ length old = f.long in
      let n : 1 + i ≡ 12 = omega arith in
      let g : Made t old 12 l = rw n at f in
      filled_list t old entry_bytes (set l 12 (ex_of fcb)) (length_made_row user fcb ∙ sym long) (omega (arith, length_made_row user fcb))
      (filled_up (λ (k : ℕ). get_or t k 0) old 13 entry_bytes (set l 12 (ex_of fcb)) (omega arith) (λ k a b. zero k (omega arith) ∙ sym (zero_made user fcb k a))
      (filled_more (λ (k : ℕ). get_or t k 0) old 12 l (ex_of fcb) (omega arith) (sym (ex_made user fcb)) g))

-- ---- a move that makes an entry: zeros, the head of the present row, ex and s2
module _ (row old : Bytes) (ext : ℕ) (hr : length row ≡ entry_bytes) (long : length old ≡ entry_bytes) (zero : (k : ℕ) → get_or old k 0 ≡ 0) where
  next_head : Made (next_row_rule row ext) old 12 (splice old 0 (part row 0 12))
  next_head =
      let f : ℕ → ℕ = λ (k : ℕ). get_or (next_row_rule row ext) k 0 in
      let n : length (part row 0 12) ≡ 12 = length_part row 0 12 (omega arith) in
      rw n at (filled_splice f old 0 old (part row 0 12) (omega arith)
      (λ k h. let q : 0 + k ≡ k = omega arith in
      get_d_part row 0 12 (omega arith) k (omega arith) ∙ rw q (sym (head_next row ext hr k (omega arith) (omega arith))))
      (filled_none f old))

  pub next_all : (l : Bytes) → l ≡ splice old 0 (part row 0 12) → set (set l 12 (ext % 32)) 14 (ext / 32) ≡ next_row_rule row ext
  next_all l e =
      let t : Bytes = next_row_rule row ext in
      let f : ℕ → ℕ = λ (k : ℕ). get_or t k 0 in
      let g : Filled f old 12 l = rw e next_head in
      let gl : length l ≡ length old = g.long in
      let m : Bytes = set l 12 (ext % 32) in
      let a : Filled f old 13 m = filled_more f old 12 l (ext % 32) (omega arith) (sym (ex_next row ext hr)) g in
      let al : length m ≡ length old = a.long in
      let b : Filled f old 14 m = filled_kept f old 13 m (zero 13 ∙ sym (s1_next row ext hr)) a in
      let d : Filled f old 15 (set m 14 (ext / 32)) = filled_more f old 14 m (ext / 32) (omega arith) (sym (s2_next row ext hr)) b in
      filled_list t old entry_bytes (set m 14 (ext / 32)) (length_next_row row ext hr ∙ sym long) (omega (arith, length_next_row row ext hr))
      (filled_up f old 15 entry_bytes (set m 14 (ext / 32)) (omega arith) (λ k x y. zero k ∙ sym (zero_next row ext hr k x)) d)

-- ---- 23: the row, with its name byte by byte
module _ (fcb row : Bytes) (hr : length row ≡ entry_bytes) where
  pub renamed_start : Made (renamed_row_rule fcb row) row 1 row
  renamed_start =
      filled_up (λ (k : ℕ). get_or (renamed_row_rule fcb row) k 0) row 0 1 row (omega arith)
      (λ k a b. let q : k ≡ 0 = omega arith in rw q (sym (user_renamed fcb row hr))) (filled_none _ row)

  pub renamed_all : (l : Bytes) (i : ℕ) → i ≡ name_bytes → Made (renamed_row_rule fcb row) row (1 + i) l → l ≡ renamed_row_rule fcb row
  renamed_all l i q f =
      let n : 1 + i ≡ 12 = omega arith in
      let g : Made (renamed_row_rule fcb row) row 12 l = rw n at f in
      filled_list (renamed_row_rule fcb row) row entry_bytes l (length_renamed_row fcb row hr ∙ sym hr) (omega (arith, length_renamed_row fcb row hr))
      (filled_up (λ (k : ℕ). get_or (renamed_row_rule fcb row) k 0) row 12 entry_bytes l (omega arith) (λ k a b. sym (rest_renamed fcb row hr entry_bytes k a b)) g)
