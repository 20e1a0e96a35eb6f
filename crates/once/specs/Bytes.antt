-- The bytes that the picker makes: their lengths and fields; and theorem 7, two log records are the same nine bytes only for the same year and day.
use Rattle.std.specs.Prelude.{◌≡◌, refl, ◌⊎◌, true, ◌∷◌, ◌++◌, ℕ, ◌+◌, ◌/◌, ◌%◌, ◌≤◌, ◌<◌, length}
use Rattle.std.proofs.Math.Path.{ap, sym}
use Rattle.std.proofs.Common.{◌∙◌}
use Rattle.std.proofs.Math.Logic.{inl, inr}
use native.Mathlib.Omega.{arith}
use Rattle.std.proofs.Math.Dec.{eqb}
use Rattle.std.proofs.Math.ListN.{get_or, get_or-append}
use borrow.Author.Tests.{eq-eqb, eqb-true}
use Rattle.lists.specs.Cases.{split}
use Rattle.lists.specs.Below.{all_intro, all_at}
use Rattle.lists.specs.Product.{same_digits}
use Rattle.lists.specs.Splice.{copies, length_copies, get_d_copies, length_splice, get_d_splice_in, get_d_splice_out}
use Rattle.format.specs.Diskette.{Bytes, record_bytes}
use Rattle.format.specs.Names.{name_bytes}
use Rattle.format.specs.Entries.{ex_of}
use Rattle.format.specs.Fcb.{fcb_bytes, cr_of}
use Rattle.stored.specs.Closed.{Begins}
use Rattle.picking.specs.declared.Wanted.{Wanted}
use Rattle.picking.specs.Picker.{fcb_of_rule, blank, stamp_of_rule, log_record_rule, has_stamp_rule}

-- the names are eleven bytes each
pub record Named (w : Wanted) : Type 0 where
  pub book : length w.book ≡ name_bytes
  pub log : length w.log ≡ name_bytes

pub length_blank : length blank ≡ record_bytes
unfolding blank
length_blank = length_copies record_bytes 0

pub length_log_record : (year day : ℕ) → length (log_record_rule year day) ≡ record_bytes
unfolding log_record_rule stamp_of_rule copies
length_log_record year day = refl

pub length_stamp_of : (year day : ℕ) → length (stamp_of_rule year day) ≡ 9
unfolding stamp_of_rule
length_stamp_of year day = refl

-- what follows the stamp
abbrev tail : Bytes
tail = 13 ∷ 10 ∷ copies 117 26

module _ (name : Bytes) (h : length name ≡ name_bytes) where
  zeros : length (copies fcb_bytes 0) ≡ fcb_bytes
  zeros = length_copies fcb_bytes 0

  room : 1 + length name ≤ length (copies fcb_bytes 0)
  room = omega (arith, h, zeros)

  length_fcb_of : length (fcb_of_rule name) ≡ fcb_bytes
  unfolding fcb_of_rule
  length_fcb_of = length_splice (copies fcb_bytes 0) 1 name room ∙ zeros

  -- the bytes beside the name are 0
  zero_at : (i : ℕ) → i < fcb_bytes → (i < 1) ⊎ (12 ≤ i) → get_or (fcb_of_rule name) i 0 ≡ 0
  unfolding fcb_of_rule
  zero_at i l b =
      get_d_splice_out (copies fcb_bytes 0) 1 name room i (split b (λ k. inl k) (λ k. inr (omega (arith, h)))) ∙ get_d_copies fcb_bytes 0 i l

  -- the name's bytes: from 1 on in the FCB, from 0 on by itself
  pub name_fcb_of : (i : ℕ) → i < name_bytes → get_or (fcb_of_rule name) (1 + i) 0 ≡ get_or name (0 + i) 0
  unfolding fcb_of_rule
  name_fcb_of i b =
      let z : i ≡ 0 + i = omega arith in
      get_d_splice_in (copies fcb_bytes 0) 1 name room i (omega (arith, h)) ∙ ap (λ (k : ℕ). get_or name k 0) z

  pub ex_fcb_of : ex_of (fcb_of_rule name) ≡ 0
  ex_fcb_of = zero_at 12 (omega arith) (inr (omega arith))

  -- with it extent 0 is asked for
  pub begins_fcb_of : Begins (fcb_of_rule name)
  begins_fcb_of =
      let d : get_or (fcb_of_rule name) 0 0 ≡ 0 = zero_at 0 (omega arith) (inl (omega arith)) in
      let c : cr_of (fcb_of_rule name) ≡ 0 = zero_at 32 (omega arith) (inr (omega arith)) in
      record { long = length_fcb_of; drive = omega arith; ex = ex_fcb_of; cr = omega arith }

-- a record that the picker writes has its year and day
pub log_record_has : (year day : ℕ) → has_stamp_rule year day (log_record_rule year day) ≡ true
unfolding has_stamp_rule log_record_rule
log_record_has year day =
    all_intro (λ (i : ℕ). eqb (get_or (stamp_of_rule year day ++ tail) i 0) (get_or (stamp_of_rule year day) i 0)) 9
    (λ i h. eq-eqb _ _ (get_or-append (stamp_of_rule year day) tail 0 i (omega (arith, length_stamp_of year day))))

-- ---- and that of no other: the digits tell year and day
next : (x y : ℕ) → x / 10 ≡ y / 10 → x % 10 ≡ y % 10 → x ≡ y
next x y = same_digits 10 x y

last : (x y : ℕ) → 48 + x % 10 ≡ 48 + y % 10 → x % 10 ≡ y % 10
last x y h = omega arith

ones_of : (x y : ℕ) → 48 + x / 1 % 10 ≡ 48 + y / 1 % 10 → 48 + x % 10 ≡ 48 + y % 10
ones_of x y h =
    let a : x / 1 ≡ x = omega arith in
    let b : y / 1 ≡ y = omega arith in
    sym (ap (λ (k : ℕ). 48 + k % 10) a) ∙ h ∙ ap (λ (k : ℕ). 48 + k % 10) b

top : (ten x y : ℕ) → x / ten < 10 → y / ten < 10 → 48 + x / ten % 10 ≡ 48 + y / ten % 10 → x / ten ≡ y / ten
top ten x y a b h = small (x / ten) (y / ten) a b h
  where
    small : (x y : ℕ) → x < 10 → y < 10 → 48 + x % 10 ≡ 48 + y % 10 → x ≡ y
    small x y a b h = omega arith

over10 : (x : ℕ) → x / 10 / 10 ≡ x / 100
over10 x = omega arith

over100 : (x : ℕ) → x / 100 / 10 ≡ x / 1000
over100 x = omega arith

over1000 : (x : ℕ) → x / 1000 / 10 ≡ x / 10000
over1000 x = omega arith

module _ (y d z e : ℕ) (h : has_stamp_rule y d (log_record_rule z e) ≡ true) where
  digits : (i : ℕ) → i < 9 → get_or (stamp_of_rule z e) i 0 ≡ get_or (stamp_of_rule y d) i 0
  unfolding has_stamp_rule log_record_rule
  digits i b =
      sym (get_or-append (stamp_of_rule z e) tail 0 i (omega (arith, length_stamp_of z e)))
      ∙ eqb-true _ _ (all_at (λ (k : ℕ). eqb (get_or (stamp_of_rule z e ++ tail) k 0) (get_or (stamp_of_rule y d) k 0)) 9 h i b)

  pub same_day : d ≤ 999 → e ≤ 999 → e ≡ d
  unfolding stamp_of_rule
  same_day a b =
      let p : e / 100 ≡ d / 100 = top 100 e d (omega arith) (omega arith) (digits 6 (omega arith)) in
      let q : e / 10 ≡ d / 10 = next (e / 10) (d / 10) (over10 e ∙ p ∙ sym (over10 d)) (last (e / 10) (d / 10) (digits 7 (omega arith))) in
      next e d q (last e d (ones_of e d (digits 8 (omega arith))))

  pub same_year : y ≤ 99999 → z ≤ 99999 → z ≡ y
  unfolding stamp_of_rule
  same_year a b =
      let p : z / 10000 ≡ y / 10000 = top 10000 z y (omega arith) (omega arith) (digits 0 (omega arith)) in
      let q : z / 1000 ≡ y / 1000 = next (z / 1000) (y / 1000) (over1000 z ∙ p ∙ sym (over1000 y)) (last (z / 1000) (y / 1000) (digits 1 (omega arith))) in
      let r : z / 100 ≡ y / 100 = next (z / 100) (y / 100) (over100 z ∙ q ∙ sym (over100 y)) (last (z / 100) (y / 100) (digits 2 (omega arith))) in
      let t : z / 10 ≡ y / 10 = next (z / 10) (y / 10) (over10 z ∙ r ∙ sym (over10 y)) (last (z / 10) (y / 10) (digits 3 (omega arith))) in
      next z y t (last z y (ones_of z y (digits 4 (omega arith))))
