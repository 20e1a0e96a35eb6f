-- The count of a row or an FCB, its end, and what it counts in an extent.
use Rattle.std.specs.Prelude.{◌≡◌, ℕ, ◌-◌, ◌*◌, ◌≤◌, ◌<◌, min, max, eqb}
use native.Mathlib.Omega.{arith}
use borrow.Author.Tests.{lt-ltb, le-ltb, eqb-true, eq-eqb, ne_eqb}
use Rattle.lists.specs.Cases.{split, bool_cases, lt_or_le, eq_or_ne}
use Rattle.format.specs.Diskette.{Bytes, extent_records}
use Rattle.format.specs.Entries.{rc_of, count_of, extent_of, count_in, end_of}
use Rattle.format.specs.Fcb.{fcb_count_in, fcb_end}

-- ---- the count is at most 128, whatever rc is: rc where that is no more, and else 128
module _ (r : Bytes) where
  pub count_most : count_of r ≤ extent_records
  unfolding count_of
  count_most = omega arith

  pub count_is : rc_of r ≤ extent_records → count_of r ≡ rc_of r
  unfolding count_of
  count_is h = omega arith

  pub count_full : extent_records ≤ rc_of r → count_of r ≡ extent_records
  unfolding count_of
  count_full h = omega arith

module _ (r : Bytes) (ext : ℕ) where
  pub count_before : ext < extent_of r → count_in r ext ≡ extent_records
  unfolding count_in
  count_before h = rw (lt-ltb ext (extent_of r) h)

  pub count_there_law : ext ≡ extent_of r → count_in r ext ≡ count_of r
  unfolding count_in
  count_there_law q = rw (le-ltb ext (extent_of r) (omega arith), eq-eqb ext (extent_of r) q)

  pub count_past : extent_of r < ext → count_in r ext ≡ 0
  unfolding count_in
  count_past h = rw (le-ltb ext (extent_of r) (omega arith), ne_eqb ext (extent_of r) (λ q. omega arith))

  -- what lies before the end, as far as the extent goes
  pub count_by_end : count_in r ext ≡ min extent_records (end_of r - extent_records * ext)
  unfolding end_of
  count_by_end =
      let h = count_most r in
      split (lt_or_le ext (extent_of r)) (λ l. rw (count_before l) (omega arith))
      (λ l. split (eq_or_ne ext (extent_of r)) (λ q. rw (count_there_law q) (omega arith)) (λ n. rw (count_past (omega arith)) (omega arith)))

  pub count_high : count_in r ext ≤ extent_records
  count_high = rw count_by_end (omega arith)

-- ---- an FCB
module _ (fcb : Bytes) where
  -- one whose count is 0 has no end, and another has a row's
  pub end_none : count_of fcb ≡ 0 → fcb_end fcb ≡ 0
  unfolding fcb_end
  end_none z = rw (eq-eqb (count_of fcb) 0 z)

  pub end_some : (count_of fcb ≡ 0 → ⊥) → fcb_end fcb ≡ end_of fcb
  unfolding fcb_end
  end_some n = rw (ne_eqb (count_of fcb) 0 n)

module _ (fcb : Bytes) (ext : ℕ) where
  pub fcb_count_there : ext ≡ extent_of fcb → fcb_count_in fcb ext ≡ count_of fcb
  unfolding fcb_count_in
  fcb_count_there q =
      split (bool_cases (eqb (count_of fcb) 0)) (λ z. let n : count_of fcb ≡ 0 = eqb-true _ _ z in rw (z, n)) (λ z. rw (z, count_there_law fcb ext q))

  pub fcb_count_by_end : fcb_count_in fcb ext ≡ min extent_records (fcb_end fcb - extent_records * ext)
  unfolding fcb_count_in fcb_end
  fcb_count_by_end = split (bool_cases (eqb (count_of fcb) 0)) (λ z. rw z (omega arith)) (λ z. rw (z, count_by_end fcb ext))

-- ---- of two ends, the later counts the larger number
larger_right : (x y : ℕ) → x ≤ y → y ≡ max x y
larger_right x y h = omega arith

larger_left : (x y : ℕ) → y ≤ x → x ≡ max x y
larger_left x y h = omega arith

pub later_larger : (n k a b : ℕ) → min n (max a b - k) ≡ max (min n (a - k)) (min n (b - k))
later_larger n k a b =
    split (lt_or_le a b)
    (λ l. let q : max a b ≡ b = omega arith in rw q (larger_right (min n (a - k)) (min n (b - k)) (omega arith)))
    (λ l. let q : max a b ≡ a = omega arith in rw q (larger_left (min n (a - k)) (min n (b - k)) (omega arith)))
