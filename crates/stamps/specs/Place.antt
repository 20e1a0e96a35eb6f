-- Where a stamp lies in the image: a stamp replaced in its date entry is four bytes of the image replaced.
use Rattle.std.specs.Prelude.{◌≡◌, List, ℕ, ◌+◌, ◌-◌, ◌%◌, ◌≤◌, ◌<◌, length, get_or}
use Rattle.std.proofs.Math.Path.{sym}
use Rattle.std.proofs.Common.{ap, ◌∙◌, inl, inr, arith, ext_get_or}
use Rattle.lists.specs.Cases.{split, lt_or_le}
use Rattle.lists.specs.Splice.{part, splice, length_part, length_splice, get_d_part, get_d_splice_at, get_d_splice_out}
use Rattle.format.specs.Diskette.{Bytes, Geometry, Sound, Long, entry_bytes, entries_per_record}
use Rattle.format.specs.Entries.{entry_place_rule, entry_at, with_entry}
use Rattle.format.specs.Dates.{stamp_bytes, stamp_place, fourth_of, with_stamp}
use Rattle.facts.specs.Beside.{Beside, fourth_below}
use Rattle.stamps.specs.declared.Which.{Which}
use Rattle.stamps.specs.declared.Which.TheVariants.{First, Update}
use Rattle.rows.specs.Entries.{entry_fits_law}

-- a part put back with a part of it replaced
splice_within : (xs : List ℕ) (at n b : ℕ) (ys : List ℕ) → at + n ≤ length xs → b + length ys ≤ n
    → splice xs at (splice (part xs at n) b ys) ≡ splice xs (at + b) ys
splice_within xs at n b ys fits inner =
    let w : length (part xs at n) ≡ n = length_part xs at n fits in
    let p : List ℕ = splice (part xs at n) b ys in
    let m : length p ≡ n = length_splice (part xs at n) b ys (omega arith) ∙ w in
    ext_get_or 0 (splice xs at p) (splice xs (at + b) ys) (length_splice xs at p (omega arith) ∙ sym (length_splice xs (at + b) ys (omega arith)))
    (λ k h. split (lt_or_le k at)
    (λ c. get_d_splice_out xs at p (omega arith) k (inl c) ∙ sym (get_d_splice_out xs (at + b) ys (omega arith) k (inl (omega arith))))
    (λ c. split (lt_or_le k (at + n))
    (λ d. let z : at + (k - at) ≡ k = omega arith in
    get_d_splice_at xs at p (omega arith) k c (omega arith)
    ∙ split (lt_or_le k (at + b))
    (λ e. get_d_splice_out (part xs at n) b ys (omega arith) (k - at) (inl (omega arith)) ∙ get_d_part xs at n fits (k - at) (omega arith)
    ∙ ap (λ (i : ℕ). get_or xs i 0) z ∙ sym (get_d_splice_out xs (at + b) ys (omega arith) k (inl e)))
    (λ e. split (lt_or_le k (at + b + length ys))
    (λ f. let y : (k - at) - b ≡ k - (at + b) = omega arith in
    get_d_splice_at (part xs at n) b ys (omega arith) (k - at) (omega arith) (omega arith) ∙ ap (λ (i : ℕ). get_or ys i 0) y
    ∙ sym (get_d_splice_at xs (at + b) ys (omega arith) k e (omega arith)))
    (λ f. get_d_splice_out (part xs at n) b ys (omega arith) (k - at) (inr (omega arith)) ∙ get_d_part xs at n fits (k - at) (omega arith)
    ∙ ap (λ (i : ℕ). get_or xs i 0) z ∙ sym (get_d_splice_out xs (at + b) ys (omega arith) k (inr (omega arith))))))
    (λ d. get_d_splice_out xs at p (omega arith) k (inr (omega arith)) ∙ sym (get_d_splice_out xs (at + b) ys (omega arith) k (inr (omega arith))))))

-- which of the two stamps beside an entry one is, as the model counts them: create or access is 0, update 1
abbrev pub number_of : Which → ℕ
number_of First = 0
number_of Update = 1

pub number_low : (w : Which) → number_of w < 2
number_low First = omega arith
number_low Update = omega arith

-- the place of a stamp beside entry e
abbrev pub place_of : Geometry → ℕ → ℕ → ℕ
place_of G e which = entry_place_rule G (fourth_of e) + stamp_place (e % entries_per_record) which

module _ {G : Geometry} (S : Sound G) (e which : ℕ) (b : Beside G e) (two : which < 2) where
  pub stamp_put : (img stamp : Bytes) → Long G img → length stamp ≡ stamp_bytes → splice img (place_of G e which) stamp ≡ with_stamp G img e which stamp
  unfolding with_stamp entry_at with_entry
  stamp_put img stamp long four =
      sym (splice_within img (entry_place_rule G (fourth_of e)) entry_bytes (stamp_place (e % entries_per_record) which) stamp
      (omega (arith, entry_fits_law S (fourth_of e) (fourth_below S e b.below))) (omega (arith, b.beside)))
