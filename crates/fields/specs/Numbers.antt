-- A number in three bytes, in an FCB's r0 to r2 and elsewhere.
use Rattle.std.specs.Prelude.{◌≡◌, ℕ, ◌+◌, ◌*◌, ◌/◌, ◌%◌, ◌≤◌, ◌<◌, length, get_or}
use Rattle.std.proofs.Common.{inl, arith}
use Rattle.lists.specs.Splice.{splice, length_splice, get_d_splice_in, get_d_splice_out}
use Rattle.format.specs.Diskette.{Bytes}
use Rattle.format.specs.Fcb.{random_of_rule}
use Rattle.model.specs.Entering.{three_bytes}
use Rattle.fields.specs.Agree.{Agree}

-- the number that three bytes, lowest first, give back
abbrev pub three_value : ℕ → ℕ → ℕ → ℕ
three_value a b c = a + 256 * b + 65536 * c

pub three_back : (n : ℕ) → n < 16777216 → three_value (n % 256) (n / 256 % 256) (n / 65536 % 256) ≡ n
three_back n h = omega arith

-- ---- three bytes put into a list from `at` on
module _ (l : Bytes) (at n : ℕ) (fits : at + 3 ≤ length l) where
  pub length_three : length (splice l at (three_bytes n)) ≡ length l
  length_three = length_splice l at (three_bytes n) fits

  pub three_low : get_or (splice l at (three_bytes n)) (at + 0) 0 ≡ n % 256
  three_low = get_d_splice_in l at (three_bytes n) fits 0 (omega arith)

  pub three_middle : get_or (splice l at (three_bytes n)) (at + 1) 0 ≡ n / 256 % 256
  three_middle = get_d_splice_in l at (three_bytes n) fits 1 (omega arith)

  pub three_high : get_or (splice l at (three_bytes n)) (at + 2) 0 ≡ n / 65536 % 256
  three_high = get_d_splice_in l at (three_bytes n) fits 2 (omega arith)

  pub below_three : Agree (splice l at (three_bytes n)) l 0 at
  below_three i a b = get_d_splice_out l at (three_bytes n) fits i (inl b)

-- 35 and 36: r0 to r2
pub random_three : (fcb : Bytes) (n : ℕ) → length fcb ≡ 36 → n < 16777216 → random_of_rule (splice fcb 33 (three_bytes n)) ≡ n
unfolding random_of_rule
random_three fcb n hf h =
    rw (three_low fcb 33 n (omega arith), three_middle fcb 33 n (omega arith), three_high fcb 33 n (omega arith)) (three_back n h)
