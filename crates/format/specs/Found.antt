-- The numbers of a look-up's answer.
use Rattle.std.specs.Prelude.{cond, ℕ, ltb, None, Option, Some}

-- the number k, where it is below n
unfoldable pub found_below : ℕ → ℕ → Option ℕ
found_below n k = cond (ltb k n) (Some k) None

-- the number that an answer among n gives: `None` is n, one past the last
abbrev pub number_of : ℕ → Option ℕ → ℕ
number_of n (Some k) = k
number_of n None = n
