-- What is wrong with a number that has to lie in a range, and is barred at one place of it.
use Rattle.std.specs.Prelude.{cond, ℕ, ◌-◌, eqb}
use Rattle.std.specs.Int.Bits.{bit_or}

-- the head of an entry: all but its slots
abbrev pub head_bytes : ℕ
head_bytes = 16

-- what is wrong with a number: how far it is too high, or too low, or that it is barred
unfoldable pub fault_of : ℕ → ℕ → ℕ → ℕ → ℕ
fault_of x low high bar = bit_or (bit_or (x - high) (low - x)) (cond (eqb x bar) 1 0)
