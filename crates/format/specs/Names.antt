-- Document 01 on names: the name rule, and how names are compared. A name is eleven bytes from a place on: 1 in an entry or an FCB, 17
-- for the new name of 23, 0 in a search's pattern. `wild` says that 3FH may stand in a name (17, 19) and then matches any byte.
use Rattle.std.specs.Prelude.{Bool, not, ℕ, ◌+◌, ◌%◌, eqb, leb, get_or}
use Rattle.lists.specs.Tests.{◌and◌, ◌or◌}
use Rattle.lists.specs.Below.{all_below}
use Rattle.format.specs.Diskette.{Bytes}

abbrev pub name_bytes : ℕ
name_bytes = 11

-- the low seven bits, which alone are compared; the high bit is an attribute
abbrev pub seven_bits : ℕ → ℕ
seven_bits b = b % 128

-- 3FH
abbrev pub any_byte : ℕ → Bool
any_byte b = eqb (seven_bits b) 63

-- in 20H to 7EH, and not 3FH unless a pattern may hold it
unfoldable pub name_byte_rule : Bool → ℕ → Bool
name_byte_rule wild b = leb 32 (seven_bits b) and leb (seven_bits b) 126 and (wild or not (any_byte b))

-- the name rule: each byte in range, the first not a space
unfoldable pub name_right_rule : Bool → Bytes → ℕ → Bool
name_right_rule wild r at = all_below (λ (i : ℕ). name_byte_rule wild (get_or r (at + i) 0)) name_bytes and not (eqb (seven_bits (get_or r at 0)) 32)

-- byte y is what x asks for: the same in the low seven bits, or any byte where x may be 3FH
unfoldable pub byte_like_rule : Bool → ℕ → ℕ → Bool
byte_like_rule wild x y = eqb (seven_bits x) (seven_bits y) or (wild and any_byte x)

-- the name in r at p is what the name in s at q asks for
unfoldable pub name_like_rule : Bool → Bytes → ℕ → Bytes → ℕ → Bool
name_like_rule wild s q r p = all_below (λ (i : ℕ). byte_like_rule wild (get_or s (q + i) 0) (get_or r (p + i) 0)) name_bytes
