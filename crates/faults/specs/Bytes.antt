-- The bytes of a head, each by itself: the tables of what it may be, and what is wrong with one that is not.
use Rattle.std.specs.Prelude.{Bool, true, false, not, cond, List, [], ◌∷◌, ℕ, eqb, leb, ltb, get_or}
use Rattle.std.specs.Int.Bits.{bit_and}
use Rattle.lists.specs.Tests.{◌and◌}
use Rattle.format.specs.Names.{seven_bits, name_byte_rule}
use Rattle.faults.specs.Faults.{fault_of}

-- ---- the tables, one number a byte: the bits that count, the lowest and the highest that they may make, and one between that they
-- may not. 255 is barred where none is: it is too high anyway, or nothing counts
unfoldable pub counted : List ℕ
counted = 255 ∷ 127 ∷ 127 ∷ 127 ∷ 127 ∷ 127 ∷ 127 ∷ 127 ∷ 127 ∷ 127 ∷ 127 ∷ 127 ∷ 255 ∷ 0 ∷ 255 ∷ 0 ∷ []

unfoldable pub lowest : List ℕ
lowest = 0 ∷ 33 ∷ 32 ∷ 32 ∷ 32 ∷ 32 ∷ 32 ∷ 32 ∷ 32 ∷ 32 ∷ 32 ∷ 32 ∷ 0 ∷ 0 ∷ 0 ∷ 0 ∷ []

unfoldable pub highest : List ℕ
highest = 15 ∷ 126 ∷ 126 ∷ 126 ∷ 126 ∷ 126 ∷ 126 ∷ 126 ∷ 126 ∷ 126 ∷ 126 ∷ 126 ∷ 31 ∷ 255 ∷ 63 ∷ 255 ∷ []

unfoldable pub barred : List ℕ
barred = 255 ∷ 63 ∷ 63 ∷ 63 ∷ 63 ∷ 63 ∷ 63 ∷ 63 ∷ 63 ∷ 63 ∷ 63 ∷ 63 ∷ 255 ∷ 255 ∷ 255 ∷ 255 ∷ []

-- what is wrong with byte i of a head, where it is b
unfoldable pub byte_fault : ℕ → ℕ → ℕ
byte_fault i b = fault_of (bit_and b (get_or counted i 0)) (get_or lowest i 0) (get_or highest i 0) (get_or barred i 0)

-- ---- what byte i may be: a user, a name without a space first, ex, s2; s1 and rc may be anything
unfoldable pub byte_ok : ℕ → ℕ → Bool
byte_ok i b =
    cond (eqb i 0) (leb b 15) (cond (ltb i 12) (name_byte_rule false b and not (eqb i 1 and eqb (seven_bits b) 32))
    (cond (eqb i 12) (leb b 31) (cond (eqb i 14) (leb b 63) true)))
