-- Document 01 on 17 and 18. A pattern is FCB bytes 1 to 12: eleven name places, then byte 12.
use Rattle.std.specs.Prelude.{Bool, true, ℕ, eqb, get_or, Option}
use Rattle.lists.specs.Tests.{◌and◌, ◌or◌}
use Rattle.lists.specs.Splice.{part}
use Rattle.lists.specs.Below.{first_in}
use Rattle.format.specs.Diskette.{Bytes, Geometry}
use Rattle.format.specs.Entries.{Rows, s2_of, covers, named}
use Rattle.format.specs.Found.{found_below}

abbrev pub pattern_bytes : ℕ
pattern_bytes = 12

unfoldable pub pattern_of : Bytes → Bytes
pattern_of fcb = part fcb 1 pattern_bytes

-- 3FH in byte 12 matches any extent, another value needs ex equal and s2 0: an entry of s2 0 that covers the extent of that number
unfoldable pub extent_hit_rule : Geometry → ℕ → Bytes → Bool
extent_hit_rule G x row = eqb x 63 or (covers G row x and eqb (s2_of row) 0)

-- the entry is the user's and matches the pattern
unfoldable pub hit : Geometry → ℕ → Bytes → Bytes → Bool
hit G user pattern row = named true user pattern 0 row and extent_hit_rule G (get_or pattern 11 0) row

-- the first match from a place on
unfoldable pub find_hit_rule : Geometry → Rows → ℕ → Bytes → ℕ → Option ℕ
find_hit_rule G d user pattern place = found_below G.entries (first_in (λ (e : ℕ). hit G user pattern (d e)) place G.entries)
