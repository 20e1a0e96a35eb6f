-- Document 01 on what an FCB takes from an entry (15, 22, moves), and on the rows that 22, 23 and a move make.
use Rattle.std.specs.Prelude.{cond, [], ◌∷◌, ◌++◌, ℕ, ◌+◌, ◌*◌, ◌/◌, ◌%◌, eqb, leb, get_or, take, replicate}
use Rattle.lists.specs.Tests.{◌and◌}
use Rattle.lists.specs.Splice.{part, splice}
use Rattle.lists.specs.Tab.{tab}
use Rattle.format.specs.Diskette.{Bytes, entry_bytes, slot_bytes}
use Rattle.format.specs.Names.{seven_bits, name_bytes}
use Rattle.format.specs.Entries.{ex_of, with_numbers, extent_of, count_in}

-- FCB bytes 1 to 31 become the row's
unfoldable pub copied : Bytes → Bytes → Bytes
copied fcb row = splice fcb 1 (part row 1 31)

-- the high bits of bytes 5 to 8 cleared
unfoldable pub interface_byte : Bytes → ℕ → ℕ
interface_byte row i = cond (leb 5 i and leb i 8) (seven_bits (get_or row i 0)) (get_or row i 0)

unfoldable pub interface_cleared : Bytes → Bytes
interface_cleared row = tab entry_bytes (interface_byte row)

-- the row as of an extent that it covers: as it is where that is its own, and else with that extent's ex, s2 and count
unfoldable pub as_extent : Bytes → ℕ → Bytes
as_extent row ext = cond (eqb ext (extent_of row)) row (with_numbers row (ext % 32) (ext / 32) (count_in row ext))

-- FCB bytes 1 to 31 become the entry's, as of the extent asked for, with the high bits of bytes 5 to 8 cleared
unfoldable pub entered : Bytes → Bytes → ℕ → Bytes
entered fcb row ext = copied fcb (interface_cleared (as_extent row ext))

-- 22: user, name without attributes, ex, zeros
unfoldable pub made_row_rule : ℕ → Bytes → Bytes
made_row_rule user fcb = user ∷ (tab name_bytes (λ (i : ℕ). seven_bits (get_or fcb (1 + i) 0)) ++ (ex_of fcb ∷ replicate 19 0))

-- a move that makes an entry: the present entry's user, name bytes and attributes, the target's ex and s2; s1, rc and slots 0
unfoldable pub next_row_rule : Bytes → ℕ → Bytes
next_row_rule row ext = take 12 row ++ (ext % 32 ∷ 0 ∷ ext / 32 ∷ 0 ∷ replicate slot_bytes 0)

-- 23: the name becomes FCB bytes 17 to 27 (seven bits), attributes kept
unfoldable pub renamed_byte : Bytes → Bytes → ℕ → ℕ
renamed_byte fcb row i = get_or row (1 + i) 0 / 128 * 128 + seven_bits (get_or fcb (17 + i) 0)

unfoldable pub renamed_row_rule : Bytes → Bytes → Bytes
renamed_row_rule fcb row = splice row 1 (tab name_bytes (renamed_byte fcb row))

-- a number in three bytes, lowest first
abbrev pub three_bytes : ℕ → Bytes
three_bytes n = n % 256 ∷ n / 256 % 256 ∷ n / 65536 % 256 ∷ []
