-- The marks of block numbers: not 0 at each number that no slot may list from now on.
use Rattle.std.specs.Prelude.{Bool, ℕ, ◌-◌, eqb, get_or, set}
use Rattle.lists.specs.Splice.{splice, copies}
use Rattle.format.specs.Diskette.{Bytes, Geometry}
use Rattle.facts.specs.Marks.{mark_count}

-- the marks before the first slot: those of numbers that are no block's past the directory
unfoldable pub start_marks_rule : Geometry → Bytes → Bytes
start_marks_rule G l = splice (splice (splice l 0 (copies mark_count 0)) 1 (copies (G.area - 1) 1)) G.blocks (copies (mark_count - G.blocks) 1)

-- b has no mark; and b marked
unfoldable pub number_free : Bytes → ℕ → Bool
number_free l b = eqb (get_or l b 0) 0

unfoldable pub mark_number : Bytes → ℕ → Bytes
mark_number l b = set l b b
