-- The invariant: the bytes up to name byte i are the renamed row's, the others the row's.
use mathlib.Core.Path.{◌≡◌}
use Prim.Native.Nat.{◌+◌}
use lib.ListN.{length}
use Rattle.format.specs.Diskette.{entry_bytes}
use Rattle.model.specs.Entering.{renamed_row_rule}
use Rattle.entering.specs.Rows.{Made}
use Rattle.entering.proofs.renamed_row.Given as goal

abbrev pub invariant-loop-i : goal.invariant-loop-i
invariant-loop-i l = Made (renamed_row_rule l.fcb l.row) l.row (1 + l.i) l.r × (length l.r ≡ entry_bytes)
