-- The invariant: the bytes up to name byte i are the made row's, the others as they were.
use mathlib.Core.Path.{◌≡◌}
use Prim.Native.Nat.{◌+◌}
use lib.ListN.{length}
use Rattle.format.specs.Diskette.{entry_bytes}
use Rattle.model.specs.Entering.{made_row_rule}
use Rattle.entering.specs.Rows.{Made}
use Rattle.entering.proofs.made_row.Given as goal

abbrev pub invariant-loop-i : goal.invariant-loop-i
invariant-loop-i l = Made (made_row_rule l.user l.fcb) l.initial.r (1 + l.i) l.r × (length l.r ≡ entry_bytes)
