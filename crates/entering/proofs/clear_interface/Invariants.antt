-- The invariant: the bytes below i are the cleared row's, the others the row's.
use mathlib.Core.Path.{◌≡◌}
use lib.ListN.{length}
use Rattle.lists.specs.Tab.{Filled}
use Rattle.format.specs.Diskette.{entry_bytes}
use Rattle.model.specs.Entering.{interface_byte}
use Rattle.entering.proofs.clear_interface.Given as goal

abbrev pub invariant-loop-i : goal.invariant-loop-i
invariant-loop-i l = Filled (interface_byte l.initial.r) l.initial.r l.i l.r × (length l.r ≡ entry_bytes)
