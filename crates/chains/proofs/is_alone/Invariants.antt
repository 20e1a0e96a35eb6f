-- The loop keeps the walk back along the chain: of the entries that it has passed, none before e is of the same file.
use Rattle.format.specs.Diskette.{eight_inch}
use Rattle.format.specs.Entries.{entry_at}
use Rattle.chains.specs.Walk.{past, Before}
use Rattle.chains.proofs.is_alone.Given as goal

abbrev pub invariant-loop-next : goal.invariant-loop-next
invariant-loop-next l = Before eight_inch (entry_at eight_inch l.image) l.e (past l.next)

abbrev pub decreases-loop-next : goal.decreases-loop-next
decreases-loop-next l = past l.next
