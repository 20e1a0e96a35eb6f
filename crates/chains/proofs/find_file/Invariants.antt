-- The loop keeps the walk back along the chain of the key: of the entries that it has passed, none is what is asked for.
use Rattle.format.specs.Diskette.{eight_inch}
use Rattle.format.specs.Entries.{entry_at}
use Rattle.chains.specs.Walk.{past, Sought}
use Rattle.chains.proofs.find_file.Given as goal

abbrev pub invariant-loop-next : goal.invariant-loop-next
invariant-loop-next l = Sought eight_inch (entry_at eight_inch l.image) l.user l.s l.q l.ext (past l.next)

abbrev pub decreases-loop-next : goal.decreases-loop-next
decreases-loop-next l = past l.next
