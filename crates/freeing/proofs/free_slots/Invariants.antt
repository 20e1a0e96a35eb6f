-- `freeing::free_slots` meets its contract. The loop's invariant: the blocks of the slots that it has come by are free, the other notes as they were.
use Rattle.format.specs.Diskette.{eight_inch}
use Rattle.freeing.specs.Freeing.{in_slots}
use Rattle.freeing.specs.Laws.{Freed}
use Rattle.freeing.proofs.free_slots.Given as goal

abbrev pub invariant-loop-slot : goal.invariant-loop-slot
invariant-loop-slot l = Freed (in_slots eight_inch l.fn.slots l.slot-index) l.initial.map l.map
