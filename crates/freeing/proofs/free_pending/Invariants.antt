-- `freeing::free_pending` meets its contract. The loop's invariant: the notes below b are settled, the others as they were.
use Prim.Native.Nat.{ℕ}
use Rattle.lists.specs.Tab.{Filled}
use Rattle.format.specs.Notes.{note_at_rule, settled_note_rule}
use Rattle.freeing.proofs.free_pending.Given as goal

abbrev pub invariant-loop-b : goal.invariant-loop-b
invariant-loop-b l = Filled (λ (k : ℕ). settled_note_rule (note_at_rule l.initial.map k)) l.initial.map l.b l.map
