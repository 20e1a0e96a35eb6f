-- `freeing::free_held` meets its contract. The loop's invariant: the notes below b are freed where they are held, the others as they
-- were.
use Prim.Native.Nat.{ℕ}
use Rattle.lists.specs.Tab.{Filled}
use Rattle.format.specs.Notes.{note_at_rule}
use Rattle.freeing.specs.Freeing.{unheld_note_rule, marks_pick}
use Rattle.freeing.proofs.free_held.Given as goal

abbrev pub invariant-loop-b : goal.invariant-loop-b
invariant-loop-b l = Filled (λ (k : ℕ). unheld_note_rule (marks_pick l.picked) (note_at_rule l.initial.map k)) l.initial.map l.b l.map
