-- `freeing::free_pending` meets its contract. The loop's invariant: the notes below b are settled, the others as they were.
use Prim.Native.Nat.{ℕ}
use native.Mathlib.Omega.{arith}
use Rattle.lists.specs.Tab.{filled_none, filled_all}
use Rattle.format.specs.Diskette.{eight_inch}
use Rattle.notes.specs.Changes.{changed_note}
use Rattle.format.specs.Notes.{settled_note_rule, freed_map}
use Rattle.freeing.proofs.free_pending.Goals as goal

pub loop-b-init : goal.loop-b-init
loop-b-init c = filled_none _ _

pub loop-b-preserved : goal.loop-b-preserved
loop-b-preserved c =
    let l = c.loop-b in
    changed_note (λ (k n : ℕ). settled_note_rule n) c.args.map.now l.b l.map _ _ c.set_note.ensures (omega arith) c.settled_note-note.ensures l.invariant

pub returns : goal.returns
unfolding freed_map
returns c = let l = c.loop-b in filled_all _ c.args.map.now eight_inch.blocks l.b l.map c.requires (omega arith) l.invariant
