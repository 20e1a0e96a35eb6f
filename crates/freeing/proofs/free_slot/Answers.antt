-- `freeing::free_slot` meets its contract: a number past the last block changes no note.
use mathlib.Core.Path.{sym, ap, ◌∙◌}
use Prim.Native.Nat.{ℕ}
use native.Mathlib.Omega.{arith}
use borrow.Author.Tests.{eq-eqb, ne_eqb}
use Rattle.format.specs.Notes.{free_note, with_note}
use Rattle.notes.specs.Changes.{note_out}
use Rattle.freeing.specs.Freeing.{unlisted_slot}
use Rattle.freeing.proofs.free_slot.Goals as goal

pub returns-then-slot-eq0 : goal.returns-then-slot-eq0
unfolding unlisted_slot
returns-then-slot-eq0 c = rw (eq-eqb _ _ c.if-slot-eq0.true)

pub returns-then-b-lt-BLOCKS : goal.returns-then-b-lt-BLOCKS
unfolding unlisted_slot
returns-then-b-lt-BLOCKS c =
    rw (ne_eqb _ _ c.if-slot-eq0.false) (c.set_note.ensures
    ∙ ap (λ (k : ℕ). with_note c.args.map.now k free_note)
    c.from-b.ensures)

pub returns-else-b-lt-BLOCKS : goal.returns-else-b-lt-BLOCKS
unfolding unlisted_slot
returns-else-b-lt-BLOCKS c =
    let a = c.args in
    let w = c.from-b.ensures in
    rw (ne_eqb _ _ c.if-slot-eq0.false) (sym (note_out a.map.now a.slot free_note (omega arith)))
