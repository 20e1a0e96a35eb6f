-- `merging::record_block` meets its contract: a number past the last block changes no note.
use Rattle.format.specs.Entries.{slot_in}
use mathlib.Core.Path.{sym, ap, ◌∙◌}
use Prim.Native.Nat.{ℕ}
use native.Mathlib.Omega.{arith}
use lib.ListN.{get_or}
use Rattle.format.specs.Notes.{recorded_note, with_note}
use Rattle.model.specs.Closing.{closed_note}
use Rattle.notes.specs.Changes.{note_out}
use Rattle.merging.proofs.record_block.Goals as goal

pub returns-then-not-takes_slot : goal.returns-then-not-takes_slot
unfolding closed_note slot_in
returns-then-not-takes_slot c = let t = sym c.takes_slot.ensures ∙ c.if-not-takes_slot.true in rw t

pub returns-then-b-map : goal.returns-then-b-map
unfolding closed_note slot_in
returns-then-b-map c =
    let a = c.args in
    let t = sym c.takes_slot.ensures ∙ c.if-not-takes_slot.false in
    rw t (c.set_note.ensures ∙ ap (λ (b : ℕ). with_note a.map.now b recorded_note) c.from-b.ensures)

pub returns-else-b-map : goal.returns-else-b-map
unfolding closed_note slot_in
returns-else-b-map c =
    let a = c.args in
    let t = sym c.takes_slot.ensures ∙ c.if-not-takes_slot.false in
    let w = c.from-b.ensures in
    rw t (sym (note_out a.map.now (get_or a.fs a.j 0) recorded_note (omega arith)))
