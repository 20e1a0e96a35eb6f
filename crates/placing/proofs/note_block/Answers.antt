-- A slot that holds a block changes no note.
use borrow.Author.Tests.{eq-eqb, ne_eqb}
use Rattle.model.specs.Target.{written_map}
use Rattle.facts.specs.Slots.{slot_byte}
use Rattle.placing.proofs.note_block.Goals as goal

pub returns-then-fcb-j-ne0 : goal.returns-then-fcb-j-ne0
unfolding written_map
returns-then-fcb-j-ne0 c =
    let s = c in
    rw (slot_byte s.args.fcb.now s.args.j s.requires.3, ne_eqb _ _ c.if-fcb-j-ne0.true)

pub returns : goal.returns
unfolding written_map
returns c =
    let s = c in
    rw (slot_byte s.args.fcb.now s.args.j s.requires.3, eq-eqb _ _ c.if-fcb-j-ne0.false, c.set_note.ensures, c.pending_note.ensures)
