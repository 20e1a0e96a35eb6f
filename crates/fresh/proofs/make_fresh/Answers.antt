-- `fresh::make_fresh` meets its contract. The loop's invariant, for each directory so marked: the notes below b are fresh ones.
use native.Mathlib.Omega.{arith}
use Rattle.lists.specs.Tab.{filled_none, filled_all}
use Rattle.format.specs.Diskette.{eight_inch}
use Rattle.format.specs.Notes.{fresh_note_rule, fresh_map}
use Rattle.notes.specs.Changes.{filled_note}
use Rattle.fresh.proofs.make_fresh.Goals as goal

pub loop-b-init : goal.loop-b-init
loop-b-init c = λ d m. filled_none _ _

pub loop-b-preserved : goal.loop-b-preserved
loop-b-preserved c =
    let l = c.loop-b in
    λ d m. filled_note (fresh_note_rule eight_inch d) c.args.map.now l.b l.map _ _ c.set_note.ensures (omega arith) (c.fresh_note.ensures d m) (l.invariant d m)

pub returns : goal.returns
unfolding fresh_map
returns c = let l = c.loop-b in λ d m. filled_all _ c.args.map.now eight_inch.blocks l.b l.map c.requires.0 (omega arith) (l.invariant d m)
