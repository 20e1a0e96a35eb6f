-- `freeing::free_slots` meets its contract. The loop's invariant: the blocks of the slots that it has come by are free, the other notes as they were.
use mathlib.Core.Path.{◌≡◌}
use native.Mathlib.Omega.{arith}
use Rattle.format.specs.Entries.{slot_in}
use Rattle.format.specs.Diskette.{eight_inch, slot_count}
use Rattle.freeing.specs.Laws.{slots_none, slots_more, slots_done}
use Rattle.freeing.proofs.free_slots.Goals as goal

pub loop-slot-init : goal.loop-slot-init
loop-slot-init c = slots_none eight_inch _ _

pub loop-slot-preserved : goal.loop-slot-preserved
unfolding slot_in
loop-slot-preserved c =
    let l = c.loop-slot in rw c.free_slot.ensures (slots_more eight_inch _ _ l.map l.slot-index l.invariant)

pub returns : goal.returns
returns c =
    let l = c.loop-slot in
    let q : l.slot-index ≡ slot_count = omega arith in
    slots_done eight_inch c.args.slots c.args.map.now l.map c.requires (rw q at l.invariant)
