-- Too few records, no block, or both are there: the three cases of the definition.
use Rattle.format.specs.Diskette.{eight_inch}
use Rattle.format.specs.Entries.{entry_at}
use Rattle.rulings.specs.Laws.{read_short, read_empty, read_there}
use mathlib.Core.Path.{sym, ◌∙◌}
use Rattle.rulings.proofs.read_to.Goals as goal

pub returns-then-from-r : goal.returns-then-from-r
returns-then-from-r c =
    let a = c.args in
    read_short eight_inch (entry_at eight_inch a.image.now) a.fcb.now a.e a.t a.j a.r c.from.result
    (c.from.ensures ∙ c.arrived_count.ensures) c.if-from-r.true

pub returns-then-slot-eq0 : goal.returns-then-slot-eq0
returns-then-slot-eq0 c =
    let a = c.args in
    read_empty eight_inch (entry_at eight_inch a.image.now) a.fcb.now a.e a.t a.j a.r c.arrived_slot-slot.result
    c.arrived_slot-slot.ensures c.if-slot-eq0.true

pub returns : goal.returns
returns c =
    let a = c.args in
    read_there eight_inch (entry_at eight_inch a.image.now) a.fcb.now a.e a.t a.j a.r c.from.result c.from-2.result
    c.go_to.result (c.from.ensures ∙ c.arrived_count.ensures) c.if-from-r.false (c.from-2.ensures ∙ c.arrived_slot-slot.ensures)
    (λ z. c.if-slot-eq0.false (sym c.from-2.ensures ∙ z)) c.go_to.ensures
