-- `fresh::make_fresh` meets its contract. The loop's invariant, for each directory so marked: the notes below b are fresh ones.
use Rattle.lists.specs.Tab.{Filled}
use Rattle.format.specs.Diskette.{eight_inch}
use Rattle.format.specs.Entries.{Rows}
use Rattle.facts.specs.Marks.{Marked}
use Rattle.format.specs.Notes.{fresh_note_rule}
use Rattle.fresh.proofs.make_fresh.Given as goal

abbrev pub invariant-loop-b : goal.invariant-loop-b
invariant-loop-b l = (d : Rows) → Marked eight_inch d l.marks → Filled (fresh_note_rule eight_inch d) l.initial.map l.b l.map
