-- `fresh::fresh_note` meets its contract: past the directory the block's mark tells whether it is listed.
use mathlib.Core.Path.{sym, ◌∙◌}
use Rattle.format.specs.Diskette.{eight_inch}
use Rattle.fresh.specs.Note.{fresh_area, fresh_told}
use Rattle.fresh.proofs.fresh_note.Goals as goal

pub returns-then-b-lt-AREA_BLOCKS : goal.returns-then-b-lt-AREA_BLOCKS
returns-then-b-lt-AREA_BLOCKS c = λ d m. sym (fresh_area eight_inch d _ c.if-b-lt-AREA_BLOCKS.true)

pub returns : goal.returns
returns c =
    let l = c in
    λ d m. c.told_note.ensures ∙ sym (fresh_told eight_inch d _ _ l.if-b-lt-AREA_BLOCKS.false l.requires.1 m)
