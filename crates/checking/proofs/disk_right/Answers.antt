-- `checking::disk_right` meets its contract: the image decides, then, except for 13, the map by the marks that the look at the image left.
use mathlib.Core.Path.{sym, ◌∙◌}
use Rattle.lists.specs.Cases.{clash}
use Rattle.format.specs.Diskette.{eight_inch}
use Rattle.checking.specs.Disk.{image_wrong, log_in_right, map_decides}
use Rattle.checking.proofs.disk_right.Goals as goal

pub returns-then-not-is_consistent-clause-tells : goal.returns-then-not-is_consistent-clause-tells
returns-then-not-is_consistent-clause-tells c =
    let e = c.is_consistent.ensures.tells in
    (λ fcb buffer. sym (image_wrong eight_inch _ _ (sym e.0 ∙ c.if-not-is_consistent.true)), λ t. clash (sym t))

pub returns-then-asked-ne13-clause-tells : goal.returns-then-asked-ne13-clause-tells
returns-then-asked-ne13-clause-tells c =
    let e = c.is_consistent.ensures.tells in
    let r = c.if-not-is_consistent.false in
    (λ fcb buffer. c.map_right.ensures (e.1 r).0 ∙ sym (map_decides eight_inch _ _ (sym e.0 ∙ r) c.if-asked-ne13.true), λ t. e.1 r)

pub returns-clause-tells : goal.returns-clause-tells
returns-clause-tells c =
    let e = c.is_consistent.ensures.tells in
    let r = c.if-not-is_consistent.false in
    (λ fcb buffer. sym (log_in_right eight_inch _ _ (sym e.0 ∙ r) c.if-asked-ne13.false), λ t. e.1 r)
