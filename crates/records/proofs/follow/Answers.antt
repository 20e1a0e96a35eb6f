-- The transfer goes on from the buffers that the arrival left.
use mathlib.Core.Path.{◌∙◌}
use Rattle.disk.specs.Eight.{eight_sound}
use Rattle.records.specs.Held.{held}
use Rattle.records.specs.Carry.{come_own}
use Rattle.records.proofs.follow.Goals as goal

pub transfer-requires : goal.transfer-requires
transfer-requires c =
    let a = c.args in
    let p = c.requires in
    let own = come_own eight_sound a.target.extent (held a.lent.now) a.plan p.5.0 p.5.2 p.3 p.4 _ c.arrive.ensures.comes_to in
    let kept = c.arrive.ensures.still_lent in
    (p.1, p.2, p.3, own, (kept.image_kept ∙ p.5.0, kept.map_kept ∙ p.5.1, kept.fcb_kept ∙ p.5.2, kept.buffer_kept ∙ p.5.3))
