-- Where the close would change nothing, nothing is done; else the row is taken before the image is changed.
use mathlib.Core.Path.{◌≡◌, sym, ◌∙◌}
use mathlib.Core.Bool.{true}
use Rattle.format.specs.Diskette.{eight_inch}
use Rattle.format.specs.Entries.{entry_at}
use Rattle.disk.specs.Eight.{eight_sound}
use Rattle.merging.specs.Merging.{close_keeps_rule, keeps_row}
use Rattle.closing.specs.Laws.{kept_image, closed_image_law, closed_map_law}
use Rattle.fields.specs.Closing.{map_kept}
use Rattle.closing.proofs.close_entry.Goals as goal

pub returns-then-close_keeps : goal.returns-then-close_keeps
returns-then-close_keeps c =
    let a = c.args in
    let h : close_keeps_rule (entry_at eight_inch a.image.now a.e) a.fcb.now ≡ true =
    sym (rw c.row.ensures.0 at c.close_keeps.ensures) ∙ c.if-close_keeps.true in
    let k = keeps_row eight_inch _ _ h in (kept_image eight_inch a.image.now a.e a.fcb.now k, sym (map_kept eight_inch _ _ k a.map.now))

pub returns : goal.returns
returns c =
    let a = c.args in
    let row = c.copy_row-row in (
      closed_image_law eight_sound a.image.now c.requires.0 a.e c.requires.2 a.fcb.now row.result c.closed_row.result
          c.store_row.new.image row.ensures c.closed_row.ensures c.store_row.ensures,
      closed_map_law eight_inch a.image.now a.fcb.now row.result c.slots.result c.slots-2.result a.map.now
          c.record_blocks.new.map a.e row.ensures c.slots.ensures c.slots-2.ensures c.record_blocks.ensures,
    )
