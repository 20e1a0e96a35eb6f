-- `script::next_act` meets its contract: the act is made of the script's numbers and of the next parts of the two slices.
use Rattle.script.specs.Script.{length_mended, acts_next}
use Rattle.script.proofs.next_act.Goals as goal

pub shape_of-fcbs : goal.shape_of-fcbs
shape_of-fcbs c = let m = c.make_act-session in length_mended m.new.fcb _ _ _ _ c.ends_at-fcb_to.ensures m.auto.fcb

pub shape_of-buffers : goal.shape_of-buffers
shape_of-buffers c = let m = c.make_act-session in length_mended m.new.buffer _ _ _ _ c.ends_at-to.ensures m.auto.buffer

pub shape_of-image : goal.shape_of-image
shape_of-image c = c.make_act-session.auto.image

pub shape_of-map : goal.shape_of-map
shape_of-map c = c.make_act-session.auto.map

pub returns : goal.returns
returns c =
    let s = c in
    let a = s.args in
    let f = c.ends_at-fcb_to.ensures in
    let g = c.ends_at-to.ensures in
    let m = c.make_act-session in (
      acts_next a.script.now a.at a.fcbs.now a.buffers.now a.image.now a.map.now a.p s.requires.0 _ _ f g
          _ c.asked_at-asked.ensures _ _ m.new.fcb m.new.buffer _ m.ensures m.auto.fcb m.auto.buffer,
      f.high,
      g.high,
    )
