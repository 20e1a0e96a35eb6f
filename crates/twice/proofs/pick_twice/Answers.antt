-- `twice::pick_twice` meets its contract: each of the two runs meets the picker's, and the second is made on what the first left.
use mathlib.Core.Path.{◌∙◌}
use borrow.Author.Rules.{rules}
use Rattle.demands.specs.Runs.{disk_of}
use Rattle.once.specs.Bytes.{Named}
use Rattle.twice.specs.Twice.{picked_twice}
use Rattle.twice.proofs.pick_twice.Goals as goal

pub shape_of-image : goal.shape_of-image
shape_of-image c = c.benzo_pick-second.auto.image ∙ c.benzo_pick-first.auto.image

pub shape_of-map : goal.shape_of-map
shape_of-map c = c.benzo_pick-second.auto.map ∙ c.benzo_pick-first.auto.map

pub shape_of-word : goal.shape_of-word
shape_of-word c = c.benzo_pick-first.auto.word

pub shape_of-other : goal.shape_of-other
shape_of-other c = c.benzo_pick-second.auto.word

pub returns : goal.returns
returns c =
    let m = c.benzo_pick-first in
    let n = c.benzo_pick-second in
    let s = c in
    let a = s.args in
    picked_twice a.wanted ((let named' : Named s.args.wanted = record { book = search rules; log = search rules } in named')) a.time a.again (disk_of a.image.now a.map.now a.session) a.word.now a.other.now _ _ _ _ _ _ _
    m.ensures n.ensures
