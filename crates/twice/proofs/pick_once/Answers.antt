-- `twice::pick_once` meets its contract: the run meets the picker's, and the theorems speak of what that says.
use borrow.Author.Rules.{rules}
use Rattle.demands.specs.Runs.{disk_of}
use Rattle.once.specs.Bytes.{Named}
use Rattle.twice.specs.Once.{picked_once}
use Rattle.twice.proofs.pick_once.Goals as goal

pub shape_of-image : goal.shape_of-image
shape_of-image c = c.benzo_pick.auto.image

pub shape_of-map : goal.shape_of-map
shape_of-map c = c.benzo_pick.auto.map

pub shape_of-word : goal.shape_of-word
shape_of-word c = c.benzo_pick.auto.word

pub returns : goal.returns
returns c =
    let m = c.benzo_pick in
    let s = c in
    let a = s.args in
    picked_once a.wanted ((let named' : Named s.args.wanted = record { book = search rules; log = search rules } in named')) a.time (disk_of a.image.now a.map.now a.session) a.word.now _ _ _ _ m.ensures
