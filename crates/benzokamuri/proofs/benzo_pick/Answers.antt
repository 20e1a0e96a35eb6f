-- `benzokamuri::benzo_pick` meets its contract: the picker's answer in numbers.
use Rattle.std.proofs.Common.{rules}
use Rattle.benzokamuri.specs.Handed.{handed}
use Rattle.benzokamuri.proofs.benzo_pick.Goals as goal

pub returns : goal.returns
returns c =
    let m = c.pick-told in
    let s = c.says_of-says.ensures in
    let d = m.new.disk in
    handed m.result _ _ d.image.now d.map.now _ _ _ m.ensures.comes_to s.0 s.1 s.2 (search rules) (search rules) (search rules)
