-- `assured::run_protected` meets its contract: the script is run on the session whose protection was set.
use mathlib.Core.Path.{ap, ◌∙◌}
use Rattle.format.specs.Diskette.{eight_inch}
use Rattle.model.specs.declared.Session.{Session}
use Rattle.demands.specs.Runs.{disk_of, run}
use Rattle.script.specs.Script.{acts_of}
use Rattle.assured.specs.Demands.{untouched}
use Rattle.assured.proofs.run_protected.Goals as goal

pub returns : goal.returns
returns c =
    let a = c.args in
    untouched (disk_of a.image.now a.map.now a.session) (acts_of a.script.now a.fcbs.now a.buffers.now) _
    (c.run_script.ensures
    ∙ ap (λ (s : Session). run eight_inch (disk_of a.image.now a.map.now s) (acts_of a.script.now a.fcbs.now a.buffers.now)) c.benzo_protect-protected.ensures)
