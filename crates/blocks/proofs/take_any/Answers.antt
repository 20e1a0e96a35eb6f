-- Four numbers that make 0 are 0 each, and taking them changes nothing.
use Rattle.blocks.specs.Runs.{taken_zeros}
use Rattle.lanes.specs.Lanes.{bytes_zero}
use mathlib.Core.Path.{sym, ◌∙◌}
use Rattle.blocks.proofs.take_any.Goals as goal

pub returns-then-half-eq0 : goal.returns-then-half-eq0
returns-then-half-eq0 c =
    let a = c in
    taken_zeros a.args.marks.now a.args.r.now a.args.at a.requires.1 4 (bytes_zero 4 a.args.r.now a.args.at (sym c.half.ensures.0 ∙ c.if-half-eq0.true))
