-- `daybook::has_stamp` meets its contract: the stamp stands in front.
use mathlib.Core.Path.{ap, ◌∙◌}
use lib.Dec.{eqb}
use Rattle.std.proofs.Common.{rules}
use Rattle.std.specs.List.{starts_with}
use Rattle.format.specs.Diskette.{Bytes}
use Rattle.daybook.specs.Bytes.{stamp_starts}
use Rattle.daybook.proofs.has_stamp.Goals as goal

pub returns : goal.returns
returns c =
    let a = c.args in
    c.starts_with.ensures.value ∙ ap (λ (s : Bytes). starts_with eqb a.bytes s) c.stamp_of-wanted.ensures ∙ stamp_starts a.year a.day a.bytes (search rules)
