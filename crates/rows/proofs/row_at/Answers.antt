-- The part is the definition.
use mathlib.Core.Path.{refl, ap, ◌∙◌}
use Prim.Native.Nat.{◌+◌}
use native.Mathlib.Omega.{arith}
use lib.ListN.{length}
use Rattle.lists.specs.Splice.{take_part, length_part}
use Rattle.format.specs.Diskette.{entry_bytes}
use Rattle.rows.proofs.row_at.Goals as goal

pub returns : goal.returns
returns c =
    let a = c.args in
    let t = take_part a.four.now a.at (a.at + entry_bytes) entry_bytes refl in
    (t, ap length t ∙ length_part a.four.now a.at entry_bytes (omega arith))
