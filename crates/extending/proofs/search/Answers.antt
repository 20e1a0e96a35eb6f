-- `extending::search` meets its contract: it ends with the record that has the year and day, or with the last.
use native.Mathlib.Omega.{arith}
use Prim.Native.Nat.{◌+◌}
use Rattle.std.proofs.Common.{rules}
use Rattle.format.specs.Diskette.{eight_inch}
use Rattle.logging.specs.Held.{held}
use Rattle.extending.specs.Laws.{search_begins, search_goes_on, search_ends}
use Rattle.extending.proofs.search.Goals as goal

pub loop-r-init : goal.loop-r-init
loop-r-init c = let a = c.args in (search_begins eight_inch a.time a.wanted (held a.disk.now) a.fcb, search rules)

pub returns-then-look_at-clause-comes_to : goal.returns-then-look_at-clause-comes_to
returns-then-look_at-clause-comes_to c =
    let a = c.args in
    let l = c.loop-r in
    let d = held a.disk.now in
    search_ends eight_inch a.time a.wanted d a.fcb _ (l.r + 1) a.n
    (search_goes_on eight_inch a.time a.wanted d a.fcb (held l.disk) l.r l.invariant.0 _ c.if-look_at.ensures.comes_to) (omega arith)

pub loop-r-preserved : goal.loop-r-preserved
loop-r-preserved c =
    let a = c.args in
    let l = c.loop-r in (
      search_goes_on eight_inch a.time a.wanted (held a.disk.now) a.fcb (held l.disk) l.r l.invariant.0 _ c.if-look_at.ensures.comes_to,
      search rules,
    )
