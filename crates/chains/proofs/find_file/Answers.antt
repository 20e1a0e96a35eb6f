-- The loop keeps the walk back along the chain of the key: of the entries that it has passed, none is what is asked for.
use mathlib.Core.Path.{◌≡◌, sym, ap}
use mathlib.Core.Bool.{true, false}
use Prim.Native.Nat.{◌+◌}
use native.Mathlib.Omega.{arith}
use Rattle.format.specs.Diskette.{eight_inch}
use Rattle.format.specs.Entries.{entry_at}
use Rattle.facts.specs.Find.{file_test}
use Rattle.facts.specs.Naming.{run_own}
use Rattle.chains.specs.Walk.{past, Sought, sought_start, sought_more, sought_less, find_hit_law, find_end}
use Rattle.chains.proofs.find_file.Goals as goal

pub loop-next-init : goal.loop-next-init
loop-next-init c =
    let a = c.args in let d = entry_at eight_inch a.image.now in
    rw (c.linked-next.ensures, c.file_key.ensures.0) (sought_start eight_inch d a.user a.s.now a.q a.ext c.requires.2 run_own a.chain.now c.requires.3.chained)

pub returns-then-is_file : goal.returns-then-is_file
returns-then-is_file c =
    let a = c.args in let d = entry_at eight_inch a.image.now in
    let w : Sought eight_inch d a.user a.s.now a.q a.ext (c.in-Some.f + 1) = rw (ap past c.in-Some.is) at c.loop-next.invariant in
    let h : file_test eight_inch d a.user a.s.now a.q a.ext c.in-Some.f ≡ true = rw (c.is_file.ensures, c.row.ensures.0) at c.if-is_file.true in
    sym (find_hit_law eight_inch d a.user a.s.now a.q a.ext c.requires.2 a.chain.now c.in-Some.f c.requires.3 (omega (arith, w.high)) h)

pub loop-next-smaller : goal.loop-next-smaller
loop-next-smaller c =
    let a = c.args in let d = entry_at eight_inch a.image.now in
    let w : Sought eight_inch d a.user a.s.now a.q a.ext (c.in-Some.f + 1) = rw (ap past c.in-Some.is) at c.loop-next.invariant in
    rw (c.linked-next-in-Some.ensures, c.in-Some.is) (sought_less eight_inch d a.user a.s.now a.q a.ext c.requires.2 run_own a.chain.now c.requires.3.chained c.in-Some.f w)

pub loop-next-preserved : goal.loop-next-preserved
loop-next-preserved c =
    let a = c.args in let d = entry_at eight_inch a.image.now in
    let w : Sought eight_inch d a.user a.s.now a.q a.ext (c.in-Some.f + 1) = rw (ap past c.in-Some.is) at c.loop-next.invariant in
    let h : file_test eight_inch d a.user a.s.now a.q a.ext c.in-Some.f ≡ false = rw (c.is_file.ensures, c.row.ensures.0) at c.if-is_file.false in
    rw c.linked-next-in-Some.ensures (sought_more eight_inch d a.user a.s.now a.q a.ext c.requires.2 run_own a.chain.now c.requires.3.chained c.in-Some.f w h)

pub returns : goal.returns
returns c =
    let a = c.args in let d = entry_at eight_inch a.image.now in
    sym (find_end eight_inch d a.user a.s.now a.q a.ext c.requires.2 _ (past c.loop-next.next) c.loop-next.invariant (ap past c.in_default.is))
