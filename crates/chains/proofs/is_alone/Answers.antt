-- The loop keeps the walk back along the chain: of the entries that it has passed, none before e is of the same file.
use mathlib.Core.Path.{◌≡◌, sym, ap}
use mathlib.Core.Bool.{true, false}
use Prim.Native.Nat.{◌+◌}
use native.Mathlib.Omega.{arith}
use Rattle.format.specs.Diskette.{eight_inch}
use Rattle.format.specs.Entries.{entry_at, used}
use Rattle.format.specs.Consistent.{same_file_rule}
use Rattle.facts.specs.Naming.{run_own}
use Rattle.chains.specs.Walk.{past, Before, before_start, before_used, before_more, before_less, alone_hit, alone_end}
use Rattle.chains.proofs.is_alone.Goals as goal

pub loop-next-init : goal.loop-next-init
loop-next-init c =
    let d = entry_at eight_inch c.args.image.now in
    let u : used (d c.args.e) ≡ true = rw c.requires.3 at c.requires.4 in
    rw c.linked-next.ensures (before_start eight_inch d c.args.e run_own c.args.chain.now c.requires.5 u)

pub same_file-requires : goal.same_file-requires
same_file-requires c =
    let d = entry_at eight_inch c.args.image.now in let e = c.args.e in
    let w : Before eight_inch d e (c.in-Some.f + 1) = rw (ap past c.in-Some.is) at c.loop-next.invariant in
    (omega arith, omega arith, c.requires.4, rw c.row.ensures.0 (before_used eight_inch d e run_own c.args.chain.now c.requires.5 c.in-Some.f w))

pub returns-then-same_file : goal.returns-then-same_file
returns-then-same_file c =
    let d = entry_at eight_inch c.args.image.now in let e = c.args.e in
    let w : Before eight_inch d e (c.in-Some.f + 1) = rw (ap past c.in-Some.is) at c.loop-next.invariant in
    let h : same_file_rule eight_inch (d e) (d c.in-Some.f) ≡ true = rw (c.same_file.ensures, c.row.ensures.0, c.requires.3) at c.if-same_file.true in
    sym (alone_hit eight_inch d e c.in-Some.f w h)

pub loop-next-smaller : goal.loop-next-smaller
loop-next-smaller c =
    let d = entry_at eight_inch c.args.image.now in let e = c.args.e in
    let w : Before eight_inch d e (c.in-Some.f + 1) = rw (ap past c.in-Some.is) at c.loop-next.invariant in
    rw (c.linked-next-in-Some.ensures, c.in-Some.is) (before_less eight_inch d e run_own c.args.chain.now c.requires.5 c.in-Some.f w)

pub loop-next-preserved : goal.loop-next-preserved
loop-next-preserved c =
    let d = entry_at eight_inch c.args.image.now in let e = c.args.e in
    let w : Before eight_inch d e (c.in-Some.f + 1) = rw (ap past c.in-Some.is) at c.loop-next.invariant in
    let h : same_file_rule eight_inch (d e) (d c.in-Some.f) ≡ false = rw (c.same_file.ensures, c.row.ensures.0, c.requires.3) at c.if-same_file.false in
    rw c.linked-next-in-Some.ensures (before_more eight_inch d e run_own c.args.chain.now c.requires.5 c.in-Some.f w h)

pub returns : goal.returns
returns c =
    sym (alone_end eight_inch (entry_at eight_inch c.args.image.now) c.args.e (past c.loop-next.next) c.loop-next.invariant (ap past c.in_default.is))
