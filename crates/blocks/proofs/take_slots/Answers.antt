-- The loop keeps that the first k fours of the slots are taken from whatever marks the first four were taken from.
use Rattle.blocks.specs.Runs.{taken_join, taken_rest, taken_keeps_none, rest_zeros}
use Rattle.blocks.specs.BlockMarks.{mark_slots, slots_free}
use Prim.Native.Nat.{◌+◌, ◌*◌}
use mathlib.Core.Path.{◌≡◌, refl, sym, ◌∙◌}
use native.Mathlib.Omega.{arith}
use Rattle.blocks.proofs.take_slots.Goals as goal

pub returns-then-rest_is_zero : goal.returns-then-rest_is_zero
unfolding mark_slots slots_free
returns-then-rest_is_zero c =
    let f = c.take_four-met in let a = c.args in
    let none = taken_keeps_none a.marks.now a.r.now 16 4 f.new.marks f.result f.ensures c.requires.1 in
    let t = taken_rest a.marks.now a.r.now 16 4 f.new.marks f.result f.ensures 12 none (rest_zeros a.r.now (sym c.rest_is_zero.ensures ∙ c.if-rest_is_zero.true)) in
    (t.free, t.marked)

pub loop-k-init : goal.loop-k-init
loop-k-init c = λ l t. t

pub take_any-met-requires : goal.take_any-met-requires
take_any-met-requires c =
    let f = c.take_four-met in let a = c.args in let l = c.loop-k in
    let t = l.invariant a.marks.now f.ensures in
    (omega (arith, l.auto.marks, f.auto.marks), taken_keeps_none a.marks.now a.r.now 16 (4 * l.k) l.marks l.met t c.requires.1, omega arith)

pub loop-k-preserved : goal.loop-k-preserved
loop-k-preserved c =
    let r = c.args.r.now in let v = c.loop-k in let t = c.take_any-met in
    let q : 4 * v.k + 4 ≡ 4 * (v.k + 1) = omega arith in
    λ l u. rw q at (taken_join l r 16 (4 * v.k) v.marks v.met (v.invariant l u) 4 (16 + 4 * v.k) t.new.marks t.result refl t.ensures)

pub returns : goal.returns
unfolding mark_slots slots_free
returns c =
    let v = c.loop-k in
    let q : 4 * v.k ≡ 16 = omega arith in
    let t = rw q at (v.invariant c.args.marks.now c.take_four-met.ensures) in
    (t.free, t.marked)
