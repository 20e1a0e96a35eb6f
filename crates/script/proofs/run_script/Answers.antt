-- `script::run_script` meets its contract. The invariant: the calls that are left, made on the disk as it is, come to what all of them do.
use mathlib.Core.Path.{◌≡◌, refl, sym, ◌∙◌}
use native.Mathlib.Omega.{arith}
use Prim.Native.Nat.{◌+◌, ◌*◌}
use Rattle.script.specs.Script.{acts_left, acts_none}
use Rattle.script.proofs.run_script.Goals as goal

pub loop-k-init : goal.loop-k-init
loop-k-init c = (refl, omega arith, omega arith, refl, refl, refl, refl)

pub next_act-p-requires : goal.next_act-p-requires
next_act-p-requires c = let l = c.loop-k.invariant in (omega arith, l.1, l.2)

pub loop-k-preserved : goal.loop-k-preserved
loop-k-preserved c =
    let l = c.loop-k.invariant in
    let m = c.next_act-p in
    let k = m.auto in
    let q : 7 * (c.loop-k.k + 1) ≡ 7 * c.loop-k.k + 7 = omega arith in (
      rw q (m.ensures.0 ∙ l.0),
      rw k.fcbs m.ensures.1,
      rw k.buffers m.ensures.2,
      k.fcbs ∙ l.3,
      k.buffers ∙ l.4,
      k.image ∙ l.5,
      k.map ∙ l.6,
    )

pub shape_of-fcbs : goal.shape_of-fcbs
shape_of-fcbs c = c.loop-k.invariant.3

pub shape_of-buffers : goal.shape_of-buffers
shape_of-buffers c = c.loop-k.invariant.4

pub shape_of-image : goal.shape_of-image
shape_of-image c = c.loop-k.invariant.5

pub shape_of-map : goal.shape_of-map
shape_of-map c = c.loop-k.invariant.6

pub returns : goal.returns
unfolding acts_left
returns c =
    let l = c.loop-k in
    sym (acts_none c.args.script.now (7 * l.k) l.fcbs l.buffers l.image l.map l.p (omega arith)) ∙ l.invariant.0
