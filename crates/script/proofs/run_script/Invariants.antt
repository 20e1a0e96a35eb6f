-- `script::run_script` meets its contract. The invariant: the calls that are left, made on the disk as it is, come to what all of them do.
use mathlib.Core.Path.{◌≡◌}
use Prim.Native.Nat.{◌*◌, ◌≤◌}
use lib.ListN.{length}
use Rattle.script.specs.Script.{acts_left}
use Rattle.script.proofs.run_script.Given as goal

abbrev pub invariant-loop-k : goal.invariant-loop-k
invariant-loop-k l =
    (acts_left l.script (7 * l.k) l.fcbs l.buffers l.image l.map l.p ≡ acts_left l.script 0 l.initial.fcbs l.initial.buffers l.initial.image l.initial.map l.initial.p)
    × (l.p.fcbs ≤ length l.fcbs) × (l.p.buffers ≤ length l.buffers)
    × (length l.fcbs ≡ length l.initial.fcbs) × (length l.buffers ≡ length l.initial.buffers) × (length l.image ≡ length l.initial.image) × (length l.map ≡ length l.initial.map)
