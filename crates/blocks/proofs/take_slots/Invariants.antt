-- The loop keeps that the first k fours of the slots are taken from whatever marks the first four were taken from.
use Rattle.blocks.specs.Runs.{Taken}
use Rattle.format.specs.Diskette.{Bytes}
use Prim.Native.Nat.{◌*◌}
use Rattle.blocks.proofs.take_slots.Given as goal

abbrev pub invariant-loop-k : goal.invariant-loop-k
invariant-loop-k v = (l : Bytes) → Taken l v.r 16 4 v.initial.marks v.initial.met → Taken l v.r 16 (4 * v.k) v.marks v.met
