-- The loop keeps that the first j of the four are taken.
use Rattle.blocks.specs.Runs.{Taken}
use Rattle.blocks.proofs.take_four.Given as goal

abbrev pub invariant-loop-j : goal.invariant-loop-j
invariant-loop-j l = Taken l.initial.marks l.r l.at l.j l.marks l.met
