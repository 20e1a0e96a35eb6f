-- The loop keeps that the faults below i are filled in.
use Prim.Native.Nat.{ℕ}
use lib.ListN.{get_or}
use lib.Bits.{bit_and}
use Rattle.lists.specs.Tab.{Filled}
use Rattle.faults.specs.Faults.{fault_of}
use Rattle.faults.proofs.find_faults.Given as goal

abbrev pub invariant-loop-i : goal.invariant-loop-i
invariant-loop-i l = Filled (λ (k : ℕ). fault_of (bit_and (get_or l.r k 0) (get_or l.counted k 0)) (get_or l.lowest k 0) (get_or l.highest k 0) (get_or l.barred k 0)) l.initial.out l.i l.out
