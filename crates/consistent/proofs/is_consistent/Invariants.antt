-- The loop keeps what stands after the entries before record d.
use Rattle.consistent.specs.Held.{StillLent}
use Rattle.consistent.specs.Pass.{Passed}
use Rattle.format.specs.Entries.{entry_at}
use Rattle.format.specs.Diskette.{eight_inch, entries_per_record}
use Prim.Native.Nat.{◌*◌}
use Rattle.consistent.proofs.is_consistent.Given as goal

abbrev pub invariant-loop-d : goal.invariant-loop-d
invariant-loop-d l = Passed eight_inch (entry_at eight_inch l.image) (entries_per_record * l.d) l.seen × StillLent l.initial.seen l.seen
