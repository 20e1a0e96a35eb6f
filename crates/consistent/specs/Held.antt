-- The arrays that a pass is lent.
use Rattle.std.specs.Prelude.{◌≡◌, length}
use Rattle.consistent.specs.declared.Seen.{Seen}

-- marks and links are the arrays that were lent, each as long as it was: who lent them sees what became of them
pub record StillLent (before after : Seen) : Type 0 where
  pub marks : after.marks.ghost_name ≡ before.marks.ghost_name
  pub chain : after.chain.ghost_name ≡ before.chain.ghost_name
  pub marks_kept : length after.marks.now ≡ length before.marks.now
  pub chain_kept : length after.chain.now ≡ length before.chain.now
