-- The name rule of one byte, by what its low seven bits are.
use mathlib.Core.Path.{◌≡◌, sym, ap}
use mathlib.Core.Bool.{Bool, true, false, not}
use Prim.Native.Nat.{ℕ, ◌%◌, ◌≤◌, ◌<◌}
use borrow.Author.Tests.{le-leb, lt-leb, eq-eqb, ne_eqb}
use Rattle.lists.specs.Tests.{◌and◌, or_right, or_first}
use Rattle.format.specs.Names.{name_byte_rule}

module _ (wild : Bool) (b : ℕ) where
  pub under : b % 128 < 32 → false ≡ name_byte_rule wild b
  unfolding name_byte_rule ◌and◌
  under h = rw (lt-leb _ _ h)

  pub over : 32 ≤ b % 128 → 126 < b % 128 → false ≡ name_byte_rule wild b
  unfolding name_byte_rule ◌and◌
  over l h = rw (le-leb _ _ l, lt-leb _ _ h)

  pub letter : 32 ≤ b % 128 → b % 128 ≤ 126 → (b % 128 ≡ 63 → ⊥) → true ≡ name_byte_rule wild b
  unfolding name_byte_rule ◌and◌
  letter l h n = rw (le-leb _ _ l, le-leb _ _ h) (sym (or_right _ _ (ap not (ne_eqb _ _ n))))

  pub any : 32 ≤ b % 128 → b % 128 ≤ 126 → b % 128 ≡ 63 → wild ≡ name_byte_rule wild b
  unfolding name_byte_rule ◌and◌
  any l h q = rw (le-leb _ _ l, le-leb _ _ h) (sym (or_first _ _ (ap not (eq-eqb _ _ q))))
