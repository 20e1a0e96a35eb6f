-- A search of a range's numbers, by a closure that tells a test.
use Rattle.std.specs.Prelude.{◌≡◌, Bool, true, false, ℕ, ◌≤◌, ◌<◌, List, MatchOption, Some, None, Option}
use Rattle.std.specs.Fn.{CalledAt}
use Rattle.std.specs.Iterator.{YieldsThen}
use Rattle.std.specs.List.{FoldsTo}
use Rattle.std.specs.Bool.{⊤}
use Rattle.std.specs.declared.ops.Range.{Range}
use Rattle.std.proofs.Common.{sym}
use Rattle.std.proofs.lemmas.Iterator.{first_from_Range}
use Rattle.std.proofs.iter.Yields.{nat_range_steps}
use denote.Param.Members.{Mut}
use denote.Ref.{Bor}
use Rattle.lists.specs.Below.{first_in}
use Rattle.format.specs.Found.{found_below}
use Rattle.facts.specs.Found.{first_is_at, none_is}

module _ (p : ℕ → Bool) (i n : ℕ) where
  first_shown : (r : Option ℕ) → MatchOption r ((j : ℕ) → i ≤ j → j < n → p j ≡ false)
      (λ e. (i ≤ e) × (e < n) × (p e ≡ true) × ((j : ℕ) → i ≤ j → j < e → p j ≡ false))
      → r ≡ found_below n (first_in p i n)
  first_shown (Some e) h = sym (first_is_at p i n e record { low = h.0; below = h.1; holds = h.2; before = h.3 })
  first_shown None h = sym (none_is p i n h)

  pub found_in_range : {F : Type 0} {g : Mut F (Bor ℕ × Unit {0}) Bool} (s u : Range ℕ) (f : F) (r : Option ℕ)
      → (xs : List ℕ) × (j : F) × YieldsThen nat_range_steps s xs r u × FoldsTo (λ p x q. CalledAt g p x false q) f xs j
      × MatchOption r ⊤ (λ x. (h : F) × CalledAt g j x true h)
      → s.start ≡ i → s.end ≡ n
      → ((x : ℕ) (b : Bool) (q : F) → CalledAt g f x b q → (q ≡ f) × (b ≡ p x)) → r ≡ found_below n (first_in p i n)
  found_in_range s u f r ran a b tells =
      first_shown r (rw (a, b) at (first_from_Range s u f r (λ x. p x ≡ true) (λ x. p x ≡ false) ran
      (λ x q k. sym (tells x true q k).1) (λ x q k. ((tells x false q k).0, sym (tells x false q k).1))))
