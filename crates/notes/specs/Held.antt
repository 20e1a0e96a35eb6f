-- What the entry for which a note is pending says, and a test of it.
use Rattle.std.specs.Prelude.{◌≡◌, refl, ltb, Bool, true, false, cond, ℕ, ◌≤◌, ◌<◌, None, Some}
use Rattle.std.specs.Bool.{then_some}
use Rattle.std.proofs.Math.Path.{ap}
use Rattle.std.proofs.Common.{sym, ◌∙◌}
use Rattle.lists.specs.Cases.{split, bool_cases}
use Rattle.lists.specs.Tests.{and_then, and_fails_left, and_fails_right}
use Rattle.format.specs.Diskette.{Geometry}
use Rattle.format.specs.Found.{found_below}
use Rattle.notes.specs.Holder.{holder_of}
use Rattle.format.specs.Notes.{is_pending, pending_entry, held_for_rule}
use Rattle.facts.specs.Found.{at_not_nothing, found_at, found_nothing, found_says, nothing_says}

-- a number below a bound, in the library's words
some_or_none : (b : Bool) (k : ℕ) → then_some b k ≡ cond b (Some k) None
some_or_none true k = refl
some_or_none false k = refl

pub then_found : (n k : ℕ) → then_some (ltb k n) k ≡ found_below n k
unfolding found_below
then_found n k = some_or_none (ltb k n) k

module _ (G : Geometry) (n : ℕ) where
  pub holder_settled : is_pending n ≡ false → holder_of G n ≡ None
  unfolding holder_of
  holder_settled s = rw s

  pub holder_pending : is_pending n ≡ true → holder_of G n ≡ found_below G.entries (pending_entry n)
  unfolding holder_of
  holder_pending s = rw s

  pub holder_past : is_pending n ≡ true → G.entries ≤ pending_entry n → holder_of G n ≡ None
  holder_past s h = holder_pending s ∙ found_nothing _ _ h

  pub holder_is : is_pending n ≡ true → pending_entry n < G.entries → holder_of G n ≡ Some (pending_entry n)
  holder_is s h = holder_pending s ∙ found_at _ _ h

  -- the entry that is answered: the note is pending for it
  says : (e : ℕ) → holder_of G n ≡ Some e → (is_pending n ≡ true) × (pending_entry n ≡ e) × (e < G.entries)
  says e q =
      split (bool_cases (is_pending n)) (λ s. let f = found_says _ _ e (sym (holder_pending s) ∙ q) in (s, f.0, f.1))
      (λ s. absurd (at_not_nothing e (sym q ∙ holder_settled s)))

  pub holder_low : (e : ℕ) → holder_of G n ≡ Some e → e < G.entries
  holder_low e q = (says e q).2

  -- so a test of the entries for which notes are pending is a test of that one
  module _ (p : ℕ → Bool) where
    pub held_at : (e : ℕ) → holder_of G n ≡ Some e → held_for_rule p n ≡ p e
    unfolding held_for_rule
    held_at e q = let s = says e q in and_then _ _ s.0 ∙ ap p s.1

    pub held_none : ((e : ℕ) → G.entries ≤ e → p e ≡ false) → holder_of G n ≡ None → held_for_rule p n ≡ false
    unfolding held_for_rule
    held_none past q =
        split (bool_cases (is_pending n)) (λ s. and_fails_right _ _ (past _ (nothing_says _ _ (sym (holder_pending s) ∙ q))))
        (λ s. and_fails_left _ _ s)
