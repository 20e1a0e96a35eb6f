-- A call's number is one of those that the list of calls has of its kind: where all but one of them are ruled out, it is that one.
use Rattle.std.specs.Prelude.{◌≡◌, refl, Bool, true, false, cond, List, [], ◌∷◌, ℕ, eqb}
use Rattle.std.proofs.Common.{sym, ap, ◌∙◌, eqb-true}
use Rattle.lists.specs.Cases.{split, bool_cases}
use Rattle.format.specs.Diskette.{eight_inch}
use Rattle.model.specs.declared.Asked.{Asked}
use Rattle.model.specs.declared.Session.{Session}
use Rattle.model.specs.declared.Kind.{Kind}
use Rattle.model.specs.declared.Kind.TheVariants.{Unlisted, Read}
use Rattle.model.specs.Kinds.{Listed, calls, line_in, kind_of, same}
use Rattle.model.specs.Lent.{Lent, Outcome}
use Rattle.table.specs.Own.{calling, same_self}
use Rattle.table.specs.OwnStep.{own_step, ready_step, ready_own, own_at}
use Rattle.table.specs.Protection.{Unchanging, not_reader, unread_spared}
use Rattle.calls.specs.Arms.{None, passes, rest}

line_number : (n : ℕ) (cs : List Listed) → (line_in n cs).number ≡ n
line_number n [] = refl
line_number n (c ∷ cs) =
    split (bool_cases (eqb n c.number)) (λ e. rw e (sym (eqb-true n c.number e))) (λ e. rw e (line_number n cs))

-- of this kind the line has no other number
abbrev pub is_last : Kind → ℕ → Listed → Bool
is_last k last c = cond (same c.kind k) (eqb c.number last) true

-- ns are the numbers that are ruled out, by the arms of a match or by tests; said is what was known before
pub last_of : (k : Kind) (said : Type 0) (last : ℕ) (ns : List ℕ) {n : ℕ} → passes (is_last k last) ns calls ≡ true → same Unlisted k ≡ false → kind_of n ≡ k
    → None said n ns → n ≡ last
unfolding kind_of
last_of k said last ns {n} p u q x =
    let t : is_last k last (line_in n calls) ≡ true = rest (is_last k last) said n ns p (rw u) x in
    let is : same (line_in n calls).kind k ≡ true = ap (λ (j : Kind). same j k) q ∙ same_self k in
    let e : eqb (line_in n calls).number last ≡ true = rw is at t in sym (line_number n calls) ∙ eqb-true _ _ e

-- where the kind has this number alone
pub only_of : (k : Kind) (last : ℕ) {n : ℕ} → passes (is_last k last) [] calls ≡ true → same Unlisted k ≡ false → kind_of n ≡ k → n ≡ last
only_of k last p u q = last_of k (Unit {0}) last [] p u q tt

-- where it has one more, which is ruled out
pub other_of : (k : Kind) (last c : ℕ) {n : ℕ} → passes (is_last k last) (c ∷ []) calls ≡ true → same Unlisted k ≡ false → kind_of n ≡ k → (n ≡ c → ⊥) → n ≡ last
other_of k last c p u q ne = last_of k (Unit {0}) last (c ∷ []) p u q (tt, ne)

-- what a call's own function promises, whatever else is asked, is what is asked where the number is the call's
pub at_number : {o : Outcome} {n : ℕ} (asked : Asked) (l : Lent) (s : Session) → asked.number ≡ n → ((a : Asked) → o ≡ own_step eight_inch (calling n a) l s)
    → o ≡ own_step eight_inch asked l s
at_number {o} {n} asked l s q h = h asked ∙ own_at eight_inch asked l s n q

-- ---- what its own function promises of a call that the protection has passed is what is asked of it
module _ (asked : Asked) (l : Lent) (s : Session) {o : Outcome} (passed : Unchanging s asked.number) (k : Kind) (is : kind_of asked.number ≡ k) where
  -- where it is no read, which the protection may stop
  pub of_kind : same k Read ≡ false → o ≡ own_step eight_inch asked l s → o ≡ ready_step eight_inch asked l s
  of_kind spared h =
      h ∙ sym (ready_own eight_inch asked l s (unread_spared eight_inch asked l s passed (not_reader asked.number k is spared)))

  -- where the kind has one call alone
  pub of_only : (n : ℕ) → same k Read ≡ false → passes (is_last k n) [] calls ≡ true → same Unlisted k ≡ false
      → ((a : Asked) → o ≡ own_step eight_inch (calling n a) l s) → o ≡ ready_step eight_inch asked l s
  of_only n spared p u h = of_kind spared (at_number asked l s (only_of k n p u is) h)

  -- where it has one more, which is ruled out
  pub of_other : (n c : ℕ) → same k Read ≡ false → passes (is_last k n) (c ∷ []) calls ≡ true → same Unlisted k ≡ false → (asked.number ≡ c → ⊥)
      → ((a : Asked) → o ≡ own_step eight_inch (calling n a) l s) → o ≡ ready_step eight_inch asked l s
  of_other n c spared p u ne h = of_kind spared (at_number asked l s (other_of k n c p u is ne) h)
