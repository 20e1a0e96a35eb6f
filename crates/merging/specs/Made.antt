-- An array whose elements a closure tells by their numbers.
use Rattle.std.specs.Prelude.{◌≡◌, List, ℕ, zero, suc, ◌+◌, ◌≤◌, ◌<◌, get_or}
use Rattle.std.proofs.Math.Path.{subst}
use Rattle.std.proofs.Common.{sym, ◌∙◌, arith, ext_get_or}
use Rattle.std.specs.Array.{IsFromFnResult, IsFromFnResultFrom}
use Rattle.std.specs.Fn.{Called}
use denote.Param.Members.{Mut}
use Rattle.lists.specs.Cases.{split, eq_or_ne}
use Rattle.lists.specs.Tab.{tab, length_tab, get_d_tab}

module _ {F : Type 0} {g : Mut F (ℕ × Unit {0}) ℕ} (h : ℕ → ℕ) (f : F) (ys : List ℕ) where
  each_made : (i n : ℕ) → IsFromFnResultFrom g f ys i n → ((x y : ℕ) (q : F) → Called g f (x, tt) y q → (q ≡ f) × (y ≡ h x))
      → (k : ℕ) → i ≤ k → k < i + n → get_or ys k 0 ≡ h k
  each_made i zero m tells k a b = absurd (omega arith)
  each_made i (suc n) m tells k a b =
      let told = tells i m.1 m.0 m.3 in
      split (eq_or_ne k i) (λ q. rw q (m.2.1 0 ∙ told.1))
      (λ q. each_made (i + 1) n (subst (λ p. IsFromFnResultFrom g p ys (i + 1) n) told.0 m.4) tells k (omega arith) (omega arith))

  pub made_by : (n : ℕ) → IsFromFnResult g f ys n → ((x y : ℕ) (q : F) → Called g f (x, tt) y q → (q ≡ f) × (y ≡ h x)) → ys ≡ tab n h
  made_by n m tells =
      let l = m.long in
      ext_get_or 0 ys (tab n h) (l ∙ sym (length_tab n h))
      (λ k b. each_made 0 n m.each tells k (omega arith) (omega arith) ∙ sym (get_d_tab n h k (omega arith)))
