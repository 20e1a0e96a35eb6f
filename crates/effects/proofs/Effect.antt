-- A call that does nothing has an effect, and so have two calls, one after the other.
use Rattle.std.specs.Prelude.{◌≡◌, refl, ◌⊎◌, ℕ}
use Rattle.std.proofs.Math.Path.{ap}
use Rattle.std.proofs.Common.{◌∙◌, inl, inr}
use Rattle.lists.specs.Cases.{split}
use Rattle.format.specs.Diskette.{Geometry}
use Rattle.format.specs.Entries.{empty}
use Rattle.effects.specs.View.{View, Names, NewRow}
use Rattle.effects.specs.Effect.{Effect, Keeps, NamesStay, NoneNew, none_one, new_later, new_earlier, foreign_on, mine_on}

-- ---- nothing done
pub nothing_done : (G : Geometry) (s : View) (N : Names) → Effect G s s N
nothing_done G s N = record { row = λ e f. refl; new = λ e l z. inl refl; one_new = none_one G s s (λ e l z. refl); dat = λ b k e l m f. refl }

-- ---- effects follow one another, where the first keeps what is pending
module _ (G : Geometry) (s t : View) (N : Names) (w : Effect G s t N) (kp : Keeps G s t N) where
  -- what changed from s to u did so in the one step of the two that makes an entry
  then_new : (u : View) → Effect G t u N → NoneNew G s t ⊎ NoneNew G t u → (e k : ℕ) → NewRow G s.rows u.rows e → NewRow G s.rows u.rows k → e ≡ k
  then_new u x (inl none) e k a b = x.one_new e k (new_later G s t u e a none) (new_later G s t u k b none)
  then_new u x (inr none) e k a b = w.one_new e k (new_earlier G s t u e a none) (new_earlier G s t u k b none)

  pub then_effect : (u : View) → Effect G t u N → NamesStay G t u N → NoneNew G s t ⊎ NoneNew G t u → Effect G s u N
  then_effect u x stay made = record {
    row = λ e f. x.row e (foreign_on G s t N w e f) ∙ w.row e f;
    new = λ e l z. split (w.new e l z)
        (λ q. split (x.new e l (ap empty q ∙ z)) (λ p. inl (p ∙ q)) (λ p. inr p))
        (λ q. inr (stay e l q));
    one_new = then_new u x made;
    dat = λ b k e l m f. x.dat b k e l (mine_on G s t N w kp b e f m) (foreign_on G s t N w e f) ∙ w.dat b k e l m f;
  }
