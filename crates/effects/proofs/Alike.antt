-- Images that differ in date entries alone: the step from one to the other is a call that names no file, and what is current stays so.
use Rattle.std.specs.Prelude.{refl, false, ℕ, ◌≤◌}
use Rattle.std.proofs.Common.{inl}
use Rattle.format.specs.Diskette.{Bytes, Geometry, Sound}
use Rattle.invariant.specs.Good.{Good}
use Rattle.effects.specs.View.{View, view_of, Names}
use Rattle.effects.specs.Effect.{Effect, none_one, notes_stay, recs_on}
use Rattle.effects.specs.Cur.{Cur, Holds, cur_kept, holds_kept}
use Rattle.effects.specs.Alike.{Alike, used_row, alike_none}

-- ---- the step from one to the other, for every file, is a call that names none
module _ (G : Geometry) (img img' : Bytes) (a : Alike G img img') (map : Bytes) (good : Good G img map) where
  abbrev s : View
  s = view_of G img map

  abbrev t : View
  t = view_of G img' map

  pub alike_effect : (N : Names) → Effect G s t N
  alike_effect N = record {
    row = λ e f. used_row G img img' a e f.low f.uses;
    new = λ e l z. inl (alike_none G img img' a map e l z);
    one_new = none_one G s t (alike_none G img img' a map);
    dat = λ b k e l m f. recs_on G s good.inv b k e l m t a.recs;
  }

  -- what is current or holds stays so
  nobody : Names
  nobody r = false

  module _ (S : Sound G) (user : ℕ) (hu : user ≤ 15) (f : Bytes) (e : ℕ) where
    pub cur_alike : Cur G (view_of G img map) user f e → Cur G (view_of G img' map) user f e
    unfolding nobody
    cur_alike c = cur_kept S s t nobody user hu f (alike_effect nobody) (notes_stay G s t nobody (λ b h. refl)) (λ r h. refl) e c

    pub holds_alike : (rec : ℕ) (v : Bytes) → Holds G (view_of G img map) user f e rec v → Holds G (view_of G img' map) user f e rec v
    unfolding nobody
    holds_alike rec v h = holds_kept S s t nobody user hu f (alike_effect nobody) (notes_stay G s t nobody (λ b h. refl)) (λ r h. refl) e rec v h
