-- Where nothing is done nothing changes, and changes follow one another, where one of the two makes no entry.
use Rattle.std.specs.Prelude.{refl, ◌⊎◌, ℕ}
use Rattle.std.proofs.Common.{ap, ◌∙◌, inl}
use Rattle.format.specs.Diskette.{Bytes, Geometry}
use Rattle.format.specs.Entries.{empty, used}
use Rattle.invariant.specs.Good.{Good}
use Rattle.effects.specs.View.{view_of, Names}
use Rattle.effects.specs.Effect.{NamesStay, NoneNew, nothing_kept, then_keeps}
use Rattle.effects.proofs.Effect.{nothing_done, then_effect}
use Rattle.effects.specs.Book.{Book}
use Rattle.effects.specs.Change.{Change, as_it_was, then_frame}

pub no_change : (G : Geometry) (N : Names) (W : ℕ → Type 0) (img map : Bytes) → Good G img map → Change G N W as_it_was img map img map
no_change G N W img map g = record {
  effect = nothing_done G (view_of G img map) N;
  keeps = nothing_kept G (view_of G img map) N;
  frame = λ i. inl refl;
  aside = λ e l u z. refl;
  good = g;
  book = λ u t. t;
}

module _ (G : Geometry) (N : Names) (W : ℕ → Type 0) (B C : Book → Book) (img map mid mid_map img' map' : Bytes) where
  pub then_change : Change G N W B img map mid mid_map → Change G N W C mid mid_map img' map'
      → NamesStay G (view_of G mid mid_map) (view_of G img' map') N
      → NoneNew G (view_of G img map) (view_of G mid mid_map) ⊎ NoneNew G (view_of G mid mid_map) (view_of G img' map')
      → Change G N W (λ (u : Book). C (B u)) img map img' map'
  then_change a b stay made = record {
    effect = then_effect G (view_of G img map) (view_of G mid mid_map) N a.effect a.keeps (view_of G img' map') b.effect stay made;
    keeps = then_keeps G (view_of G img map) (view_of G mid mid_map) N a.effect a.keeps (view_of G img' map') b.keeps;
    frame = then_frame G N img map mid mid_map img' a.effect a.aside W stay a.frame b.frame;
    aside = λ e l u z. let q = a.aside e l u z in b.aside e l (ap used q ∙ u) (ap empty q ∙ z) ∙ q;
    good = b.good;
    book = λ u t. b.book (B u) (a.book u t);
  }
