-- One change of an image and a map by the own rule of a call that names N: what it may do, byte by byte too, that it leaves labels and date
-- entries alone and both image and map good, and what the book becomes. Changes follow one another, where one of the two makes no entry.
use Rattle.std.specs.Prelude.{◌≡◌, true, false, ℕ, ◌<◌}
use Rattle.std.proofs.Common.{ap, sym, ◌∙◌, inl, inr}
use Rattle.lists.specs.Cases.{split, bool_cases, not_both}
use Rattle.format.specs.Diskette.{Bytes, Geometry}
use Rattle.format.specs.Entries.{entry_at, empty, used}
use Rattle.format.specs.Notes.{note_at_rule}
use Rattle.invariant.specs.Good.{Good}
use Rattle.effects.specs.View.{view_of, Names}
use Rattle.effects.specs.Effect.{Effect, Keeps, NamesStay, AsideStay, more_effect, more_keeps}
use Rattle.effects.specs.Where.{Ruled, in_entry, in_new, in_record, RuleBytes, frame_more}
use Rattle.effects.specs.Book.{Book}
use Rattle.effects.specs.Tracks.{Tracks}

-- N names the rows, W allows the records that may be written, B is what the book becomes
pub record Change (G : Geometry) (N : Names) (W : ℕ → Type 0) (B : Book → Book) (img map img' map' : Bytes) : Type 0 where
  pub effect : Effect G (view_of G img map) (view_of G img' map') N
  pub keeps : Keeps G (view_of G img map) (view_of G img' map') N
  pub frame : RuleBytes G img img' N W
  pub aside : AsideStay G (view_of G img map) (view_of G img' map')
  pub good : Good G img' map'
  pub book : (u : Book) → Tracks G u (note_at_rule map) → Tracks G (B u) (note_at_rule map')

abbrev pub as_it_was : Book → Book
as_it_was u = u

-- ---- a byte that the first of two changes touched lies where it lay
module _ (G : Geometry) (N : Names) (img mid img' : Bytes) (W : ℕ → Type 0)
    (stay : (e : ℕ) → e < G.entries → N (entry_at G mid e) ≡ true → N (entry_at G img' e) ≡ true) where
  pub where_after : (i : ℕ) → Ruled G img mid N W i → Ruled G img img' N W i
  where_after i (in_entry e p n) = in_entry e p n
  where_after i (in_new e p z n) = in_new e p z (stay e p.low n)
  where_after i (in_record d p a) = in_record d p a

-- ---- where the bytes of the second lie, seen from before the first
module _ (G : Geometry) (N : Names) (img map mid mid_map img' : Bytes) (w : Effect G (view_of G img map) (view_of G mid mid_map) N)
    (a : AsideStay G (view_of G img map) (view_of G mid mid_map)) where
  -- an entry is named, or it is empty, or it stays: another file's, a label or a date entry
  data Was (e : ℕ) : Type 0 where
    theirs : N (entry_at G img e) ≡ true → Was e
    others : entry_at G mid e ≡ entry_at G img e → empty (entry_at G img e) ≡ false → Was e
    none : empty (entry_at G img e) ≡ true → Was e

  was : (e : ℕ) → e < G.entries → Was e
  was e l =
      split (bool_cases (N (entry_at G img e))) (λ n. theirs n)
      (λ n. split (bool_cases (empty (entry_at G img e))) (λ z. none z)
      (λ z. others (split (bool_cases (used (entry_at G img e))) (λ u. w.row e record { low = l; uses = u; other = n }) (λ u. a e l u z)) z))

  pub where_before : (W : ℕ → Type 0) → ((e : ℕ) → e < G.entries → N (entry_at G mid e) ≡ true → N (entry_at G img' e) ≡ true)
      → (i : ℕ) → Ruled G mid img' N W i → Ruled G img img' N W i
  where_before W stay i (in_entry e p n) = go (was e p.low)
    where
      go : Was e → Ruled G img img' N W i
      go (theirs y) = in_entry e p y
      go (others q f) = in_entry e p (sym (ap N q) ∙ n)
      go (none z) = in_new e p z (stay e p.low n)
  where_before W stay i (in_new e p z n) = go (was e p.low)
    where
      go : Was e → Ruled G img img' N W i
      go (theirs y) = in_entry e p y
      go (others q f) = not_both (empty (entry_at G mid e)) z (ap empty q ∙ f)
      go (none y) = in_new e p y n
  where_before W stay i (in_record d p a) = in_record d p a

  -- so one frame follows another
  pub then_frame : (W : ℕ → Type 0) → NamesStay G (view_of G mid mid_map) (view_of G img' mid_map) N
      → RuleBytes G img mid N W → RuleBytes G mid img' N W → RuleBytes G img img' N W
  then_frame W stay first second i =
      split (second i) (λ q. split (first i) (λ p. inl (q ∙ p)) (λ p. inr (where_after G N img mid img' W stay i p))) (λ p. inr (where_before W stay i p))

-- what names more, allows more records, and leaves an equal book
module _ (G : Geometry) (M N : Names) (U W : ℕ → Type 0) (A B : Book → Book) (img map img' map' : Bytes) where
  pub as_change : ((r : Bytes) → M r ≡ true → N r ≡ true) → ((d : ℕ) → U d → W d) → ((u : Book) (b : ℕ) → b < G.blocks → B u b ≡ A u b)
      → Change G M U A img map img' map' → Change G N W B img map img' map'
  as_change more wide same a = record {
    effect = more_effect G (view_of G img map) (view_of G img' map') M N more a.effect;
    keeps = more_keeps G (view_of G img map) (view_of G img' map') M N more a.keeps;
    frame = frame_more G img img' M N U W more wide a.frame;
    aside = a.aside;
    good = a.good;
    book = λ u t b h. same u b h ∙ a.book u t b h;
  }
