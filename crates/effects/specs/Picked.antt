-- 19, 22 and 23, on bytes: rows that a name picks become empty or get another name, and an empty entry becomes a file's. Each is one
-- change.
use Rattle.std.specs.Prelude.{◌≡◌, refl, ◌⊎◌, Bool, true, false, ℕ, ◌+◌, ◌≤◌, ◌<◌, leb, ltb, length}
use Rattle.std.proofs.Common.{ap, sym, ◌∙◌}
use Rattle.std.proofs.Math.Logic.{inl, inr}
use borrow.Author.Tests.{leb-true, ltb-true, le-leb, lt-ltb}
use Rattle.lists.specs.Cases.{split, bool_cases, lt_or_le, not_both}
use Rattle.lists.specs.Tests.{◌and◌, and_left, and_right, and_both}
use Rattle.lists.specs.Below.{any_below, any_some, any_never}
use Rattle.format.specs.Diskette.{Bytes, Geometry, Sound, entry_bytes, slot_count}
use Rattle.format.specs.Entries.{entry_at, with_entry, entry_place_rule, slot_of, empty, is_file_rule}
use Rattle.rows.specs.Entries.{entry_stored, entry_left, record_kept}
use Rattle.model.specs.Calls.{changed_rows}
use Rattle.fields.specs.Changing.{row_unpicked, byte_changed_rows}
use Rattle.consistency.specs.Facts.{Fine}
use Rattle.invariant.specs.Good.{Good}
use Rattle.invariant.specs.Updates.{good_made}
use Rattle.effects.specs.View.{view_of, Names}
use Rattle.effects.specs.Effect.{RecsStay, NamesStay, AsideStay, notes_stay}
use Rattle.effects.specs.Steps.{NamesUsed, named_aside, made_effect, made_aside, made_stay}
use Rattle.effects.specs.Where.{in_entry, in_new, RuleBytes, entry_or_same}
use Rattle.effects.specs.Change.{Change, as_it_was}

-- ---- rows that a test picks are changed
module _ {G : Geometry} (S : Sound G) (picks : Names) (change : Bytes → Bytes) (keeps : (r : Bytes) → length r ≡ entry_bytes → length (change r) ≡ entry_bytes)
    (img map map' : Bytes) (g : Good G img map) (sure : NamesUsed G (view_of G img map) picks) where
  after : Bytes
  after = changed_rows G picks change img

  pub picked_aside : AsideStay G (view_of G img map) (view_of G (changed_rows G picks change img) map')
  unfolding after
  picked_aside =
      named_aside G (view_of G img map) (view_of G after map') picks sure (λ e l n. row_unpicked S picks change keeps img g.image_long e l n)

  -- byte i lies in entry e, which is picked
  hit : ℕ → ℕ → Bool
  hit i e = picks (entry_at G img e) and leb (entry_place_rule G e) i and ltb i (entry_place_rule G e + entry_bytes)

  outside : (i e : ℕ) → hit i e ≡ false → picks (entry_at G img e) ≡ true → (i < entry_place_rule G e) ⊎ (entry_place_rule G e + entry_bytes ≤ i)
  unfolding hit
  outside i e f p =
      split (lt_or_le i (entry_place_rule G e)) (λ h. inl h)
      (λ h. split (lt_or_le i (entry_place_rule G e + entry_bytes))
      (λ w. not_both (hit i e) (and_both _ _ p (and_both _ _ (le-leb _ _ h) (lt-ltb _ _ w))) f) (λ w. inr w))

  pub picked_frame : (W : ℕ → Type 0) → RuleBytes G img (changed_rows G picks change img) picks W
  unfolding hit
  picked_frame W i =
      split (bool_cases (any_below (hit i) G.entries))
      (λ t. let x = any_some (hit i) G.entries t in
      let q = and_right _ _ x.holds in
      inr (in_entry x.place record { low = x.below; from = leb-true _ _ (and_left _ _ q); upto = ltb-true _ _ (and_right _ _ q) } (and_left _ _ x.holds)))
      (λ f. inl (byte_changed_rows S picks change keeps img g.image_long i (λ e l p. outside i e (any_never (hit i) G.entries f e l) p)))

-- ---- an empty entry becomes a row that is named: 22, and moves that make an entry
module _ {G : Geometry} (S : Sound G) (N : Names) (img map : Bytes) (g : Good G img map) (t : ℕ) (low : t < G.entries) (void : empty (entry_at G img t) ≡ true)
    (row : Bytes) (whole : length row ≡ entry_bytes) (nm : N row ≡ true) where
  pub made_here : entry_at G (with_entry G img t row) t ≡ row
  made_here = entry_stored S img g.image_long t low row whole

  made_there : (k : ℕ) → k < G.entries → (k ≡ t → ⊥) → entry_at G (with_entry G img t row) k ≡ entry_at G img k
  made_there k h q = entry_left S img g.image_long t low row whole k h (λ z. q (sym z))

  made_recs : RecsStay G (view_of G img map) (view_of G (with_entry G img t row) map)
  made_recs d p b = record_kept S img g.image_long t low row whole d p b

  made_named : N (entry_at G (with_entry G img t row) t) ≡ true
  made_named = ap N made_here ∙ nm

  pub made_names_stay : NamesStay G (view_of G img map) (view_of G (with_entry G img t row) map) N
  made_names_stay = made_stay G (view_of G img map) (view_of G (with_entry G img t row) map) N g.inv made_recs t made_there void made_named

  -- the row is fine and without blocks, of a file and extent that no entry has
  pub made_change : Fine G row → ((j : ℕ) → j < slot_count → slot_of G row j ≡ 0) → (user : ℕ) (s : Bytes) (q ext : ℕ) → is_file_rule G user s q ext row ≡ true
      → ((k : ℕ) → k < G.entries → is_file_rule G user s q ext (entry_at G img k) ≡ false) → (W : ℕ → Type 0) → Change G N W as_it_was img map (with_entry G img t row) map
  made_change fine bare user s q ext is new W = record {
    effect = made_effect G (view_of G img map) (view_of G (with_entry G img t row) map) N g.inv made_recs t made_there void made_named;
    keeps = notes_stay G (view_of G img map) (view_of G (with_entry G img t row) map) N (λ b h. refl);
    frame = λ i. split (entry_or_same S img g.image_long t low row whole i) (λ q. inl q) (λ p. inr (in_new t p void made_named));
    aside = made_aside G (view_of G img map) (view_of G (with_entry G img t row) map) t void made_there;
    good = good_made S img map g t low void row whole fine bare user s q ext is new;
    book = λ u tr. tr;
  }
