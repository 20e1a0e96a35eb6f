-- 19 and 23, on bytes: rows that a name picks become empty or get another name. Each is one change.
use Rattle.std.specs.Prelude.{◌≡◌, refl, ◌⊎◌, Bool, true, false, ℕ, ◌≤◌, ◌<◌, length}
use Rattle.std.proofs.Common.{ap, sym, ◌∙◌, arith}
use Rattle.std.proofs.Math.Logic.{inl, inr}
use Rattle.lists.specs.Cases.{split, bool_cases}
use Rattle.format.specs.Diskette.{Bytes, Geometry, Sound, entry_bytes, slot_count}
use Rattle.format.specs.Names.{name_right_rule}
use Rattle.format.specs.Entries.{entry_at, named}
use Rattle.format.specs.Notes.{free_note, area_note, recorded_note, note_at_rule, pending_for, released_note, released_map}
use Rattle.freeing.specs.Laws.{released_at}
use Rattle.notes.specs.Numbers.{pending_not}
use Rattle.notes.specs.Right.{NoteOk, ok_area, ok_recorded, ok_free, ok_pending}
use Rattle.model.specs.Calls.{changed_rows, erased_row}
use Rattle.model.specs.Entering.{renamed_row_rule}
use Rattle.fields.specs.Changing.{row_unpicked, record_changed_rows, length_erased_row}
use Rattle.fields.specs.Making.{length_renamed_row}
use Rattle.consistency.specs.Naming.{named_used}
use Rattle.invariant.specs.Change.{released_kept}
use Rattle.invariant.specs.Good.{Good}
use Rattle.invariant.specs.Updates.{good_erased, good_renamed}
use Rattle.facts.specs.Slots.{slot_place}
use Rattle.effects.specs.View.{view_of, Names}
use Rattle.effects.specs.Effect.{Effect, RecsStay, notes_stay}
use Rattle.effects.specs.Steps.{NamesUsed, keeps_by, held_named}
use Rattle.effects.proofs.Steps.{named_effect}
use Rattle.effects.specs.Book.{dropped_for}
use Rattle.effects.specs.Tracks.{spare_unpicked, erased_tracks}
use Rattle.effects.specs.Change.{Change, as_it_was}
use Rattle.effects.specs.Closed.{by_name}
use Rattle.effects.specs.Picked.{picked_aside, picked_frame}

-- ---- rows that a test picks are changed
module _ {G : Geometry} (S : Sound G) (picks : Names) (change : Bytes → Bytes) (keeps : (r : Bytes) → length r ≡ entry_bytes → length (change r) ≡ entry_bytes)
    (img map map' : Bytes) (g : Good G img map) (sure : NamesUsed G (view_of G img map) picks) where
  recs : RecsStay G (view_of G img map) (view_of G (changed_rows G picks change img) map')
  recs d p b = record_changed_rows S picks change keeps img g.image_long d p b

  pub picked_effect : Effect G (view_of G img map) (view_of G (changed_rows G picks change img) map') picks
  picked_effect =
      named_effect G (view_of G img map) (view_of G (changed_rows G picks change img) map') picks g.inv recs sure
      (λ e l n. row_unpicked S picks change keeps img g.image_long e l n)

-- ---- 19
module _ {G : Geometry} (S : Sound G) (picks : Names) (img map : Bytes) (g : Good G img map) (sure : NamesUsed G (view_of G img map) picks) where
  picked : ℕ → Bool
  picked e = picks (entry_at G img e)

  -- a note that changes was not pending for an entry that stays
  erased_note : (b : ℕ) → b < G.blocks
      → (note_at_rule (released_map G (entry_at G img) (λ (e : ℕ). picks (entry_at G img e)) map) b ≡ note_at_rule map b)
      ⊎ ((e j : ℕ) → j < slot_count → note_at_rule map b ≡ pending_for e j → picks (entry_at G img e) ≡ true)
  erased_note b h = go (g.inv.map b h)
    where
      go : NoteOk G (entry_at G img) b (note_at_rule map b) → (note_at_rule (released_map G (entry_at G img) (λ (e : ℕ). picks (entry_at G img e)) map) b ≡ note_at_rule map b)
          ⊎ ((e j : ℕ) → j < slot_count → note_at_rule map b ≡ pending_for e j → picks (entry_at G img e) ≡ true)
      go (ok_area q a) = inr (λ e j l p. absurd (pending_not area_note (omega arith) e j (sym p ∙ q)))
      go (ok_recorded q a y) = inr (λ e j l p. absurd (pending_not recorded_note (omega arith) e j (sym p ∙ q)))
      go (ok_free q x) = inr (λ e j l p. absurd (pending_not free_note (omega arith) e j (sym p ∙ q)))
      go (ok_pending e j q l i u x) =
          split (bool_cases (picks (entry_at G img e)))
          (λ y. inr (held_named (view_of G img map) picks b e j (slot_place G i) y q))
          (λ y. inl (released_at G (entry_at G img) (λ (k : ℕ). picks (entry_at G img k)) map b h ∙ ap (released_note G (entry_at G img) (λ (k : ℕ). picks (entry_at G img k)) b) q
          ∙ released_kept G (entry_at G img) (λ (k : ℕ). picks (entry_at G img k)) b e j (slot_place G i)
          (spare_unpicked G (entry_at G img) (λ (k : ℕ). picks (entry_at G img k)) b x.unlisted) y ∙ sym q))

  pub erased_change : (W : ℕ → Type 0)
      → Change G picks W (dropped_for (λ (e : ℕ). picks (entry_at G img e))) img map
      (changed_rows G picks erased_row img) (released_map G (entry_at G img) (λ (e : ℕ). picks (entry_at G img e)) map)
  erased_change W =
      let map' = released_map G (entry_at G img) (λ (e : ℕ). picks (entry_at G img e)) map in
      record {
        effect = picked_effect S picks erased_row length_erased_row img map map' g sure;
        keeps = keeps_by G (view_of G img map) (view_of G (changed_rows G picks erased_row img) map') picks erased_note;
        frame = picked_frame S picks erased_row length_erased_row img map map' g sure W;
        aside = picked_aside S picks erased_row length_erased_row img map map' g sure;
        good = good_erased S img map g picks sure;
        book = λ u t. erased_tracks G (entry_at G img) (note_at_rule map) (note_at_rule map') u g.inv (λ (e : ℕ). picks (entry_at G img e))
            (λ b h. released_at G (entry_at G img) (λ (e : ℕ). picks (entry_at G img e)) map b h) t;
      }

-- ---- 23
pub renamed_change : {G : Geometry} (S : Sound G) (img map : Bytes) (g : Good G img map) (user : ℕ) → user ≤ 15 → (fcb : Bytes) → name_right_rule false fcb 17 ≡ true
    → ((k : ℕ) → k < G.entries → named false user fcb 17 (entry_at G img k) ≡ false) → (W : ℕ → Type 0)
    → Change G (by_name user fcb) W as_it_was img map (changed_rows G (by_name user fcb) (renamed_row_rule fcb) img) map
renamed_change {G} S img map g user hu fcb right new W =
    let sure : NamesUsed G (view_of G img map) (by_name user fcb) = λ e l n. named_used false user fcb 1 (entry_at G img e) n hu in
    let keeps : (r : Bytes) → length r ≡ entry_bytes → length (renamed_row_rule fcb r) ≡ entry_bytes = λ r h. length_renamed_row fcb r h in
    record {
      effect = picked_effect S (by_name user fcb) (renamed_row_rule fcb) keeps img map map g sure;
      keeps = notes_stay G (view_of G img map) (view_of G (changed_rows G (by_name user fcb) (renamed_row_rule fcb) img) map) (by_name user fcb) (λ b h. refl);
      frame = picked_frame S (by_name user fcb) (renamed_row_rule fcb) keeps img map map g sure W;
      aside = picked_aside S (by_name user fcb) (renamed_row_rule fcb) keeps img map map g sure;
      good = good_renamed S img map g user hu fcb right new;
      book = λ u t. t;
    }
