-- A close, on bytes: one change, by the name of its FCB.
use Rattle.std.specs.Prelude.{◌≡◌, ◌⊎◌, ℕ, ◌≤◌, ◌<◌, length, get_or}
use Rattle.std.proofs.Common.{ap, sym, ◌∙◌, inl, inr, arith}
use Rattle.lists.specs.Cases.{split}
use Rattle.format.specs.Diskette.{Bytes, Geometry, Sound, entry_bytes}
use Rattle.format.specs.Entries.{entry_at}
use Rattle.format.specs.Notes.{note_at_rule, pending_for}
use Rattle.rows.specs.Entries.{length_entry_at}
use Rattle.model.specs.Closing.{closed_row_rule, closed_image, closed_map}
use Rattle.fields.specs.Closing.{Takes, length_closed_row, note_closed_cases}
use Rattle.fields.specs.Images.{closed_stored, row_closed_image_other, record_closed_image}
use Rattle.invariant.specs.Good.{Good}
use Rattle.invariant.specs.CloseGood.{good_closed}
use Rattle.effects.specs.View.{view_of}
use Rattle.effects.specs.Effect.{not_entry}
use Rattle.effects.specs.Steps.{named_aside, keeps_by, held_named}
use Rattle.effects.proofs.Steps.{one_effect}
use Rattle.effects.specs.Cur.{Cur, cur_facts, cur_named}
use Rattle.effects.specs.Where.{in_entry, entry_or_same}
use Rattle.effects.specs.Book.{settled_by}
use Rattle.effects.specs.Tracks.{closed_tracks}
use Rattle.effects.specs.Change.{Change}
use Rattle.effects.specs.Closed.{by_name, by_name_used}

module _ {G : Geometry} (S : Sound G) (img map : Bytes) (g : Good G img map) (user : ℕ) (hu : user ≤ 15) (fcb : Bytes) (e : ℕ)
    (c : Cur G (view_of G img map) user fcb e) where
  long : length (entry_at G img e) ≡ entry_bytes
  long = length_entry_at S img g.image_long e c.low

  whole : length (closed_row_rule G (entry_at G img e) fcb) ≡ entry_bytes
  whole = length_closed_row G (entry_at G img e) fcb long

  -- a block that the close takes was pending for its entry
  taken_noted : (b : ℕ) (t : Takes G (entry_at G img e) fcb b) → note_at_rule map b ≡ pending_for e t.slot
  taken_noted b t =
      split (c.fits t.slot t.below) (λ q. absurd (t.some (sym t.is ∙ q ∙ t.was))) (λ h. sym (ap (note_at_rule map) t.is) ∙ h.noted)

  -- each note stays, or was pending for the entry
  closed_notes : (b : ℕ) → b < G.blocks → (note_at_rule (closed_map G (entry_at G img e) fcb map) b ≡ note_at_rule map b) ⊎ Takes G (entry_at G img e) fcb b
  closed_notes b l =
      split (note_closed_cases G (entry_at G img e) fcb map b (let w = g.map_long in omega arith)) (λ p. inr p.0) (λ p. inl p.1)

  pub closed_change : (W : ℕ → Type 0)
      → Change G (by_name user fcb) W (settled_by G (entry_at G img e) fcb) img map (closed_image G img e fcb) (closed_map G (entry_at G img e) fcb map)
  closed_change W =
      let s = view_of G img map in
      let t = view_of G (closed_image G img e fcb) (closed_map G (entry_at G img e) fcb map) in
      let nm = cur_named G s user hu fcb e c in
      record {
        effect = one_effect G s t (by_name user fcb) g.inv (record_closed_image S img g.image_long e c.low fcb) e
            (row_closed_image_other S img g.image_long e c.low fcb) (by_name_used G img map user fcb hu) nm;
        keeps = keeps_by G s t (by_name user fcb)
            (λ b l. split (closed_notes b l) (λ q. inl q) (λ t. inr (held_named s (by_name user fcb) b e t.slot t.below nm (taken_noted b t))));
        frame = λ i. split (entry_or_same S img g.image_long e c.low (closed_row_rule G (entry_at G img e) fcb) whole i)
            (λ q. inl (ap (λ (x : Bytes). get_or x i 0) (closed_stored S img g.image_long e c.low fcb) ∙ q)) (λ p. inr (in_entry e p nm));
        aside = named_aside G s t (by_name user fcb) (by_name_used G img map user fcb hu)
            (λ k l n. row_closed_image_other S img g.image_long e c.low fcb k l (not_entry s (by_name user fcb) e k nm n));
        good = good_closed S img map g user hu fcb e (cur_facts G img map user fcb e g.inv.dir hu c);
        book = λ u tr. closed_tracks G u (entry_at G img e) fcb map g.map_long tr;
      }
