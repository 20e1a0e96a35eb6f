-- A record written through a current FCB, on bytes: one change, by any naming that has the FCB's entry.
use Rattle.std.specs.Prelude.{◌≡◌, true, ℕ, ◌%◌, ◌≤◌, ◌<◌, length}
use Rattle.std.proofs.Math.Path.{sym}
use Rattle.std.proofs.Common.{mod-lt, eq-eqb, ne_eqb}
use Rattle.std.proofs.Math.Logic.{inl, inr}
use Rattle.lists.specs.Cases.{split, eq_or_ne}
use Rattle.format.specs.Diskette.{Bytes, Geometry, Sound, record_bytes, with_record, extent_records}
use Rattle.format.specs.Entries.{entry_at, slot_of, slot_for_rule, extent_of}
use Rattle.format.specs.Notes.{note_at_rule}
use Rattle.format.specs.Fcb.{fcb_bytes}
use Rattle.disk.specs.Records.{record_left}
use Rattle.model.specs.Target.{place_in, written_map}
use Rattle.fields.specs.Target.{place_below, note_written_other}
use Rattle.invariant.specs.Good.{Good}
use Rattle.invariant.specs.Updates.{good_record, good_taken}
use Rattle.effects.specs.View.{view_of, Names, Mine, mine_one, mine_not_free}
use Rattle.effects.specs.Effect.{Foreign, not_entry, notes_stay}
use Rattle.effects.specs.Steps.{take_keeps}
use Rattle.effects.proofs.Steps.{put_effect}
use Rattle.effects.specs.Cur.{Cur, cur_uses}
use Rattle.effects.specs.Where.{in_record, record_or_same}
use Rattle.effects.specs.Book.{Book}
use Rattle.effects.specs.Tracks.{Tracks, same_tracks, taken_tracks}
use Rattle.effects.specs.Change.{Change}
use Rattle.effects.specs.Put.{ForSlot, put_book, put_real, put_mine, put_low, put_rows, same_notes, put_noted}

module _ {G : Geometry} (S : Sound G) (img map : Bytes) (g : Good G img map) (user : ℕ) (hu : user ≤ 15) (f : Bytes) (hf : length f ≡ fcb_bytes)
    (t : ℕ) (c : Cur G (view_of G img map) user f t) (r : ℕ) (hr : r < extent_records) (j : ℕ) (hj : j ≡ slot_for_rule G (extent_of f) r)
    (b : ℕ) (k : ForSlot G map (slot_of G f j) b) (buf : Bytes) (hb : length buf ≡ record_bytes) where
  put_good : Good G (with_record G img (place_in G b r) buf) (written_map G map f t j b)
  unfolding written_map
  put_good =
      let m : Good G img (written_map G map f t j b) = split (eq_or_ne (slot_of G f j) 0)
      (λ z. rw (eq-eqb (slot_of G f j) 0 z) (good_taken G img map g b t j k.below (k.free z) c.low (put_real S img map g user hu f hf t c r hr j hj b k buf hb) (cur_uses G (view_of G img map) user hu f t c)))
      (λ z. rw (ne_eqb (slot_of G f j) 0 z) g) in
      good_record S img (written_map G map f t j b) m b r (put_low S img map g user hu f hf t c r hr j hj b k buf hb) k.below buf hb

  put_tracks : (u : Book) → Tracks G u (note_at_rule map) → Tracks G (put_book G f t j b u) (note_at_rule (written_map G map f t j b))
  unfolding put_book
  put_tracks u tr =
      split (eq_or_ne (slot_of G f j) 0)
      (λ z. rw (eq-eqb (slot_of G f j) 0 z)
      (taken_tracks G u (note_at_rule map) (note_at_rule (written_map G map f t j b)) b t j (put_noted S img map g user hu f hf t c r hr j hj b k buf hb z) (λ x l n. note_written_other G map f t j b x n) tr))
      (λ z. rw (ne_eqb (slot_of G f j) 0 z) (same_tracks G u (note_at_rule map) (note_at_rule (written_map G map f t j b)) (λ x l. same_notes S img map g user hu f hf t c r hr j hj b k buf hb z x) tr))

  -- ---- the change
  module _ (N : Names) (nm : N (entry_at G img t) ≡ true) where
    -- the block is no other entry's
    not_theirs : (e : ℕ) → Foreign G (view_of G img map) N e → Mine G (view_of G img map) b e → ⊥
    not_theirs e o m =
        split (eq_or_ne (slot_of G f j) 0) (λ z. mine_not_free G (view_of G img map) g.inv b e m (k.free z))
        (λ z. not_entry (view_of G img map) N t e nm o.other (mine_one G (view_of G img map) g.inv b e t m (put_mine S img map g user hu f hf t c r hr j hj b k buf hb z)))

    pub put_change : (W : ℕ → Type 0) → W (place_in G b r)
        → Change G N W (put_book G f t j b) img map (with_record G img (place_in G b r) buf) (written_map G map f t j b)
    unfolding place_in
    put_change W w =
        let s = view_of G img map in
        let s' = view_of G (with_record G img (place_in G b r) buf) (written_map G map f t j b) in
        record {
          effect = put_effect G s s' N g.inv b (r % G.per_block) (mod-lt r S.some_record) (put_rows S img map g user hu f hf t c r hr j hj b k buf hb)
              (λ d p l n. record_left S img g.image_long (place_in G b r) (place_below S b r k.below) buf hb d l (λ z. n (sym z))) not_theirs;
          keeps = split (eq_or_ne (slot_of G f j) 0) (λ z. take_keeps G s s' N b (k.free z) (λ x l n. note_written_other G map f t j b x n))
              (λ z. notes_stay G s s' N (λ x l. same_notes S img map g user hu f hf t c r hr j hj b k buf hb z x));
          frame = λ i. split (record_or_same S img g.image_long (place_in G b r) (place_below S b r k.below) buf hb i) (λ q. inl q) (λ p. inr (in_record (place_in G b r) p w));
          aside = λ e l u z. put_rows S img map g user hu f hf t c r hr j hj b k buf hb e l;
          good = put_good;
          book = put_tracks;
        }
