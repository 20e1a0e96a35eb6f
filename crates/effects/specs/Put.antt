-- A record written through a current FCB, on bytes: one change, by any naming that has the FCB's entry; and what the FCB reads then.
use Rattle.std.specs.Prelude.{◌≡◌, ◌⊎◌, true, cond, ℕ, ◌*◌, ◌%◌, ◌≤◌, ◌<◌, eqb, length}
use Rattle.std.proofs.Math.Path.{ap, sym, subst}
use Rattle.std.proofs.Common.{◌∙◌, arith}
use Rattle.std.proofs.Math.Logic.{inl, inr}
use Rattle.lists.specs.Cases.{split, eq_or_ne}
use Rattle.format.specs.Diskette.{Bytes, Geometry, Sound, record_bytes, record_at, with_record, slot_count, slots_on, extent_records}
use Rattle.format.specs.Entries.{entry_at, slot_of, slot_for_rule, extent_of, is_file_rule}
use Rattle.format.specs.Notes.{free_note, note_at_rule, pending_for}
use Rattle.format.specs.Fcb.{fcb_bytes, fcb_right_rule}
use Rattle.notes.specs.Numbers.{pending_not}
use Rattle.disk.specs.Records.{record_written}
use Rattle.rows.specs.Entries.{block_past, entry_kept}
use Rattle.facts.specs.Slots.{slot_for_below, slots_on_high}
use Rattle.model.specs.Target.{place_in, written_map, written_fcb}
use Rattle.fields.specs.Agree.{is_file_asked}
use Rattle.fields.specs.Target.{place_below, name_written, extent_written, slot_written, slot_written_other, target_counted, map_written_kept, note_written, note_written_other}
use Rattle.invariant.specs.Close.{Held}
use Rattle.invariant.specs.Good.{Good}
use Rattle.effects.specs.View.{view_of, Names, Mine, mine_low, spare_free}
use Rattle.effects.specs.Effect.{NamesStay}
use Rattle.effects.specs.Steps.{rows_names_stay}
use Rattle.effects.specs.Cur.{Cur, cur_mine, cur_zero, Holds, rec_slot}
use Rattle.effects.specs.Book.{Book, entered_for}

-- the block b for a slot: a free one where the slot is 0, else the slot's own
pub record ForSlot (G : Geometry) (map : Bytes) (slot b : ℕ) : Type 0 where
  pub below : b < G.blocks
  pub free : slot ≡ 0 → note_at_rule map b ≡ free_note
  pub own : (slot ≡ 0 → ⊥) → slot ≡ b

-- the book of a write: what a slot of 0 took is entered
unfoldable pub put_book : Geometry → Bytes → ℕ → ℕ → ℕ → Book → Book
put_book G f t j b u = cond (eqb (slot_of G f j) 0) (entered_for b t j u) u

module _ {G : Geometry} (S : Sound G) (img map : Bytes) (g : Good G img map) (user : ℕ) (hu : user ≤ 15) (f : Bytes) (hf : length f ≡ fcb_bytes)
    (t : ℕ) (c : Cur G (view_of G img map) user f t) (r : ℕ) (hr : r < extent_records) (j : ℕ) (hj : j ≡ slot_for_rule G (extent_of f) r)
    (b : ℕ) (k : ForSlot G map (slot_of G f j) b) (buf : Bytes) (hb : length buf ≡ record_bytes) where
  pub put_real : j < slots_on G
  put_real = rw hj (slot_for_below S (extent_of f) r hr)

  pub put_slot : j < slot_count
  put_slot = omega (arith, put_real, slots_on_high G)

  -- a block that the slot has is the entry's
  pub put_mine : (slot_of G f j ≡ 0 → ⊥) → Mine G (view_of G img map) b t
  put_mine z = subst (λ (x : ℕ). Mine G (view_of G img map) x t) (k.own z) (cur_mine G (view_of G img map) user hu f t c j put_slot z)

  pub put_low : G.area ≤ b
  put_low =
      split (eq_or_ne (slot_of G f j) 0) (λ z. (spare_free G (view_of G img map) g.inv b k.below (k.free z)).past)
      (λ z. mine_low G (view_of G img map) g.inv b t (put_mine z))

  place : place_in G b r < G.per_block * G.blocks
  place = place_below S b r k.below

  pub put_rows : (e : ℕ) → e < G.entries → entry_at G (with_record G img (place_in G b r) buf) e ≡ entry_at G img e
  unfolding place_in
  put_rows e l = entry_kept S img g.image_long (place_in G b r) (block_past G b (r % G.per_block) put_low) place buf hb e l

  -- ---- the notes
  pub same_notes : (slot_of G f j ≡ 0 → ⊥) → (x : ℕ) → note_at_rule (written_map G map f t j b) x ≡ note_at_rule map x
  same_notes z x = ap (λ (m : Bytes). note_at_rule m x) (map_written_kept G map f t j b z)

  pub put_noted : slot_of G f j ≡ 0 → note_at_rule (written_map G map f t j b) b ≡ pending_for t j
  put_noted z = note_written G map f t j b z (let w = g.map_long in let l = k.below in omega arith)

  -- ---- the change
  module _ (N : Names) (nm : N (entry_at G img t) ≡ true) where
    pub put_stay : NamesStay G (view_of G img map) (view_of G (with_record G img (place_in G b r) buf) (written_map G map f t j b)) N
    put_stay = rows_names_stay G (view_of G img map) (view_of G (with_record G img (place_in G b r) buf) (written_map G map f t j b)) N put_rows

  -- ---- the FCB afterwards, with the entry's count and cr as they are given
  module _ (count cr : ℕ) (right : fcb_right_rule (written_fcb G f count j b r cr) ≡ true) where
    Fits : ℕ → Type 0
    Fits i = (slot_of G (written_fcb G f count j b r cr) i ≡ slot_of G (entry_at G (with_record G img (place_in G b r) buf) t) i)
        ⊎ Held G (entry_at G (with_record G img (place_in G b r) buf)) (note_at_rule (written_map G map f t j b)) t i (slot_of G (written_fcb G f count j b r cr) i)

    -- a slot that stays, with notes that stay where they are pending
    stays_fit : (i : ℕ) → i < slot_count → slot_of G (written_fcb G f count j b r cr) i ≡ slot_of G f i → Fits i
    unfolding Fits
    stays_fit i l q =
        let row = put_rows t c.low in
        split (c.fits i l) (λ p. inl (q ∙ p ∙ sym (ap (λ (x : Bytes). slot_of G x i) row)))
        (λ h. inr (subst (Held G (entry_at G (with_record G img (place_in G b r) buf)) (note_at_rule (written_map G map f t j b)) t i) (sym q) record {
          was = ap (λ (x : Bytes). slot_of G x i) row ∙ h.was;
          low = h.low;
          noted = kept (slot_of G f i) i h.noted;
        }))
      where
        kept : (x i : ℕ) → note_at_rule map x ≡ pending_for t i → note_at_rule (written_map G map f t j b) x ≡ pending_for t i
        kept x i p =
            split (eq_or_ne (slot_of G f j) 0)
            (λ z. note_written_other G map f t j b x (λ y. pending_not free_note (omega arith) t i (sym p ∙ ap (note_at_rule map) y ∙ k.free z)) ∙ p)
            (λ z. same_notes z x ∙ p)

    -- the slot of the record
    here_fits : Fits j
    unfolding Fits
    here_fits =
        let w = slot_written G f count j b r cr put_real hf in
        split (eq_or_ne (slot_of G f j) 0)
        (λ z. inr (subst (Held G (entry_at G (with_record G img (place_in G b r) buf)) (note_at_rule (written_map G map f t j b)) t j) (sym w) record {
          was = ap (λ (x : Bytes). slot_of G x j) (put_rows t c.low) ∙ cur_zero G (view_of G img map) user hu f t c j put_slot z;
          low = k.below;
          noted = put_noted z;
        }))
        (λ z. stays_fit j put_slot (w ∙ sym (k.own z)))

    pub put_cur : Cur G (view_of G (with_record G img (place_in G b r) buf) (written_map G map f t j b)) user (written_fcb G f count j b r cr) t
    unfolding Fits
    put_cur =
        let w : Bytes = written_fcb G f count j b r cr in
        record {
          right = right;
          low = c.low;
          file = ap (is_file_rule G user w 1 (extent_of w)) (put_rows t c.low)
              ∙ is_file_asked w 1 f 1 (name_written G f count j b r cr put_real) G user (extent_of w) (entry_at G img t)
              ∙ ap (λ (x : ℕ). is_file_rule G user f 1 x (entry_at G img t)) (extent_written G f count j b r cr put_real) ∙ c.file;
          fits = λ i l. split (eq_or_ne i j) (λ q. subst Fits (sym q) here_fits)
              (λ q. stays_fit i l (slot_written_other G f count j b r cr put_real i q));
        }

    pub put_holds : Holds G (view_of G (with_record G img (place_in G b r) buf) (written_map G map f t j b)) user (written_fcb G f count j b r cr) t r buf
    put_holds =
        let w : Bytes = written_fcb G f count j b r cr in
        let i : slot_for_rule G (extent_of w) r ≡ j = ap (λ (x : ℕ). slot_for_rule G x r) (extent_written G f count j b r cr put_real) ∙ sym hj in
        let q : rec_slot G w r ≡ b = ap (slot_of G w) i ∙ slot_written G f count j b r cr put_real hf in
        record {
          cur = put_cur;
          inside = hr;
          real = λ z. omega (arith, put_low, S.area_some);
          counted = target_counted G f count j b r cr put_real hf hr;
          dat = ap (λ (x : ℕ). record_at G (with_record G img (place_in G b r) buf) (place_in G x r)) q
              ∙ record_written S img g.image_long (place_in G b r) place buf hb;
        }
