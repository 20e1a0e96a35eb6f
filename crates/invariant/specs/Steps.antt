-- The invariant where rows stay (whatever becomes of the records past the directory, and where a map is made anew or a block is
-- taken), and where an entry is made.
use Rattle.std.specs.Prelude.{◌≡◌, refl, true, false, ℕ, ◌<◌, eqb}
use Rattle.std.proofs.Common.{ap, sym, ◌∙◌, subst, inr, eqb-true}
use Rattle.std.proofs.lemmas.Bool.{eqb-false}
use Rattle.lists.specs.Cases.{split, eq_or_ne, not_both, clash}
use Rattle.format.specs.Diskette.{Geometry, Sound, slot_count, slots_on}
use Rattle.format.specs.Entries.{Rows, slot_of, used, empty}
use Rattle.format.specs.Dates.{is_dates, dates_right_rule}
use Rattle.format.specs.Notes.{free_note, pending_for, fresh_note_rule}
use Rattle.consistency.specs.Facts.{Fine, Stands, SameFile, Consistent}
use Rattle.consistency.specs.Reflect.{low_used, empty_elsewhere}
use Rattle.notes.specs.Free.{free_spare}
use Rattle.notes.specs.Right.{NoteOk, ok_pending, fresh_ok}
use Rattle.invariant.specs.Inv.{Inv}
use Rattle.invariant.specs.Carry.{stands_row, change_dir, note_on, dates_dir, dates_back, dates_forth, dates_used}

-- ---- the map alone
module _ (G : Geometry) (d : Rows) where
  -- log-in: the fresh map is right for any consistent directory
  pub fresh_inv : (m : ℕ → ℕ) → Consistent G d → ((b : ℕ) → b < G.blocks → m b ≡ fresh_note_rule G d b) → Inv G d m
  fresh_inv m c note = record { dir = c; map = λ b h. subst (NoteOk G d b) (sym (note b h)) (fresh_ok G d b) }

  -- a free block is taken for slot j of the used entry t
  pub take_inv : (m m' : ℕ → ℕ) → Inv G d m → (b t j : ℕ) → b < G.blocks → m b ≡ free_note → t < G.entries → j < slots_on G → used (d t) ≡ true
      → m' b ≡ pending_for t j → ((c : ℕ) → c < G.blocks → (c ≡ b → ⊥) → m' c ≡ m c) → Inv G d m'
  take_inv m m' v b t j low free ht hj u noted left = record {
    dir = v.dir;
    map = λ c h. split (eq_or_ne c b)
        (λ q. subst (λ (x : ℕ). NoteOk G d x (m' x)) (sym q) (ok_pending t j noted ht hj u (free_spare G d b (m b) (v.map b low) free)))
        (λ q. subst (NoteOk G d c) (sym (left c h q)) (v.map c h));
  }

-- ---- the rows stay, and so do the notes
module _ {G : Geometry} (S : Sound G) (d d' : Rows) (m m' : ℕ → ℕ) (v : Inv G d m) (rows : (k : ℕ) → k < G.entries → d' k ≡ d k) where
  back : (b e j : ℕ) → Stands G d' b e j → Stands G d b e j
  back b e j s = stands_row G d' d b e j (rows e s.entry) s

  forth : (b e j : ℕ) → Stands G d b e j → Stands G d' b e j
  forth b e j s = stands_row G d d' b e j (sym (rows e s.entry)) s

  pub keep_dir : Consistent G d'
  keep_dir =
      change_dir G d d' S v.dir (λ k. false) (λ k l p. rows k l) (λ k l p. clash (sym p)) (λ k l p. clash (sym p)) (λ k l p. clash (sym p))
      (λ b e j f k s u. v.dir.once_entry b e j f k (back b e j s) (back b f k u)) (λ b e j f k s u. v.dir.once_slot b e j f k (back b e j s) (back b f k u))
      (λ k f l h p. clash (sym p)) (λ k f l h p. clash (sym p))

  pub keep_inv : ((b : ℕ) → b < G.blocks → m' b ≡ m b) → Inv G d' m'
  keep_inv notes = record {
    dir = keep_dir;
    map = λ b h. note_on S d d' back forth (λ e l u. ap used (rows e l) ∙ u) b (m b) (m' b) (notes b h) (v.map b h);
  }

-- ---- date entries change, and stay right
pub dates_inv : {G : Geometry} (S : Sound G) (d d' : Rows) (m : ℕ → ℕ) → Inv G d m → ((k : ℕ) → k < G.entries → is_dates (d k) ≡ false → d' k ≡ d k)
    → ((k : ℕ) → k < G.entries → is_dates (d k) ≡ true → dates_right_rule (d' k) ≡ true) → Inv G d' m
dates_inv S d d' m v kept right = record {
  dir = dates_dir S d d' v.dir kept right;
  map = λ b h. note_on S d d' (dates_back S d d' v.dir kept right) (dates_forth S d d' v.dir kept right) (dates_used S d d' v.dir kept right) b (m b) (m b) refl (v.map b h);
}

-- ---- the empty entry t becomes a row without blocks, of a file and extent that no entry had
module _ {G : Geometry} (S : Sound G) (d d' : Rows) (m : ℕ → ℕ) (v : Inv G d m) (t : ℕ) (below : t < G.entries) (was : empty (d t) ≡ true)
    (there : (k : ℕ) → k < G.entries → (k ≡ t → ⊥) → d' k ≡ d k) (fine : Fine G (d' t)) (bare : (j : ℕ) → j < slot_count → slot_of G (d' t) j ≡ 0)
    (new : (k : ℕ) → k < G.entries → used (d k) ≡ true → SameFile G (d' t) (d k) → ⊥) where
  -- an entry in use is another
  elsewhere : (k : ℕ) → used (d k) ≡ true → k ≡ t → ⊥
  elsewhere k u q = empty_elsewhere d t k was u (sym q)

  made_back : (b e j : ℕ) → Stands G d' b e j → Stands G d b e j
  made_back b e j s =
      split (eq_or_ne e t) (λ q. absurd (s.real (sym s.is ∙ ap (λ (k : ℕ). slot_of G (d' k) j) q ∙ bare j s.place)))
      (λ q. stands_row G d' d b e j (there e s.entry q) s)

  made_forth : (b e j : ℕ) → Stands G d b e j → Stands G d' b e j
  made_forth b e j s = stands_row G d d' b e j (sym (there e s.entry (elsewhere e s.uses))) s

  made_dir : Consistent G d'
  made_dir =
      change_dir G d d' S v.dir (λ k. eqb k t) (λ k l p. there k l (eqb-false k t p))
      (λ k l p. inr (subst (λ (x : ℕ). empty (d x) ≡ true) (sym (eqb-true k t p)) was))
      (λ k l p u. subst (λ (x : ℕ). Fine G (d' x)) (sym (eqb-true k t p)) fine)
      (λ k l p u. not_both (used (d' k)) (subst (λ (x : ℕ). used (d' x) ≡ true) (sym (eqb-true k t p)) (low_used (d' t) fine.user)) u)
      (λ b e j f k s u. v.dir.once_entry b e j f k (made_back b e j s) (made_back b f k u))
      (λ b e j f k s u. v.dir.once_slot b e j f k (made_back b e j s) (made_back b f k u))
      (λ k f l h p q u w s. eqb-true k t p ∙ sym (eqb-true f t q))
      (λ k f l h p q u w s. new f h w (subst (λ (x : ℕ). SameFile G (d' x) (d f)) (eqb-true k t p) s))

  pub make_inv : Inv G d' m
  make_inv = record {
    dir = made_dir;
    map = λ b h. note_on S d d' made_back made_forth (λ e l u. ap used (there e l (elsewhere e u)) ∙ u) b (m b) (m b) refl (v.map b h);
  }
