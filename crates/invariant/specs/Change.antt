-- The invariant where picked rows change and the others stay: the picked entries become empty and their blocks free, or they get
-- another name and nothing else.
use Rattle.std.specs.Prelude.{◌≡◌, refl, Bool, ℕ, ◌*◌, ◌+◌, ◌/◌, ◌%◌, ◌≤◌, ◌<◌}
use Rattle.std.proofs.Math.Path.{ap}
use Rattle.std.proofs.Common.{sym, ◌∙◌, subst, inl, arith}
use Rattle.std.proofs.Math.Bool.{true, false, not}
use Rattle.std.proofs.Math.Dec.{eqb}
use borrow.Author.Tests.{eqb-true, eqb-false, eq-eqb, ne_eqb, not-true}
use Rattle.lists.specs.Cases.{split, bool_cases, not_both, refute}
use Rattle.lists.specs.Tests.{◌and◌, and_left, and_right, and_both, and_then, and_fails_left, or_left, or_right, or_then}
use Rattle.lists.specs.Below.{SomeBelow, any_some, any_at}
use Rattle.format.specs.Diskette.{Bytes, Geometry, Sound, slot_count}
use Rattle.format.specs.Names.{name_like_rule}
use Rattle.format.specs.Entries.{Rows, user_of, slot_of, used, empty, extent_of, run_of}
use Rattle.format.specs.Consistent.{listed, slots_in_all}
use Rattle.format.specs.Notes.{free_note, is_pending, pending_entry, pending_for, is_listed, listed_by, held_for_rule, released_note}
use Rattle.facts.specs.Slots.{slot_place}
use Rattle.consistency.specs.Facts.{Fine, Stands, SameFile, Consistent}
use Rattle.consistency.specs.Listed.{stands_at, stands_place, stands_listed, listed_somewhere, somewhere_listed}
use Rattle.consistency.specs.Reflect.{used_full, low_used}
use Rattle.notes.specs.Numbers.{pending_is, pending_entry_law, settled_not}
use Rattle.notes.specs.Right.{Spare, NoteOk, ok_area, ok_recorded, ok_free, ok_pending}
use Rattle.invariant.specs.Inv.{Inv}
use Rattle.invariant.specs.Carry.{past_real, unlisted_never, never_unlisted, stands_row, change_dir, spare_on, note_on}

-- ---- the blocks of picked entries
-- a block stands in a picked entry
pub record PickedAt (G : Geometry) (d : Rows) (picked : ℕ → Bool) (b : ℕ) : Type 0 where
  pub e : ℕ
  pub j : ℕ
  pub stands : Stands G d b e j
  pub is : picked e ≡ true

module _ (G : Geometry) (d : Rows) (picked : ℕ → Bool) (b : ℕ) where
  pub picked_listed : (e j : ℕ) → Stands G d b e j → picked e ≡ true → listed_by G d picked b ≡ true
  unfolding listed_by
  picked_listed e j s p =
      let q : (slot_count * e + j) / slot_count ≡ e = (let l = s.place in omega arith) in
      and_both _ _ (ap not (ne_eqb b 0 s.real))
      (any_at (λ (x : ℕ). picked (x / slot_count) and eqb (listed G d x) b) (slots_in_all G) (slot_count * e + j) (stands_place G d b e j s)
      (and_both _ _ (ap picked q ∙ p) (eq-eqb _ _ (stands_listed G d b e j s))))

  pub listed_picked : listed_by G d picked b ≡ true → PickedAt G d picked b
  unfolding listed_by
  listed_picked t =
      let s : SomeBelow (λ (x : ℕ). picked (x / slot_count) and eqb (listed G d x) b) (slots_in_all G) = any_some _ (slots_in_all G) (and_right _ _ t) in
      let r : b ≡ 0 → ⊥ = eqb-false b 0 (not-true _ (and_left _ _ t)) in
      record {
        e = s.place / slot_count;
        j = s.place % slot_count;
        stands = stands_at G d s.place b s.below (eqb-true _ _ (and_right _ _ s.holds)) r;
        is = and_left _ _ s.holds;
      }

  -- ---- what becomes of a note
  pub released_listed : (n : ℕ) → listed_by G d picked b ≡ true → released_note G d picked b n ≡ free_note
  unfolding released_note
  released_listed n t = rw (or_left _ (held_for_rule picked n) t)

  pub released_held : (e j : ℕ) → j < slot_count → picked e ≡ true → released_note G d picked b (pending_for e j) ≡ free_note
  unfolding released_note held_for_rule
  released_held e j l p =
      let h : (is_pending (pending_for e j) and picked (pending_entry (pending_for e j))) ≡ true =
      and_both _ _ (pending_is e j) (ap picked (pending_entry_law e j l) ∙ p) in
      rw (or_right (listed_by G d picked b) _ h)

  pub released_kept : (e j : ℕ) → j < slot_count → listed_by G d picked b ≡ false → picked e ≡ false → released_note G d picked b (pending_for e j) ≡ pending_for e j
  unfolding released_note held_for_rule
  released_kept e j l f p =
      let h : (is_pending (pending_for e j) and picked (pending_entry (pending_for e j))) ≡ false =
      and_then _ _ (pending_is e j) ∙ ap picked (pending_entry_law e j l) ∙ p in
      rw (or_then _ (is_pending (pending_for e j) and picked (pending_entry (pending_for e j))) f, h)

  pub released_settled : (n : ℕ) → n < 16 → listed_by G d picked b ≡ false → released_note G d picked b n ≡ n
  unfolding released_note held_for_rule
  released_settled n l f =
      let h : (is_pending n and picked (pending_entry n)) ≡ false = and_fails_left _ _ (settled_not n l) in
      rw (or_then _ (is_pending n and picked (pending_entry n)) f, h)

-- ---- a delete
module _ {G : Geometry} (S : Sound G) (d d' : Rows) (m m' : ℕ → ℕ) (v : Inv G d m) (picked : ℕ → Bool)
    (kept : (k : ℕ) → k < G.entries → picked k ≡ false → d' k ≡ d k)
    (uses : (k : ℕ) → k < G.entries → picked k ≡ true → used (d k) ≡ true)
    (gone : (k : ℕ) → k < G.entries → picked k ≡ true → empty (d' k) ≡ true)
    (note : (b : ℕ) → b < G.blocks → m' b ≡ released_note G d picked b (m b)) where
  left : (k : ℕ) → k < G.entries → used (d' k) ≡ true → picked k ≡ false
  left k l u = sym (refute (picked k) (λ p. not_both (empty (d' k)) (gone k l p) (used_full (d' k) u)))

  back : (b e j : ℕ) → Stands G d' b e j → Stands G d b e j
  back b e j s = stands_row G d' d b e j (kept e s.entry (left e s.entry s.uses)) s

  forth : (b e j : ℕ) → picked e ≡ false → Stands G d b e j → Stands G d' b e j
  forth b e j p s = stands_row G d d' b e j (sym (kept e s.entry p)) s

  erased_dir : Consistent G d'
  erased_dir =
      change_dir G d d' S v.dir picked kept (λ k l p. inl (uses k l p))
      (λ k l p u. not_both (picked k) p (left k l u)) (λ k l p u. gone k l p)
      (λ b e j f k s u. v.dir.once_entry b e j f k (back b e j s) (back b f k u)) (λ b e j f k s u. v.dir.once_slot b e j f k (back b e j s) (back b f k u))
      (λ k f l h p q u w s. not_both (picked k) p (left k l u)) (λ k f l h p q u w s. not_both (picked k) p (left k l u))

  -- what is listed nowhere is not listed by a picked entry; nor is a block of the directory
  spare_unpicked : (b : ℕ) → Spare G d b → listed_by G d picked b ≡ false
  spare_unpicked b s =
      sym (refute _ (λ t. let w = listed_picked G d picked b t in unlisted_never G d b s.unlisted w.e w.j w.stands))

  area_unpicked : (b : ℕ) → b < G.area → listed_by G d picked b ≡ false
  area_unpicked b h =
      sym (refute _ (λ t. let w = listed_picked G d picked b t in let s = w.stands in
      let low = (v.dir.fine w.e s.entry s.uses).low w.j s.place (λ z. s.real (sym s.is ∙ z)) in
      let q : slot_of G (d w.e) w.j ≡ b = s.is in omega arith))

  -- a block of a picked entry stands nowhere any more
  lost : (b : ℕ) → G.area ≤ b → listed_by G d picked b ≡ true → Spare G d' b
  lost b past t = record {
    past = past;
    unlisted = never_unlisted G d' b (past_real S b past)
        (λ f k s. let w = listed_picked G d picked b t in
        not_both (picked f) (subst (λ (x : ℕ). picked x ≡ true) (v.dir.once_entry b w.e w.j f k w.stands (back b f k s)) w.is) (left f s.entry s.uses));
  }

  found : (b : ℕ) → G.area ≤ b → listed_by G d picked b ≡ false → is_listed G d b ≡ true → is_listed G d' b ≡ true
  found b past f t =
      let s = listed_somewhere G d b (past_real S b past) t in
      somewhere_listed G d' b s.e s.j
      (forth b s.e s.j (sym (refute _ (λ p. not_both _ (picked_listed G d picked b s.e s.j s.stands p) f))) s.stands)

  erased_note : (b n : ℕ) → NoteOk G d b n → NoteOk G d' b (released_note G d picked b n)
  erased_note b n (ok_area q h) = ok_area (released_settled G d picked b n (omega arith) (area_unpicked b h) ∙ q) h
  erased_note b n (ok_recorded q h t) =
      split (bool_cases (listed_by G d picked b)) (λ y. ok_free (released_listed G d picked b n y) (lost b h y))
      (λ y. ok_recorded (released_settled G d picked b n (omega arith) y ∙ q) h (found b h y t))
  erased_note b n (ok_free q s) = ok_free (released_settled G d picked b n (omega arith) (spare_unpicked b s) ∙ q) (spare_on S d d' b (back b) s)
  erased_note b n (ok_pending e j q h l u s) =
      split (bool_cases (picked e))
      (λ p. ok_free (ap (released_note G d picked b) q ∙ released_held G d picked b e j (slot_place G l) p) (spare_on S d d' b (back b) s))
      (λ p. ok_pending e j (ap (released_note G d picked b) q ∙ released_kept G d picked b e j (slot_place G l) (spare_unpicked b s) p) h l
      (ap used (kept e h p) ∙ u) (spare_on S d d' b (back b) s))

  pub erase_inv : Inv G d' m'
  erase_inv = record { dir = erased_dir; map = λ b h. subst (NoteOk G d' b) (sym (note b h)) (erased_note b (m b) (v.map b h)) }

-- ---- a rename: the picked entries are those of one file, and no entry has the new name yet
-- what the renamed row r' is to the row that it was
pub record RenamedTo (G : Geometry) (r r' : Bytes) : Type 0 where
  pub fine : Fine G r'
  pub user : user_of r' ≡ user_of r
  pub extent : extent_of r' ≡ extent_of r
  pub slot : (j : ℕ) → j < slot_count → slot_of G r' j ≡ slot_of G r j

module _ {G : Geometry} (S : Sound G) (d d' : Rows) (m : ℕ → ℕ) (v : Inv G d m) (picked : ℕ → Bool)
    (kept : (k : ℕ) → k < G.entries → picked k ≡ false → d' k ≡ d k)
    (uses : (k : ℕ) → k < G.entries → picked k ≡ true → used (d k) ≡ true)
    (renamed : (k : ℕ) → k < G.entries → picked k ≡ true → RenamedTo G (d k) (d' k))
    (one : (k f : ℕ) → k < G.entries → f < G.entries → picked k ≡ true → picked f ≡ true → name_like_rule false (d f) 1 (d k) 1 ≡ true)
    (new : (k f : ℕ) → k < G.entries → f < G.entries → picked k ≡ true → picked f ≡ false → used (d f) ≡ true → SameFile G (d' k) (d f) → ⊥) where
  used_same : (k : ℕ) → k < G.entries → picked k ≡ true → used (d' k) ≡ true
  used_same k l p = low_used (d' k) (renamed k l p).fine.user

  used_on : (k : ℕ) → k < G.entries → used (d k) ≡ true → used (d' k) ≡ true
  used_on k l u = split (bool_cases (picked k)) (λ p. used_same k l p) (λ p. ap used (kept k l p) ∙ u)

  slots_back : (b e j : ℕ) → Stands G d' b e j → Stands G d b e j
  slots_back b e j s =
      split (bool_cases (picked e))
      (λ p. record { entry = s.entry; place = s.place; uses = uses e s.entry p; is = sym ((renamed e s.entry p).slot j s.place) ∙ s.is; real = s.real })
      (λ p. stands_row G d' d b e j (kept e s.entry p) s)

  slots_forth : (b e j : ℕ) → Stands G d b e j → Stands G d' b e j
  slots_forth b e j s =
      split (bool_cases (picked e))
      (λ p. record { entry = s.entry; place = s.place; uses = used_same e s.entry p; is = (renamed e s.entry p).slot j s.place ∙ s.is; real = s.real })
      (λ p. stands_row G d d' b e j (sym (kept e s.entry p)) s)

  renamed_dir : Consistent G d'
  renamed_dir =
      change_dir G d d' S v.dir picked kept (λ k l p. inl (uses k l p)) (λ k l p u. (renamed k l p).fine) (λ k l p u. not_both (used (d' k)) (used_same k l p) u)
      (λ b e j f k s u. v.dir.once_entry b e j f k (slots_back b e j s) (slots_back b f k u))
      (λ b e j f k s u. v.dir.once_slot b e j f k (slots_back b e j s) (slots_back b f k u))
      (λ k f l h p q u w s. let r = renamed k l p in let t = renamed f h q in
      v.dir.apart k f l h (uses k l p) (uses f h q)
      (record { user = sym r.user ∙ s.user ∙ t.user; name = one k f l h p q; run = sym (ap (run_of G) r.extent) ∙ s.run ∙ ap (run_of G) t.extent }))
      (λ k f l h p q u w s. new k f l h p q w s)

  pub rename_inv : Inv G d' m
  rename_inv = record { dir = renamed_dir; map = λ b h. note_on S d d' slots_back slots_forth used_on b (m b) (m b) refl (v.map b h) }
