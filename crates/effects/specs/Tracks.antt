-- A book and a map that tell the same: the map is the fresh map overlaid with the book; and what each change of a book does to that.
use Rattle.std.specs.Prelude.{◌≡◌, refl, Bool, true, false, cond, ℕ, ◌<◌, eqb, length}
use Rattle.std.proofs.Math.Path.{ap, sym}
use Rattle.std.proofs.Common.{◌∙◌, arith, eq-eqb, ne_eqb, leb-true}
use Rattle.lists.specs.Cases.{split, bool_cases, eq_or_ne, refute, cond_either}
use Rattle.lists.specs.Tests.{◌or◌, and_then}
use Rattle.lists.specs.Below.{any_below, any_cong}
use Rattle.format.specs.Diskette.{Bytes, Geometry, slot_count, slots_on}
use Rattle.format.specs.Entries.{Rows, slots_of, used}
use Rattle.facts.specs.Slots.{slot_in_slots_of, slot_place}
use Rattle.format.specs.Notes.{recorded_note, pending_for, is_pending, note_at_rule, fresh_note_rule, settled_note_rule, held_for_rule, listed_by, released_note, is_listed}
use Rattle.notes.specs.Numbers.{pending_is, pending_entry_law, settled_not}
use Rattle.notes.specs.Right.{NoteOk, ok_area, ok_recorded, ok_free, ok_pending, ok_settles, fresh_settled}
use Rattle.model.specs.Closing.{closed_map}
use Rattle.fields.specs.Closing.{takes_block, note_closed}
use Rattle.invariant.specs.Inv.{Inv}
use Rattle.invariant.specs.Carry.{unlisted_never}
use Rattle.invariant.specs.Change.{listed_picked, released_held, released_kept}
use Rattle.effects.specs.Book.{Book, nothing_held, settles, settled_by, dropped_for, entered_for}

-- the place that a note is pending for, as the book has it
unfoldable pub held_note : ℕ → ℕ
held_note n = cond (is_pending n) n 0

-- the book has exactly the pending notes of the map
abbrev pub Tracks : Geometry → Book → (ℕ → ℕ) → Type 0
Tracks G u m = (b : ℕ) → b < G.blocks → u b ≡ held_note (m b)

-- ---- the book's note of each kind of note
pub held_pending : (n : ℕ) → is_pending n ≡ true → held_note n ≡ n
unfolding held_note
held_pending n t = rw t

pub held_settled : (n : ℕ) → is_pending n ≡ false → held_note n ≡ 0
unfolding held_note
held_settled n f = rw f

pub held_for_law : (e j : ℕ) → held_note (pending_for e j) ≡ pending_for e j
held_for_law e j = held_pending (pending_for e j) (pending_is e j)

-- what is held is not 0, and what is not held is
pub held_real : (n : ℕ) → is_pending n ≡ true → held_note n ≡ 0 → ⊥
unfolding is_pending
held_real n t z = omega (arith, held_pending n t, leb-true 16 n t)

-- ---- the map, from the book and the directory
-- the fresh map overlaid with the book
unfoldable pub overlaid : ℕ → ℕ → ℕ
overlaid held fresh = cond (eqb held 0) fresh held

-- a block in the book: its note is pending for its place, in a used entry, and no entry lists it
pub record InBook (G : Geometry) (d : Rows) (m : ℕ → ℕ) (u : Book) (b : ℕ) : Type 0 where
  pub entry : ℕ
  pub slot : ℕ
  pub entry_below : entry < G.entries
  pub slot_below : slot < slots_on G
  pub in_book : u b ≡ pending_for entry slot
  pub in_map : m b ≡ pending_for entry slot
  pub uses : used (d entry) ≡ true
  pub unlisted : is_listed G d b ≡ false

module _ (G : Geometry) (d : Rows) (m : ℕ → ℕ) (u : Book) (v : Inv G d m) (t : Tracks G u m) (b : ℕ) (h : b < G.blocks) where
  pub book_map : m b ≡ overlaid (u b) (fresh_note_rule G d b)
  unfolding overlaid settled_note_rule
  book_map =
      split (bool_cases (is_pending (m b)))
      (λ p. let z : u b ≡ m b = t b h ∙ held_pending (m b) p in
      let r : u b ≡ 0 → ⊥ = λ w. held_real (m b) p (sym (t b h) ∙ w) in rw (ne_eqb (u b) 0 r) (sym z))
      (λ p. let z : u b ≡ 0 = t b h ∙ held_settled (m b) p in
      let q : settled_note_rule (m b) ≡ fresh_note_rule G d b = ok_settles G d b (m b) (v.map b h) in
      rw (eq-eqb (u b) 0 z) (rw p at q))

  -- a held block's note is the book's
  book_note : (u b ≡ 0 → ⊥) → m b ≡ u b
  unfolding overlaid
  book_note r = book_map ∙ rw (ne_eqb (u b) 0 r)

  pub book_has : (u b ≡ 0 → ⊥) → InBook G d m u b
  book_has r = go (v.map b h)
    where
      no : m b < 16 → InBook G d m u b
      no l = absurd (r (t b h ∙ held_settled (m b) (settled_not (m b) l)))

      go : NoteOk G d b (m b) → InBook G d m u b
      go (ok_area q a) = no (omega arith)
      go (ok_recorded q a y) = no (omega arith)
      go (ok_free q s) = no (omega arith)
      go (ok_pending e j q l i w s) = record {
        entry = e;
        slot = j;
        entry_below = l;
        slot_below = i;
        in_book = sym (book_note r) ∙ q;
        in_map = q;
        uses = w;
        unlisted = s.unlisted;
      }

  -- no other block's note is pending
  pub book_settled : u b ≡ 0 → is_pending (m b) ≡ false
  book_settled z = split (bool_cases (is_pending (m b))) (λ p. absurd (held_real (m b) p (sym (t b h) ∙ z))) (λ p. p)

-- ---- what changes of a book do
-- notes that are not pending are in no book
pub nothing_tracks : (G : Geometry) (m : ℕ → ℕ) → ((b : ℕ) → b < G.blocks → is_pending (m b) ≡ false) → Tracks G nothing_held m
nothing_tracks G m f b h = sym (held_settled (m b) (f b h))

pub same_tracks : (G : Geometry) (u : Book) (m m' : ℕ → ℕ) → ((b : ℕ) → b < G.blocks → m' b ≡ m b) → Tracks G u m → Tracks G u m'
same_tracks G u m m' q t b h = t b h ∙ ap held_note (sym (q b h))

-- 13 and 98
pub fresh_tracks : (G : Geometry) (d : Rows) (m : ℕ → ℕ) → ((b : ℕ) → b < G.blocks → m b ≡ fresh_note_rule G d b) → Tracks G nothing_held m
fresh_tracks G d m q = nothing_tracks G m (λ b h. ap is_pending (q b h) ∙ fresh_settled G d b)

pub freed_tracks : (G : Geometry) (m m' : ℕ → ℕ) → ((b : ℕ) → b < G.blocks → m' b ≡ settled_note_rule (m b)) → Tracks G nothing_held m'
unfolding settled_note_rule
freed_tracks G m m' q =
    nothing_tracks G m'
    (λ b h. ap is_pending (q b h)
    ∙ split (bool_cases (is_pending (m b))) (λ p. rw p (settled_not 0 (omega arith))) (λ p. rw p p))

-- a close
pub settles_taken : (G : Geometry) (row fcb : Bytes) (b : ℕ) → settles G row fcb b ≡ any_below (takes_block G (slots_of row) (slots_of fcb) b) slot_count
unfolding settles takes_block
settles_taken G row fcb b = any_cong _ _ slot_count (λ j l. rw (slot_in_slots_of G fcb j))

pub closed_tracks : (G : Geometry) (u : Book) (row fcb map : Bytes) → length map ≡ G.blocks → Tracks G u (note_at_rule map)
    → Tracks G (settled_by G row fcb u) (note_at_rule (closed_map G row fcb map))
unfolding settled_by
closed_tracks G u row fcb map wide t b h =
    let n : note_at_rule (closed_map G row fcb map) b ≡ cond (any_below (takes_block G (slots_of row) (slots_of fcb) b) slot_count) recorded_note (note_at_rule map b) =
    note_closed G row fcb map b (omega arith) in
    rw (settles_taken G row fcb b, n)
    (split (bool_cases (any_below (takes_block G (slots_of row) (slots_of fcb) b) slot_count))
    (λ y. rw y (sym (held_settled 2 (settled_not 2 (omega arith))))) (λ y. rw y (t b h)))

-- a delete
pub held_for_picked : (picked : ℕ → Bool) (e j : ℕ) → j < slot_count → held_for_rule picked (pending_for e j) ≡ picked e
unfolding held_for_rule
held_for_picked picked e j l = and_then _ _ (pending_is e j) ∙ ap picked (pending_entry_law e j l)

-- a block that no entry lists, no picked entry lists
pub spare_unpicked : (G : Geometry) (d : Rows) (picked : ℕ → Bool) (b : ℕ) → is_listed G d b ≡ false → listed_by G d picked b ≡ false
spare_unpicked G d picked b f =
    sym (refute _ (λ t. let w = listed_picked G d picked b t in unlisted_never G d b f w.e w.j w.stands))

module _ (G : Geometry) (d : Rows) (m m' : ℕ → ℕ) (u : Book) (v : Inv G d m) (picked : ℕ → Bool)
    (note : (b : ℕ) → b < G.blocks → m' b ≡ released_note G d picked b (m b)) where
  -- what is not pending, or is pending for an entry that is not picked, is the same to the book afterwards
  settled_on : (b : ℕ) → b < G.blocks → m b < 16 → held_note (m' b) ≡ 0
  unfolding released_note
  settled_on b h l =
      ap held_note (note b h)
      ∙ cond_either (λ (n : ℕ). held_note n ≡ 0) (listed_by G d picked b or held_for_rule picked (m b))
      (λ y. held_settled 0 (settled_not 0 (omega arith))) (λ y. held_settled (m b) (settled_not (m b) l))

  dropped : Book → ℕ → ℕ
  dropped w b = cond (held_for_rule picked (w b)) 0 (w b)

  dropped_none : (b : ℕ) → u b ≡ 0 → dropped u b ≡ 0
  unfolding dropped
  dropped_none b z = cond_either (λ (n : ℕ). n ≡ 0) (held_for_rule picked (u b)) (λ y. refl) (λ y. z)

  dropped_held : (b e j : ℕ) → j < slot_count → u b ≡ pending_for e j → dropped u b ≡ cond (picked e) 0 (pending_for e j)
  unfolding dropped
  dropped_held b e j l z = rw (z, held_for_picked picked e j l)

  pub erased_tracks : Tracks G u m → Tracks G (dropped_for picked u) m'
  unfolding dropped_for dropped
  erased_tracks t b h = go (v.map b h)
    where
      low : m b < 16 → dropped_for picked u b ≡ held_note (m' b)
      low l = dropped_none b (t b h ∙ held_settled (m b) (settled_not (m b) l)) ∙ sym (settled_on b h l)

      go : NoteOk G d b (m b) → dropped_for picked u b ≡ held_note (m' b)
      go (ok_area q a) = low (omega arith)
      go (ok_recorded q a y) = low (omega arith)
      go (ok_free q s) = low (omega arith)
      go (ok_pending e j q l i w s) =
          let z : u b ≡ pending_for e j = t b h ∙ ap held_note q ∙ held_for_law e j in
          let n : m' b ≡ released_note G d picked b (pending_for e j) = note b h ∙ ap (released_note G d picked b) q in
          dropped_held b e j (slot_place G i) z
          ∙ split (bool_cases (picked e))
          (λ p. rw p (sym (ap held_note (n ∙ released_held G d picked b e j (slot_place G i) p) ∙ held_settled 0 (settled_not 0 (omega arith)))))
          (λ p. rw p (sym (ap held_note (n ∙ released_kept G d picked b e j (slot_place G i) (spare_unpicked G d picked b s.unlisted) p) ∙ held_for_law e j)))

-- a block is taken
pub taken_tracks : (G : Geometry) (u : Book) (m m' : ℕ → ℕ) (b e j : ℕ) → m' b ≡ pending_for e j
    → ((c : ℕ) → c < G.blocks → (c ≡ b → ⊥) → m' c ≡ m c) → Tracks G u m → Tracks G (entered_for b e j u) m'
unfolding entered_for
taken_tracks G u m m' b e j q left t c h =
    split (eq_or_ne c b)
    (λ y. rw (eq-eqb c b y) (sym (held_for_law e j) ∙ ap held_note (sym (ap m' y ∙ q))))
    (λ y. rw (ne_eqb c b y) (t c h ∙ ap held_note (sym (left c h y))))
