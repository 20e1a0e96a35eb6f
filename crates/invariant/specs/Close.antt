-- The invariant where an entry is closed: its file stays, its ex and s2 stay in range, and each of its slots stays or, having been 0,
-- gets a block that was noted pending for it, which is recorded now.
use Rattle.std.specs.Prelude.{◌≡◌, refl, ◌⊎◌, true, false, ℕ, ◌≤◌, ◌<◌, eqb}
use Rattle.std.proofs.Common.{ap, sym, ◌∙◌, subst, inl, arith, eqb-true}
use Rattle.std.proofs.lemmas.Bool.{eqb-false}
use Rattle.lists.specs.Cases.{split, eq_or_ne, not_both}
use Rattle.format.specs.Diskette.{Bytes, Geometry, Sound, slot_count}
use Rattle.format.specs.Names.{name_right_rule}
use Rattle.format.specs.Entries.{Rows, user_of, slot_of, used}
use Rattle.format.specs.Notes.{free_note, area_note, recorded_note, pending_for}
use Rattle.facts.specs.Slots.{slot_place}
use Rattle.consistency.specs.Facts.{Numbers, Fine, Stands, SameFile, Consistent}
use Rattle.consistency.specs.Listed.{somewhere_listed}
use Rattle.consistency.specs.Reflect.{used_low, low_used, same_sym}
use Rattle.notes.specs.Numbers.{pending_once, pending_not}
use Rattle.notes.specs.Right.{Spare, NoteOk, ok_area, ok_recorded, ok_free, ok_pending}
use Rattle.invariant.specs.Inv.{Inv}
use Rattle.invariant.specs.Carry.{same_trans, past_real, unlisted_never, never_unlisted, stands_row, change_dir, listed_on}

-- a block that is noted pending is listed nowhere
pub pending_spare : (G : Geometry) (d : Rows) (b e j n : ℕ) → NoteOk G d b n → n ≡ pending_for e j → Spare G d b
pending_spare G d b e j n (ok_area q a) p = absurd (pending_not area_note (omega arith) e j (sym p ∙ q))
pending_spare G d b e j n (ok_recorded q a t) p = absurd (pending_not recorded_note (omega arith) e j (sym p ∙ q))
pending_spare G d b e j n (ok_free q s) p = s
pending_spare G d b e j n (ok_pending f k q l i u s) p = s

-- slot j of entry e is 0, and block b is noted pending for it
pub record Held (G : Geometry) (d : Rows) (m : ℕ → ℕ) (e j b : ℕ) : Type 0 where
  pub was : slot_of G (d e) j ≡ 0
  pub low : b < G.blocks
  pub noted : m b ≡ pending_for e j

-- what the closed entry's row r is to the row that it was
pub record ClosedTo (G : Geometry) (d : Rows) (m : ℕ → ℕ) (e : ℕ) (r : Bytes) : Type 0 where
  pub file : SameFile G r (d e)
  pub name : name_right_rule false r 1 ≡ true
  pub numbers : Numbers r
  pub slot : (j : ℕ) → j < slot_count → (slot_of G r j ≡ slot_of G (d e) j) ⊎ Held G d m e j (slot_of G r j)

module _ {G : Geometry} (S : Sound G) (d d' : Rows) (m m' : ℕ → ℕ) (v : Inv G d m) (e : ℕ) (below : e < G.entries) (uses : used (d e) ≡ true)
    (there : (k : ℕ) → k < G.entries → (k ≡ e → ⊥) → d' k ≡ d k) (closed : ClosedTo G d m e (d' e))
    -- the blocks that the entry takes are recorded, the other notes stay
    (settled : (b j : ℕ) → j < slot_count → Held G d m e j b → slot_of G (d' e) j ≡ b → (b ≡ 0 → ⊥) → m' b ≡ recorded_note)
    (left : (b : ℕ) → b < G.blocks → ((j : ℕ) → j < slot_count → Held G d m e j b → slot_of G (d' e) j ≡ b → ⊥) → m' b ≡ m b) where
  held_spare : (b j : ℕ) → Held G d m e j b → Spare G d b
  held_spare b j h = pending_spare G d b e j (m b) (v.map b h.low) h.noted

  held_once : (b j k : ℕ) → j < slot_count → k < slot_count → Held G d m e j b → Held G d m e k b → j ≡ k
  held_once b j k l i h g = (pending_once e j e k l i (sym h.noted ∙ g.noted)).1

  -- ---- where a block of the closed directory comes from
  data Origin (b f j : ℕ) : Type 0 where
    old : Stands G d b f j → Origin b f j
    new : f ≡ e → j < slot_count → Held G d m e j b → Origin b f j

  still_used : used (d' e) ≡ true
  still_used = low_used (d' e) (let q : user_of (d' e) ≡ user_of (d e) = closed.file.user in omega (arith, used_low (d e) uses))

  here : (b j : ℕ) → Stands G d' b e j → Origin b e j
  here b j s =
      split (closed.slot j s.place)
      (λ q. old (record { entry = below; place = s.place; uses = uses; is = sym q ∙ s.is; real = s.real }))
      (λ h. new refl s.place (subst (Held G d m e j) s.is h))

  origin : (b f j : ℕ) → Stands G d' b f j → Origin b f j
  origin b f j s =
      split (eq_or_ne f e)
      (λ q. subst (λ (x : ℕ). Origin b x j) (sym q) (here b j (subst (λ (x : ℕ). Stands G d' b x j) q s)))
      (λ q. old (stands_row G d' d b f j (there f s.entry q) s))

  -- a block that stood still stands
  forth : (b f j : ℕ) → Stands G d b f j → Stands G d' b f j
  forth b f j s =
      split (eq_or_ne f e)
      (λ q. let i : slot_of G (d e) j ≡ b = sym (ap (λ (x : ℕ). slot_of G (d x) j) q) ∙ s.is in
      subst (λ (x : ℕ). Stands G d' b x j) (sym q)
      (record {
        entry = below;
        place = s.place;
        uses = still_used;
        is = split (closed.slot j s.place) (λ p. p ∙ i) (λ h. absurd (s.real (sym i ∙ h.was)));
        real = s.real;
      }))
      (λ q. stands_row G d d' b f j (sym (there f s.entry q)) s)

  -- ---- the directory
  once_entry : (b f j g k : ℕ) → Stands G d' b f j → Stands G d' b g k → f ≡ g
  once_entry b f j g k s u = go (origin b f j s) (origin b g k u)
    where
      go : Origin b f j → Origin b g k → f ≡ g
      go (old a) (old c) = v.dir.once_entry b f j g k a c
      go (old a) (new q l h) = absurd (unlisted_never G d b (held_spare b k h).unlisted f j a)
      go (new q l h) (old c) = absurd (unlisted_never G d b (held_spare b j h).unlisted g k c)
      go (new q l h) (new p i o) = q ∙ sym p

  once_slot : (b f j g k : ℕ) → Stands G d' b f j → Stands G d' b g k → j ≡ k
  once_slot b f j g k s u = go (origin b f j s) (origin b g k u)
    where
      go : Origin b f j → Origin b g k → j ≡ k
      go (old a) (old c) = v.dir.once_slot b f j g k a c
      go (old a) (new q l h) = absurd (unlisted_never G d b (held_spare b k h).unlisted f j a)
      go (new q l h) (old c) = absurd (unlisted_never G d b (held_spare b j h).unlisted g k c)
      go (new q l h) (new p i o) = held_once b j k l i h o

  closed_fine : Fine G (d' e)
  closed_fine = record {
    user = used_low (d' e) still_used;
    name = closed.name;
    numbers = closed.numbers;
    low = λ j l r. split (closed.slot j l)
        (λ q. subst (λ (x : ℕ). G.area ≤ x) (sym q) ((v.dir.fine e below uses).low j l (λ z. r (q ∙ z))))
        (λ h. (held_spare (slot_of G (d' e) j) j h).past);
    high = λ j l r. split (closed.slot j l)
        (λ q. subst (λ (x : ℕ). x < G.blocks) (sym q) ((v.dir.fine e below uses).high j l (λ z. r (q ∙ z))))
        (λ h. h.low);
  }

  closed_dir : Consistent G d'
  closed_dir =
      change_dir G d d' S v.dir (λ k. eqb k e) (λ k l p. there k l (eqb-false k e p))
      (λ k l p. inl (subst (λ (x : ℕ). used (d x) ≡ true) (sym (eqb-true k e p)) uses))
      (λ k l p u. subst (λ (x : ℕ). Fine G (d' x)) (sym (eqb-true k e p)) closed_fine)
      (λ k l p u. not_both (used (d' k)) (subst (λ (x : ℕ). used (d' x) ≡ true) (sym (eqb-true k e p)) still_used) u)
      once_entry once_slot
      (λ k f l h p q u w s. eqb-true k e p ∙ sym (eqb-true f e q))
      (λ k f l h p q u w s. eqb-false f e q
      (sym (v.dir.apart e f below h uses w (same_trans G (d e) (d' e) (d f) (same_sym G (d' e) (d e) closed.file) (subst (λ (x : ℕ). SameFile G (d' x) (d f)) (eqb-true k e p) s)))))

  -- ---- the notes
  -- a block that no slot takes keeps its note, and stays spare
  spare_still : (b : ℕ) → ((j : ℕ) → j < slot_count → Held G d m e j b → slot_of G (d' e) j ≡ b → ⊥) → Spare G d b → Spare G d' b
  spare_still b none s = record {
    past = s.past;
    unlisted = never_unlisted G d' b (past_real S b s.past) (λ f j w. go f j w (origin b f j w));
  }
    where
      go : (f j : ℕ) → Stands G d' b f j → Origin b f j → ⊥
      go f j w (old a) = unlisted_never G d b s.unlisted f j a
      go f j w (new q l h) = none j l h (sym (ap (λ (x : ℕ). slot_of G (d' x) j) q) ∙ w.is)

  on : (k : ℕ) → k < G.entries → used (d k) ≡ true → used (d' k) ≡ true
  on k l u = split (eq_or_ne k e) (λ q. subst (λ (x : ℕ). used (d' x) ≡ true) (sym q) still_used) (λ q. ap used (there k l q) ∙ u)

  -- a block that is pending for slot k, and that the entry takes there
  taken : (b k : ℕ) → k < slot_count → Spare G d b → slot_of G (d' e) k ≡ b → NoteOk G d' b (m' b)
  taken b k l s z =
      split (closed.slot k l)
      (λ p. absurd (unlisted_never G d b s.unlisted e k
      (record { entry = below; place = l; uses = uses; is = sym p ∙ z; real = past_real S b s.past })))
      (λ h. ok_recorded (settled b k l (subst (Held G d m e k) z h) z (past_real S b s.past)) s.past
      (somewhere_listed G d' b e k (record { entry = below; place = l; uses = still_used; is = z; real = past_real S b s.past })))

  -- a block whose note is no note of the entry's is not held for it
  unheld : (b n : ℕ) → m b ≡ n → ((j : ℕ) → pending_for e j ≡ n → ⊥) → (j : ℕ) → j < slot_count → Held G d m e j b → slot_of G (d' e) j ≡ b → ⊥
  unheld b n q not j l h z = not j (sym h.noted ∙ q)

  closed_note_law : (b : ℕ) → b < G.blocks → NoteOk G d b (m b) → NoteOk G d' b (m' b)
  closed_note_law b h (ok_area q a) = ok_area (left b h (unheld b _ q (pending_not area_note (omega arith) e)) ∙ q) a
  closed_note_law b h (ok_recorded q a t) = ok_recorded (left b h (unheld b _ q (pending_not recorded_note (omega arith) e)) ∙ q) a (listed_on S d d' b a (forth b) t)
  closed_note_law b h (ok_free q s) =
      ok_free (left b h (unheld b _ q (pending_not free_note (omega arith) e)) ∙ q) (spare_still b (unheld b _ q (pending_not free_note (omega arith) e)) s)
  closed_note_law b h (ok_pending f k q l i u s) =
      split (eq_or_ne (slot_of G (d' e) k) b) (λ z. taken b k (slot_place G i) s z)
      (λ z. let none : (j : ℕ) → j < slot_count → Held G d m e j b → slot_of G (d' e) j ≡ b → ⊥ =
      λ j w g y. z (sym (ap (slot_of G (d' e)) (pending_once e j f k w (slot_place G i) (sym g.noted ∙ q)).1) ∙ y) in
      ok_pending f k (left b h none ∙ q) l i (on f l u) (spare_still b none s))

  pub close_inv : Inv G d' m'
  close_inv = record { dir = closed_dir; map = λ b h. closed_note_law b h (v.map b h) }
