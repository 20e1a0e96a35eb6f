-- A current FCB as facts, both ways with the test; and a record that can be read through one.
use Rattle.std.specs.Prelude.{◌≡◌, ◌⊎◌, true, false, ℕ, ◌%◌, ◌≤◌, ◌<◌, length, Some}
use Rattle.std.proofs.Math.Path.{ap, sym}
use Rattle.std.proofs.Common.{◌∙◌, subst, mod-lt}
use Rattle.std.proofs.Math.Logic.{inl, inr}
use Rattle.lists.specs.Cases.{split}
use Rattle.format.specs.Diskette.{Bytes, Geometry, Sound, slot_count, extent_records}
use Rattle.format.specs.Entries.{entry_at, slot_of, slot_for_rule, count_of, used, extent_of, named, is_file_rule}
use Rattle.format.specs.Notes.{note_at_rule}
use Rattle.format.specs.Fcb.{fcb_right_rule, current}
use Rattle.consistency.specs.Facts.{Consistent}
use Rattle.invariant.specs.Close.{Held}
use Rattle.facts.specs.Slots.{slot_for_low}
use Rattle.facts.specs.Current.{Current, current_is, current_says}
use Rattle.slots.specs.Slots.{SlotOk, slot_same, slot_pending, slots_are}
use Rattle.current.specs.Current.{current_file, current_slot}
use Rattle.notes.specs.Numbers.{pending_block}
use Rattle.model.specs.Target.{place_in}
use Rattle.effects.specs.View.{View, view_of, Names, Mine, listed, pending}
use Rattle.effects.specs.Effect.{Foreign, Effect, Keeps}
use Rattle.facts.specs.Naming.{file_named}
use Rattle.consistency.specs.Naming.{file_used, file_found}

-- f is current for the user, and e is its entry
pub record Cur (G : Geometry) (s : View) (user : ℕ) (f : Bytes) (e : ℕ) : Type 0 where
  pub right : fcb_right_rule f ≡ true
  pub low : e < G.entries
  pub file : is_file_rule G user f 1 (extent_of f) (s.rows e) ≡ true
  pub fits : (j : ℕ) → j < slot_count → (slot_of G f j ≡ slot_of G (s.rows e) j) ⊎ Held G s.rows s.notes e j (slot_of G f j)

-- ---- the test and the facts, both ways
module _ (G : Geometry) (img map : Bytes) (user : ℕ) (f : Bytes) (e : ℕ) where
  -- slot by slot
  held_of : length map ≡ G.blocks → (j : ℕ) → SlotOk G map e (entry_at G img e) f j
      → (slot_of G f j ≡ slot_of G (entry_at G img e) j) ⊎ Held G (entry_at G img) (note_at_rule map) e j (slot_of G f j)
  held_of wide j (slot_same q) = inl q
  held_of wide j (slot_pending z n) =
      inr record { was = z; low = subst (λ (x : ℕ). slot_of G f j < x) wide (pending_block map (slot_of G f j) e j n); noted = n }

  of_held : (j : ℕ) → (slot_of G f j ≡ slot_of G (entry_at G img e) j) ⊎ Held G (entry_at G img) (note_at_rule map) e j (slot_of G f j) → SlotOk G map e (entry_at G img e) f j
  of_held j (inl q) = slot_same q
  of_held j (inr h) = slot_pending h.was h.noted

  pub current_cur : length map ≡ G.blocks → current G (entry_at G img) map user f ≡ Some e → Cur G (view_of G img map) user f e
  current_cur wide q =
      let c = current_says G (entry_at G img) map user f e q in
      let p = current_file G (entry_at G img) map user f e c in
      record {
        right = c.right;
        low = p.below;
        file = p.holds;
        fits = λ j l. held_of wide j (current_slot G (entry_at G img) map user f e c j l);
      }

  module _ (c : Consistent G (entry_at G img)) (hu : user ≤ 15) (k : Cur G (view_of G img map) user f e) where
    pub cur_facts : Current G (entry_at G img) map user f e
    cur_facts = record {
      right = k.right;
      found = file_found G (entry_at G img) user hu f 1 (extent_of f) e k.low k.file c;
      fits = slots_are G map e (entry_at G img e) f (λ j l. of_held j (k.fits j l));
    }

    pub cur_current : current G (entry_at G img) map user f ≡ Some e
    cur_current = current_is G (entry_at G img) map user f e cur_facts

-- ---- what a current FCB has
module _ (G : Geometry) (s : View) (user : ℕ) (hu : user ≤ 15) (f : Bytes) (e : ℕ) (c : Cur G s user f e) where
  pub cur_uses : used (s.rows e) ≡ true
  cur_uses = file_used G user f 1 (extent_of f) (s.rows e) c.file hu

  pub cur_named : named false user f 1 (s.rows e) ≡ true
  cur_named = file_named G user f 1 (extent_of f) (s.rows e) c.file

  -- its blocks are its entry's
  pub cur_mine : (j : ℕ) → j < slot_count → (slot_of G f j ≡ 0 → ⊥) → Mine G s (slot_of G f j) e
  cur_mine j l z =
      split (c.fits j l)
      (λ q. listed j record { entry = c.low; place = l; uses = cur_uses; is = sym q; real = z })
      (λ h. pending j l h.low h.noted)

  -- where the FCB has 0, so has its entry
  pub cur_zero : (j : ℕ) → j < slot_count → slot_of G f j ≡ 0 → slot_of G (s.rows e) j ≡ 0
  cur_zero j l z = split (c.fits j l) (λ q. sym q ∙ z) (λ h. h.was)

-- ---- a record that holds
-- the slot and the place of record rec of f's extent
abbrev pub rec_slot : Geometry → Bytes → ℕ → ℕ
rec_slot G f rec = slot_of G f (slot_for_rule G (extent_of f) rec)

-- record rec of f's extent can be read through f, and is v
pub record Holds (G : Geometry) (s : View) (user : ℕ) (f : Bytes) (e rec : ℕ) (v : Bytes) : Type 0 where
  pub cur : Cur G s user f e
  pub inside : rec < extent_records
  pub real : rec_slot G f rec ≡ 0 → ⊥
  pub counted : rec < count_of f
  pub dat : s.recs (place_in G (rec_slot G f rec) rec) ≡ v

-- a call that names other files keeps it
module _ {G : Geometry} (S : Sound G) (s t : View) (N : Names) (user : ℕ) (hu : user ≤ 15) (f : Bytes) (w : Effect G s t N) (kp : Keeps G s t N)
    (other : (r : Bytes) → named false user f 1 r ≡ true → N r ≡ false) where
  module _ (e : ℕ) (c : Cur G s user f e) where
    pub cur_foreign : Foreign G s N e
    cur_foreign = record { low = c.low; uses = cur_uses G s user hu f e c; other = other (s.rows e) (cur_named G s user hu f e c) }

    pub cur_kept : Cur G t user f e
    unfolding Keeps
    cur_kept =
        let row : t.rows e ≡ s.rows e = w.row e cur_foreign in
        record {
          right = c.right;
          low = c.low;
          file = ap (is_file_rule G user f 1 (extent_of f)) row ∙ c.file;
          fits = λ j l. split (c.fits j l) (λ q. inl (q ∙ sym (ap (λ (r : Bytes). slot_of G r j) row)))
              (λ g. inr record {
                was = ap (λ (r : Bytes). slot_of G r j) row ∙ g.was;
                low = g.low;
                noted = kp (slot_of G f j) e j g.low l cur_foreign g.noted;
              });
        }

  pub holds_kept : (e rec : ℕ) (v : Bytes) → Holds G s user f e rec v → Holds G t user f e rec v
  unfolding place_in
  holds_kept e rec v h = record {
    cur = cur_kept e h.cur;
    inside = h.inside;
    real = h.real;
    counted = h.counted;
    dat = w.dat (rec_slot G f rec) (rec % G.per_block) e (mod-lt rec S.some_record)
        (cur_mine G s user hu f e h.cur (slot_for_rule G (extent_of f) rec) (slot_for_low S (extent_of f) rec h.inside) h.real)
        (cur_foreign e h.cur) ∙ h.dat;
  }
