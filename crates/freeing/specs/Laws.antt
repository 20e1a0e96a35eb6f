-- What the parts of a delete come to: freeing the slots of the picked entries, and then what is held for them, releases their blocks.
use Rattle.std.specs.Prelude.{◌≡◌, refl, Bool, false}
use Rattle.std.proofs.Math.Path.{sym, ap}
use Rattle.std.proofs.Common.{◌∙◌}
use Rattle.std.proofs.Math.Bool.{true, not, cond}
use Prim.Native.Nat.{ℕ, ◌+◌, ◌*◌, ◌/◌, ◌%◌, ◌<◌}
use native.Mathlib.Omega.{arith}
use Rattle.std.proofs.Math.Dec.{eqb}
use Rattle.std.proofs.Math.ListN.{length}
use borrow.Author.Tests.{eq-eqb, ne_eqb, eqb-true, eqb-false, not-true}
use Rattle.lists.specs.Cases.{split, bool_cases, bool_ext, cond_either, eq_or_ne}
use Rattle.lists.specs.Tests.{◌and◌, ◌or◌, and_left, and_right, and_both, and_then, and_fails_left, and_fails_right, or_left, or_right, or_first, cond_or}
use Rattle.lists.specs.Below.{any_below, any_none, any_next, any_at, any_some}
use Rattle.lists.specs.Tab.{tab, length_tab, get_d_tab, tab_cong, tab_get_d}
use Rattle.format.specs.Diskette.{Bytes, Geometry, slot_count}
use Rattle.format.specs.Entries.{Rows, used, slots_of, slot_in}
use Rattle.format.specs.Consistent.{listed, slots_in_all}
use Rattle.consistency.specs.Facts.{Stands}
use Rattle.consistency.specs.Listed.{stands_at, stands_place, stands_listed}
use Rattle.facts.specs.Slots.{slot_in_slots_of}
use Rattle.format.specs.Notes.{free_note, note_at_rule, with_note, held_for_rule, listed_by, released_note, released_map}
use Rattle.notes.specs.Numbers.{settled_not}
use Rattle.notes.specs.Changes.{length_note, note_same, note_other}
use Rattle.freeing.specs.Freeing.{in_slots, unlisted_note, unlisted_map, unlisted_slot, unheld_note_rule, unheld_map}

-- ---- a map whose notes are as they were, but free at the blocks that pass p
pub record Freed (p : ℕ → Bool) (old map : Bytes) : Type 0 where
  pub long : length map ≡ length old
  pub note : (b : ℕ) → b < length old → note_at_rule map b ≡ cond (p b) free_note (note_at_rule old b)

pub freed_none : (old : Bytes) → Freed (λ (b : ℕ). false) old old
freed_none old = record { long = refl; note = λ b h. refl }

pub freed_cong : (p q : ℕ → Bool) {old map : Bytes} → ((b : ℕ) → b < length old → p b ≡ q b) → Freed p old map → Freed q old map
freed_cong p q f u = record { long = u.long; note = λ b h. rw (← f b h) (u.note b h) }

pub freed_then : {p q : ℕ → Bool} {old mid map : Bytes} → Freed p old mid → Freed q mid map → Freed (λ (b : ℕ). p b or q b) old map
freed_then {p} {q} {old} {mid} {map} u v = record {
  long = v.long ∙ u.long;
  note = λ b h. let l : length mid ≡ length old = u.long in
      v.note b (omega arith) ∙ ap (λ (n : ℕ). cond (q b) free_note n) (u.note b h) ∙ cond_or (p b) (q b) free_note (note_at_rule old b);
}

-- one note
pub freed_one : (map : Bytes) (b : ℕ) → Freed (λ (c : ℕ). eqb c b) map (with_note map b free_note)
freed_one map b = record {
  long = length_note map b free_note;
  note = λ c h. split (eq_or_ne c b)
      (λ q. let l : b < length map = omega arith in rw (eq-eqb c b q, q) (note_same map b free_note l))
      (λ q. rw (ne_eqb c b q) (note_other map b free_note c q));
}

-- every note at once
pub freed_tab : (n : ℕ) (p : ℕ → Bool) (old : Bytes) → length old ≡ n → Freed p old (tab n (λ (b : ℕ). cond (p b) free_note (note_at_rule old b)))
freed_tab n p old l = record {
  long = length_tab n _ ∙ sym l;
  note = λ b h. get_d_tab n (λ (b : ℕ). cond (p b) free_note (note_at_rule old b)) b (omega arith);
}

pub freed_is : (n : ℕ) {p : ℕ → Bool} {old map : Bytes} → length old ≡ n → Freed p old map → map ≡ tab n (λ (b : ℕ). cond (p b) free_note (note_at_rule old b))
freed_is n {p} {old} {map} l u =
    sym (tab_get_d map n (u.long ∙ l))
    ∙ tab_cong n (note_at_rule map) (λ (b : ℕ). cond (p b) free_note (note_at_rule old b)) (λ b h. u.note b (omega arith))

-- ---- a loop over slots: the blocks of those below j are free
pub slots_none : (G : Geometry) (slots map : Bytes) → Freed (in_slots G slots 0) map map
unfolding in_slots
slots_none G slots map =
    freed_cong (λ (b : ℕ). false) (in_slots G slots 0)
    (λ b h. sym (and_fails_right (not (eqb b 0)) _ (any_none (λ (k : ℕ). eqb (slot_in G slots k) b)))) (freed_none map)

slot_empty : (G : Geometry) (slots : Bytes) (j b : ℕ) → slot_in G slots j ≡ 0 → in_slots G slots j b ≡ in_slots G slots (j + 1) b
unfolding in_slots
slot_empty G slots j b z =
    split (eq_or_ne b 0)
    (λ q. let f : not (eqb b 0) ≡ false = rw (eq-eqb b 0 q) in rw f (and_fails_left false _ refl ∙ sym (and_fails_left false _ refl)))
    (λ q. ap (λ (t : Bool). not (eqb b 0) and t)
    (sym (any_next _ j ∙ or_first _ _ (ne_eqb (slot_in G slots j) b (λ w. q (sym w ∙ z))))))

slot_lists : (G : Geometry) (slots : Bytes) (j b : ℕ) → (slot_in G slots j ≡ 0 → ⊥) → (in_slots G slots j b or eqb b (slot_in G slots j)) ≡ in_slots G slots (j + 1) b
unfolding in_slots
slot_lists G slots j b z =
    split (eq_or_ne b (slot_in G slots j))
    (λ q. let n : not (eqb b 0) ≡ true = rw (ne_eqb b 0 (λ w. z (sym q ∙ w))) in
    or_right _ _ (eq-eqb b (slot_in G slots j) q)
    ∙ sym (and_both _ _ n (any_next _ j ∙ or_right _ _ (eq-eqb (slot_in G slots j) b (sym q)))))
    (λ q. or_first _ _ (ne_eqb b (slot_in G slots j) q)
    ∙ ap (λ (t : Bool). not (eqb b 0) and t) (sym (any_next _ j ∙ or_first _ _ (ne_eqb (slot_in G slots j) b (λ w. q (sym w))))))

pub slots_more : (G : Geometry) (slots old map : Bytes) (j : ℕ) → Freed (in_slots G slots j) old map → Freed (in_slots G slots (j + 1)) old (unlisted_slot map (slot_in G slots j))
unfolding unlisted_slot
slots_more G slots old map j u =
    cond_either (λ (m : Bytes). Freed (in_slots G slots (j + 1)) old m) (eqb (slot_in G slots j) 0)
    (λ t. freed_cong (in_slots G slots j) (in_slots G slots (j + 1)) (λ b h. slot_empty G slots j b (eqb-true _ _ t)) u)
    (λ f. freed_cong (λ (b : ℕ). in_slots G slots j b or eqb b (slot_in G slots j)) (in_slots G slots (j + 1))
    (λ b h. slot_lists G slots j b (eqb-false _ _ f)) (freed_then u (freed_one map (slot_in G slots j))))

pub slots_done : (G : Geometry) (slots old map : Bytes) → length old ≡ G.blocks → Freed (in_slots G slots slot_count) old map → map ≡ unlisted_map G slots old
unfolding unlisted_map unlisted_note
slots_done G slots old map l u = freed_is G.blocks l u

-- ---- the maps of a delete, note by note
pub unlisted_freed : (G : Geometry) (slots map : Bytes) → length map ≡ G.blocks → Freed (in_slots G slots slot_count) map (unlisted_map G slots map)
unfolding unlisted_map unlisted_note
unlisted_freed G slots map l = freed_tab G.blocks (in_slots G slots slot_count) map l

pub unheld_freed : (G : Geometry) (picked : ℕ → Bool) (map : Bytes) → length map ≡ G.blocks
    → Freed (λ (b : ℕ). held_for_rule picked (note_at_rule map b)) map (unheld_map G picked map)
unfolding unheld_map unheld_note_rule
unheld_freed G picked map l = freed_tab G.blocks (λ (b : ℕ). held_for_rule picked (note_at_rule map b)) map l

-- a free note is not held
pub free_unheld : (picked : ℕ → Bool) → held_for_rule picked free_note ≡ false
unfolding held_for_rule
free_unheld picked = and_fails_left _ _ (settled_not 0 (omega arith))

-- ---- a loop over entries that frees the slots of those that are picked: the blocks of those below i are free
-- some picked entry below i lists block b
unfoldable pub in_entries : Geometry → Rows → (ℕ → Bool) → ℕ → ℕ → Bool
in_entries G d picked i b = any_below (λ (e : ℕ). picked e and in_slots G (slots_of (d e)) slot_count b) i

module _ (G : Geometry) (d : Rows) (picked : ℕ → Bool) where
  pub entries_none : (map : Bytes) → Freed (in_entries G d picked 0) map map
  unfolding in_entries
  entries_none map =
      freed_cong (λ (b : ℕ). false) (in_entries G d picked 0)
      (λ b h. sym (any_none (λ (e : ℕ). picked e and in_slots G (slots_of (d e)) slot_count b))) (freed_none map)

  pub entries_kept : (old map : Bytes) (i : ℕ) → picked i ≡ false → Freed (in_entries G d picked i) old map → Freed (in_entries G d picked (i + 1)) old map
  unfolding in_entries
  entries_kept old map i f u =
      freed_cong (in_entries G d picked i) (in_entries G d picked (i + 1)) (λ b h. sym (any_next _ i ∙ or_first _ _ (and_fails_left _ _ f))) u

  pub entries_more : (old map : Bytes) (i : ℕ) → length old ≡ G.blocks → picked i ≡ true
      → Freed (in_entries G d picked i) old map → Freed (in_entries G d picked (i + 1)) old (unlisted_map G (slots_of (d i)) map)
  unfolding in_entries
  entries_more old map i l t u =
      freed_cong (λ (b : ℕ). in_entries G d picked i b or in_slots G (slots_of (d i)) slot_count b) (in_entries G d picked (i + 1))
      (λ b h. sym (any_next _ i ∙ ap (λ (x : Bool). in_entries G d picked i b or x) (and_then (picked i) _ t)))
      (freed_then u (unlisted_freed G (slots_of (d i)) map (u.long ∙ l)))

module _ (G : Geometry) (d : Rows) (picked : ℕ → Bool) (sure : (e : ℕ) → e < G.entries → picked e ≡ true → used (d e) ≡ true) where
  -- the slots of the picked entries, and all slots counted through
  pub entries_listed : (b : ℕ) → in_entries G d picked G.entries b ≡ listed_by G d picked b
  unfolding in_entries listed_by in_slots
  entries_listed b =
      bool_ext (in_entries G d picked G.entries b) (listed_by G d picked b)
      (λ t. let s = any_some (λ (e : ℕ). picked e and in_slots G (slots_of (d e)) slot_count b) G.entries t in
      let e : ℕ = s.place in
      let r = any_some (λ (j : ℕ). eqb (slot_in G (slots_of (d e)) j) b) slot_count (and_right _ _ (and_right _ _ s.holds)) in
      let j : ℕ = r.place in
      let l : j < slot_count = r.below in
      let z : not (eqb b 0) ≡ true = and_left _ _ (and_right _ _ s.holds) in
      let a : Stands G d b e j = record {
        entry = s.below;
        place = l;
        uses = sure e s.below (and_left _ _ s.holds);
        is = sym (slot_in_slots_of G (d e) j) ∙ eqb-true _ _ r.holds;
        real = eqb-false b 0 (not-true (eqb b 0) z);
      } in
      let q : (slot_count * e + j) / slot_count ≡ e = omega arith in
      and_both _ _ z
      (any_at (λ (x : ℕ). picked (x / slot_count) and eqb (listed G d x) b) (slots_in_all G) (slot_count * e + j) (stands_place G d b e j a)
      (and_both _ _ (ap picked q ∙ and_left _ _ s.holds) (eq-eqb _ _ (stands_listed G d b e j a)))))
      (λ t. let s = any_some (λ (x : ℕ). picked (x / slot_count) and eqb (listed G d x) b) (slots_in_all G) (and_right _ _ t) in
      let x : ℕ = s.place in
      let z : not (eqb b 0) ≡ true = and_left _ _ t in
      let a = stands_at G d x b s.below (eqb-true _ _ (and_right _ _ s.holds)) (eqb-false b 0 (not-true (eqb b 0) z)) in
      any_at (λ (e : ℕ). picked e and in_slots G (slots_of (d e)) slot_count b) G.entries (x / slot_count) a.entry
      (and_both _ _ (and_left _ _ s.holds) (and_both _ _ z
      (any_at (λ (j : ℕ). eqb (slot_in G (slots_of (d (x / slot_count))) j) b) slot_count (x % slot_count) a.place
      (eq-eqb _ _ (slot_in_slots_of G (d (x / slot_count)) (x % slot_count) ∙ a.is))))))

  -- after the loop, freeing what is held releases the blocks of the picked entries
  pub entries_released : (old map : Bytes) → length old ≡ G.blocks → Freed (in_entries G d picked G.entries) old map → unheld_map G picked map ≡ released_map G d picked old
  unfolding released_map released_note
  entries_released old map l u =
      freed_is G.blocks l
      (freed_cong (λ (b : ℕ). in_entries G d picked G.entries b or held_for_rule picked (note_at_rule map b))
      (λ (b : ℕ). listed_by G d picked b or held_for_rule picked (note_at_rule old b))
      (λ b h. same_held b h) (freed_then u (unheld_freed G picked map (u.long ∙ l))))
    where
      same_held : (b : ℕ) → b < length old
          → (in_entries G d picked G.entries b or held_for_rule picked (note_at_rule map b)) ≡ (listed_by G d picked b or held_for_rule picked (note_at_rule old b))
      same_held b h =
          split (bool_cases (in_entries G d picked G.entries b))
          (λ t. or_left _ _ t ∙ sym (or_left _ _ (sym (entries_listed b) ∙ t)))
          (λ f. let q : note_at_rule map b ≡ cond (in_entries G d picked G.entries b) free_note (note_at_rule old b) = u.note b h in
          let k : note_at_rule map b ≡ note_at_rule old b = rw f at q in rw (k, entries_listed b))

-- ---- the released map, note by note
pub length_released : (G : Geometry) (d : Rows) (picked : ℕ → Bool) (map : Bytes) → length (released_map G d picked map) ≡ G.blocks
unfolding released_map
length_released G d picked map = length_tab G.blocks (λ (b : ℕ). released_note G d picked b (note_at_rule map b))

pub released_at : (G : Geometry) (d : Rows) (picked : ℕ → Bool) (map : Bytes) (b : ℕ) → b < G.blocks
    → note_at_rule (released_map G d picked map) b ≡ released_note G d picked b (note_at_rule map b)
unfolding released_map
released_at G d picked map b h = get_d_tab G.blocks (λ (b : ℕ). released_note G d picked b (note_at_rule map b)) b h
