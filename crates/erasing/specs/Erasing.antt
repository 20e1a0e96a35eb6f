-- A delete as a loop over the entries: each row that is picked is erased, its blocks become free and it is marked; then what is
-- pending for the marked entries becomes free.
use Rattle.std.specs.Prelude.{◌≡◌, Bool, true, ℕ, ◌+◌, ◌<◌, length, set}
use Rattle.std.proofs.Math.Path.{sym, ap}
use Rattle.std.proofs.Common.{◌∙◌, arith}
use Rattle.std.proofs.Math.Bool.{cond}
use Rattle.lists.specs.Cases.{split, bool_cases, cond_either}
use Rattle.lists.specs.Tests.{and_fails_left}
use Rattle.lists.specs.Seen.{bit, bit_set}
use Rattle.lists.specs.Fold.{fold_below, fold_none, fold_more}
use Rattle.lists.specs.Tab.{Filled, filled_none, filled_more, tab_cong}
use Rattle.format.specs.Diskette.{Bytes, Geometry, Sound, Long}
use Rattle.format.specs.Entries.{Rows, entry_at, slots_of, used}
use Rattle.format.specs.Notes.{note_at_rule, free_note, pending_entry, held_for_rule, map_right, released_map}
use Rattle.facts.specs.Slots.{slot_place}
use Rattle.model.specs.Calls.{changed_row, changed_rows, erased_row}
use Rattle.facts.specs.Long.{long_on}
use Rattle.fields.specs.Changing.{length_changed, row_to_come, length_erased_row}
use Rattle.notes.specs.Numbers.{settled_not, pending_entry_law}
use Rattle.notes.specs.Right.{NoteOk, ok_area, ok_recorded, ok_free, ok_pending, map_ok}
use Rattle.freeing.specs.Freeing.{unlisted_map, unheld_note_rule, unheld_map, marks_pick}
use Rattle.freeing.specs.Laws.{Freed, in_entries, entries_none, entries_kept, entries_more, entries_released, free_unheld}

-- ---- what is pending, in a right map, is pending for entries that there are
module _ (G : Geometry) (d : Rows) (p q : ℕ → Bool) (same : (e : ℕ) → e < G.entries → p e ≡ q e) where
  settled_unheld : (n : ℕ) → n < 16 → held_for_rule p n ≡ held_for_rule q n
  unfolding held_for_rule
  settled_unheld n h = and_fails_left _ _ (settled_not n h) ∙ sym (and_fails_left _ _ (settled_not n h))

  pub held_same : (b n : ℕ) → NoteOk G d b n → held_for_rule p n ≡ held_for_rule q n
  unfolding held_for_rule
  held_same b n (ok_area z h) = settled_unheld n (omega arith)
  held_same b n (ok_recorded z h y) = settled_unheld n (omega arith)
  held_same b n (ok_free z y) = settled_unheld n (omega arith)
  held_same b n (ok_pending e j z h l t y) =
      let k : pending_entry n ≡ e = ap pending_entry z ∙ pending_entry_law e j (slot_place G l) in rw (k, same e h)

  -- so tests that agree on entries free the same notes of a right map some of whose blocks have become free
  pub unheld_same : (r : ℕ → Bool) (old map : Bytes) → length old ≡ G.blocks → map_right G d old ≡ true → Freed r old map
      → unheld_map G p map ≡ unheld_map G q map
  unfolding unheld_map unheld_note_rule
  unheld_same r old map l t u =
      tab_cong G.blocks _ _
      (λ b h. let z : note_at_rule map b ≡ cond (r b) free_note (note_at_rule old b) = u.note b (omega arith) in
      let k : held_for_rule p (note_at_rule map b) ≡ held_for_rule q (note_at_rule map b) =
      split (bool_cases (r b))
      (λ y. let w : note_at_rule map b ≡ free_note = rw y at z in rw w (free_unheld p ∙ sym (free_unheld q)))
      (λ y. let w : note_at_rule map b ≡ note_at_rule old b = rw y at z in rw w (held_same b (note_at_rule old b) (map_ok G d old t b h))) in rw k)

-- ---- one entry: what becomes of the image and the map, and whether it is erased
pub record Erased (G : Geometry) (picks : Bytes → Bool) (img map : Bytes) (e : ℕ) (img' map' : Bytes) (erased : Bool) : Type 0 where
  pub image : img' ≡ changed_row G picks erased_row img e
  pub notes : map' ≡ cond (picks (entry_at G img e)) (unlisted_map G (slots_of (entry_at G img e)) map) map
  pub told : erased ≡ picks (entry_at G img e)

-- ---- all entries: those below i are done, and the others as they were lent
pub record Erasing (G : Geometry) (picks : Bytes → Bool) (img map old : Bytes) (i : ℕ) (img' map' marks : Bytes) : Type 0 where
  pub size : Long G img'
  pub image : img' ≡ fold_below (changed_row G picks erased_row) img i
  pub notes : Freed (in_entries G (entry_at G img) (λ (e : ℕ). picks (entry_at G img e)) i) map map'
  pub marked : Filled (λ (e : ℕ). bit (picks (entry_at G img e))) old i marks

module _ {G : Geometry} (S : Sound G) (picks : Bytes → Bool) (img map : Bytes) (long : Long G img) (blocks : length map ≡ G.blocks) where
  abbrev picked : ℕ → Bool
  picked e = picks (entry_at G img e)

  pub erasing_none : (old : Bytes) → Erasing G picks img map old 0 img map old
  erasing_none old = record {
    size = long;
    image = sym (fold_none _ img);
    notes = entries_none G (entry_at G img) picked map;
    marked = filled_none _ old;
  }

  -- entry i is done too; its row is still the one that was lent
  pub erasing_more : {old : Bytes} (i : ℕ) (img₁ map₁ marks₁ img₂ map₂ : Bytes) (erased : Bool) (mark : ℕ) → mark ≡ bit erased → length old ≡ G.entries → i < G.entries
      → Erasing G picks img map old i img₁ map₁ marks₁ → Erased G picks img₁ map₁ i img₂ map₂ erased → Erasing G picks img map old (i + 1) img₂ map₂ (set marks₁ i mark)
  erasing_more {old} i img₁ map₁ marks₁ img₂ map₂ erased mark is whole below s t =
      let q : entry_at G img₁ i ≡ entry_at G img i =
      ap (λ (x : Bytes). entry_at G x i) s.image ∙ row_to_come S picks erased_row length_erased_row img long i i (omega arith) below in
      let next : img₂ ≡ fold_below (changed_row G picks erased_row) img (i + 1) = fold_more _ img img₁ img₂ i s.image t.image in
      let m : length marks₁ ≡ length old = s.marked.long in
      let z : map₂ ≡ cond (picks (entry_at G img₁ i)) (unlisted_map G (slots_of (entry_at G img₁ i)) map₁) map₁ = t.notes in
      record {
        size = long_on G (ap length next ∙ length_changed S picks erased_row length_erased_row img long (i + 1) (omega arith)) long;
        image = next;
        notes = rw (z, q)
            (cond_either (Freed (in_entries G (entry_at G img) picked (i + 1)) map) (picked i)
            (λ y. entries_more G (entry_at G img) picked map map₁ i blocks y s.notes)
            (λ y. entries_kept G (entry_at G img) picked map map₁ i y s.notes));
        marked = filled_more _ old i marks₁ mark (omega arith) (is ∙ ap bit (t.told ∙ ap picks q)) s.marked;
      }

  -- all are done, and what is pending for those that are marked becomes free
  pub erasing_image : {old : Bytes} (img' map' marks : Bytes) → Erasing G picks img map old G.entries img' map' marks → img' ≡ changed_rows G picks erased_row img
  unfolding changed_rows
  erasing_image img' map' marks s = s.image

  pub erasing_map : {old : Bytes} (img' map' marks : Bytes) → ((e : ℕ) → e < G.entries → picked e ≡ true → used (entry_at G img e) ≡ true)
      → map_right G (entry_at G img) map ≡ true → Erasing G picks img map old G.entries img' map' marks
      → unheld_map G (marks_pick marks) map' ≡ released_map G (entry_at G img) picked map
  unfolding marks_pick
  erasing_map img' map' marks sure right s =
      unheld_same G (entry_at G img) (marks_pick marks) picked (λ e h. rw (s.marked.done e h) (bit_set (picked e))) _ map map' blocks right s.notes
      ∙ entries_released G (entry_at G img) picked sure map map' blocks s.notes
