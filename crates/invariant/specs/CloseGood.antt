-- A close through a current FCB keeps image and map good.
use Rattle.std.specs.Prelude.{◌≡◌, true, ℕ, ◌≤◌, ◌<◌, length}
use Rattle.std.proofs.Math.Path.{refl, ap, sym, subst}
use Rattle.std.proofs.Common.{◌∙◌, arith}
use Rattle.std.proofs.Math.Logic.{inl, inr}
use Rattle.std.proofs.Math.Bool.{false}
use Rattle.lists.specs.Cases.{split, eq_or_ne}
use Rattle.format.specs.Diskette.{Bytes, Geometry, Sound, slot_count}
use Rattle.format.specs.Entries.{entry_at, slot_of, extent_of, used, run_of}
use Rattle.format.specs.Notes.{note_at_rule, free_note, pending_for}
use Rattle.model.specs.Closing.{closed_row_rule, closed_image, closed_map}
use Rattle.consistency.specs.Facts.{SameFile}
use Rattle.notes.specs.Numbers.{pending_not, pending_block}
use Rattle.facts.specs.Long.{long_on}
use Rattle.rows.specs.Entries.{length_entry_at}
use Rattle.fields.specs.Images.{length_closed_image, row_closed_image, row_closed_image_other}
use Rattle.facts.specs.Naming.{file_run}
use Rattle.consistency.specs.Naming.{file_used}
use Rattle.fields.specs.Closing.{right_closed, numbers_closed, slot_closed_old, slot_closed_new, slot_closed_cases, file_closed, length_closed_map, note_closed_taken, note_closed_left}
use Rattle.facts.specs.Current.{Current}
use Rattle.slots.specs.Slots.{SlotOk, slot_same, slot_pending}
use Rattle.current.specs.Current.{fcb_says, current_low, current_file, current_slot}
use Rattle.invariant.specs.Carry.{same_refl}
use Rattle.invariant.specs.Close.{Held, ClosedTo, close_inv}
use Rattle.invariant.specs.Good.{Good}

module _ {G : Geometry} (S : Sound G) (img map : Bytes) (g : Good G img map) (user : ℕ) (low : user ≤ 15) (fcb : Bytes) (e : ℕ)
    (c : Current G (entry_at G img) map user fcb e) where
  -- the entry of a current FCB
  pub current_below : e < G.entries
  current_below = current_low G (entry_at G img) map user fcb e c

  pub current_used : used (entry_at G img e) ≡ true
  current_used = file_used G user fcb 1 (extent_of fcb) (entry_at G img e) (current_file G (entry_at G img) map user fcb e c).holds low

  long : length (entry_at G img e) ≡ 32
  long = length_entry_at S img g.image_long e current_below

  -- it covers the FCB's extent
  covered : run_of G (extent_of (entry_at G img e)) ≡ run_of G (extent_of fcb)
  covered = file_run G user fcb 1 (extent_of fcb) (entry_at G img e) (current_file G (entry_at G img) map user fcb e c).holds

  HeldIn : ℕ → ℕ → Type 0
  HeldIn j b = Held G (entry_at G img) (λ (b : ℕ). note_at_rule map b) e j b

  -- a block that the FCB brings was held for the entry
  brought : (j b : ℕ) → j < slot_count → slot_of G (entry_at G img e) j ≡ 0 → slot_of G fcb j ≡ b → (b ≡ 0 → ⊥) → HeldIn j b
  unfolding HeldIn
  brought j b l z q n = go (current_slot G (entry_at G img) map user fcb e c j l)
    where
      go : SlotOk G map e (entry_at G img e) fcb j → Held G (entry_at G img) (λ (b : ℕ). note_at_rule map b) e j b
      go (slot_same p) = absurd (n (sym q ∙ p ∙ z))
      go (slot_pending y p) =
          let noted : note_at_rule map b ≡ pending_for e j = ap (λ (x : ℕ). note_at_rule map x) (sym q) ∙ p in
          record { was = z; low = subst (λ (n : ℕ). b < n) g.map_long (pending_block map b e j noted); noted = noted }

  closed_to : ClosedTo G (entry_at G img) (λ (b : ℕ). note_at_rule map b) e (closed_row_rule G (entry_at G img e) fcb)
  unfolding HeldIn
  closed_to =
      let fine = g.inv.dir.fine e current_below current_used in
      record {
        file = file_closed G (entry_at G img e) fcb long covered;
        name = right_closed G (entry_at G img e) fcb long false ∙ fine.name;
        numbers = numbers_closed G (entry_at G img e) fcb long fine.numbers (fcb_says fcb c.right).numbers;
        slot = λ j l. split (slot_closed_cases G (entry_at G img e) fcb long j) (λ q. inl q)
            (λ p. inr (subst (HeldIn j) (sym p.2) (brought j (slot_of G fcb j) l p.0 refl p.1)));
      }

  -- the closed entry has the FCB's slots
  pub closed_slot : (j : ℕ) → j < slot_count → slot_of G (closed_row_rule G (entry_at G img e) fcb) j ≡ slot_of G fcb j
  closed_slot j l = go (current_slot G (entry_at G img) map user fcb e c j l)
    where
      go : SlotOk G map e (entry_at G img e) fcb j → slot_of G (closed_row_rule G (entry_at G img e) fcb) j ≡ slot_of G fcb j
      go (slot_same p) =
          split (eq_or_ne (slot_of G (entry_at G img e) j) 0) (λ z. slot_closed_new G (entry_at G img e) fcb long j z)
          (λ n. slot_closed_old G (entry_at G img e) fcb long j n ∙ sym p)
      go (slot_pending y p) = slot_closed_new G (entry_at G img e) fcb long j y

  -- ---- the rows and notes afterwards
  pub there : (k : ℕ) → k < G.entries → (k ≡ e → ⊥) → entry_at G (closed_image G img e fcb) k ≡ entry_at G img k
  there = row_closed_image_other S img g.image_long e current_below fcb

  pub here : entry_at G (closed_image G img e fcb) e ≡ closed_row_rule G (entry_at G img e) fcb
  here = row_closed_image S img g.image_long e current_below fcb

  pub closed_file : (k : ℕ) → k < G.entries → SameFile G (entry_at G (closed_image G img e fcb) k) (entry_at G img k)
  closed_file k l =
      split (eq_or_ne k e)
      (λ q. subst (λ (x : ℕ). SameFile G (entry_at G (closed_image G img e fcb) x) (entry_at G img x)) (sym q)
      (subst (λ (r : Bytes). SameFile G r (entry_at G img e)) (sym here) (file_closed G (entry_at G img e) fcb long covered)))
      (λ n. subst (λ (r : Bytes). SameFile G r (entry_at G img k)) (sym (there k l n)) (same_refl G (entry_at G img k)))

  -- a free block is not taken
  pub closed_free : (b : ℕ) → b < G.blocks → note_at_rule map b ≡ free_note → note_at_rule (closed_map G (entry_at G img e) fcb map) b ≡ free_note
  unfolding HeldIn
  closed_free b h f =
      note_closed_left G (entry_at G img e) fcb map b (subst (λ (x : ℕ). b < x) (sym g.map_long) h)
      (λ t. pending_not free_note (omega arith) e t.slot (sym (brought t.slot b t.below t.was t.is t.some).noted ∙ f)) ∙ f

  pub good_closed : Good G (closed_image G img e fcb) (closed_map G (entry_at G img e) fcb map)
  unfolding HeldIn
  good_closed =
      let slot : (j : ℕ) → slot_of G (entry_at G (closed_image G img e fcb) e) j ≡ slot_of G (closed_row_rule G (entry_at G img e) fcb) j = λ j. ap (λ (r : Bytes). slot_of G r j) here in
      let new = slot_closed_new G (entry_at G img e) fcb long in
      record {
        image_long = long_on G (length_closed_image S img g.image_long e current_below fcb) g.image_long;
        map_long = length_closed_map G (entry_at G img e) fcb map ∙ g.map_long;
        inv = close_inv S (entry_at G img) (entry_at G (closed_image G img e fcb)) (λ (b : ℕ). note_at_rule map b)
            (λ (b : ℕ). note_at_rule (closed_map G (entry_at G img e) fcb map) b) g.inv e current_below current_used
            there (subst (ClosedTo G (entry_at G img) (λ (b : ℕ). note_at_rule map b) e) (sym here) closed_to)
            (λ b j l h q n. note_closed_taken G (entry_at G img e) fcb map b (subst (λ (x : ℕ). b < x) (sym g.map_long) h.low)
            (record { slot = j; below = l; was = h.was; is = sym (new j h.was) ∙ sym (slot j) ∙ q; some = n }))
            (λ b h none. note_closed_left G (entry_at G img e) fcb map b (subst (λ (x : ℕ). b < x) (sym g.map_long) h)
            (λ t. none t.slot t.below (brought t.slot b t.below t.was t.is t.some) (slot t.slot ∙ new t.slot t.was ∙ t.is)));
      }
