-- Example j: which blocks a slot may list. A block is put into a slot of a used entry of a consistent image.
use Rattle.std.specs.Prelude.{◌≡◌, ◌⊎◌, Bool, true, false, ℕ, ◌≤◌, ◌<◌}
use Rattle.std.proofs.Common.{ap, sym, ◌∙◌, inl, inr, arith}
use Rattle.lists.specs.Cases.{split, eq_or_ne, not_both, refute}
use Rattle.lists.specs.Tests.{◌and◌}
use Rattle.format.specs.Diskette.{Bytes, Geometry, Sound, slot_count, slots_on, Long}
use Rattle.format.specs.Entries.{Rows, entry_at, with_entry, slot_of, user_of, used, with_slot}
use Rattle.format.specs.Dates.{is_label, is_dates, is_fourth}
use Rattle.format.specs.Consistent.{aside_right, consistent}
use Rattle.format.specs.Notes.{is_listed}
use Rattle.facts.specs.Names.{like_intro, right_cong}
use Rattle.rows.specs.Entries.{length_entry_at, entry_stored, entry_left}
use Rattle.consistency.specs.Facts.{Fine, Stands, SameFile, Consistent}
use Rattle.consistency.specs.Listed.{somewhere_listed}
use Rattle.consistency.specs.Reflect.{image_facts, facts_image, numbers_elim, numbers_intro}
use Rattle.facts.specs.Slots.{slots_on_high, length_with_slot, byte_with_slot, slot_with_slot, slot_with_slot_other}
use Rattle.fields.specs.Agree.{Agree, name_cong, numbers_cong, used_cong, empty_cong, same_file_law, same_name}

-- the rows of two directories differ in slot j of entry e alone, which is v in the second
record Put (G : Geometry) (d t : Rows) (e j v : ℕ) : Type 0 where
  head : (f : ℕ) → f < G.entries → Agree (t f) (d f) 0 16
  here : slot_of G (t e) j ≡ v
  elsewhere : (f k : ℕ) → f < G.entries → k < slot_count → ((f ≡ e) × (k ≡ j) → ⊥) → slot_of G (t f) k ≡ slot_of G (d f) k
  left : (f : ℕ) → f < G.entries → (e ≡ f → ⊥) → t f ≡ d f

module _ (G : Geometry) (d t : Rows) (e j v : ℕ) (p : Put G d t e j v) where
  same_user : (f : ℕ) → f < G.entries → user_of (t f) ≡ user_of (d f)
  same_user f h = p.head f h 0 (omega arith) (omega arith)

  still_used : (f : ℕ) → f < G.entries → used (t f) ≡ used (d f)
  still_used f h = used_cong (t f) (d f) (same_user f h)

  -- where a block stands in the second: at the slot that was put, or where it stood
  stood : (b f k : ℕ) → Stands G t b f k → ((f ≡ e) × (k ≡ j) × (v ≡ b)) ⊎ Stands G d b f k
  stood b f k s =
      let old : ((f ≡ e) × (k ≡ j) → ⊥) → Stands G d b f k =
      λ ne. record {
        entry = s.entry;
        place = s.place;
        uses = sym (still_used f s.entry) ∙ s.uses;
        is = sym (p.elsewhere f k s.entry s.place ne) ∙ s.is;
        real = s.real;
      } in
      split (eq_or_ne f e)
      (λ q. split (eq_or_ne k j)
      (λ r. let is : slot_of G (t e) j ≡ b = rw (q, r) at s.is in inl (q, r, sym p.here ∙ is))
      (λ r. inr (old (λ w. r w.1))))
      (λ q. inr (old (λ w. q w.0)))

  -- a block past the directory that stands nowhere may be put
  module _ (S : Sound G) (uses : used (d e) ≡ true) (c : Consistent G d) (below : e < G.entries) (unlisted : is_listed G d v ≡ false) (low : G.area ≤ v) (high : v < G.blocks) where
    nowhere : (f k : ℕ) → Stands G d v f k → ⊥
    nowhere f k s = not_both _ (somewhere_listed G d v f k s) unlisted

    put_slot : (f k : ℕ) → f < G.entries → k < slot_count → (slot_of G (t f) k ≡ v) ⊎ (slot_of G (t f) k ≡ slot_of G (d f) k)
    put_slot f k h l =
        split (eq_or_ne f e)
        (λ q. split (eq_or_ne k j) (λ r. inl (rw (q, r) p.here)) (λ r. inr (p.elsewhere f k h l (λ w. r w.1))))
        (λ q. inr (p.elsewhere f k h l (λ w. q w.0)))

    put_fine : (f : ℕ) → f < G.entries → used (t f) ≡ true → Fine G (t f)
    put_fine f h u =
        let old = c.fine f h (sym (still_used f h) ∙ u) in
        record {
          user = omega (arith, same_user f h, old.user);
          name = right_cong false (t f) 1 (d f) 1 (name_cong (t f) (d f) (λ i a b. p.head f h i (omega arith) (omega arith))) ∙ old.name;
          numbers = numbers_elim (t f) (numbers_cong (t f) (d f) (λ i a b. p.head f h i (omega arith) (omega arith)) ∙ numbers_intro (d f) old.numbers);
          low = λ k l real. split (put_slot f k h l) (λ q. omega arith) (λ q. omega (arith, old.low k l (λ z. real (q ∙ z))));
          high = λ k l real. split (put_slot f k h l) (λ q. omega arith) (λ q. omega (arith, old.high k l (λ z. real (q ∙ z))));
        }

    put_once : (b f k g m : ℕ) → Stands G t b f k → Stands G t b g m → (f ≡ g) × (k ≡ m)
    put_once b f k g m s r =
        split (stood b f k s)
        (λ x. split (stood b g m r) (λ y. (x.0 ∙ sym y.0, x.1 ∙ sym y.1))
        (λ y. let z : Stands G d v g m = rw x.2 y in absurd (nowhere g m z)))
        (λ x. split (stood b g m r) (λ y. let z : Stands G d v f k = rw y.2 x in absurd (nowhere f k z))
        (λ y. (c.once_entry b f k g m x y, c.once_slot b f k g m x y)))

    put_same : (f g : ℕ) → f < G.entries → g < G.entries → SameFile G (t f) (t g) → SameFile G (d f) (d g)
    put_same f g h l s =
        let a = same_file_law G (t f) (d f) (λ i x y. p.head f h i x (omega arith)) in
        let b = same_file_law G (t g) (d g) (λ i x y. p.head g l i x (omega arith)) in
        record {
          user = sym a.user ∙ s.user ∙ b.user;
          name = like_intro (d g) 1 (d f) 1
              (λ i x. sym (same_name G (t g) (d g) b i x) ∙ sym (same_name G (t f) (t g) s i x) ∙ same_name G (t f) (d f) a i x);
          run = sym a.run ∙ s.run ∙ b.run;
        }

    still_dates : (f : ℕ) → f < G.entries → is_dates (t f) ≡ is_dates (d f)
    unfolding is_dates
    still_dates f h = rw (same_user f h)

    still_label : (f : ℕ) → f < G.entries → is_label (t f) ≡ is_label (d f)
    unfolding is_label
    still_label f h = rw (same_user f h)

    put_facts : Consistent G t
    put_facts = record {
      fine = put_fine;
      other = λ f h u z. let old = sym (still_used f h) ∙ u in
          ap aside_right (p.left f h (λ q. not_both (used (d e)) uses (ap (λ (x : ℕ). used (d x)) q ∙ old)))
          ∙ c.other f h old (sym (empty_cong (t f) (d f) (same_user f h)) ∙ z);
      dates = λ f h. still_dates f h ∙ c.dates f h ∙ ap (λ (b : Bool). is_fourth f and b) (sym (still_dates 3 (omega (arith, S.fours, S.some_entry))));
      label = λ f g h l x y. c.label f g h l (sym (still_label f h) ∙ x) (sym (still_label g l) ∙ y);
      once_entry = λ b f k g m s r. (put_once b f k g m s r).0;
      once_slot = λ b f k g m s r. (put_once b f k g m s r).1;
      apart = λ f g h l u w s. c.apart f g h l (sym (still_used f h) ∙ u) (sym (still_used g l) ∙ w) (put_same f g h l s);
    }

-- ---- on an image
-- v put into slot j of entry e
unfoldable pub image_slot : Geometry → Bytes → ℕ → ℕ → ℕ → Bytes
image_slot G img e j v = with_entry G img e (with_slot G (entry_at G img e) j v)

module _ {G : Geometry} (S : Sound G) (img : Bytes) (long : Long G img) (e j v : ℕ) (below : e < G.entries) (real : j < slots_on G) where
  inside : j < slot_count
  inside = omega (arith, real, slots_on_high G)

  put_row : entry_at G (image_slot G img e j v) e ≡ with_slot G (entry_at G img e) j v
  unfolding image_slot
  put_row =
      entry_stored S img long e below (with_slot G (entry_at G img e) j v) (length_with_slot G (entry_at G img e) j v ∙ length_entry_at S img long e below)

  put_left : (f : ℕ) → f < G.entries → (e ≡ f → ⊥) → entry_at G (image_slot G img e j v) f ≡ entry_at G img f
  unfolding image_slot
  put_left f h ne =
      entry_left S img long e below (with_slot G (entry_at G img e) j v) (length_with_slot G (entry_at G img e) j v ∙ length_entry_at S img long e below) f h ne

  put_image : Put G (entry_at G img) (entry_at G (image_slot G img e j v)) e j v
  put_image = record {
    head = λ f h i a b. split (eq_or_ne e f)
        (λ q. rw (← q, put_row) (byte_with_slot G (entry_at G img e) j v real i (λ x y. omega arith)))
        (λ q. rw (put_left f h q));
    here = rw put_row (slot_with_slot G (entry_at G img e) j v real (omega (arith, length_entry_at S img long e below)));
    elsewhere = λ f k h l ne. split (eq_or_ne e f)
        (λ q. rw (← q, put_row) (slot_with_slot_other G (entry_at G img e) j v real k (λ z. ne (sym q, z))))
        (λ q. rw (put_left f h q));
    left = put_left;
  }

  -- a block past the directory that no entry lists may be put into a slot
  pub slot_allowed : used (entry_at G img e) ≡ true → consistent G img ≡ true → is_listed G (entry_at G img) v ≡ false → G.area ≤ v → v < G.blocks
      → consistent G (image_slot G img e j v) ≡ true
  slot_allowed uses right unlisted low high =
      facts_image G (image_slot G img e j v)
      (put_facts G (entry_at G img) (entry_at G (image_slot G img e j v)) e j v put_image S uses (image_facts G img right) below unlisted low high)

  -- a number of the directory's blocks, or past the last block, may not
  pub slot_refused : used (entry_at G img e) ≡ true → (v ≡ 0 → ⊥) → (v < G.area) ⊎ (G.blocks ≤ v) → consistent G (image_slot G img e j v) ≡ false
  slot_refused uses some out =
      sym (refute _ (λ right.
      let t : Rows = entry_at G (image_slot G img e j v) in
      let f = (image_facts G (image_slot G img e j v) right).fine e below (still_used G (entry_at G img) t e j v put_image e below ∙ uses) in
      let is : slot_of G (t e) j ≡ v = put_image.here in
      split out (λ w. omega (arith, f.low j inside (λ z. some (sym is ∙ z)))) (λ w. omega (arith, f.high j inside (λ z. some (sym is ∙ z))))))
