-- The tests of consistency and the facts imply each other.
use Rattle.std.specs.Prelude.{◌≡◌, refl, ◌⊎◌, true, ℕ, ◌+◌, ◌*◌, ◌/◌, ◌%◌, ◌≤◌, ◌<◌, leb, ltb}
use Rattle.std.proofs.Math.Path.{ap, sym}
use Rattle.std.proofs.Common.{◌∙◌, inl, inr, arith}
use Rattle.std.proofs.Math.Bool.{false, not}
use Rattle.std.proofs.Math.Dec.{eqb}
use borrow.Author.Tests.{leb-true, ltb-true, eqb-true, eqb-false, le-leb, lt-ltb, eq-eqb, ne_eqb, not-true}
use Rattle.lists.specs.Cases.{split, bool_cases, lt_or_le, eq_or_ne, refute, not_both}
use Rattle.lists.specs.Tests.{◌and◌, and_left, and_right, and_both, and_fails_left, and_fails_right, second_fails, or_left, or_right, or_then, or_first, or_cases, agree_same, same_agree}
use Rattle.lists.specs.Below.{all_below, all_at, all_intro, any_never, any_empty}
use Rattle.lists.specs.Seen.{taken}
use Rattle.format.specs.Diskette.{Bytes, Geometry, Sound, slot_count}
use Rattle.format.specs.Entries.{Rows, entry_at, user_of, slot_of, empty, used, named, is_file_rule, covers}
use Rattle.format.specs.Dates.{is_label, is_dates, label_right_rule, dates_right_rule, is_fourth, dated}
use Rattle.format.specs.Consistent.{extent_right_rule, slot_right, slots_right, file_right, aside_right, entry_right, slots_in_all, listed, listed_once, same_file_rule, alone, dates_placed, label_once, places_right, consistent_rows, consistent}
use Rattle.facts.specs.Names.{like_sym}
use Rattle.consistency.specs.Facts.{Numbers, Fine, Stands, SameFile, Consistent}
use Rattle.consistency.specs.Listed.{stands_at, stands_place, stands_listed}

-- ---- an entry
pub used_low : (r : Bytes) → used r ≡ true → user_of r ≤ 15
unfolding used
used_low r u = leb-true _ _ u

pub low_used : (r : Bytes) → user_of r ≤ 15 → used r ≡ true
unfolding used
low_used r h = le-leb _ _ h

-- a used entry is not empty
pub used_full : (r : Bytes) → used r ≡ true → empty r ≡ false
unfolding empty
used_full r u = let h : user_of r ≤ 15 = used_low r u in ne_eqb (user_of r) 229 (λ q. omega arith)

pub empty_unused : (r : Bytes) → empty r ≡ true → used r ≡ false
empty_unused r h = split (bool_cases (used r)) (λ u. not_both (empty r) h (used_full r u)) (λ u. u)

-- so an empty entry is another than one that is used
pub empty_elsewhere : (d : Rows) (t e : ℕ) → empty (d t) ≡ true → used (d e) ≡ true → t ≡ e → ⊥
empty_elsewhere d t e z u q = not_both (empty (d t)) z (ap (λ (x : ℕ). empty (d x)) q ∙ used_full (d e) u)

-- ---- labels and date entries
-- a used entry is none of them, nor is an empty one
pub used_no_label : (r : Bytes) → used r ≡ true → is_label r ≡ false
unfolding is_label
used_no_label r u = let h : user_of r ≤ 15 = used_low r u in ne_eqb (user_of r) 32 (λ q. omega arith)

pub used_no_dates : (r : Bytes) → used r ≡ true → is_dates r ≡ false
unfolding is_dates
used_no_dates r u = let h : user_of r ≤ 15 = used_low r u in ne_eqb (user_of r) 33 (λ q. omega arith)

pub empty_no_label : (r : Bytes) → empty r ≡ true → is_label r ≡ false
unfolding is_label empty
empty_no_label r z = let h : user_of r ≡ 229 = eqb-true _ _ z in ne_eqb (user_of r) 32 (λ q. omega arith)

pub empty_no_dates : (r : Bytes) → empty r ≡ true → is_dates r ≡ false
unfolding is_dates empty
empty_no_dates r z = let h : user_of r ≡ 229 = eqb-true _ _ z in ne_eqb (user_of r) 33 (λ q. omega arith)

pub dates_unused : (r : Bytes) → is_dates r ≡ true → used r ≡ false
dates_unused r h = split (bool_cases (used r)) (λ u. not_both (is_dates r) h (used_no_dates r u)) (λ u. u)

pub dates_full : (r : Bytes) → is_dates r ≡ true → empty r ≡ false
dates_full r h = split (bool_cases (empty r)) (λ u. not_both (is_dates r) h (empty_no_dates r u)) (λ u. u)

pub label_no_dates : (r : Bytes) → is_label r ≡ true → is_dates r ≡ false
unfolding is_label is_dates
label_no_dates r h = let q : user_of r ≡ 32 = eqb-true _ _ h in ne_eqb (user_of r) 33 (λ p. omega arith)

pub dates_no_label : (r : Bytes) → is_dates r ≡ true → is_label r ≡ false
dates_no_label r h = split (bool_cases (is_label r)) (λ u. not_both (is_dates r) h (label_no_dates r u)) (λ u. u)

-- one of them is either
pub aside_either : (r : Bytes) → aside_right r ≡ true → (is_label r ≡ true) ⊎ (is_dates r ≡ true)
unfolding aside_right label_right_rule dates_right_rule
aside_either r h = split (or_cases _ _ h) (λ t. inl (and_left _ _ t)) (λ t. inr (and_left _ _ t))

-- a date entry that is right aside is right
pub aside_dates : (r : Bytes) → is_dates r ≡ true → aside_right r ≡ true → dates_right_rule r ≡ true
unfolding aside_right label_right_rule
aside_dates r i h = sym (or_then _ _ (and_fails_left _ _ (dates_no_label r i))) ∙ h

pub dates_aside : (r : Bytes) → dates_right_rule r ≡ true → aside_right r ≡ true
unfolding aside_right
dates_aside r h = or_right _ _ h

pub dates_is : (r : Bytes) → dates_right_rule r ≡ true → is_dates r ≡ true
unfolding dates_right_rule
dates_is r h = and_left _ _ h

pub aside_unused : (r : Bytes) → aside_right r ≡ true → used r ≡ false
aside_unused r h =
    split (bool_cases (used r))
    (λ u. split (aside_either r h) (λ t. not_both (is_label r) t (used_no_label r u)) (λ t. not_both (is_dates r) t (used_no_dates r u))) (λ u. u)

pub numbers_elim : (r : Bytes) → extent_right_rule r ≡ true → Numbers r
numbers_elim r h = record { ex = leb-true _ _ (and_left _ _ h); s2 = leb-true _ _ (and_right _ _ h) }

pub numbers_intro : (r : Bytes) → Numbers r → extent_right_rule r ≡ true
numbers_intro r n = and_both _ _ (le-leb _ _ n.ex) (le-leb _ _ n.s2)

module _ (G : Geometry) where
  -- a slot that is right and is not 0 holds the number of a block past the directory
  pub slot_inside : (b : ℕ) → slot_right G b ≡ true → (b ≡ 0 → ⊥) → (leb G.area b and ltb b G.blocks) ≡ true
  unfolding slot_right
  slot_inside b h r = sym (or_then _ _ (ne_eqb _ _ r)) ∙ h

  pub slot_low : (b : ℕ) → slot_right G b ≡ true → (b ≡ 0 → ⊥) → G.area ≤ b
  slot_low b h r = leb-true _ _ (and_left _ _ (slot_inside b h r))

  pub slot_high : (b : ℕ) → slot_right G b ≡ true → (b ≡ 0 → ⊥) → b < G.blocks
  slot_high b h r = ltb-true _ _ (and_right _ _ (slot_inside b h r))

  pub slot_right_law : (b : ℕ) → ((b ≡ 0 → ⊥) → G.area ≤ b) → ((b ≡ 0 → ⊥) → b < G.blocks) → slot_right G b ≡ true
  unfolding slot_right
  slot_right_law b low high =
      split (eq_or_ne b 0) (λ q. or_left _ _ (eq-eqb _ _ q))
      (λ q. or_right _ _ (and_both _ _ (le-leb _ _ (low q)) (lt-ltb _ _ (high q))))

  pub fine_elim : (r : Bytes) → used r ≡ true → entry_right G r ≡ true → Fine G r
  unfolding entry_right file_right slots_right
  fine_elim r u h =
      let no : aside_right r ≡ false = sym (refute _ (λ t. not_both (used r) u (aside_unused r t))) in
      let rest = and_right _ _ (sym (or_first _ _ no) ∙ sym (or_then _ _ (used_full r u)) ∙ h) in
      let slots = and_right _ _ (and_right _ _ rest) in
      record {
        user = used_low r u;
        name = and_left _ _ rest;
        numbers = numbers_elim r (and_left _ _ (and_right _ _ rest));
        low = λ j l. slot_low (slot_of G r j) (all_at _ slot_count slots j l);
        high = λ j l. slot_high (slot_of G r j) (all_at _ slot_count slots j l);
      }

  pub fine_intro : (r : Bytes) → Fine G r → entry_right G r ≡ true
  unfolding entry_right file_right slots_right
  fine_intro r f =
      or_right _ _
      (or_left _ _
      (and_both _ _ (low_used r f.user)
      (and_both _ _ f.name
      (and_both _ _ (numbers_intro r f.numbers)
      (all_intro _ slot_count (λ j l. slot_right_law (slot_of G r j) (f.low j l) (f.high j l)))))))

  pub aside_right_law : (r : Bytes) → aside_right r ≡ true → entry_right G r ≡ true
  unfolding entry_right
  aside_right_law r h = or_right _ _ (or_right _ _ h)

  pub empty_right : (r : Bytes) → empty r ≡ true → entry_right G r ≡ true
  unfolding entry_right
  empty_right r e = or_left _ _ e

  -- an entry that is right, not used and not empty is a label or a date entry
  pub other_aside : (r : Bytes) → used r ≡ false → empty r ≡ false → entry_right G r ≡ true → aside_right r ≡ true
  unfolding entry_right file_right
  other_aside r u z h = sym (or_then _ _ (and_fails_left _ _ u)) ∙ sym (or_then _ _ z) ∙ h

-- ---- a block stands at one place
module _ (G : Geometry) (d : Rows) where
  pub once_elim : (x y : ℕ) → listed_once G d y ≡ true → x < y → listed G d x ≡ listed G d y → listed G d y ≡ 0
  unfolding listed_once taken
  once_elim x y t h e =
      split (or_cases _ _ t) (λ z. eqb-true _ _ z)
      (λ n. absurd (eqb-false (listed G d x) (listed G d y) (any_never _ y (not-true _ n) x h) e))

  pub once_intro : (y : ℕ) → ((x : ℕ) → x < y → listed G d x ≡ listed G d y → listed G d y ≡ 0) → listed_once G d y ≡ true
  unfolding listed_once taken
  once_intro y f =
      split (eq_or_ne (listed G d y) 0) (λ z. or_left _ _ (eq-eqb _ _ z))
      (λ z. or_right _ _ (ap not (any_empty (λ (k : ℕ). eqb (listed G d k) (listed G d y)) y (λ x h. ne_eqb _ _ (λ e. z (f x h e))))))

-- ---- one entry a user, name and extent
pub same_elim : (G : Geometry) (r t : Bytes) → same_file_rule G r t ≡ true → SameFile G r t
unfolding same_file_rule is_file_rule named covers
same_elim G r t h =
    let f = and_right _ _ (and_right _ _ h) in
    let n = and_left _ _ f in
    record { user = eqb-true _ _ (and_left _ _ n); name = and_right _ _ n; run = eqb-true _ _ (and_right _ _ f) }

pub same_intro : (G : Geometry) (r t : Bytes) → used r ≡ true → used t ≡ true → SameFile G r t → same_file_rule G r t ≡ true
unfolding same_file_rule is_file_rule named covers
same_intro G r t u v s =
    and_both _ _ u (and_both _ _ v (and_both _ _ (and_both _ _ (eq-eqb _ _ s.user) s.name) (eq-eqb _ _ s.run)))

pub same_used_left : (G : Geometry) (r t : Bytes) → same_file_rule G r t ≡ true → used r ≡ true
unfolding same_file_rule
same_used_left G r t h = and_left _ _ h

pub same_used_right : (G : Geometry) (r t : Bytes) → same_file_rule G r t ≡ true → used t ≡ true
unfolding same_file_rule
same_used_right G r t h = and_left _ _ (and_right _ _ h)

pub same_sym : (G : Geometry) (r t : Bytes) → SameFile G r t → SameFile G t r
same_sym G r t s = record { user = sym s.user; name = like_sym t 1 r 1 s.name; run = sym s.run }

module _ (G : Geometry) (d : Rows) where
  pub alone_elim : (e f : ℕ) → alone G d e ≡ true → f < e → same_file_rule G (d e) (d f) ≡ true → ⊥
  unfolding alone
  alone_elim e f t h s = not_both (same_file_rule G (d e) (d f)) s (any_never _ e (not-true _ t) f h)

  pub alone_intro : (e : ℕ) → ((f : ℕ) → f < e → same_file_rule G (d e) (d f) ≡ true → ⊥) → alone G d e ≡ true
  unfolding alone
  alone_intro e g = ap not (any_empty (λ (f : ℕ). same_file_rule G (d e) (d f)) e (λ f h. sym (refute _ (g f h))))

-- ---- labels and date entries at their places
module _ (d : Rows) where
  pub placed_elim : (e : ℕ) → dates_placed d e ≡ true → is_dates (d e) ≡ (is_fourth e and dated d)
  unfolding dates_placed
  placed_elim e h = agree_same _ _ h

  pub placed_intro : (e : ℕ) → is_dates (d e) ≡ (is_fourth e and dated d) → dates_placed d e ≡ true
  unfolding dates_placed
  placed_intro e h = same_agree _ _ h

  pub label_elim : (e f : ℕ) → label_once d e ≡ true → f < e → is_label (d e) ≡ true → is_label (d f) ≡ true → ⊥
  unfolding label_once
  label_elim e f t h p q = not_both (is_label (d f)) q (any_never _ e (second_fails _ _ (not-true _ t) p) f h)

  pub label_intro : (e : ℕ) → ((f : ℕ) → f < e → is_label (d e) ≡ true → is_label (d f) ≡ true → ⊥) → label_once d e ≡ true
  unfolding label_once
  label_intro e g =
      split (bool_cases (is_label (d e)))
      (λ t. ap not (and_fails_right _ _ (any_empty (λ (f : ℕ). is_label (d f)) e (λ f h. sym (refute _ (g f h t))))))
      (λ t. ap not (and_fails_left _ _ t))

-- ---- the directory
module _ (G : Geometry) (d : Rows) where
  once_place : (t : all_below (listed_once G d) (slots_in_all G) ≡ true) (b e j f k : ℕ) → Stands G d b e j → Stands G d b f k → slot_count * e + j ≡ slot_count * f + k
  once_place t b e j f k s u =
      let x : ℕ = slot_count * e + j in
      let y : ℕ = slot_count * f + k in
      let q : listed G d x ≡ b = stands_listed G d b e j s in
      let r : listed G d y ≡ b = stands_listed G d b f k u in
      split (lt_or_le x y)
      (λ l. absurd (s.real (sym r ∙ once_elim G d x y (all_at _ (slots_in_all G) t y (stands_place G d b f k u)) l (q ∙ sym r))))
      (λ l. split (lt_or_le y x)
      (λ m. absurd (s.real (sym q ∙ once_elim G d y x (all_at _ (slots_in_all G) t x (stands_place G d b e j s)) m (r ∙ sym q))))
      (λ m. omega arith))

  apart_order : (t : all_below (alone G d) G.entries ≡ true) (e f : ℕ) → e < G.entries → used (d e) ≡ true → used (d f) ≡ true → SameFile G (d e) (d f) → f < e → ⊥
  apart_order t e f l u v s h = alone_elim G d e f (all_at _ G.entries t e l) h (same_intro G (d e) (d f) u v s)

  places_at : places_right G d ≡ true → (e : ℕ) → e < G.entries → (dates_placed d e and label_once d e) ≡ true
  unfolding places_right
  places_at t = all_at _ G.entries t

  pub consistent_facts : consistent_rows G d ≡ true → Consistent G d
  unfolding consistent_rows
  consistent_facts t =
      let entries = all_at _ G.entries (and_left _ _ t) in
      let once = and_left _ _ (and_right _ _ t) in
      let alones = and_left _ _ (and_right _ _ (and_right _ _ t)) in
      let places = places_at (and_right _ _ (and_right _ _ (and_right _ _ t))) in
      record {
        fine = λ e h u. fine_elim G (d e) u (entries e h);
        other = λ e h u z. other_aside G (d e) u z (entries e h);
        dates = λ e h. placed_elim d e (and_left _ _ (places e h));
        label = λ e f h l p q. split (lt_or_le f e) (λ w. absurd (label_elim d e f (and_right _ _ (places e h)) w p q))
            (λ w. split (lt_or_le e f) (λ z. absurd (label_elim d f e (and_right _ _ (places f l)) z q p)) (λ z. omega arith));
        once_entry = λ b e j f k s u. let q = once_place once b e j f k s u in let p = s.place in let r = u.place in omega arith;
        once_slot = λ b e j f k s u. let q = once_place once b e j f k s u in let p = s.place in let r = u.place in omega arith;
        apart = λ e f h l u v s. split (lt_or_le f e) (λ w. absurd (apart_order alones e f h u v s w))
            (λ w. split (lt_or_le e f) (λ z. absurd (apart_order alones f e l v u (same_sym G (d e) (d f) s) z)) (λ z. omega arith));
      }

  facts_entry : Consistent G d → (e : ℕ) → e < G.entries → entry_right G (d e) ≡ true
  facts_entry c e h =
      split (bool_cases (used (d e))) (λ u. fine_intro G (d e) (c.fine e h u))
      (λ u. split (bool_cases (empty (d e))) (λ z. empty_right G (d e) z) (λ z. aside_right_law G (d e) (c.other e h u z)))

  facts_once : Consistent G d → (y : ℕ) → y < slots_in_all G → listed_once G d y ≡ true
  facts_once c y h =
      once_intro G d y
      (λ x l q. split (eq_or_ne (listed G d y) 0) (λ z. z)
      (λ z. let s = stands_at G d x (listed G d y) (omega arith) q z in
      let u = stands_at G d y (listed G d y) h refl z in
      let a : x / slot_count ≡ y / slot_count = c.once_entry (listed G d y) (x / slot_count) (x % slot_count) (y / slot_count) (y % slot_count) s u in
      let b : x % slot_count ≡ y % slot_count = c.once_slot (listed G d y) (x / slot_count) (x % slot_count) (y / slot_count) (y % slot_count) s u in
      absurd (omega arith)))

  pub facts_alone : Consistent G d → (e : ℕ) → e < G.entries → alone G d e ≡ true
  facts_alone c e h =
      alone_intro G d e
      (λ f l t. let q : e ≡ f = c.apart e f h (omega arith) (same_used_left G (d e) (d f) t) (same_used_right G (d e) (d f) t) (same_elim G (d e) (d f) t) in omega arith)

  facts_places : Consistent G d → places_right G d ≡ true
  unfolding places_right
  facts_places c =
      all_intro _ G.entries
      (λ e h. and_both _ _ (placed_intro d e (c.dates e h))
      (label_intro d e (λ f l p q. let w : e ≡ f = c.label e f h (omega arith) p q in omega arith)))

  pub facts_consistent : Consistent G d → consistent_rows G d ≡ true
  unfolding consistent_rows
  facts_consistent c =
      and_both _ _ (all_intro _ G.entries (facts_entry c))
      (and_both _ _ (all_intro _ (slots_in_all G) (facts_once c)) (and_both _ _ (all_intro _ G.entries (facts_alone c)) (facts_places c)))

  -- a directory of empty entries, as on an erased disk, is consistent
  pub all_empty : Sound G → ((e : ℕ) → e < G.entries → empty (d e) ≡ true) → Consistent G d
  all_empty S n = record {
    fine = λ e h u. not_both (empty (d e)) (n e h) (used_full (d e) u);
    other = λ e h u z. not_both (empty (d e)) (n e h) z;
    dates = λ e h. empty_no_dates (d e) (n e h) ∙ sym (and_fails_right _ _ (empty_no_dates (d 3) (n 3 (omega (arith, S.fours)))));
    label = λ e f h l p q. not_both (is_label (d e)) p (empty_no_label (d e) (n e h));
    once_entry = λ b e j f k s t. not_both (empty (d e)) (n e s.entry) (used_full (d e) s.uses);
    once_slot = λ b e j f k s t. not_both (empty (d e)) (n e s.entry) (used_full (d e) s.uses);
    apart = λ e f h l u v s. not_both (empty (d e)) (n e h) (used_full (d e) u);
  }

  -- and so is one of empty entries with a date entry in every fourth position, as on a new disk with dates
  pub all_dated : Sound G → ((e : ℕ) → e < G.entries → is_fourth e ≡ true → dates_right_rule (d e) ≡ true)
      → ((e : ℕ) → e < G.entries → is_fourth e ≡ false → empty (d e) ≡ true) → Consistent G d
  all_dated S fourth n = record {
    fine = λ e h u. not_both (used (d e)) u (unused e h);
    other = λ e h u z. split (bool_cases (is_fourth e)) (λ t. dates_aside (d e) (fourth e h t)) (λ t. not_both (empty (d e)) (n e h t) z);
    dates = λ e h. split (bool_cases (is_fourth e))
        (λ t. dates_is (d e) (fourth e h t) ∙ sym (and_both _ _ t (dates_is (d 3) (fourth 3 (omega (arith, S.fours, S.some_entry)) refl))))
        (λ t. empty_no_dates (d e) (n e h t) ∙ sym (and_fails_left _ _ t));
    label = λ e f h l p q. split (bool_cases (is_fourth e)) (λ t. not_both (is_label (d e)) p (dates_no_label (d e) (dates_is (d e) (fourth e h t))))
        (λ t. not_both (is_label (d e)) p (empty_no_label (d e) (n e h t)));
    once_entry = λ b e j f k s t. not_both (used (d e)) s.uses (unused e s.entry);
    once_slot = λ b e j f k s t. not_both (used (d e)) s.uses (unused e s.entry);
    apart = λ e f h l u v s. not_both (used (d e)) u (unused e h);
  }
    where
      unused : (e : ℕ) → e < G.entries → used (d e) ≡ false
      unused e h = split (bool_cases (is_fourth e)) (λ t. dates_unused (d e) (dates_is (d e) (fourth e h t))) (λ t. empty_unused (d e) (n e h t))

-- ---- an image, whose rows are its directory
module _ (G : Geometry) (img : Bytes) where
  pub image_facts : consistent G img ≡ true → Consistent G (entry_at G img)
  unfolding consistent
  image_facts t = consistent_facts G (entry_at G img) t

  pub facts_image : Consistent G (entry_at G img) → consistent G img ≡ true
  unfolding consistent
  facts_image c = facts_consistent G (entry_at G img) c
