-- What carries consistency and right notes from one directory to another, entry by entry and block by block.
use Rattle.std.specs.Prelude.{◌≡◌, refl, ◌⊎◌, Bool, true, false, ℕ, ◌≤◌, ◌<◌}
use Rattle.std.proofs.Common.{ap, sym, ◌∙◌, subst, inl, inr, arith}
use Rattle.lists.specs.Cases.{split, bool_cases, not_both}
use Rattle.lists.specs.Tests.{◌and◌}
use Rattle.format.specs.Diskette.{Bytes, Geometry, Sound}
use Rattle.format.specs.Entries.{Rows, slot_of, used, empty}
use Rattle.format.specs.Dates.{is_label, is_dates, dates_right_rule, is_fourth}
use Rattle.format.specs.Consistent.{aside_right}
use Rattle.format.specs.Notes.{is_listed}
use Rattle.facts.specs.Names.{like_refl, like_trans}
use Rattle.consistency.specs.Facts.{Fine, Stands, SameFile, Consistent}
use Rattle.consistency.specs.Listed.{listed_somewhere, somewhere_listed}
use Rattle.consistency.specs.Reflect.{same_sym, used_no_label, used_no_dates, empty_no_label, empty_no_dates, dates_no_label, dates_is, dates_aside}
use Rattle.notes.specs.Right.{Spare, NoteOk, ok_area, ok_recorded, ok_free, ok_pending}

pub same_refl : (G : Geometry) (r : Bytes) → SameFile G r r
same_refl G r = record { user = refl; name = like_refl r 1; run = refl }

pub same_trans : (G : Geometry) (r t s : Bytes) → SameFile G r t → SameFile G t s → SameFile G r s
same_trans G r t s p q = record { user = p.user ∙ q.user; name = like_trans s 1 t 1 r 1 q.name p.name; run = p.run ∙ q.run }

-- a block past the directory is not block 0, which stands for none
pub past_real : {G : Geometry} → Sound G → (b : ℕ) → G.area ≤ b → b ≡ 0 → ⊥
past_real S b h q = omega (arith, S.area_some)

-- ---- a row of a file, or an empty one, is no label and no date entry
pub plain_no_dates : (r : Bytes) → (used r ≡ true) ⊎ (empty r ≡ true) → is_dates r ≡ false
plain_no_dates r (inl u) = used_no_dates r u
plain_no_dates r (inr z) = empty_no_dates r z

pub plain_no_label : (r : Bytes) → (used r ≡ true) ⊎ (empty r ≡ true) → is_label r ≡ false
plain_no_label r (inl u) = used_no_label r u
plain_no_label r (inr z) = empty_no_label r z

-- ---- blocks that are listed nowhere
module _ (G : Geometry) (d : Rows) (b : ℕ) where
  pub unlisted_never : is_listed G d b ≡ false → (e j : ℕ) → Stands G d b e j → ⊥
  unlisted_never f e j s = not_both (is_listed G d b) (somewhere_listed G d b e j s) f

  pub never_unlisted : (b ≡ 0 → ⊥) → ((e j : ℕ) → Stands G d b e j → ⊥) → is_listed G d b ≡ false
  never_unlisted r f =
      split (bool_cases (is_listed G d b)) (λ t. let s = listed_somewhere G d b r t in absurd (f s.e s.j s.stands)) (λ u. u)

module _ (G : Geometry) (d d' : Rows) where
  -- a row that stays
  pub stands_row : (b e j : ℕ) → d e ≡ d' e → Stands G d b e j → Stands G d' b e j
  stands_row b e j q s = record {
    entry = s.entry;
    place = s.place;
    uses = sym (ap used q) ∙ s.uses;
    is = sym (ap (λ (r : Bytes). slot_of G r j) q) ∙ s.is;
    real = s.real;
  }

  -- some rows change and the others stay: what must be known of those that change, for the directory to stay consistent
  module _ (S : Sound G) (c : Consistent G d) (picked : ℕ → Bool)
      (kept : (k : ℕ) → k < G.entries → picked k ≡ false → d' k ≡ d k)
      (was : (k : ℕ) → k < G.entries → picked k ≡ true → (used (d k) ≡ true) ⊎ (empty (d k) ≡ true))
      (fine : (k : ℕ) → k < G.entries → picked k ≡ true → used (d' k) ≡ true → Fine G (d' k))
      (other : (k : ℕ) → k < G.entries → picked k ≡ true → used (d' k) ≡ false → empty (d' k) ≡ true)
      (once_entry : (b e j f k : ℕ) → Stands G d' b e j → Stands G d' b f k → e ≡ f)
      (once_slot : (b e j f k : ℕ) → Stands G d' b e j → Stands G d' b f k → j ≡ k)
      (apart : (k f : ℕ) → k < G.entries → f < G.entries → picked k ≡ true → picked f ≡ true → used (d' k) ≡ true → used (d' f) ≡ true → SameFile G (d' k) (d' f) → k ≡ f)
      (new : (k f : ℕ) → k < G.entries → f < G.entries → picked k ≡ true → picked f ≡ false → used (d' k) ≡ true → used (d f) ≡ true → SameFile G (d' k) (d f) → ⊥) where
    use_back : (k : ℕ) → k < G.entries → picked k ≡ false → used (d' k) ≡ true → used (d k) ≡ true
    use_back k l n u = sym (ap used (kept k l n)) ∙ u

    alone : (e f : ℕ) → e < G.entries → f < G.entries → used (d' e) ≡ true → used (d' f) ≡ true → SameFile G (d' e) (d' f) → e ≡ f
    alone e f l h u w s =
        split (bool_cases (picked e))
        (λ p. split (bool_cases (picked f)) (λ q. apart e f l h p q u w s)
        (λ q. absurd (new e f l h p q u (use_back f h q w) (subst (SameFile G (d' e)) (kept f h q) s))))
        (λ p. split (bool_cases (picked f))
        (λ q. absurd (new f e h l q p w (use_back e l p u) (subst (SameFile G (d' f)) (kept e l p) (same_sym G (d' e) (d' f) s))))
        (λ q. c.apart e f l h (use_back e l p u) (use_back f h q w)
        (subst (λ (r : Bytes). SameFile G r (d f)) (kept e l p) (subst (SameFile G (d' e)) (kept f h q) s))))

    -- rows that change were a file's or empty, and are: so labels and date entries stay where they are
    plain : (k : ℕ) → k < G.entries → picked k ≡ true → (used (d' k) ≡ true) ⊎ (empty (d' k) ≡ true)
    plain k l p = split (bool_cases (used (d' k))) (λ u. inl u) (λ u. inr (other k l p u))

    dates_same : (k : ℕ) → k < G.entries → is_dates (d' k) ≡ is_dates (d k)
    dates_same k l =
        split (bool_cases (picked k)) (λ p. plain_no_dates (d' k) (plain k l p) ∙ sym (plain_no_dates (d k) (was k l p))) (λ p. ap is_dates (kept k l p))

    label_same : (k : ℕ) → k < G.entries → is_label (d' k) ≡ is_label (d k)
    label_same k l =
        split (bool_cases (picked k)) (λ p. plain_no_label (d' k) (plain k l p) ∙ sym (plain_no_label (d k) (was k l p))) (λ p. ap is_label (kept k l p))

    pub change_dir : Consistent G d'
    change_dir = record {
      fine = λ k l u. split (bool_cases (picked k)) (λ p. fine k l p u)
          (λ p. subst (Fine G) (sym (kept k l p)) (c.fine k l (use_back k l p u)));
      other = λ k l u z. split (bool_cases (picked k)) (λ p. not_both (empty (d' k)) (other k l p u) z)
          (λ p. ap aside_right (kept k l p) ∙ c.other k l (sym (ap used (kept k l p)) ∙ u) (sym (ap empty (kept k l p)) ∙ z));
      dates = λ k l. dates_same k l ∙ c.dates k l ∙ ap (λ (b : Bool). is_fourth k and b) (sym (dates_same 3 (omega (arith, S.fours))));
      label = λ k f l h p q. c.label k f l h (sym (label_same k l) ∙ p) (sym (label_same f h) ∙ q);
      once_entry = once_entry;
      once_slot = once_slot;
      apart = alone;
    }

-- ---- notes of a directory in which every block stands where it stood
module _ {G : Geometry} (S : Sound G) (d d' : Rows) where
  -- a block that stands nowhere new stays spare
  pub spare_on : (b : ℕ) → ((e j : ℕ) → Stands G d' b e j → Stands G d b e j) → Spare G d b → Spare G d' b
  spare_on b back s = record {
    past = s.past;
    unlisted = never_unlisted G d' b (past_real S b s.past) (λ e j w. unlisted_never G d b s.unlisted e j (back e j w));
  }

  -- a block that stands where it stood stays listed
  pub listed_on : (b : ℕ) → G.area ≤ b → ((e j : ℕ) → Stands G d b e j → Stands G d' b e j) → is_listed G d b ≡ true → is_listed G d' b ≡ true
  listed_on b past forth t =
      let s = listed_somewhere G d b (past_real S b past) t in somewhere_listed G d' b s.e s.j (forth s.e s.j s.stands)

  module _ (back : (b e j : ℕ) → Stands G d' b e j → Stands G d b e j) (forth : (b e j : ℕ) → Stands G d b e j → Stands G d' b e j)
      (on : (e : ℕ) → e < G.entries → used (d e) ≡ true → used (d' e) ≡ true) where
    pub note_on : (b n n' : ℕ) → n' ≡ n → NoteOk G d b n → NoteOk G d' b n'
    note_on b n n' q (ok_area z h) = ok_area (q ∙ z) h
    note_on b n n' q (ok_recorded z h t) = ok_recorded (q ∙ z) h (listed_on b h (forth b) t)
    note_on b n n' q (ok_free z s) = ok_free (q ∙ z) (spare_on b (back b) s)
    note_on b n n' q (ok_pending e j z h l u s) = ok_pending e j (q ∙ z) h l (on e h u) (spare_on b (back b) s)

-- ---- date entries change, and stay right; all other rows stay
module _ {G : Geometry} (S : Sound G) (d d' : Rows) (c : Consistent G d)
    (kept : (k : ℕ) → k < G.entries → is_dates (d k) ≡ false → d' k ≡ d k)
    (right : (k : ℕ) → k < G.entries → is_dates (d k) ≡ true → dates_right_rule (d' k) ≡ true) where
  pub still_dates : (k : ℕ) → k < G.entries → is_dates (d' k) ≡ is_dates (d k)
  still_dates k l = split (bool_cases (is_dates (d k))) (λ t. dates_is (d' k) (right k l t) ∙ sym t) (λ t. ap is_dates (kept k l t))

  still_label : (k : ℕ) → k < G.entries → is_label (d' k) ≡ is_label (d k)
  still_label k l =
      split (bool_cases (is_dates (d k)))
      (λ t. dates_no_label (d' k) (dates_is (d' k) (right k l t)) ∙ sym (dates_no_label (d k) t)) (λ t. ap is_label (kept k l t))

  -- a row that is used is no date entry, on either side
  used_row : (k : ℕ) → k < G.entries → used (d' k) ≡ true → d' k ≡ d k
  used_row k l u = kept k l (sym (still_dates k l) ∙ used_no_dates (d' k) u)

  pub dates_back : (b e j : ℕ) → Stands G d' b e j → Stands G d b e j
  dates_back b e j s = stands_row G d' d b e j (used_row e s.entry s.uses) s

  pub dates_forth : (b e j : ℕ) → Stands G d b e j → Stands G d' b e j
  dates_forth b e j s = stands_row G d d' b e j (sym (kept e s.entry (used_no_dates (d e) s.uses))) s

  pub dates_used : (e : ℕ) → e < G.entries → used (d e) ≡ true → used (d' e) ≡ true
  dates_used e l u = ap used (kept e l (used_no_dates (d e) u)) ∙ u

  pub dates_dir : Consistent G d'
  dates_dir = record {
    fine = λ k l u. subst (Fine G) (sym (used_row k l u)) (c.fine k l (sym (ap used (used_row k l u)) ∙ u));
    other = λ k l u z. split (bool_cases (is_dates (d k))) (λ t. dates_aside (d' k) (right k l t))
        (λ t. ap aside_right (kept k l t) ∙ c.other k l (sym (ap used (kept k l t)) ∙ u) (sym (ap empty (kept k l t)) ∙ z));
    dates = λ k l. still_dates k l ∙ c.dates k l ∙ ap (λ (b : Bool). is_fourth k and b) (sym (still_dates 3 (omega (arith, S.fours))));
    label = λ k f l h p q. c.label k f l h (sym (still_label k l) ∙ p) (sym (still_label f h) ∙ q);
    once_entry = λ b e j f k s u. c.once_entry b e j f k (dates_back b e j s) (dates_back b f k u);
    once_slot = λ b e j f k s u. c.once_slot b e j f k (dates_back b e j s) (dates_back b f k u);
    apart = λ e f l h u w s. c.apart e f l h (sym (ap used (used_row e l u)) ∙ u) (sym (ap used (used_row f h w)) ∙ w)
        (subst (λ (r : Bytes). SameFile G r (d f)) (used_row e l u) (subst (SameFile G (d' e)) (used_row f h w) s));
  }
