-- An image in which the rows that a test picks are changed (19, 23): its rows, its records and its bytes; and the row of a delete.
use Rattle.std.specs.Prelude.{◌≡◌, refl, ◌⊎◌, Bool, true, false, cond, ℕ, ◌+◌, ◌≤◌, ◌<◌, get_or, set}
use Rattle.std.proofs.Common.{ap, ◌∙◌}
use native.Mathlib.Omega.{arith}
use Rattle.std.proofs.Math.ListN.{length, length-set}
use Rattle.std.proofs.Math.Seq.{get_or-set_same, get_or-set_other}
use borrow.Author.Tests.{eq-eqb}
use Rattle.lists.specs.Cases.{split, bool_cases, lt_or_le}
use Rattle.lists.specs.Splice.{splice_set}
use Rattle.lists.specs.Fold.{fold_below, fold_builds}
use Rattle.format.specs.Diskette.{Bytes, Geometry, Sound, image_bytes, record_at, entry_bytes, Long}
use Rattle.format.specs.Entries.{entry_place_rule, entry_at, with_entry, user_of, empty}
use Rattle.disk.specs.Places.{block_records}
use Rattle.facts.specs.Long.{long_on}
use Rattle.rows.specs.Entries.{area_records, entry_fits_law, length_entry_at, length_with_entry, entry_stored, entry_left, entry_byte_left, record_kept}
use Rattle.model.specs.Calls.{changed_row, changed_rows, erased_row}
use Rattle.fields.specs.Agree.{Agree}

-- ---- rows that a test picks are changed, one after the other
module _ {G : Geometry} (S : Sound G) (picks : Bytes → Bool) (change : Bytes → Bytes)
    (keeps : (r : Bytes) → length r ≡ entry_bytes → length (change r) ≡ entry_bytes) (img : Bytes) (long : Long G img) where
  -- a row after it
  after : Bytes → Bytes
  after r = cond (picks r) (change r) r

  -- byte i lies in no row that is picked among the first n
  Outside : ℕ → ℕ → Type 0
  Outside n i = (e : ℕ) → e < n → picks (entry_at G img e) ≡ true → (i < entry_place_rule G e) ⊎ (entry_place_rule G e + entry_bytes ≤ i)

  -- the image after the first n rows
  record So (n : ℕ) (out : Bytes) : Type 0 where
    size : length out ≡ length img
    done : (e : ℕ) → e < n → e < G.entries → entry_at G out e ≡ after (entry_at G img e)
    left : (e : ℕ) → n ≤ e → e < G.entries → entry_at G out e ≡ entry_at G img e
    past : (d : ℕ) → area_records G ≤ d → d < block_records G → record_at G out d ≡ record_at G img d
    byte : (i : ℕ) → Outside n i → get_or out i 0 ≡ get_or img i 0

  so_long : (out : Bytes) → length out ≡ length img → Long G out
  so_long out q = long_on G q long

  so_none : So 0 img
  so_none = record { size = refl; done = λ e h. absurd (omega arith); left = λ e a b. refl; past = λ d a b. refl; byte = λ i o. refl }

  -- a row that is not picked
  so_kept : (n : ℕ) (out : Bytes) → n < G.entries → picks (entry_at G img n) ≡ false → So n out → So (n + 1) out
  unfolding after Outside
  so_kept n out h f s = record {
    size = s.size;
    done = λ e a b. split (lt_or_le e n) (λ l. s.done e l b)
        (λ l. let q : e ≡ n = omega arith in rw q (s.left n (omega arith) h ∙ rw f));
    left = λ e a b. s.left e (omega arith) b;
    past = s.past;
    byte = λ i o. s.byte i (λ e a p. o e (omega arith) p);
  }

  -- a row that is
  so_changed : (n : ℕ) (out : Bytes) → n < G.entries → picks (entry_at G img n) ≡ true → So n out → So (n + 1) (with_entry G out n (change (entry_at G img n)))
  unfolding after Outside
  so_changed n out h t s =
      let row : Bytes = change (entry_at G img n) in
      let w : length row ≡ entry_bytes = keeps (entry_at G img n) (length_entry_at S img long n h) in
      record {
        size = length_with_entry S out (so_long out s.size) n h row w ∙ s.size;
        done = λ e a b. split (lt_or_le e n)
            (λ l. entry_left S out (so_long out s.size) n h row w e b (λ q. omega arith) ∙ s.done e l b)
            (λ l. let q : e ≡ n = omega arith in rw q (entry_stored S out (so_long out s.size) n h row w ∙ rw t));
        left = λ e a b. entry_left S out (so_long out s.size) n h row w e b (λ q. omega arith) ∙ s.left e (omega arith) b;
        past = λ d a b. record_kept S out (so_long out s.size) n h row w d a b ∙ s.past d a b;
        byte = λ i o. entry_byte_left S out (so_long out s.size) n h row w i (o n (omega arith) t) ∙ s.byte i (λ e a p. o e (omega arith) p);
      }

  so_next : (n : ℕ) (out : Bytes) → n < G.entries → So n out → So (n + 1) (changed_row G picks change out n)
  unfolding changed_row
  so_next n out h s =
      let q : entry_at G out n ≡ entry_at G img n = s.left n (omega arith) h in
      rw q
      (split (bool_cases (picks (entry_at G img n))) (λ t. rw t (so_changed n out h t s)) (λ f. rw f (so_kept n out h f s)))

  so_far : (n : ℕ) → n ≤ G.entries → So n (fold_below (changed_row G picks change) img n)
  so_far n h = fold_builds So (changed_row G picks change) img n so_none (λ k out l s. so_next k out (omega arith) s)

  so_all : So G.entries (changed_rows G picks change img)
  unfolding changed_rows
  so_all = so_far G.entries (omega arith)

  -- the image after the first n rows: its length, and the rows that are still to come
  pub length_changed : (n : ℕ) → n ≤ G.entries → length (fold_below (changed_row G picks change) img n) ≡ length img
  length_changed n h = (so_far n h).size

  pub row_to_come : (n e : ℕ) → n ≤ e → e < G.entries → entry_at G (fold_below (changed_row G picks change) img n) e ≡ entry_at G img e
  row_to_come n e h l = (so_far n (omega arith)).left e h l

  pub length_changed_rows : length (changed_rows G picks change img) ≡ length img
  length_changed_rows = so_all.size

  pub row_changed_rows : (e : ℕ) → e < G.entries
      → entry_at G (changed_rows G picks change img) e ≡ cond (picks (entry_at G img e)) (change (entry_at G img e)) (entry_at G img e)
  unfolding after
  row_changed_rows e h = so_all.done e h h

  pub row_picked : (e : ℕ) → e < G.entries → picks (entry_at G img e) ≡ true → entry_at G (changed_rows G picks change img) e ≡ change (entry_at G img e)
  row_picked e h t = row_changed_rows e h ∙ rw t

  pub row_unpicked : (e : ℕ) → e < G.entries → picks (entry_at G img e) ≡ false → entry_at G (changed_rows G picks change img) e ≡ entry_at G img e
  row_unpicked e h f = row_changed_rows e h ∙ rw f

  -- records past the directory stay, and so does a byte that lies in no row that is picked
  pub record_changed_rows : (d : ℕ) → area_records G ≤ d → d < block_records G → record_at G (changed_rows G picks change img) d ≡ record_at G img d
  record_changed_rows d a b = so_all.past d a b

  pub byte_changed_rows : (i : ℕ)
      → ((e : ℕ) → e < G.entries → picks (entry_at G img e) ≡ true → (i < entry_place_rule G e) ⊎ (entry_place_rule G e + entry_bytes ≤ i))
      → get_or (changed_rows G picks change img) i 0 ≡ get_or img i 0
  unfolding Outside
  byte_changed_rows i o = so_all.byte i o

-- ---- 19: byte 0 to E5H only
-- in the image, one byte
pub erased_in_place : {G : Geometry} (S : Sound G) (img : Bytes) → Long G img → (e : ℕ) → e < G.entries
    → with_entry G img e (erased_row (entry_at G img e)) ≡ set img (entry_place_rule G e) 229
unfolding with_entry entry_at erased_row
erased_in_place {G} S img long e h =
    let f : entry_place_rule G e + entry_bytes ≤ image_bytes G = entry_fits_law S e h in
    let q : entry_place_rule G e + 0 ≡ entry_place_rule G e = omega arith in
    splice_set img (entry_place_rule G e) entry_bytes 0 229 (omega arith) (omega arith) ∙ ap (λ (k : ℕ). set img k 229) q

module _ (row : Bytes) where
  pub length_erased_row : length row ≡ entry_bytes → length (erased_row row) ≡ entry_bytes
  unfolding erased_row
  length_erased_row hr = length-set row 0 229 ∙ hr

  pub rest_erased : (n : ℕ) → Agree (erased_row row) row 1 n
  unfolding erased_row
  rest_erased n i a b = get_or-set_other row 0 i 229 0 (λ q. omega arith)

  module _ (hr : length row ≡ 32) where
    pub user_erased : user_of (erased_row row) ≡ 229
    unfolding erased_row
    user_erased = get_or-set_same row 0 229 0 (omega arith)

    pub empty_erased : empty (erased_row row) ≡ true
    unfolding empty
    empty_erased = eq-eqb _ _ user_erased
