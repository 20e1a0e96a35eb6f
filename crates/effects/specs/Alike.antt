-- Images that differ in date entries alone, as stamps make them: what they have in common. No look-up of a file sees the difference, and for every
-- FCB the step from one to the other is a call that names no file.
use Rattle.std.specs.Prelude.{◌≡◌, refl, Bool, true, false, ℕ, ◌≤◌, ◌<◌}
use Rattle.std.proofs.Math.Path.{ap, sym}
use Rattle.std.proofs.Common.{◌∙◌}
use Rattle.std.proofs.Math.Dec.{eqb}
use Rattle.lists.specs.Cases.{split, bool_cases, not_both, refute}
use Rattle.lists.specs.Tests.{◌and◌, and_fails_left}
use Rattle.lists.specs.Below.{any_cong}
use Rattle.lists.specs.Fold.{fold_cong}
use Rattle.format.specs.Diskette.{Bytes, Geometry, record_at}
use Rattle.format.specs.Entries.{entry_at, user_of, used, empty, named, is_file_rule, find_file_rule, find_named_rule, find_empty_rule}
use Rattle.format.specs.Dates.{is_label, is_dates, asks}
use Rattle.facts.specs.Found.{find_cong}
use Rattle.consistency.specs.Reflect.{used_no_dates, empty_no_dates, label_no_dates}
use Rattle.consistency.specs.Naming.{named_used, file_used}
use Rattle.disk.specs.Places.{block_records}
use Rattle.rows.specs.Entries.{area_records}
use Rattle.model.specs.Calls.{larger_size_rule, file_size_rule}
use Rattle.fields.specs.Agree.{used_cong, empty_cong}
use Rattle.fields.specs.Size.{larger_miss}
use Rattle.effects.specs.View.{View, view_of, Names}
use Rattle.effects.specs.Effect.{NamesStay, NoneNew}

-- the same byte 0 in every row, the same rows but for date entries, and the same records past the directory
pub record Alike (G : Geometry) (img img' : Bytes) : Type 0 where
  pub user : (k : ℕ) → k < G.entries → user_of (entry_at G img' k) ≡ user_of (entry_at G img k)
  pub row : (k : ℕ) → k < G.entries → is_dates (entry_at G img k) ≡ false → entry_at G img' k ≡ entry_at G img k
  pub recs : (r : ℕ) → area_records G ≤ r → r < block_records G → record_at G img' r ≡ record_at G img r

pub alike_same : (G : Geometry) (img : Bytes) → Alike G img img
alike_same G img = record { user = λ k l. refl; row = λ k l n. refl; recs = λ r h w. refl }

module _ (G : Geometry) (img img' : Bytes) (a : Alike G img img') where
  -- date entries are those of before
  pub dates_alike : (k : ℕ) → k < G.entries → is_dates (entry_at G img' k) ≡ is_dates (entry_at G img k)
  unfolding is_dates
  dates_alike k l = ap (λ (x : ℕ). eqb x 33) (a.user k l)

  -- so are labels, and what they ask for
  label_alike : (what : Bytes → Bool) (k : ℕ) → k < G.entries
      → (is_label (entry_at G img' k) and what (entry_at G img' k)) ≡ (is_label (entry_at G img k) and what (entry_at G img k))
  unfolding is_label
  label_alike what k l =
      split (bool_cases (is_label (entry_at G img k)))
      (λ t. ap (λ (r : Bytes). is_label r and what r) (a.row k l (label_no_dates (entry_at G img k) t)))
      (λ f. and_fails_left _ _ (ap (λ (x : ℕ). eqb x 32) (a.user k l) ∙ f) ∙ sym (and_fails_left _ _ f))

  pub asks_alike : (what : Bytes → Bool) → asks G (entry_at G img') what ≡ asks G (entry_at G img) what
  unfolding asks
  asks_alike what = any_cong _ _ G.entries (label_alike what)

  pub alike_back : Alike G img' img
  alike_back = record {
    user = λ k l. sym (a.user k l);
    row = λ k l n. sym (a.row k l (sym (dates_alike k l) ∙ n));
    recs = λ r h w. sym (a.recs r h w);
  }

  pub used_row : (k : ℕ) → k < G.entries → used (entry_at G img k) ≡ true → entry_at G img' k ≡ entry_at G img k
  used_row k l u = a.row k l (used_no_dates (entry_at G img k) u)

  pub used_alike : (k : ℕ) → k < G.entries → used (entry_at G img' k) ≡ used (entry_at G img k)
  used_alike k l = used_cong (entry_at G img' k) (entry_at G img k) (a.user k l)

  pub empty_alike : (k : ℕ) → k < G.entries → empty (entry_at G img' k) ≡ empty (entry_at G img k)
  empty_alike k l = empty_cong (entry_at G img' k) (entry_at G img k) (a.user k l)

  -- a test that only used rows pass
  tests_alike : (test : Bytes → Bool) → ((r : Bytes) → test r ≡ true → used r ≡ true) → (k : ℕ) → k < G.entries
      → test (entry_at G img' k) ≡ test (entry_at G img k)
  tests_alike test sure k l =
      split (bool_cases (used (entry_at G img k))) (λ u. ap test (used_row k l u))
      (λ u. fails (entry_at G img' k) (used_alike k l ∙ u) ∙ sym (fails (entry_at G img k) u))
    where
      fails : (r : Bytes) → used r ≡ false → test r ≡ false
      fails r u = sym (refute (test r) (λ h. not_both (used r) (sure r h) u))

  pub empty_same : find_empty_rule G (entry_at G img') ≡ find_empty_rule G (entry_at G img)
  unfolding find_empty_rule
  empty_same = find_cong G.entries (λ (e : ℕ). empty (entry_at G img' e)) (λ (e : ℕ). empty (entry_at G img e)) empty_alike

  module _ (user : ℕ) (hu : user ≤ 15) (f : Bytes) (q : ℕ) where
    pub named_alike : (wild : Bool) (k : ℕ) → k < G.entries → named wild user f q (entry_at G img' k) ≡ named wild user f q (entry_at G img k)
    named_alike wild = tests_alike (named wild user f q) (λ r h. named_used wild user f q r h hu)

    pub file_alike : (ext k : ℕ) → k < G.entries → is_file_rule G user f q ext (entry_at G img' k) ≡ is_file_rule G user f q ext (entry_at G img k)
    file_alike ext = tests_alike (is_file_rule G user f q ext) (λ r h. file_used G user f q ext r h hu)

    pub named_same : (wild : Bool) → find_named_rule G (entry_at G img') wild user f q ≡ find_named_rule G (entry_at G img) wild user f q
    unfolding find_named_rule
    named_same wild =
        find_cong G.entries (λ (e : ℕ). named wild user f q (entry_at G img' e)) (λ (e : ℕ). named wild user f q (entry_at G img e)) (named_alike wild)

    pub file_same : (ext : ℕ) → find_file_rule G (entry_at G img') user f q ext ≡ find_file_rule G (entry_at G img) user f q ext
    unfolding find_file_rule
    file_same ext =
        find_cong G.entries (λ (e : ℕ). is_file_rule G user f q ext (entry_at G img' e)) (λ (e : ℕ). is_file_rule G user f q ext (entry_at G img e)) (file_alike ext)

    pub size_alike : (wild : Bool) → file_size_rule G (entry_at G img') (named wild user f q) ≡ file_size_rule G (entry_at G img) (named wild user f q)
    unfolding file_size_rule larger_size_rule
    size_alike wild =
        fold_cong (larger_size_rule (entry_at G img') (named wild user f q)) (larger_size_rule (entry_at G img) (named wild user f q)) 0 G.entries
        (λ size k l. split (bool_cases (named wild user f q (entry_at G img k)))
        (λ h. ap (λ (r : Bytes). larger_size_rule (λ (e : ℕ). r) (named wild user f q) size k) (used_row k l (named_used wild user f q (entry_at G img k) h hu)))
        (λ h. larger_miss (entry_at G img') (named wild user f q) size k (named_alike wild k l ∙ h)
        ∙ sym (larger_miss (entry_at G img) (named wild user f q) size k h)))

  -- ---- the step from one to the other, for every file, is a call that names none
  module _ (map : Bytes) where
    abbrev s : View
    s = view_of G img map

    abbrev t : View
    t = view_of G img' map

    pub alike_stay : (N : Names) → ((r : Bytes) → N r ≡ true → used r ≡ true) → NamesStay G s t N
    alike_stay N sure k l n = ap N (used_row k l (sure (entry_at G img k) n)) ∙ n

    pub alike_none : NoneNew G s t
    alike_none e l z = a.row e l (empty_no_dates (entry_at G img e) z)
