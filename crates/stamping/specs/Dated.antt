-- A disk with date entries: what its label asks, and that the entries which calls stamp have stamps beside them. They are used or empty, and
-- each fourth position is a date entry.
use Rattle.std.specs.Prelude.{◌≡◌, Bool, true, false, ℕ, ◌%◌, ◌≤◌, ◌<◌, None, Option, Some}
use Rattle.std.proofs.Common.{ap, sym, ◌∙◌, arith}
use Rattle.std.proofs.lemmas.Bool.{eqb-false}
use Rattle.lists.specs.Cases.{split, bool_cases, lt_or_le, not_both}
use Rattle.lists.specs.Tests.{◌and◌, and_both}
use Rattle.format.specs.Diskette.{Bytes, Geometry, entries_per_record}
use Rattle.format.specs.Entries.{entry_at, find_file_rule, find_empty_rule}
use Rattle.format.specs.Fcb.{current}
use Rattle.format.specs.Dates.{is_dates, is_fourth, dated, asks}
use Rattle.format.specs.Consistent.{label_once, consistent}
use Rattle.facts.specs.Find.{file_says, empty_says}
use Rattle.facts.specs.Found.{at_not_nothing, at_once}
use Rattle.facts.specs.Current.{current_says}
use Rattle.consistency.specs.Reflect.{image_facts, used_no_dates, empty_no_dates, label_intro}
use Rattle.consistency.specs.Naming.{file_used}
use Rattle.dates.specs.Label.{Labelled, asks_none, asks_at}
use Rattle.facts.specs.Beside.{Beside}
use Rattle.stamps.specs.Due.{BesideFound}

-- a disk with date entries, as the check has left it: consistent, and its label found
pub record Dated (G : Geometry) (image : Bytes) (label : Option ℕ) : Type 0 where
  pub right : consistent G image ≡ true
  pub dates : dated (entry_at G image) ≡ true
  pub labelled : Labelled (entry_at G image) G.entries label

-- ---- what the label asks
module _ (G : Geometry) (img : Bytes) (label : Option ℕ) (d : Dated G img label) where
  pub label_none : (what : Bytes → Bool) → label ≡ None → false ≡ asks G (entry_at G img) what
  label_none what z = sym (asks_none G (entry_at G img) what (rw z at d.labelled))

  module _ (e : ℕ) (is : label ≡ Some e) where
    pub label_low : e < G.entries
    label_low = (d.labelled.some e is).0

    pub label_says : (what : Bytes → Bool) (row : Bytes) (b : Bool) → row ≡ entry_at G img e → b ≡ what row → b ≡ asks G (entry_at G img) what
    label_says what row b r q = q ∙ ap what r ∙ sym (asks_at G (entry_at G img) what once e (rw is at d.labelled))
      where
        once : (f : ℕ) → f < G.entries → label_once (entry_at G img) f ≡ true
        once f h = label_intro (entry_at G img) f
            (λ k l p q. let w : f ≡ k = (image_facts G img d.right).label f k h (omega arith) p q in omega arith)

-- ---- which entries are stamped
pub nothing_beside : (G : Geometry) → BesideFound G None
nothing_beside G e q = absurd (at_not_nothing e (sym q))

pub at_beside : {G : Geometry} {e : ℕ} → Beside G e → BesideFound G (Some e)
at_beside {G} {e} b k q = let z : e ≡ k = at_once e k q in rw z at b

module _ {G : Geometry} (img : Bytes) (right : consistent G img ≡ true) (dates : dated (entry_at G img) ≡ true) where
  no_dates : (e : ℕ) → e < G.entries → is_dates (entry_at G img e) ≡ false → Beside G e
  no_dates e h n =
      let out : (is_fourth e and dated (entry_at G img)) ≡ false = sym ((image_facts G img right).dates e h) ∙ n in
      record {
        below = h;
        beside = split (lt_or_le (e % entries_per_record) 3) (λ w. w)
            (λ w. absurd (split (bool_cases (is_fourth e)) (λ t. not_both (is_fourth e and dated (entry_at G img)) (and_both _ _ t dates) out)
            (λ f. let q : e % entries_per_record ≡ 3 = omega arith in eqb-false (e % entries_per_record) 3 f q)));
      }

  -- a file's entry, and an empty one
  pub file_beside : (user : ℕ) (name : Bytes) (q ext : ℕ) → user ≤ 15 → BesideFound G (find_file_rule G (entry_at G img) user name q ext)
  file_beside user name q ext low e at =
      let f = file_says G (entry_at G img) user name q ext e at in
      no_dates e f.below (used_no_dates (entry_at G img e) (file_used G user name q ext (entry_at G img e) f.holds low))

  pub empty_beside : BesideFound G (find_empty_rule G (entry_at G img))
  empty_beside e at = let f = empty_says G (entry_at G img) e at in no_dates e f.below (empty_no_dates (entry_at G img e) f.holds)

  -- the entry of a current FCB
  pub current_beside : (map : Bytes) (user : ℕ) (fcb : Bytes) → user ≤ 15 → BesideFound G (current G (entry_at G img) map user fcb)
  current_beside map user fcb low e at =
      file_beside user fcb 1 _ low e (current_says G (entry_at G img) map user fcb e at).found
