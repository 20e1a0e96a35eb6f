-- The stamps that are due, as a list, and what it takes to put them.
use Rattle.std.specs.Prelude.{◌≡◌, refl, cond, List, [], ◌∷◌, ◌++◌, ℕ, None, Option, Some}
use Rattle.std.proofs.Common.{sym, ◌∙◌}
use Rattle.format.specs.Diskette.{Bytes, Geometry}
use Rattle.model.specs.declared.Asked.{Asked}
use Rattle.model.specs.declared.Answer.{Answer}
use Rattle.model.specs.Stamps.{Stamp, time_stamp_rule, no_stamp, first, update, stamped_with}
use Rattle.table.specs.Accepted.{accepted_answer}
use Rattle.stamps.specs.declared.Due.{Due}
use Rattle.stamps.specs.declared.Which.{Which}
use Rattle.stamps.specs.Place.{number_of}
use Rattle.facts.specs.Beside.{Beside}

-- the stamps of an entry, where there is one
abbrev pub stamps_at : (ℕ → List Stamp) → Option ℕ → List Stamp
stamps_at f (Some e) = f e
stamps_at f None = []

-- one stamp of an entry, also by which one it is, and both stamps of a new one
abbrev pub update_at : Bytes → ℕ → List Stamp
update_at bytes e = update e bytes ∷ []

abbrev pub first_at : Bytes → ℕ → List Stamp
first_at bytes e = first e bytes ∷ []

abbrev pub beside_at : Which → Bytes → ℕ → List Stamp
beside_at w bytes e = record { entry = e; which = number_of w; bytes = bytes } ∷ []

abbrev pub blank_at : ℕ → List Stamp
blank_at e = first e no_stamp ∷ update e no_stamp ∷ []

unfoldable pub due_stamps : Asked → Due → List Stamp
due_stamps asked due =
    stamps_at (update_at (time_stamp_rule asked)) due.update ++ (stamps_at blank_at due.new ++ stamps_at (first_at (time_stamp_rule asked)) due.first)

-- each stands beside an entry
abbrev pub BesideFound : Geometry → Option ℕ → Type 0
BesideFound G r = (e : ℕ) → r ≡ Some e → Beside G e

pub record Puttable (G : Geometry) (due : Due) : Type 0 where
  pub update : BesideFound G due.update
  pub new : BesideFound G due.new
  pub first : BesideFound G due.first

-- a refusal stamps nothing
abbrev pub accepted_stamps : Asked → Answer → Due → List Stamp
accepted_stamps asked answer due = cond (accepted_answer asked.number answer) (due_stamps asked due) []

-- stamps put one list after the other
pub stamped_join : (G : Geometry) (xs ys : List Stamp) (img : Bytes) → stamped_with G (xs ++ ys) img ≡ stamped_with G ys (stamped_with G xs img)
stamped_join G [] ys img = refl
stamped_join G (x ∷ xs) ys img = stamped_join G xs ys _

-- ---- what the steps come to
pub blank_put : (G : Geometry) (r : Option ℕ) (img a b : Bytes) → a ≡ stamped_with G (stamps_at (first_at no_stamp) r) img
    → b ≡ stamped_with G (stamps_at (update_at no_stamp) r) a → b ≡ stamped_with G (stamps_at blank_at r) img
blank_put G (Some e) img a b p q = rw (q, p)
blank_put G None img a b p q = q ∙ p

pub due_put : (G : Geometry) (asked : Asked) (due : Due) (time img a b c : Bytes) → time ≡ time_stamp_rule asked
    → a ≡ stamped_with G (stamps_at (update_at time) due.update) img → b ≡ stamped_with G (stamps_at blank_at due.new) a
    → c ≡ stamped_with G (stamps_at (first_at time) due.first) b → c ≡ stamped_with G (due_stamps asked due) img
unfolding due_stamps
due_put G asked due time img a b c t p q r =
    let xs : List Stamp = stamps_at (update_at (time_stamp_rule asked)) due.update in
    let ys : List Stamp = stamps_at blank_at due.new in
    let zs : List Stamp = stamps_at (first_at (time_stamp_rule asked)) due.first in
    rw (r, q, p, t) (sym (stamped_join G xs (ys ++ zs) img ∙ stamped_join G ys zs (stamped_with G xs img)))
