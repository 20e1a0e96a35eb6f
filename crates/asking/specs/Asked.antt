-- What 15 and 22 ask of the FCB before they look for the file, and what the two rows of the table for it decide.
use Rattle.std.specs.Prelude.{◌≡◌, refl, Bool, true, false, not, cond, List, ◌∷◌, ℕ, ◌<◌, leb, ltb, Some}
use Rattle.std.proofs.Common.{ap, sym, ◌∙◌, leb-true, leb-false, lt-ltb, le-ltb}
use Rattle.lists.specs.Cases.{split, bool_cases}
use Rattle.lists.specs.Tests.{◌and◌, and_left, and_right, and_first, and_fails_right, second_fails}
use Rattle.format.specs.Diskette.{Bytes, Geometry}
use Rattle.format.specs.Names.{name_right_rule}
use Rattle.format.specs.Entries.{ex_of, extent_of, run_of}
use Rattle.model.specs.declared.Code.TheVariants.{BadName}
use Rattle.model.specs.Lent.{Lent, rows_of}
use Rattle.model.specs.Table.{Row, when, asked_entry}
use Rattle.facts.specs.Find.{file_says, found_own}
use Rattle.table.specs.First.{Decides, here, later}

-- the name obeys the name rule, and byte 12 is an ex
unfoldable pub asks_right_rule : Bytes → Bool
asks_right_rule fcb = name_right_rule false fcb 1 and leb (ex_of fcb) 31

-- byte 12 first: it takes one compare
pub asks_by : (fcb : Bytes) → asks_right_rule fcb ≡ cond (leb (ex_of fcb) 31) (name_right_rule false fcb 1) false
unfolding asks_right_rule ◌and◌
asks_by fcb =
    split (bool_cases (leb (ex_of fcb) 31))
    (λ t. and_first _ _ t ∙ sym (rw t))
    (λ f. and_fails_right _ _ f ∙ sym (rw f))

-- the two rows of 15 and 22 that it decides: one of them holds, or neither
pub asked_wrong : (fcb : Bytes) (rows : List Row) → asks_right_rule fcb ≡ false
    → Decides BadName (when (not (name_right_rule false fcb 1)) BadName ∷ when (ltb 31 (ex_of fcb)) BadName ∷ rows)
unfolding asks_right_rule
asked_wrong fcb rows h =
    split (bool_cases (name_right_rule false fcb 1))
    (λ t. let over : ltb 31 (ex_of fcb) ≡ true = lt-ltb 31 (ex_of fcb) (leb-false (ex_of fcb) 31 (second_fails _ _ h t)) in
    later (ap not t) (here over refl))
    (λ f. here (ap not f) refl)

pub record Asked (fcb : Bytes) : Type 0 where
  pub name : not (name_right_rule false fcb 1) ≡ false
  pub ex : ltb 31 (ex_of fcb) ≡ false

pub asked_right : (fcb : Bytes) → asks_right_rule fcb ≡ true → Asked fcb
unfolding asks_right_rule
asked_right fcb h = record { name = ap not (and_left _ _ h); ex = le-ltb 31 (ex_of fcb) (leb-true (ex_of fcb) 31 (and_right _ _ h)) }

-- the entry that is asked for is one
pub asked_below : (G : Geometry) (l : Lent) (user e : ℕ) → asked_entry G l user ≡ Some e → e < G.entries
unfolding asked_entry
asked_below G l user e q = (file_says G (rows_of G l) user l.fcb 1 (ex_of l.fcb) e q).below

-- and where an entry covers one extent it has that extent
pub asked_own : (G : Geometry) → ((x : ℕ) → run_of G x ≡ x) → (l : Lent) (user e : ℕ) → asked_entry G l user ≡ Some e → ex_of l.fcb ≡ extent_of (rows_of G l e)
unfolding asked_entry
asked_own G single l user e q = sym (found_own G (rows_of G l) user l.fcb 1 (ex_of l.fcb) single e q)
