-- The calls of document 01, once: the number of each, its kind (what its own rule may change besides A, H and the search), and how it uses
-- the FCB.
use Rattle.std.specs.Prelude.{Bool, true, false, cond, not, List, [], ◌∷◌, ℕ, eqb}
use Rattle.model.specs.declared.Kind.{Kind}
use Rattle.model.specs.declared.Kind.TheVariants.{Unlisted, Quiet, Search, User, Settle, Close, Delete, Create, Rename, Read, Write}

-- a call: whether it uses the FCB, whether the name there is a pattern, whether it goes by the random record
pub record Listed : Type 0 where
  pub number : ℕ
  pub kind : Kind
  pub fcb : Bool
  pub wild : Bool
  pub random : Bool

abbrev pub no_fcb : ℕ → Kind → Listed
no_fcb n k = record { number = n; kind = k; fcb = false; wild = false; random = false }

abbrev pub by_name : ℕ → Kind → Listed
by_name n k = record { number = n; kind = k; fcb = true; wild = false; random = false }

abbrev pub by_pattern : ℕ → Kind → Listed
by_pattern n k = record { number = n; kind = k; fcb = true; wild = true; random = false }

abbrev pub by_random : ℕ → Kind → Listed
by_random n k = record { number = n; kind = k; fcb = true; wild = false; random = true }

abbrev pub calls : List Listed
calls =
    no_fcb 13 Settle
    ∷ by_name 15 Quiet
    ∷ by_name 16 Close
    ∷ by_pattern 17 Search
    ∷ no_fcb 18 Search
    ∷ by_pattern 19 Delete
    ∷ by_name 20 Read
    ∷ by_name 21 Write
    ∷ by_name 22 Create
    ∷ by_name 23 Rename
    ∷ no_fcb 32 User
    ∷ by_random 33 Read
    ∷ by_random 34 Write
    ∷ by_name 35 Quiet
    ∷ by_name 36 Quiet
    ∷ no_fcb 46 Quiet
    ∷ no_fcb 98 Settle
    ∷ []

-- the line of a number; one that is not there is of no call
abbrev pub line_in : ℕ → List Listed → Listed
line_in n [] = no_fcb n Unlisted
line_in n (c ∷ cs) = cond (eqb n c.number) c (line_in n cs)

unfoldable pub kind_of : ℕ → Kind
kind_of n = (line_in n calls).kind

unfoldable pub uses_fcb_rule : ℕ → Bool
uses_fcb_rule n = (line_in n calls).fcb

unfoldable pub wild : ℕ → Bool
wild n = (line_in n calls).wild

unfoldable pub is_random_rule : ℕ → Bool
is_random_rule n = (line_in n calls).random

-- ---- kinds told apart
abbrev pub kind_number : Kind → ℕ
kind_number Unlisted = 0
kind_number Quiet = 1
kind_number Search = 2
kind_number User = 3
kind_number Settle = 4
kind_number Close = 5
kind_number Delete = 6
kind_number Create = 7
kind_number Rename = 8
kind_number Read = 9
kind_number Write = 10

abbrev pub same : Kind → Kind → Bool
same k j = eqb (kind_number k) (kind_number j)

-- the record calls
abbrev pub of_record : Kind → Bool
of_record k = cond (same k Read) true (same k Write)

-- there is a call of this number
unfoldable pub is_call : ℕ → Bool
is_call n = not (same (kind_of n) Unlisted)

-- ---- the numbers of a kind
abbrev pub keep_number : Bool → ℕ → List ℕ → List ℕ
keep_number true n ns = n ∷ ns
keep_number false n ns = ns

abbrev pub numbers_in : (Listed → Bool) → List Listed → List ℕ
numbers_in t [] = []
numbers_in t (c ∷ cs) = keep_number (t c) c.number (numbers_in t cs)

-- one of a list of numbers
abbrev pub one_of : ℕ → List ℕ → Bool
one_of n [] = false
one_of n (c ∷ cs) = cond (eqb n c) true (one_of n cs)
