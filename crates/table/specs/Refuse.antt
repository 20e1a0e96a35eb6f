-- What a refusal says: which row it came from, and which codes a call can be refused with at all.
use Rattle.std.specs.Prelude.{◌≡◌, ◌⊎◌, Bool, true, false, cond, List, [], ◌∷◌, ℕ, ◌≤◌, eqb, None}
use Rattle.std.proofs.Math.Path.{refl}
use Rattle.std.proofs.Common.{sym, subst}
use denote.Enum.Declared.{tag_of}
use Rattle.lists.specs.Cases.{cond_both}
use Rattle.format.specs.Diskette.{Geometry}
use Rattle.format.specs.Names.{name_right_rule}
use Rattle.format.specs.Entries.{ex_of}
use Rattle.model.specs.declared.Asked.{Asked}
use Rattle.model.specs.declared.Session.{Session}
use Rattle.model.specs.declared.Code.{Code}
use Rattle.model.specs.contracts.Code.{the_type}
use Rattle.model.specs.Kinds.{Listed, calls, is_call, numbers_in, one_of}
use Rattle.model.specs.Lent.{Lent, rows_of, search_on}
use Rattle.model.specs.Search.{pattern_of, find_hit_rule}
use Rattle.model.specs.Table.{parameters_right_rule, disk_right_rule, Row, RowFor, keep, rows_at, call_rows, first_row, own_rows, protection_holds}
use Rattle.table.specs.First.{Decides, here, later, passed_refused, decides_refused}
use Rattle.table.specs.Own.{calling}
use Rattle.table.specs.Protection.{stopped_calls}
use Rattle.table.specs.Facts.{Ready}

-- ---- a test of calls and code that passes at every row passes at the row that decides
abbrev pub all_rows : (List ℕ → Code → Bool) → List RowFor → Bool
all_rows t [] = true
all_rows t (r ∷ rs) = cond (t r.calls r.row.code) (all_rows t rs) false

pub record RowOf (t : List ℕ → Code → Bool) (n : ℕ) (c : Code) : Type 0 where
  pub calls : List ℕ
  pub applies : one_of n calls ≡ true
  pub passes : t calls c ≡ true

kept : (t : List ℕ → Code → Bool) (n : ℕ) (c : Code) (r : RowFor) (rows : List Row) (b : Bool) → b ≡ one_of n r.calls
    → t r.calls r.row.code ≡ true → (Decides c rows → RowOf t n c) → Decides c (keep b r.row rows) → RowOf t n c
kept t n c r rows true q p rest (here y e) =
    record { calls = r.calls; applies = sym q; passes = subst (λ (x : Code). t r.calls x ≡ true) e p }
kept t n c r rows true q p rest (later f d) = rest d
kept t n c r rows false q p rest d = rest d

pub row_of : (t : List ℕ → Code → Bool) (n : ℕ) (c : Code) (rs : List RowFor) → all_rows t rs ≡ true → Decides c (rows_at n rs) → RowOf t n c
unfolding first_row
row_of t n c [] h d = passed_refused c (decides_refused c [] d)
row_of t n c (r ∷ rs) h d = kept t n c r (rows_at n rs) (one_of n r.calls) refl (cond_both (t r.calls r.row.code) (all_rows t rs) h).0 (row_of t n c rs (cond_both (t r.calls r.row.code) (all_rows t rs) h).1) d

-- ---- codes told apart. Not by A and H: acceptance may have the A of a refusal
abbrev code_number : Code → ℕ
code_number c = tag_of the_type c

abbrev pub is_code : Code → Code → Bool
is_code c d = eqb (code_number c) (code_number d)

-- a search is over: a 17 whose name and byte 12 are right finds no entry, or an 18, with a search on, finds no more from its place on
pub data SearchEnds (G : Geometry) (asked : Asked) (l : Lent) (s : Session) : ℕ → Type 0 where
  ends17 : Ready G (calling 17 asked) l s → name_right_rule true l.fcb 1 ≡ true → (ex_of l.fcb ≤ 31) ⊎ (ex_of l.fcb ≡ 63)
      → find_hit_rule G (rows_of G l) s.user (pattern_of l.fcb) 0 ≡ None → SearchEnds G asked l s 17
  ends18 : Ready G (calling 18 asked) l s → search_on s ≡ true → find_hit_rule G (rows_of G l) s.user s.pattern s.place ≡ None
      → SearchEnds G asked l s 18

-- a row of this code is among them
abbrev has_code : Code → List Row → Bool
has_code c [] = false
has_code c (r ∷ rs) = cond (is_code c r.code) true (has_code c rs)

-- the calls that a row of their own may refuse with a code, as document 01's table has them, 3, 0 aside. The first three rows are every call's, that of
-- the protection has its own list (`Protection: stopped_calls`), and an acceptance is no refusal
abbrev pub gives : Code → List ℕ
gives (Code.Accepted a) = []
gives Code.NotListed = []
gives Code.BadParameter = []
gives Code.BadDisk = []
gives Code.Protected = []
gives Code.BadRecord = 33 ∷ 34 ∷ []
gives Code.NotCurrent = 20 ∷ 21 ∷ 33 ∷ 34 ∷ []
gives Code.Failed = 15 ∷ 16 ∷ 18 ∷ 19 ∷ 22 ∷ 23 ∷ 32 ∷ 35 ∷ 36 ∷ []
gives Code.BadName = 15 ∷ 17 ∷ 19 ∷ 22 ∷ 23 ∷ 35 ∷ []
gives Code.SearchOver = 17 ∷ 18 ∷ []
gives Code.ReadOnly = 19 ∷ 21 ∷ 23 ∷ 34 ∷ []
gives Code.Exists = 22 ∷ 23 ∷ []
gives Code.NoExtent = 33 ∷ []
gives Code.NoRecord = 20 ∷ 21 ∷ 33 ∷ []
gives Code.NoEntry = 34 ∷ []
gives Code.DiskFull = 21 ∷ 34 ∷ []

module _ (G : Geometry) (asked : Asked) (l : Lent) (s : Session) where
  -- ---- that is the table, read by its codes: the calls to which a row of the code applies
  unfoldable pub calls_with : Code → List ℕ
  calls_with c = numbers_in (λ (k : Listed). has_code c (rows_at k.number (call_rows G asked l s))) calls

  pub by_code : (c : Code) → calls_with c ≡ gives c
  unfolding calls_with
  by_code (Code.Accepted a) = refl
  by_code Code.NotListed = refl
  by_code Code.BadParameter = refl
  by_code Code.BadDisk = refl
  by_code Code.Protected = refl
  by_code Code.BadRecord = refl
  by_code Code.NotCurrent = refl
  by_code Code.Failed = refl
  by_code Code.BadName = refl
  by_code Code.SearchOver = refl
  by_code Code.ReadOnly = refl
  by_code Code.Exists = refl
  by_code Code.NoExtent = refl
  by_code Code.NoRecord = refl
  by_code Code.NoEntry = refl
  by_code Code.DiskFull = refl

  -- where a refusal comes from: one of the first three rows, the protection, of one of the calls that it can refuse, or a row of the call's own,
  -- with a code that the table has for the call
  pub data Refuses (code : Code) : Type 0 where
    unlisted : code ≡ Code.NotListed → is_call asked.number ≡ false → Refuses code
    parameter : code ≡ Code.BadParameter → is_call asked.number ≡ true → parameters_right_rule G l asked s ≡ false → Refuses code
    disk : code ≡ Code.BadDisk → is_call asked.number ≡ true → disk_right_rule G l asked ≡ false → Refuses code
    protection : code ≡ Code.Protected → one_of asked.number stopped_calls ≡ true → Ready G asked l s → protection_holds G asked l s ≡ true → Refuses code
    own : one_of asked.number (gives code) ≡ true → Ready G asked l s → protection_holds G asked l s ≡ false → Decides code (own_rows G asked l s) → Refuses code
