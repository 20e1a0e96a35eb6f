-- The first row that holds, of any list of rows: what it says that a table passed, and what a refusal says.
use Rattle.std.specs.Prelude.{◌≡◌, refl, true, false, List, [], ◌∷◌, ℕ, None, Some}
use Rattle.std.proofs.Common.{sym, ◌∙◌, arith}
use Rattle.lists.specs.Cases.{split, bool_cases}
use Rattle.model.specs.declared.Code.{Code}
use Rattle.model.specs.Table.{Row, first_row}

-- a pair, for chains of facts
abbrev pub ◌&◌ : {A B : Type 0} → A → B → A × B
a & b = (a, b)

infixr 20 ◌&◌
-- no row of the list holds
abbrev pub NoneHolds : List Row → Type 0
NoneHolds [] = Unit {0}
NoneHolds (r ∷ rs) = (r.holds ≡ false) × NoneHolds rs

-- c is the code of the first row that holds
pub data Decides (c : Code) : List Row → Type 0 where
  here : {r : Row} {rs : List Row} → r.holds ≡ true → r.code ≡ c → Decides c (r ∷ rs)
  later : {r : Row} {rs : List Row} → r.holds ≡ false → Decides c rs → Decides c (r ∷ rs)

-- a verdict is one of the two
pub passed_refused : {A : Type 0} (c : Code) → None ≡ Some c → A
passed_refused c q = absurd (let z : ◌≡◌ {A = ℕ} 0 1 = cc in omega arith)

pub refused_same : (c d : Code) → Some c ≡ Some d → c ≡ d
refused_same c d q = cc

-- the first row, by whether it holds
pub first_holds : (r : Row) (rs : List Row) → r.holds ≡ true → first_row (r ∷ rs) ≡ Some r.code
unfolding first_row
first_holds r rs h = rw h

pub first_passes : (r : Row) (rs : List Row) → r.holds ≡ false → first_row (r ∷ rs) ≡ first_row rs
unfolding first_row
first_passes r rs h = rw h

-- ---- a table passes exactly when no row holds
pub passed_none : (rs : List Row) → first_row rs ≡ None → NoneHolds rs
passed_none [] q = tt
passed_none (r ∷ rs) q =
    split (bool_cases r.holds) (λ t. passed_refused r.code (sym q ∙ first_holds r rs t))
    (λ f. (f, passed_none rs (sym (first_passes r rs f) ∙ q)))

pub none_passed : (rs : List Row) → NoneHolds rs → first_row rs ≡ None
unfolding first_row
none_passed [] n = refl
none_passed (r ∷ rs) n = first_passes r rs n.0 ∙ none_passed rs n.1

-- ---- it refuses exactly by the first row that holds
pub refused_decides : (c : Code) (rs : List Row) → first_row rs ≡ Some c → Decides c rs
unfolding first_row
refused_decides c [] q = passed_refused c q
refused_decides c (r ∷ rs) q =
    split (bool_cases r.holds) (λ t. here t (refused_same r.code c (sym (first_holds r rs t) ∙ q)))
    (λ f. later f (refused_decides c rs (sym (first_passes r rs f) ∙ q)))

pub decides_refused : (c : Code) (rs : List Row) → Decides c rs → first_row rs ≡ Some c
decides_refused c rs (here {r = r} {rs = ts} t q) = first_holds r ts t ∙ (rw q)
decides_refused c rs (later {r = r} {rs = ts} f d) = first_passes r ts f ∙ decides_refused c ts d
