-- The calls by their kinds, and the rows of the table that apply to a call: the whole table decides as they do.
use Rattle.std.specs.Prelude.{◌≡◌, refl, ◌⊎◌, Bool, true, false, not, cond, List, [], ◌∷◌, ℕ, eqb, Some}
use Rattle.std.proofs.Common.{sym, ap, subst, ◌∙◌, inl, inr, eqb-true, eq-eqb}
use Rattle.lists.specs.Cases.{split, clash, not_both, bool_cases}
use Rattle.format.specs.Diskette.{Geometry}
use Rattle.model.specs.declared.Asked.{Asked}
use Rattle.model.specs.declared.Session.{Session}
use Rattle.model.specs.declared.Kind.{Kind}
use Rattle.model.specs.declared.Kind.TheVariants.{Unlisted, Quiet, Search, User, Settle, Close, Delete, Create, Rename, Read, Write}
use Rattle.model.specs.declared.Code.TheVariants.{NotListed, BadParameter, BadDisk, Protected}
use Rattle.model.specs.Kinds.{Listed, calls, line_in, kind_of, kind_number, same, is_call, keep_number, numbers_in, one_of}
use Rattle.model.specs.Lent.{Lent}
use Rattle.model.specs.Table.{parameters_right_rule, disk_right_rule, Row, when, first_row, own_rows, protection_holds, table, verdict}

-- the same asked of the call with this number
abbrev pub calling : ℕ → Asked → Asked
calling n asked = record { number = n; argument = asked.argument; day = asked.day; hour = asked.hour; minute = asked.minute }

-- a call with nothing said besides its number
abbrev pub ask : ℕ → Asked
ask n = record { number = n; argument = 0; day = 0; hour = 0; minute = 0 }

-- what holds of each number of a list holds of one of them
abbrev pub AtEach : (ℕ → Type 0) → List ℕ → Type 0
AtEach P [] = Unit {0}
AtEach P (c ∷ cs) = P c × AtEach P cs

pub at_one : (P : ℕ → Type 0) (n : ℕ) (cs : List ℕ) → one_of n cs ≡ true → AtEach P cs → P n
at_one P n [] h x = clash (sym h)
at_one P n (c ∷ cs) h x =
    split (bool_cases (eqb n c)) (λ e. subst P (sym (eqb-true n c e)) x.0) (λ e. at_one P n cs (rw e at h) x.1)

-- a list that has one number and not the other tells them apart
pub told_apart : (n m : ℕ) (cs : List ℕ) → one_of n cs ≡ true → one_of m cs ≡ false → n ≡ m → ⊥
told_apart n m cs h z q = not_both (one_of n cs) h (rw q z)

-- ---- kinds that a test finds the same are one
abbrev of_number : ℕ → Kind
of_number n =
    cond (eqb n 0) Unlisted
    (cond (eqb n 1) Quiet
    (cond (eqb n 2) Search
    (cond (eqb n 3) User
    (cond (eqb n 4) Settle
    (cond (eqb n 5) Close
    (cond (eqb n 6) Delete
    (cond (eqb n 7) Create
    (cond (eqb n 8) Rename
    (cond (eqb n 9) Read Write)))))))))

of_number_law : (k : Kind) → of_number (kind_number k) ≡ k
of_number_law Unlisted = refl
of_number_law Quiet = refl
of_number_law Search = refl
of_number_law User = refl
of_number_law Settle = refl
of_number_law Close = refl
of_number_law Delete = refl
of_number_law Create = refl
of_number_law Rename = refl
of_number_law Read = refl
of_number_law Write = refl

pub same_is : (k j : Kind) → same k j ≡ true → k ≡ j
same_is k j t = sym (of_number_law k) ∙ ap of_number (eqb-true (kind_number k) (kind_number j) t) ∙ of_number_law j

pub same_self : (k : Kind) → same k k ≡ true
same_self k = eq-eqb (kind_number k) (kind_number k) refl

pub kinds_apart : {A : Type 0} (k j : Kind) → same k j ≡ false → k ≡ j → A
kinds_apart k j f q = not_both (same j j) (same_self j) (subst (λ (i : Kind). same i j ≡ false) q f)

pub is_or_not : (k j : Kind) → (k ≡ j) ⊎ (k ≡ j → ⊥)
is_or_not k j = split (bool_cases (same k j)) (λ t. inl (same_is k j t)) (λ f. inr (λ q. kinds_apart k j f q))

-- ---- what holds of each number of a kind holds of every call of that kind
first_kept : (P : ℕ → Type 0) (b : Bool) (n : ℕ) (ns : List ℕ) → b ≡ true → AtEach P (keep_number b n ns) → P n
first_kept P true n ns t x = x.0
first_kept P false n ns t x = clash (sym t)

rest_kept : (P : ℕ → Type 0) (b : Bool) (n : ℕ) (ns : List ℕ) → AtEach P (keep_number b n ns) → AtEach P ns
rest_kept P true n ns x = x.1
rest_kept P false n ns x = x

kind_in : (P : ℕ → Type 0) (k : Kind) (n : ℕ) (cs : List Listed) → (line_in n cs).kind ≡ k → same Unlisted k ≡ false
    → AtEach P (numbers_in (λ (c : Listed). same c.kind k) cs) → P n
kind_in P k n [] q u x = not_both (same k k) (same_self k) (subst (λ (j : Kind). same j k ≡ false) q u)
kind_in P k n (c ∷ cs) q u x =
    split (bool_cases (eqb n c.number))
    (λ e. let is : c.kind ≡ k = rw e at q in
    subst P (sym (eqb-true n c.number e)) (first_kept P (same c.kind k) c.number _ (ap (λ (j : Kind). same j k) is ∙ same_self k) x))
    (λ e. kind_in P k n cs (rw e at q) u (rest_kept P (same c.kind k) c.number _ x))

pub at_kind : (P : ℕ → Type 0) (k : Kind) (n : ℕ) → same Unlisted k ≡ false → AtEach P (numbers_in (λ (c : Listed). same c.kind k) calls)
    → kind_of n ≡ k → P n
unfolding kind_of
at_kind P k n u x q = kind_in P k n calls q u x

-- a listed call has a kind
pub not_unlisted : {A : Type 0} (n : ℕ) → is_call n ≡ true → kind_of n ≡ Unlisted → A
unfolding is_call
not_unlisted n t q = let z : false ≡ true = rw q at t in clash (sym z)

module _ (G : Geometry) (asked : Asked) (l : Lent) (s : Session) where
  -- the rows behind the first three: the protection's, and the call's own
  abbrev pub ready_rows : List Row
  ready_rows = when (protection_holds G asked l s) Protected ∷ own_rows G asked l s

  -- all rows that apply to a listed call
  abbrev pub rows_for : List Row
  rows_for = when (not (parameters_right_rule G l asked s)) BadParameter ∷ when (not (disk_right_rule G l asked)) BadDisk ∷ ready_rows

  -- the table decides a listed call as these rows do
  pub verdict_rows : is_call asked.number ≡ true → verdict G asked l s ≡ first_row rows_for
  unfolding verdict table first_row
  verdict_rows t = rw t

  -- and refuses every other
  pub verdict_unlisted : is_call asked.number ≡ false → verdict G asked l s ≡ Some NotListed
  unfolding verdict table first_row
  verdict_unlisted h = rw h
