-- What is due is what the call makes, call by call.
use types.Run.{OneOf, miss}
use denote.Enum.Declared.{tag_of}
use Rattle.model.specs.contracts.Kind.{the_type}
use Rattle.std.specs.Prelude.{◌≡◌, refl, Bool, true, false, cond, ℕ, ◌≤◌, ◌⊎◌, None, Option, Some}
use Rattle.std.specs.Bool.{then_some}
use Rattle.std.proofs.Common.{ap, ◌∙◌, ne_eqb, inl, inr}
use Rattle.std.proofs.Math.Path.{sym}
use Rattle.std.proofs.Math.Bool.{not}
use mathlib.Core.List.{List, [], ◌∷◌, ◌++◌, append-nil}
use Rattle.lists.specs.Cases.{split, bool_cases}
use Rattle.lists.specs.Tests.{◌and◌, and_both, and_fails_left, and_fails_right}
use Rattle.format.specs.Diskette.{Bytes, Geometry}
use Rattle.format.specs.Entries.{entry_at, find_empty_rule}
use Rattle.format.specs.Dates.{asks_create, asks_update, asks_access, asks}
use Rattle.format.specs.Consistent.{consistent}
use Rattle.facts.specs.Found.{FoundAt, at_not_nothing}
use Rattle.model.specs.declared.Asked.{Asked}
use Rattle.model.specs.declared.Session.{Session}
use Rattle.model.specs.declared.Kind.{Kind}
use Rattle.model.specs.declared.Kind.TheVariants.{Unlisted, Quiet, Search, User, Settle, Close, Delete, Create, Rename, Read, Write}
use Rattle.model.specs.Kinds.{kind_of, same, of_record}
use Rattle.model.specs.Lent.{Lent, rows_of, protected}
use Rattle.model.specs.Closing.{close_changes_rule}
use Rattle.model.specs.Target.{present_entry, stays, target_entry, plan_from, plan}
use Rattle.model.specs.Table.{asked_entry, own_rows}
use Rattle.model.specs.Stamps.{Stamp, time_stamp_rule, access_stamps, close_stamps, new_stamps, create_stamps, stamps_by}
use Rattle.table.specs.First.{NoneHolds}
use Rattle.table.specs.Own.{calling, same_is}
use Rattle.table.specs.Stamping.{record_stamps}
use Rattle.table.specs.Accept.{opens_of, closes_of, makes_of, reads_of, writes_by}
use Rattle.stamps.specs.declared.Due.{Due}
use Rattle.facts.specs.Beside.{Beside}
use Rattle.stamps.specs.Due.{stamps_at, update_at, blank_at, BesideFound, due_stamps, Puttable}
use Rattle.stamping.specs.Dated.{nothing_beside, at_beside}
use Rattle.stamping.specs.Made.{Dues}

-- nothing is due
abbrev pub no_due : Due
no_due = record { update = None; new = None; first = None }

pub none_put : {G : Geometry} {due : Due} → due ≡ no_due → Puttable G due
none_put {G} q = rw q record { update = nothing_beside G; new = nothing_beside G; first = nothing_beside G }

-- an entry, where a test holds
abbrev pub entry_if : Bool → ℕ → Option ℕ
entry_if b e = cond b (Some e) None

pub some_if : (b : Bool) (e : ℕ) → then_some b e ≡ entry_if b e
some_if true e = refl
some_if false e = refl

-- the entry that a close stamps, where there is one
unfoldable pub updated_if : Geometry → Bytes → Bytes → ℕ → Option ℕ
updated_if G img fcb e = entry_if (asks G (entry_at G img) asks_update and close_changes_rule G (entry_at G img e) fcb) e

pub updated_beside : (G : Geometry) (img fcb : Bytes) (e : ℕ) {u : Option ℕ} → u ≡ updated_if G img fcb e → Beside G e → BesideFound G u
unfolding updated_if
updated_beside G img fcb e {u} q b =
    split (bool_cases (asks G (entry_at G img) asks_update and close_changes_rule G (entry_at G img e) fcb))
    (λ t. let w : u ≡ Some e = q ∙ rw t in rw w (at_beside b)) (λ f. let w : u ≡ None = q ∙ rw f in rw w (nothing_beside G))

-- what a new entry is due, where there is one
unfoldable pub new_due_rule : Geometry → Bytes → Option ℕ → Due
new_due_rule G img new = record { update = None; new = new; first = cond (asks G (entry_at G img) asks_create) new None }

module _ (G : Geometry) (asked : Asked) (l : Lent) (s : Session) where
  -- ---- a close, and a move
  update_due : (e : ℕ) → stamps_at (update_at (time_stamp_rule asked)) (updated_if G l.drive.image l.fcb e) ≡ close_stamps G asked l s e
  unfolding updated_if close_stamps
  update_due e =
      split (bool_cases (asks G (rows_of G l) asks_update and close_changes_rule G (rows_of G l e) l.fcb)) (λ t. rw t) (λ f. rw f)

  pub move_due : (u : Option ℕ) (e : ℕ) → u ≡ updated_if G l.drive.image l.fcb e
      → due_stamps asked record { update = u; new = None; first = None } ≡ close_stamps G asked l s e
  unfolding due_stamps
  move_due u e q = rw q (append-nil (stamps_at (update_at (time_stamp_rule asked)) (updated_if G l.drive.image l.fcb e)) ∙ update_due e)

  pub make_due : (u : Option ℕ) (e t : ℕ) → u ≡ updated_if G l.drive.image l.fcb e
      → due_stamps asked record { update = u; new = Some t; first = None } ≡ (close_stamps G asked l s e ++ new_stamps G asked l s t)
  unfolding due_stamps new_stamps
  make_due u e t q = rw q (ap (λ (xs : List Stamp). xs ++ blank_at t) (update_due e))

  -- ---- a new entry
  new_due_law : (e : ℕ) → due_stamps asked (new_due_rule G l.drive.image (Some e)) ≡ create_stamps G asked l s e
  unfolding due_stamps new_due_rule create_stamps new_stamps
  new_due_law e = split (bool_cases (asks G (rows_of G l) asks_create)) (λ t. rw t) (λ f. rw f)

  -- ---- the calls whose kind stamps nothing
  pub none_due : {due : Due} → due ≡ no_due → stamps_by G asked l s (kind_of asked.number) ≡ [] → Dues G asked l s due
  unfolding due_stamps
  none_due q h none = rw (q, h)

  -- ---- the record calls: the plan is that of their definition
  pub stay_stamps : of_record (kind_of asked.number) ≡ true → stays asked.number l.fcb ≡ true → stamps_by G asked l s (kind_of asked.number) ≡ []
  unfolding plan plan_from
  stay_stamps h t = record_stamps G asked l s (kind_of asked.number) h ∙ rw t

  -- one whose rows pass has an entry, and one for its target unless a write finds room for it
  module _ (right : consistent G l.drive.image ≡ true) (low : s.user ≤ 15) (which : of_record (kind_of asked.number) ≡ true) where
    present : NoneHolds (own_rows G asked l s) → FoundAt (present_entry G s.user l)
    present none =
        split (bool_cases (same (kind_of asked.number) Read))
        (λ t. (reads_of G asked l s none right low (same_is (kind_of asked.number) Read t)).entry)
        (λ f. (writes_by G asked l s none (same_is (kind_of asked.number) Write (rw f at which))).entry)

    room : NoneHolds (own_rows G asked l s) → target_entry G asked.number s.user l ≡ None → FoundAt (find_empty_rule G (rows_of G l))
    room none q =
        split (bool_cases (same (kind_of asked.number) Read))
        (λ t. let target = (reads_of G asked l s none right low (same_is (kind_of asked.number) Read t)).target in
        absurd (at_not_nothing target.place (sym target.is ∙ q)))
        (λ f. (writes_by G asked l s none (same_is (kind_of asked.number) Write (rw f at which))).room q)

    pub not_current : (due : Due) → present_entry G s.user l ≡ None → Dues G asked l s due
    not_current due q none = let f = present none in absurd (at_not_nothing f.place (sym f.is ∙ q))

    module _ (u : Option ℕ) (e : ℕ) (is : u ≡ updated_if G l.drive.image l.fcb e) (at : present_entry G s.user l ≡ Some e) (goes : stays asked.number l.fcb ≡ false) where
      pub moves_due : (t : ℕ) → target_entry G asked.number s.user l ≡ Some t → Dues G asked l s record { update = u; new = None; first = None }
      unfolding plan plan_from
      moves_due t there none = move_due u e is ∙ sym (record_stamps G asked l s (kind_of asked.number) which ∙ rw (at, goes, there))

      pub makes_due : (new : Option ℕ) → new ≡ find_empty_rule G (rows_of G l) → target_entry G asked.number s.user l ≡ None
          → Dues G asked l s record { update = u; new = new; first = None }
      unfolding plan plan_from
      makes_due new free missing none =
          let f = room none missing in
          let w : new ≡ Some f.place = free ∙ f.is in
          rw w (make_due u e f.place is ∙ sym (record_stamps G asked l s (kind_of asked.number) which ∙ rw (at, goes, missing, f.is)))

-- ---- 15, 16 and 22
module _ (G : Geometry) (asked : Asked) (l : Lent) (s : Session) where
  -- a protected session stamps no access, nor does a disk whose label does not ask for it
  pub open_protected : protected s ≡ true → stamps_by G (calling 15 asked) l s Quiet ≡ []
  unfolding access_stamps
  open_protected p = rw (and_fails_left _ (asks G (rows_of G l) asks_access) (ap not p))

  pub open_unasked : asks G (rows_of G l) asks_access ≡ false → stamps_by G (calling 15 asked) l s Quiet ≡ []
  unfolding access_stamps
  open_unasked f = rw (and_fails_right (not (protected s)) _ f)

  pub open_due_law : protected s ≡ false → asks G (rows_of G l) asks_access ≡ true → (f : Option ℕ) → f ≡ asked_entry G l s.user
      → Dues G (calling 15 asked) l s record { update = None; new = None; first = f }
  unfolding due_stamps access_stamps kind_of
  open_due_law lifted wish f is none =
      let p = (opens_of G asked l s none).entry in
      let w : f ≡ Some p.place = is ∙ p.is in
      rw (w, p.is, and_both _ _ (ap not lifted) wish)

  pub quiet_none : (asked.number ≡ 15 → ⊥) → stamps_by G asked l s Quiet ≡ []
  quiet_none n = let t = ne_eqb asked.number 15 n in rw t

  pub close_missed : (due : Due) → present_entry G s.user l ≡ None → Dues G (calling 16 asked) l s due
  unfolding kind_of
  close_missed due q none = let f = (closes_of G (calling 16 asked) l s none refl).entry in absurd (at_not_nothing f.place (sym f.is ∙ q))

  pub close_due_law : (u : Option ℕ) (e : ℕ) → present_entry G s.user l ≡ Some e → u ≡ updated_if G l.drive.image l.fcb e
      → Dues G (calling 16 asked) l s record { update = u; new = None; first = None }
  unfolding kind_of
  close_due_law u e at q none = move_due G (calling 16 asked) l s u e q ∙ rw at

  pub create_due_law : (new : Option ℕ) (due : Due) → new ≡ find_empty_rule G (rows_of G l) → due ≡ new_due_rule G l.drive.image new → Dues G (calling 22 asked) l s due
  unfolding kind_of
  create_due_law new due at is none =
      let f = (makes_of G (calling 22 asked) l s none refl).entry in
      let w : new ≡ Some f.place = at ∙ f.is in
      rw (is, w) (new_due_law G (calling 22 asked) l s f.place ∙ rw f.is)

-- ---- the kinds of calls that stamp nothing, by their places in the enum
pub stampless : (G : Geometry) (asked : Asked) (l : Lent) (s : Session) (k : Kind) → OneOf (2 ∷ 3 ∷ 4 ∷ 6 ∷ 8 ∷ 0 ∷ []) (tag_of the_type k) → stamps_by G asked l s k ≡ []
stampless G asked l s Unlisted h = refl
stampless G asked l s Quiet h = absurd (miss (2 ∷ 3 ∷ 4 ∷ 6 ∷ 8 ∷ 0 ∷ []) 1 tt h)
stampless G asked l s Search h = refl
stampless G asked l s User h = refl
stampless G asked l s Settle h = refl
stampless G asked l s Close h = absurd (miss (2 ∷ 3 ∷ 4 ∷ 6 ∷ 8 ∷ 0 ∷ []) 5 tt h)
stampless G asked l s Delete h = refl
stampless G asked l s Create h = absurd (miss (2 ∷ 3 ∷ 4 ∷ 6 ∷ 8 ∷ 0 ∷ []) 7 tt h)
stampless G asked l s Rename h = refl
stampless G asked l s Read h = absurd (miss (2 ∷ 3 ∷ 4 ∷ 6 ∷ 8 ∷ 0 ∷ []) 9 tt h)
stampless G asked l s Write h = absurd (miss (2 ∷ 3 ∷ 4 ∷ 6 ∷ 8 ∷ 0 ∷ []) 10 tt h)

-- the same, of the kinds themselves
-- ---- the kinds of calls that stamp nothing
pub stampless_kind : (G : Geometry) (asked : Asked) (l : Lent) (s : Session) (k : Kind)
    → (k ≡ Search) ⊎ (k ≡ User) ⊎ (k ≡ Settle) ⊎ (k ≡ Delete) ⊎ (k ≡ Rename) ⊎ (k ≡ Unlisted) → stamps_by G asked l s k ≡ []
stampless_kind G asked l s k (inl q) = rw q refl
stampless_kind G asked l s k (inr (inl q)) = rw q refl
stampless_kind G asked l s k (inr (inr (inl q))) = rw q refl
stampless_kind G asked l s k (inr (inr (inr (inl q)))) = rw q refl
stampless_kind G asked l s k (inr (inr (inr (inr (inl q))))) = rw q refl
stampless_kind G asked l s k (inr (inr (inr (inr (inr q))))) = rw q refl
