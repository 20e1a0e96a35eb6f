-- The row of 255, 2: of which calls and sessions it can hold at all, and of which it does.
use Rattle.std.specs.Prelude.{◌≡◌, Bool, true, false, List, ◌++◌, ℕ, None, Option, Some}
use Rattle.std.proofs.Math.Path.{refl, sym, ap}
use Rattle.std.proofs.Common.{subst, ◌∙◌}
use Rattle.std.proofs.Math.Bool.{not}
use Rattle.lists.specs.Cases.{split, bool_cases, clash, not_both, refute, bool_ext}
use Rattle.lists.specs.Tests.{◌and◌, and_left, and_right, and_both, and_fails_left, and_fails_right, or_left, or_right, or_then, or_cases}
use Rattle.format.specs.Diskette.{Geometry}
use Rattle.model.specs.declared.Asked.{Asked}
use Rattle.model.specs.declared.Session.{Session}
use Rattle.model.specs.declared.Plan.{Plan}
use Rattle.model.specs.declared.Plan.TheVariants.{Stay, Move, Make}
use Rattle.model.specs.declared.Code.{Code}
use Rattle.model.specs.declared.Kind.{Kind}
use Rattle.model.specs.declared.Kind.TheVariants.{Unlisted, Quiet, Search, User, Settle, Close, Delete, Create, Rename, Read, Write}
use Rattle.model.specs.Kinds.{kind_of, same, of_record, one_of}
use Rattle.model.specs.Lent.{Lent, rows_of, protected}
use Rattle.model.specs.Closing.{close_changes_rule}
use Rattle.model.specs.Target.{stays}
use Rattle.model.specs.Table.{changers, readers, own_rows, is_passed, would_succeed, move_changes, protection_holds}
use Rattle.table.specs.First.{◌&◌, NoneHolds, Decides, passed_none, none_passed, decides_refused}
use Rattle.table.specs.Own.{at_one, at_kind, same_is, kinds_apart}

-- all of which it can hold
abbrev pub stopped_calls : List ℕ
stopped_calls = changers ++ readers

changer_listed : (n : ℕ) → one_of n changers ≡ true → one_of n stopped_calls ≡ true
changer_listed n h = at_one (λ (m : ℕ). one_of m stopped_calls ≡ true) n changers h (refl & refl & refl & refl & refl & refl & tt)

reader_listed : (n : ℕ) → one_of n readers ≡ true → one_of n stopped_calls ≡ true
reader_listed n h = at_one (λ (m : ℕ). one_of m stopped_calls ≡ true) n readers h (refl & refl & tt)

-- ---- by the kind
-- the kinds whose calls change the disk
abbrev pub changes_kind : Kind → Bool
changes_kind Unlisted = false
changes_kind Quiet = false
changes_kind Search = false
changes_kind User = false
changes_kind Settle = false
changes_kind Close = true
changes_kind Delete = true
changes_kind Create = true
changes_kind Rename = true
changes_kind Read = false
changes_kind Write = true

module _ (n : ℕ) where
  among : (k : Kind) → changes_kind k ≡ true → kind_of n ≡ k → one_of n changers ≡ true
  among Unlisted h q = clash (sym h)
  among Quiet h q = clash (sym h)
  among Search h q = clash (sym h)
  among User h q = clash (sym h)
  among Settle h q = clash (sym h)
  among Close h q = at_kind (λ (m : ℕ). one_of m changers ≡ true) Close n refl (refl & tt) q
  among Delete h q = at_kind (λ (m : ℕ). one_of m changers ≡ true) Delete n refl (refl & tt) q
  among Create h q = at_kind (λ (m : ℕ). one_of m changers ≡ true) Create n refl (refl & tt) q
  among Rename h q = at_kind (λ (m : ℕ). one_of m changers ≡ true) Rename n refl (refl & tt) q
  among Read h q = clash (sym h)
  among Write h q = at_kind (λ (m : ℕ). one_of m changers ≡ true) Write n refl (refl & refl & tt) q

  of_kind : one_of n changers ≡ true → changes_kind (kind_of n) ≡ true
  unfolding kind_of
  of_kind t = at_one (λ (m : ℕ). changes_kind (kind_of m) ≡ true) n changers t (refl & refl & refl & refl & refl & refl & tt)

  pub by_kind : (k : Kind) → kind_of n ≡ k → changes_kind k ≡ one_of n changers
  by_kind k q = bool_ext _ _ (λ t. among k t q) (λ t. subst (λ (j : Kind). changes_kind j ≡ true) q (of_kind t))

-- 20 and 33 are the reads
pub reads_listed : (n : ℕ) → kind_of n ≡ Read → one_of n readers ≡ true
reads_listed n q = at_kind (λ (m : ℕ). one_of m readers ≡ true) Read n refl (refl & refl & tt) q

pub not_reader : (n : ℕ) (k : Kind) → kind_of n ≡ k → same k Read ≡ false → one_of n readers ≡ false
unfolding kind_of
not_reader n k q f =
    sym (refute _ (λ t. kinds_apart k Read f (sym q ∙ at_one (λ (m : ℕ). kind_of m ≡ Read) n readers t (refl & refl & tt))))

-- and a record call that does not write is one
pub record_reads : (n : ℕ) → of_record (kind_of n) ≡ true → one_of n changers ≡ false → kind_of n ≡ Read
record_reads n h f =
    split (bool_cases (same (kind_of n) Read)) (λ t. same_is (kind_of n) Read t)
    (λ g. not_both (one_of n changers) (sym (by_kind n Write (same_is (kind_of n) Write (rw g at h)))) f)

passed_verdict : (v : Option Code) → is_passed v ≡ true → v ≡ None
passed_verdict None h = refl
passed_verdict (Some c) h = clash (sym h)

-- on a protected session the call is none of those that change the disk
abbrev pub Unchanging : Session → ℕ → Type 0
Unchanging s n = protected s ≡ true → one_of n changers ≡ false

-- a plan moves, and the close of its move changes the entry
abbrev pub plan_changes : Geometry → Lent → Plan → Bool
plan_changes G l (Stay e b) = false
plan_changes G l (Move e t b) = close_changes_rule G (rows_of G l e) l.fcb
plan_changes G l (Make e t b) = close_changes_rule G (rows_of G l e) l.fcb

module _ (G : Geometry) (asked : Asked) (l : Lent) (s : Session) where
  -- ---- where it holds
  pub stopped_call : protection_holds G asked l s ≡ true → one_of asked.number stopped_calls ≡ true
  unfolding protection_holds
  stopped_call h = split (or_cases _ _ (and_right _ _ h)) (λ w. changer_listed asked.number w) (λ r. reader_listed asked.number (and_left _ _ r))

  -- a read of which it holds would else succeed
  pub stopped_succeeds : protection_holds G asked l s ≡ true → one_of asked.number changers ≡ false → would_succeed G asked l s ≡ true
  unfolding protection_holds
  stopped_succeeds h f = and_left _ _ (and_right _ _ (sym (or_then _ _ f) ∙ and_right _ _ h))

  -- ---- a session with the protection lifted is not refused so, nor is any other call
  pub lifted_spared : protected s ≡ false → protection_holds G asked l s ≡ false
  unfolding protection_holds
  lifted_spared f = and_fails_left _ _ f

  pub other_spared : one_of asked.number stopped_calls ≡ false → protection_holds G asked l s ≡ false
  other_spared f = sym (refute _ (λ t. not_both (one_of asked.number stopped_calls) (stopped_call t) f))

  -- nor, where a protected session is asked none that changes the disk, is any but a read
  pub unread_spared : Unchanging s asked.number → one_of asked.number readers ≡ false → protection_holds G asked l s ≡ false
  unfolding protection_holds
  unread_spared w r =
      split (bool_cases (protected s)) (λ t. and_fails_right _ _ (or_then _ _ (w t) ∙ and_fails_left _ _ r)) (λ f. and_fails_left _ _ f)

  -- ---- the calls that it holds of on every protected session
  pub changer_stopped : protected s ≡ true → one_of asked.number changers ≡ true → protection_holds G asked l s ≡ true
  unfolding protection_holds
  changer_stopped p w = and_both _ _ p (or_left _ _ w)

  -- ---- the reads: where it does not hold, one that succeeds makes no move that changes an entry
  pub read_stopped : protected s ≡ true → one_of asked.number readers ≡ true → would_succeed G asked l s ≡ true → move_changes G asked l s ≡ true
      → protection_holds G asked l s ≡ true
  unfolding protection_holds
  read_stopped p r t m = and_both _ _ p (or_right _ _ (and_both _ _ r (and_both _ _ t m)))

  pub none_succeeds : NoneHolds (own_rows G asked l s) → would_succeed G asked l s ≡ true
  unfolding would_succeed
  none_succeeds n = ap is_passed (none_passed (own_rows G asked l s) n)

  pub succeeds_none : would_succeed G asked l s ≡ true → NoneHolds (own_rows G asked l s)
  unfolding would_succeed
  succeeds_none t = passed_none (own_rows G asked l s) (passed_verdict _ t)

  pub spared_unchanged : protected s ≡ true → one_of asked.number readers ≡ true → NoneHolds (own_rows G asked l s) → protection_holds G asked l s ≡ false
      → move_changes G asked l s ≡ false
  spared_unchanged p r n o = sym (refute _ (λ m. not_both (protection_holds G asked l s) (read_stopped p r (none_succeeds n) m) o))

  -- a read is refused so only where both hold
  reader_spared : one_of asked.number readers ≡ true → (would_succeed G asked l s and move_changes G asked l s) ≡ false → protection_holds G asked l s ≡ false
  unfolding protection_holds
  reader_spared r f =
      and_fails_right _ _ (or_then _ _ (at_one (λ (n : ℕ). one_of n changers ≡ false) asked.number readers r (refl & refl & tt)) ∙ and_fails_right _ _ f)

  -- one that moves nowhere, or whose close changes nothing, is not
  pub unchanged_spared : one_of asked.number readers ≡ true → move_changes G asked l s ≡ false → protection_holds G asked l s ≡ false
  unchanged_spared r m = reader_spared r (and_fails_right _ _ m)

  -- nor is one that a row of its own refuses: that row then decides
  pub failing_spared : one_of asked.number readers ≡ true → (code : Code) → Decides code (own_rows G asked l s) → protection_holds G asked l s ≡ false
  unfolding would_succeed
  failing_spared r code d = reader_spared r (and_fails_left _ _ (ap is_passed (decides_refused code (own_rows G asked l s) d)))

  pub stay_unchanged : stays asked.number l.fcb ≡ true → move_changes G asked l s ≡ false
  unfolding move_changes
  stay_unchanged t = and_fails_left _ _ (ap not t)
