-- Why no record call answers 3, 0: a move begins with a close, and that close is never refused. Where 20, 21, 33 or 34 answers none of the codes
-- that are tested up to and with "FCB not current" (a wrong parameter, a damaged disk, of a write the protection, a random record that is too large,
-- an FCB that is not current), whatever else it answers, call 16 on the same disk, with the same FCB and the protection lifted, is accepted; the disk
-- that its rule leaves is the one on which a move goes on, and its stamps are those with which the move's begin.
-- The theorem itself, `closes_first`, is in proofs/ClosesFirst; here stands what it says, and what it rests on.
use Rattle.std.specs.Prelude.{◌≡◌, ◌⊎◌, Bool, true, not, List, ◌∷◌, ◌++◌, ℕ, None, Option, Some, is_some}
use Rattle.std.proofs.Math.Path.{refl}
use Rattle.std.proofs.Common.{ap, subst, ◌∙◌, inl, inr, ne_eqb}
use Rattle.std.proofs.Math.Bool.{false}
use Rattle.std.proofs.lemmas.Bool.{not-false}
use Rattle.lists.specs.Cases.{split, bool_cases, not_both, cond_either}
use Rattle.format.specs.Diskette.{Geometry}
use Rattle.format.specs.Entries.{entry_at, with_entry}
use Rattle.format.specs.Dates.{dated}
use Rattle.format.specs.Found.{number_of}
use Rattle.model.specs.declared.Asked.{Asked}
use Rattle.model.specs.declared.Session.{Session}
use Rattle.model.specs.declared.Answer.{Answer}
use Rattle.model.specs.declared.Code.{Code}
use Rattle.model.specs.declared.Code.TheVariants.{BadParameter, BadDisk, Protected, BadRecord, NotCurrent}
use Rattle.model.specs.declared.Kind.TheVariants.{Close, Write}
use Rattle.model.specs.declared.Plan.{Plan}
use Rattle.model.specs.declared.Plan.TheVariants.{Stay, Move, Make}
use Rattle.model.specs.Codes.{a_of, h_of}
use Rattle.model.specs.Kinds.{kind_of, uses_fcb_rule, is_call, one_of}
use Rattle.model.specs.Lent.{Lent, Drive, with_lifted, protected}
use Rattle.model.specs.Entering.{next_row_rule}
use Rattle.model.specs.Target.{target_extent, present_entry, stays, target_entry, plan_to, plan_from, plan, moved, made}
use Rattle.model.specs.Table.{time_right_rule, Row, when, first_row, changers, own_rows, protection_holds, verdict}
use Rattle.model.specs.Calls.{closed}
use Rattle.model.specs.Stamps.{Stamp, time_stamp_rule, close_stamps, new_stamps, stamps_by}
use Rattle.model.specs.Step.{step}
use Rattle.table.specs.First.{◌&◌, NoneHolds, first_holds, first_passes}
use Rattle.table.specs.Own.{calling, ready_rows, verdict_rows}
use Rattle.table.specs.Protection.{lifted_spared, stopped_succeeds, succeeds_none}
use Rattle.table.specs.Facts.{fits_lifted, Ready}
use Rattle.table.specs.Reflect.{ready_of}
use Rattle.table.proofs.Accept.{passes}
use Rattle.table.specs.Total.{CarriedOut}
use Rattle.table.proofs.Total.{total_refused, total_accepted}
use Rattle.demands.specs.Stamped.{stamped_as}
use Rattle.demands.specs.Runs.{Request, Disk, lent_to, outcome_of, accepts, lifted_by}

-- an answer with this A and H
abbrev pub IsAnswer : Answer → ℕ → ℕ → Type 0
IsAnswer r a h = (r.a ≡ a) × (r.h ≡ h)

-- an answer to call n with none of the codes that are tested up to and with "FCB not current". (255, 255 is the first of those; no listed call answers
-- it.) A read that answers 255, 2 would else succeed, so that its FCB is current
pub record PastCurrent (n : ℕ) (r : Answer) : Type 0 where
  pub parameter : IsAnswer r 255 4 → ⊥
  pub disk : IsAnswer r 255 1 → ⊥
  pub protection : kind_of n ≡ Write → IsAnswer r 255 2 → ⊥
  pub random : IsAnswer r 6 0 → ⊥
  pub current : IsAnswer r 9 0 → ⊥

-- call 16 with the FCB, and all else, of another call
abbrev pub to_close : Request → Request
to_close q = record { asked = calling 16 q.asked; fcb = q.fcb; buffer = q.buffer }

-- what a record call plans, and the extent that it goes to
abbrev pub plan_of : Geometry → Disk → Request → Plan
plan_of G d q = plan G q.asked.number d.session.user (lent_to d q)

abbrev pub goes_to : Request → ℕ
goes_to q = target_extent q.asked.number q.fcb

-- the disk that the rule of 16 leaves, before its stamps
abbrev pub closed_drive : Geometry → Disk → Request → Drive
closed_drive G d q = (closed G d.session (lent_to d q)).lent.drive

-- the stamps of a call, on a disk with date entries
abbrev pub stamps_of : Geometry → Disk → Request → List Stamp
stamps_of G d q = stamps_by G q.asked (lent_to d q) d.session (kind_of q.asked.number)

-- the close that a move begins with: as a call by itself, with the protection lifted by a byte b, it is accepted, and does what its rule says,
-- stamped; image and map after its rule are those of a move to an entry that is there and, once the new row is put in its place, those of a move
-- that makes one; and the move stamps what the close stamps, and then, if it makes an entry, that one
pub record ClosesFirst (G : Geometry) (d : Disk) (q : Request) (b : ℕ) : Type 0 where
  pub accepted : accepts G (lifted_by b d) (to_close q) ≡ true
  pub is : outcome_of G (lifted_by b d) (to_close q) ≡ stamped_as G (calling 16 q.asked) (lent_to d q) (with_lifted d.session b) Close
  -- without date entries that is what its rule leaves
  pub undated : dated (entry_at G d.drive.image) ≡ false → (outcome_of G (lifted_by b d) (to_close q)).lent.drive ≡ closed_drive G d q
  pub moves : (e t k : ℕ) → plan_of G d q ≡ Move e t k
      → ((moved G (goes_to q) (lent_to d q) e t).drive ≡ closed_drive G d q) × (stamps_of G d q ≡ stamps_of G (lifted_by b d) (to_close q))
  pub makes : (e t k : ℕ) → plan_of G d q ≡ Make e t k
      → ((made G (goes_to q) (lent_to d q) e t).drive
      ≡ record { image = with_entry G (closed_drive G d q).image t (next_row_rule (entry_at G (closed_drive G d q).image e) (goes_to q)); map = (closed_drive G d q).map })
      × (stamps_of G d q ≡ stamps_of G (lifted_by b d) (to_close q) ++ new_stamps G q.asked (lent_to d q) d.session t)

module _ (G : Geometry) (asked : Asked) (l : Lent) (s : Session) where
  -- a first row whose code is not the answer does not hold, and the rows behind it decide
  past : (test : Bool) (code : Code) (rs : List Row) → verdict G asked l s ≡ first_row (when test code ∷ rs)
      → (IsAnswer (step G asked l s).answer (a_of code) (h_of code) → ⊥) → (test ≡ false) × (verdict G asked l s ≡ first_row rs)
  past test code rs q w =
      split (bool_cases test)
      (λ t. let r = total_refused G asked l s code (q ∙ first_holds (when test code) rs t) in absurd (w (r.is_a, r.is_h)))
      (λ f. (f, q ∙ first_passes (when test code) rs f))

  -- past the rows of every call: the call is ready, and none of its own rows holds, or they decide
  record ByOwn : Type 0 where
    ready : Ready G asked l s
    rows : NoneHolds (own_rows G asked l s) ⊎ (verdict G asked l s ≡ first_row (own_rows G asked l s))

  -- a call that is stopped without changing the disk is a read that would else succeed
  stopped_or_own : verdict G asked l s ≡ first_row (ready_rows G asked l s) → (one_of asked.number changers ≡ false) ⊎ (IsAnswer (step G asked l s).answer 255 2 → ⊥)
      → NoneHolds (own_rows G asked l s) ⊎ (verdict G asked l s ≡ first_row (own_rows G asked l s))
  stopped_or_own q (inl f) =
      split (bool_cases (protection_holds G asked l s)) (λ t. inl (succeeds_none G asked l s (stopped_succeeds G asked l s t f)))
      (λ z. inr (q ∙ first_passes (when (protection_holds G asked l s) Protected) (own_rows G asked l s) z))
  stopped_or_own q (inr w) = inr (past _ Protected _ q w).1

  by_own : is_call asked.number ≡ true → (one_of asked.number changers ≡ false) ⊎ (kind_of asked.number ≡ Write)
      → PastCurrent asked.number (step G asked l s).answer → ByOwn
  by_own t k w =
      let p = past _ BadParameter _ (verdict_rows G asked l s t) w.parameter in
      let d = past _ BadDisk _ p.1 w.disk in
      record {
        ready = ready_of G asked l s (not-false _ p.0) (not-false _ d.0);
        rows = stopped_or_own d.1 (split k (λ f. inl f) (λ z. inr (w.protection z)));
      }

module _ (G : Geometry) (asked : Asked) (l : Lent) (s : Session) (b : ℕ) (nonzero : b ≡ 0 → ⊥) where
  abbrev pub CloseFollows : ℕ → Type 0
  CloseFollows n = PastCurrent n (step G (calling n asked) l s).answer → CarriedOut G (calling 16 asked) l (with_lifted s b)

  -- 16 is ready where any call that uses the FCB is
  close_ready : (n : ℕ) → uses_fcb_rule n ≡ true → Ready G (calling n asked) l s → Ready G (calling 16 asked) l (with_lifted s b)
  unfolding uses_fcb_rule time_right_rule
  close_ready n u r = record {
    fits = fits_lifted b r.fits;
    time = r.time;
    drive = λ z. r.drive u;
    image_right = r.image_right;
    map_right_law = λ z. r.map_right_law (λ q. let login : uses_fcb_rule n ≡ false = rw q in not_both (uses_fcb_rule n) u login);
  }

  -- and its one row asks for a current FCB
  close_carried : Ready G (calling 16 asked) l (with_lifted s b) → not (is_some (present_entry G s.user l)) ≡ false → CarriedOut G (calling 16 asked) l (with_lifted s b)
  unfolding is_call kind_of protected
  close_carried r f =
      total_accepted G (calling 16 asked) l (with_lifted s b)
      (passes G (calling 16 asked) l (with_lifted s b) refl r (lifted_spared G (calling 16 asked) l (with_lifted s b) (ne_eqb b 0 nonzero)) (f & tt))

  -- 20 and 21 test the FCB first
  pub after_sequential : (n : ℕ) (rs : List Row) → is_call n ≡ true → uses_fcb_rule n ≡ true → (one_of n changers ≡ false) ⊎ (kind_of n ≡ Write)
      → own_rows G (calling n asked) l s ≡ when (not (is_some (present_entry G s.user l))) NotCurrent ∷ rs → CloseFollows n
  after_sequential n rs t u k own w =
      let o = by_own G (calling n asked) l s t k w in
      close_carried (close_ready n u o.ready)
      (split o.rows (λ none. (subst NoneHolds own none).0)
      (λ r. (past G (calling n asked) l s _ NotCurrent rs (r ∙ ap first_row own) w.current).0))

  -- 33 and 34 test the random record before it
  pub after_random : (n : ℕ) (test : Bool) (rs : List Row) → is_call n ≡ true → uses_fcb_rule n ≡ true → (one_of n changers ≡ false) ⊎ (kind_of n ≡ Write)
      → own_rows G (calling n asked) l s ≡ when test BadRecord ∷ when (not (is_some (present_entry G s.user l))) NotCurrent ∷ rs → CloseFollows n
  after_random n test rs t u k own w =
      let o = by_own G (calling n asked) l s t k w in
      close_carried (close_ready n u o.ready)
      (split o.rows (λ none. (subst NoneHolds own none).1.0)
      (λ v. let r = past G (calling n asked) l s test BadRecord _ (v ∙ ap first_row own) w.random in
      (past G (calling n asked) l s _ NotCurrent rs r.1 w.current).0))

-- ---- a plan closes the FCB's own entry
abbrev pub closed_by : Plan → ℕ
closed_by (Stay e b) = e
closed_by (Move e t b) = e
closed_by (Make e t b) = e

module _ (G : Geometry) (n user : ℕ) (l : Lent) where
  to_closes : (e : ℕ) (r : Option ℕ) → closed_by (plan_to G n user l e r) ≡ e
  to_closes e (Some t) = refl
  to_closes e None = refl

  pub plan_closes : closed_by (plan G n user l) ≡ number_of G.entries (present_entry G user l)
  unfolding plan plan_from
  plan_closes = cond_either (λ (p : Plan). closed_by p ≡ number_of G.entries (present_entry G user l)) (stays n l.fcb) (λ t. refl) (λ f. to_closes _ (target_entry G n user l))

-- the stamps of a close go by the time, not by the number of the call, nor by the protection
pub close_stamps_law : (G : Geometry) (asked : Asked) (l : Lent) (s : Session) (b e : ℕ) → close_stamps G asked l s e ≡ close_stamps G (calling 16 asked) l (with_lifted s b) e
unfolding close_stamps time_stamp_rule
close_stamps_law G asked l s b e = refl
