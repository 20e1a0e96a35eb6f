-- Calls that change image and map by no more than access stamps: refused ones, quiet ones, and 33 through a fresh FCB, such as an accepted 15
-- hands back.
use Rattle.std.specs.Prelude.{◌≡◌, refl, ◌⊎◌, true, false, not, List, [], ℕ, ◌≤◌, ◌<◌, length, get_or, Some}
use Rattle.std.proofs.Math.Path.{ap, sym, subst}
use Rattle.std.proofs.Common.{◌∙◌, inl, inr, arith}
use borrow.Author.Tests.{eq-eqb, ne_eqb, not-true}
use Rattle.lists.specs.Cases.{split, bool_cases, not_both, cond_either}
use Rattle.lists.specs.Tests.{◌and◌, and_left, and_right, and_fails_right}
use Rattle.format.specs.Diskette.{Bytes, Geometry, Sound, record_bytes, slot_count}
use Rattle.format.specs.Entries.{entry_at, ex_of, slot_of, end_of}
use Rattle.format.specs.Dates.{dated, asks, asks_access}
use Rattle.format.specs.Fcb.{fcb_bytes, fcb_end}
use Rattle.facts.specs.Found.{FirstAt}
use Rattle.facts.specs.Find.{file_test, file_says}
use Rattle.facts.specs.Naming.{file_user, file_run}
use Rattle.consistency.specs.Naming.{file_used}
use Rattle.rows.specs.Entries.{length_entry_at}
use Rattle.model.specs.declared.Asked.{Asked}
use Rattle.model.specs.declared.Session.{Session}
use Rattle.model.specs.declared.Kind.{Kind}
use Rattle.model.specs.declared.Kind.TheVariants.{Quiet, User, Read}
use Rattle.model.specs.Kinds.{kind_of, same, is_call}
use Rattle.model.specs.Lent.{Drive, Lent, Outcome, protected, ended}
use Rattle.model.specs.Entering.{entered}
use Rattle.model.specs.Target.{present_entry}
use Rattle.model.specs.Calls.{opened_at, opened}
use Rattle.model.specs.Stamps.{Stamp, access_stamps, stamps_by, stamped_outcome, where_dated}
use Rattle.model.specs.Step.{told, does}
use Rattle.model.specs.Table.{time_right_rule, asked_entry, own_rows, move_changes, protection_holds}
use Rattle.fields.specs.Agree.{count_cong}
use Rattle.fields.specs.Closing.{nothing_to_close, unchanged_end}
use Rattle.fields.specs.Entering.{length_entered, first_entered}
use Rattle.fields.proofs.Entering.{slot_entered}
use Rattle.fields.proofs.OpenClose.{opened_keeps}
use Rattle.table.specs.Own.{kinds_apart}
use Rattle.table.specs.Facts.{Fits, Opens, Ready}
use Rattle.table.specs.First.{NoneHolds}
use Rattle.table.specs.Accept.{own_at}
use Rattle.table.proofs.Accept.{passes}
use Rattle.table.proofs.Accepted.{carried_says, accepted_carried}
use Rattle.table.specs.Carried.{read_answered}
use Rattle.table.specs.Total.{CarriedOut, InRange}
use Rattle.table.proofs.Total.{total, total_accepted, step_range}
use Rattle.invariant.specs.Good.{good_consistent, good_right}
use Rattle.invariant.specs.Stamps.{Each, Placed, placed, where_cases}
use Rattle.invariant.specs.Updates.{dates_beside}
use Rattle.effects.specs.Cur.{cur_current}
use Rattle.effects.specs.Entered.{entered_cur}
use Rattle.demands.specs.StepOk.{ready_good}
use Rattle.demands.specs.Stamped.{stamped_as_law}
use Rattle.demands.proofs.Stamped.{step_good}
use Rattle.demands.specs.Protected.{lifted_stays, read_unchanged}
use Rattle.demands.specs.Runs.{Request, Disk, lent_to, outcome_of, left, accepts, after}
use Rattle.demands.specs.ReadBack.{user_stays}
use Rattle.demands.specs.Reading.{at_record_rule, length_at_record, rest_at_record, extent_at_record, slot_at_record_law, cur_at_record}
use Rattle.stored.specs.Closed.{Sane, seen_on, Begins, Fresh, Access, Restamped}
use Rattle.stored.specs.Restamped.{restamped_none, fresh_restamped}

-- ---- what calls leave of the session: the protection, its range, and but for 32 the user
module _ (G : Geometry) (d : Disk) (q : Request) where
  pub lifted_left : (left (outcome_of G d q)).session.lifted ≡ d.session.lifted
  unfolding outcome_of
  lifted_left = lifted_stays G q.asked (lent_to d q) d.session

  pub range_left : InRange G d.session → InRange G (left (outcome_of G d q)).session
  unfolding outcome_of
  range_left = step_range G q.asked (lent_to d q) d.session

  pub sane_left : Sound G → Sane G d → Sane G (left (outcome_of G d q))
  unfolding outcome_of
  sane_left S sane = record { good = step_good S q.asked (lent_to d q) d.session sane.good; range = range_left sane.range }

  module _ (k : Kind) (kind : kind_of q.asked.number ≡ k) (other : same k User ≡ false) where
    pub user_left : (left (outcome_of G d q)).session.user ≡ d.session.user
    unfolding after
    user_left = user_stays G d q (λ z. kinds_apart k User other (sym kind ∙ z))

    -- a call that leaves image and map
    drive_same : (P : Stamp → Type 0) → (outcome_of G d q).lent.drive ≡ d.drive → Restamped G P d (left (outcome_of G d q))
    drive_same P e = restamped_none G P d (left (outcome_of G d q)) e user_left lifted_left range_left

-- ---- refused calls, of whatever number
pub refused_same : (G : Geometry) (P : Stamp → Type 0) (d : Disk) (q : Request) → accepts G d q ≡ false → Restamped G P d (left (outcome_of G d q))
unfolding outcome_of
refused_same G P d q f =
    split (total G q.asked (lent_to d q) d.session)
    (λ r. let w = r.1 in restamped_none G P d (left (outcome_of G d q)) (ap (λ (l : Lent). l.drive) w.kept)
    (split w.session (λ e. ap (λ (x : Session). x.user) e.1) (λ e. ap (λ (x : Session). x.user) e.1))
    (lifted_left G d q) (range_left G d q))
    (λ c. not_both _ (carried_says G q.asked (lent_to d q) d.session c) f)

-- ---- accepted calls
-- a call is accepted where the first three rows pass it, and neither the protection's nor one of its own holds
pub passed_accepts : (G : Geometry) (d : Disk) (q : Request) → is_call q.asked.number ≡ true → Ready G q.asked (lent_to d q) d.session
    → protection_holds G q.asked (lent_to d q) d.session ≡ false → NoneHolds (own_rows G q.asked (lent_to d q) d.session) → accepts G d q ≡ true
unfolding outcome_of
passed_accepts G d q t r p o =
    carried_says G q.asked (lent_to d q) d.session
    (total_accepted G q.asked (lent_to d q) d.session (passes G q.asked (lent_to d q) d.session t r p o))

-- a disk that is right passes the first three rows, where the FCB, the buffer and the time do
module _ (G : Geometry) (d : Disk) (sane : Sane G d) (f : Bytes) (hf : length f ≡ fcb_bytes) where
  pub sane_fits : (buffer : Bytes) → length buffer ≡ record_bytes → Fits G (record { drive = d.drive; fcb = f; buffer = buffer }) d.session
  sane_fits buffer hb = record {
    image_long = sane.good.image_long;
    map_long = sane.good.map_long;
    fcb_long = hf;
    buffer_long = hb;
    user_low = sane.range.user;
    place_low = sane.range.place;
  }

  pub sane_ready : get_or f 0 0 ≤ 1 → (a : Asked) → time_right_rule a ≡ true → (buffer : Bytes) → length buffer ≡ record_bytes
      → Ready G a (record { drive = d.drive; fcb = f; buffer = buffer }) d.session
  sane_ready drive a time buffer hb = record {
    fits = sane_fits buffer hb;
    time = time;
    drive = λ u. drive;
    image_right = good_consistent G d.drive.image d.drive.map sane.good;
    map_right_law = λ z. good_right G d.drive.image d.drive.map sane.good;
  }

-- what an accepted call of kind k did
module _ (G : Geometry) (d : Disk) (q : Request) (accepted : accepts G d q ≡ true) where
  pub carried : CarriedOut G q.asked (lent_to d q) d.session
  unfolding outcome_of
  carried = accepted_carried G q.asked (lent_to d q) d.session accepted

  pub carried_is : (k : Kind) → kind_of q.asked.number ≡ k
      → outcome_of G d q
      ≡ stamped_outcome G (where_dated (dated (entry_at G d.drive.image)) (stamps_by G q.asked (lent_to d q) d.session k))
      (does G q.asked (lent_to d q) d.session k)
  unfolding outcome_of
  carried_is k e = carried.is ∙ stamped_as_law G q.asked (lent_to d q) d.session k e

  pub sane_accepted : (q.asked.number ≡ 13 → ⊥) → Sane G d
  sane_accepted n =
      let c = carried in
      record { good = ready_good c.facts.ready n; range = record { user = c.facts.ready.fits.user_low; place = c.facts.ready.fits.place_low } }

  -- a call without stamps whose rule leaves image and map
  unstamped_same : (k : Kind) → kind_of q.asked.number ≡ k → (does G q.asked (lent_to d q) d.session k).lent.drive ≡ d.drive
      → stamps_by G q.asked (lent_to d q) d.session k ≡ [] → (outcome_of G d q).lent.drive ≡ d.drive
  unstamped_same k e same none =
      ap (λ (o : Outcome). o.lent.drive) (carried_is k e
      ∙ ap (λ (xs : List Stamp). stamped_outcome G (where_dated (dated (entry_at G d.drive.image)) xs) (does G q.asked (lent_to d q) d.session k)) none) ∙ same

-- ---- 35, 36 and 46
pub quiet_same : (G : Geometry) (P : Stamp → Type 0) (d : Disk) (q : Request) → kind_of q.asked.number ≡ Quiet → (q.asked.number ≡ 15 → ⊥)
    → Restamped G P d (left (outcome_of G d q))
quiet_same G P d q k n =
    split (bool_cases (accepts G d q))
    (λ a. drive_same G d q Quiet k refl P (unstamped_same G d q a Quiet k refl (rw (ne_eqb q.asked.number 15 n))))
    (λ f. refused_same G P d q f)

-- a quiet call that is accepted ends a search, as every call but 17 and 18 does
pub quiet_ended : (G : Geometry) (d : Disk) (q : Request) → kind_of q.asked.number ≡ Quiet → accepts G d q ≡ true
    → (left (outcome_of G d q)).session ≡ ended d.session
quiet_ended G d q k a = ap (λ (o : Outcome). o.answer.session) (carried_is G d q a Quiet k)

-- ---- FCBs that say no more than their entry
end_at_record : (f : Bytes) (r : ℕ) → length f ≡ fcb_bytes → fcb_end (at_record_rule f r) ≡ fcb_end f
unfolding fcb_end end_of
end_at_record f r hf =
    rw (count_cong (at_record_rule f r) f (λ i a b. rest_at_record f r hf i (omega arith) (omega arith)), extent_at_record f r hf)

module _ (G : Geometry) (d : Disk) (f : Bytes) (e : ℕ) (k : Fresh G d f e) where
  -- it is fresh at any record
  pub fresh_record : (r : ℕ) → Fresh G d (at_record_rule f r) e
  fresh_record r =
      let slots : (j : ℕ) → j < slot_count → slot_of G (at_record_rule f r) j ≡ slot_of G (entry_at G d.drive.image e) j =
      λ j l. slot_at_record_law f r k.long G j ∙ k.slots j l in
      record {
        sane = k.sane;
        long = length_at_record f r k.long;
        drive = rw (rest_at_record f r k.long 0 (omega arith) (omega arith)) k.drive;
        cur = cur_at_record f r k.long G (seen_on G d) d.session.user e k.cur;
        slots = slots;
        same = nothing_to_close G (entry_at G d.drive.image e) (at_record_rule f r) slots
            (rw (end_at_record f r k.long) (unchanged_end G (entry_at G d.drive.image e) f k.same));
      }

  -- what a call through it meets
  pub fresh_ready : (a : Asked) → time_right_rule a ≡ true → (buffer : Bytes) → length buffer ≡ record_bytes
      → Ready G a (record { drive = d.drive; fcb = f; buffer = buffer }) d.session
  fresh_ready a time buffer hb = sane_ready G d k.sane f k.long k.drive a time buffer hb

  pub fresh_present : (buffer : Bytes) → present_entry G d.session.user (record { drive = d.drive; fcb = f; buffer = buffer }) ≡ Some e
  unfolding present_entry
  fresh_present buffer =
      cur_current G d.drive.image d.drive.map d.session.user f e k.sane.good.inv.dir k.sane.range.user k.cur

  -- its moves change no entry
  pub fresh_unmoved : (a : Asked) (buffer : Bytes) → move_changes G a (record { drive = d.drive; fcb = f; buffer = buffer }) d.session ≡ false
  unfolding move_changes
  fresh_unmoved a buffer = rw (fresh_present buffer) (and_fails_right _ _ k.same)

-- ---- 15: what it stamps, and what it hands back
pub record OpenedAt (G : Geometry) (d : Disk) (q : Request) : Type 0 where
  pub entry : ℕ
  pub asked : asked_entry G (lent_to d q) d.session.user ≡ Some entry
  pub fcb : (outcome_of G d q).lent.fcb ≡ entered q.fcb (entry_at G d.drive.image entry) (ex_of q.fcb)
  pub fresh : Fresh G (left (outcome_of G d q)) (outcome_of G d q).lent.fcb entry

module _ {G : Geometry} (S : Sound G) (d : Disk) (q : Request) (number : q.asked.number ≡ 15) where
  open_kind : kind_of q.asked.number ≡ Quiet
  unfolding kind_of
  open_kind = ap kind_of number

  pub opened_ended : accepts G d q ≡ true → (left (outcome_of G d q)).session ≡ ended d.session
  opened_ended = quiet_ended G d q open_kind

  module _ (accepted : accepts G d q ≡ true) where
    c : CarriedOut G q.asked (lent_to d q) d.session
    c = carried G d q accepted

    sane : Sane G d
    sane = sane_accepted G d q accepted (λ z. let w : 15 ≡ 13 = sym number ∙ z in omega arith)

    opens : Opens G (lent_to d q) d.session
    opens = (own_at G q.asked (lent_to d q) d.session c.facts open_kind).0 number

    e : ℕ
    e = opens.entry.place

    abbrev row : Bytes
    row = entry_at G d.drive.image e

    found : FirstAt (file_test G (entry_at G d.drive.image) d.session.user q.fcb 1 (ex_of q.fcb)) 0 G.entries e
    unfolding asked_entry e
    found = file_says G (entry_at G d.drive.image) d.session.user q.fcb 1 (ex_of q.fcb) opens.entry.place opens.entry.is

    abbrev Here : Stamp → Type 0
    Here = Access G q.asked d q.fcb

    own_stamps : dated (entry_at G d.drive.image) ≡ true → Each Here (stamps_by G q.asked (lent_to d q) d.session Quiet)
    unfolding access_stamps e
    own_stamps y =
        rw (eq-eqb q.asked.number 15 number, opens.entry.is)
        (cond_either (Each Here) (not (protected d.session) and asks G (entry_at G d.drive.image) asks_access)
        (λ t. (
          record {
            first = refl;
            time = refl;
            low = found.below;
            file = found.holds;
            asked = and_right _ _ t;
            dates = dates_beside S d.drive.image d.drive.map sane.good y opens.entry.place found.below;
            lifted = not-true _ (and_left _ _ t);
          },
          tt,
        )) (λ f. tt))

    abbrev made : List Stamp
    made = where_dated (dated (entry_at G d.drive.image)) (stamps_by G q.asked (lent_to d q) d.session Quiet)

    made_stamps : Each Here made × Each (Placed G) made × ((made ≡ []) ⊎ (dated (entry_at G d.drive.image) ≡ true))
    made_stamps =
        where_cases (λ (xs : List Stamp). Each Here xs × Each (Placed G) xs × ((xs ≡ []) ⊎ (dated (entry_at G d.drive.image) ≡ true)))
        (dated (entry_at G d.drive.image)) (stamps_by G q.asked (lent_to d q) d.session Quiet)
        (λ y. (own_stamps y, placed S q.asked (lent_to d q) d.session c.facts sane.good y Quiet open_kind, inr y)) (tt, tt, inl refl)

    opened_same : Restamped G Here d (left (outcome_of G d q))
    opened_same = record {
      stamps = made;
      each = made_stamps.0;
      placed = made_stamps.1;
      dates = made_stamps.2;
      image = ap (λ (o : Outcome). o.lent.drive.image) (carried_is G d q accepted Quiet open_kind);
      map = ap (λ (o : Outcome). o.lent.drive.map) (carried_is G d q accepted Quiet open_kind);
      user = user_left G d q Quiet open_kind refl;
      lifted = lifted_left G d q;
      range = range_left G d q;
    }

    opened_fcb_law : (outcome_of G d q).lent.fcb ≡ entered q.fcb row (ex_of q.fcb)
    unfolding told opened opened_at e
    opened_fcb_law =
        ap (λ (o : Outcome). o.lent.fcb) (carried_is G d q accepted Quiet open_kind) ∙ rw (eq-eqb q.asked.number 15 number, opens.entry.is)

    module _ (begins : Begins q.fcb) where
      entered_fresh : Fresh G d (entered q.fcb row (ex_of q.fcb)) e
      entered_fresh =
          let hf : 32 ≤ length q.fcb = omega (arith, begins.long) in
          let hr : length row ≡ 32 = length_entry_at S d.drive.image sane.good.image_long e found.below in
          record {
            sane = sane;
            long = length_entered q.fcb row (ex_of q.fcb) hf ∙ begins.long;
            drive = rw (first_entered q.fcb row (ex_of q.fcb) hf) begins.drive;
            cur = entered_cur G (seen_on G d) d.session.user q.fcb row (ex_of q.fcb) e found.below refl
                (file_user G d.session.user q.fcb 1 (ex_of q.fcb) row found.holds) begins.long hr
                (sane.good.inv.dir.fine e found.below (file_used G d.session.user q.fcb 1 (ex_of q.fcb) row found.holds sane.range.user))
                (file_run G d.session.user q.fcb 1 (ex_of q.fcb) row found.holds) (omega (arith, begins.ex)) begins.cr;
            slots = λ j l. slot_entered q.fcb row (ex_of q.fcb) hf G j;
            same = opened_keeps G q.fcb row (ex_of q.fcb) hf hr;
          }

      pub opened_at_law : OpenedAt G d q
      unfolding e
      opened_at_law = record {
        entry = opens.entry.place;
        asked = opens.entry.is;
        fcb = opened_fcb_law;
        fresh = subst (λ (f : Bytes). Fresh G (left (outcome_of G d q)) f opens.entry.place) (sym opened_fcb_law)
            (fresh_restamped S Here d (left (outcome_of G d q)) opened_same (entered q.fcb row (ex_of q.fcb)) opens.entry.place entered_fresh);
      }

  pub open_same : Restamped G (Access G q.asked d q.fcb) d (left (outcome_of G d q))
  open_same = split (bool_cases (accepts G d q)) (λ a. opened_same a) (λ f. refused_same G _ d q f)

-- ---- 33 through a fresh FCB, accepted or refused: it leaves image and map, and where no search is on the whole disk
same_disk : (d t : Disk) → t.drive ≡ d.drive → t.session ≡ d.session → t ≡ d
same_disk d t p q = ap (λ (x : Drive). record { drive = x; session = t.session }) p ∙ ap (λ (x : Session). record { drive = d.drive; session = x }) q

module _ (G : Geometry) (d : Disk) (q : Request) (e : ℕ) (number : q.asked.number ≡ 33) (k : Fresh G d q.fcb e) where
  read_kind : kind_of q.asked.number ≡ Read
  unfolding kind_of
  read_kind = ap kind_of number

  accepted_drive : accepts G d q ≡ true → (outcome_of G d q).lent.drive ≡ d.drive
  accepted_drive a =
      let c = carried G d q a in
      let w = read_unchanged G q.asked (lent_to d q) d.session (own_at G q.asked (lent_to d q) d.session c.facts read_kind)
      (fresh_unmoved G d q.fcb e k q.asked q.buffer) in
      unstamped_same G d q a Read read_kind w.0 w.1

  pub fresh_read_same : (P : Stamp → Type 0) → Restamped G P d (left (outcome_of G d q))
  fresh_read_same P =
      split (bool_cases (accepts G d q)) (λ a. drive_same G d q Read read_kind refl P (accepted_drive a))
      (λ f. refused_same G P d q f)

  pub fresh_read_disk : d.session ≡ ended d.session → left (outcome_of G d q) ≡ d
  unfolding outcome_of
  fresh_read_disk h =
      split (total G q.asked (lent_to d q) d.session)
      (λ r. same_disk d (left (outcome_of G d q)) (ap (λ (l : Lent). l.drive) r.1.kept) (split r.1.session (λ x. x.1 ∙ sym h) (λ x. x.1)))
      (λ c. let a = carried_says G q.asked (lent_to d q) d.session c in
      same_disk d (left (outcome_of G d q)) (accepted_drive a)
      (ap (λ (o : Outcome). o.answer.session) (carried_is G d q a Read read_kind)
      ∙ (read_answered G q.asked (lent_to d q) d.session q.asked.number).is_session ∙ sym h))
