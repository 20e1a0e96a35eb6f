-- An accepted write through a fresh FCB and the close after it: the file gained the record, and nothing else of it changed.
use Rattle.std.specs.Prelude.{◌≡◌, true, false, ℕ, ◌+◌, ◌/◌, ◌%◌, ◌≤◌, ◌<◌, length, Option, Some}
use Rattle.std.proofs.Math.Path.{refl, ap, subst}
use Rattle.std.proofs.Common.{sym, ◌∙◌, inl, arith}
use Rattle.lists.specs.Cases.{split, eq_or_ne}
use Rattle.format.specs.Diskette.{Bytes, Geometry, Sound, Long, record_bytes, extent_records}
use Rattle.format.specs.Entries.{entry_at, extent_of, is_file_rule, used, find_file_rule}
use Rattle.format.specs.Dates.{is_dates}
use Rattle.format.specs.Names.{seven_bits}
use Rattle.format.specs.Fcb.{current}
use Rattle.format.specs.Found.{number_of}
use Rattle.facts.specs.Found.{at_once}
use Rattle.facts.specs.Naming.{file_run}
use Rattle.consistency.specs.Naming.{file_used, file_found}
use Rattle.consistency.specs.Reflect.{used_no_dates, empty_no_dates, empty_elsewhere}
use Rattle.rows.specs.Entries.{length_entry_at}
use Rattle.model.specs.declared.Asked.{Asked}
use Rattle.model.specs.declared.Kind.TheVariants.{Close, Write}
use Rattle.model.specs.Kinds.{kind_of, is_random_rule}
use Rattle.model.specs.Lent.{Lent, rows_of, Outcome}
use Rattle.model.specs.Closing.{closed_row_rule, closed_image, closed_map}
use Rattle.model.specs.Target.{target_extent, target_record, present_entry}
use Rattle.model.specs.Calls.{written, closed_at, closed}
use Rattle.model.specs.Table.{time_right_rule}
use Rattle.fields.specs.Agree.{SameName, same_name, named_cong}
use Rattle.fields.specs.Closing.{file_closed, unchanged_end}
use Rattle.fields.specs.Images.{row_closed_image, row_closed_image_other}
use Rattle.table.specs.Facts.{AcceptedCall}
use Rattle.table.specs.Accept.{writes_by}
use Rattle.invariant.specs.Good.{Good}
use Rattle.effects.specs.View.{view_of}
use Rattle.effects.specs.Cur.{Cur, cur_current, cur_uses, cur_named}
use Rattle.effects.specs.Effect.{NamesStay, NoneNew}
use Rattle.effects.specs.Closed.{by_name}
use Rattle.effects.specs.Alike.{Alike}
use Rattle.current.specs.Current.{fcb_says}
use Rattle.demands.specs.Runs.{Request, Disk, lent_to, outcome_of, left, accepts}
use Rattle.demands.specs.Stamped.{stamped_as}
use Rattle.demands.proofs.Stamped.{stamps_alike, cur_on}
use Rattle.demands.proofs.ReadBack.{wrote}
use Rattle.demands.specs.Reading.{at_record_rule, rest_at_record}
use Rattle.stored.specs.Closed.{asks, Sane, seen_on, Fresh}
use Rattle.stored.specs.Quiet.{sane_left, user_left, carried, carried_is, fresh_record}
use Rattle.stored.specs.OnlyNamed.{OnlyNamed, only_one, only_then, only_alike, only_named, only_names, by_used}
use Rattle.stored.specs.Meeting.{met_extent, met_record, met_present}
use Rattle.stored.specs.Accepting.{close_accepted}
use Rattle.stored.specs.Grown.{Grown, grown_named, grown_stamped, grown_only, grown_file}
use Rattle.stored.specs.Writing.{Closable, written_closable}

-- ---- a close changes the FCB's entry alone
closed_only : {G : Geometry} (S : Sound G) (img map : Bytes) → Long G img → (user : ℕ) → user ≤ 15 → (fcb : Bytes) (e : ℕ) → Cur G (view_of G img map) user fcb e
    → OnlyNamed G (by_name user fcb) (entry_at G img) (entry_at G (closed_image G img e fcb))
closed_only {G} S img map long user hu fcb e c =
    let row : Bytes = entry_at G img e in
    let new = row_closed_image S img long e c.low fcb in
    let same = file_closed G row fcb (length_entry_at S img long e c.low) (file_run G user fcb 1 (extent_of fcb) row c.file) in
    let is : by_name user fcb (closed_row_rule G row fcb) ≡ true =
    named_cong false user fcb 1 (closed_row_rule G row fcb) row same.user (same_name G (closed_row_rule G row fcb) row same)
    ∙ cur_named G (view_of G img map) user hu fcb e c in
    only_one e record { was = inl (cur_named G (view_of G img map) user hu fcb e c); is = ap (by_name user fcb) new ∙ is }
    (λ i h n q. row_closed_image_other S img long e c.low fcb i h q)
    (λ i h. split (eq_or_ne i e)
    (λ q. ap (λ (y : ℕ). is_dates (entry_at G (closed_image G img e fcb) y)) q ∙ ap is_dates new
    ∙ used_no_dates (closed_row_rule G row fcb) (by_used user fcb hu (closed_row_rule G row fcb) is)
    ∙ sym (used_no_dates row (cur_uses G (view_of G img map) user hu fcb e c)) ∙ ap (λ (y : ℕ). is_dates (entry_at G img y)) (sym q))
    (λ q. ap is_dates (row_closed_image_other S img long e c.low fcb i h q)))

-- ---- the two calls: a write of record x through a fresh FCB, and the close through the FCB that it hands back
abbrev pub write_record : Asked → Bytes → ℕ → Bytes → Request
write_record a f x buffer = asks a 34 (at_record_rule f x) buffer

abbrev pub close_back : Geometry → Disk → Request → Asked → Bytes → Request
close_back G d w b buffer = asks b 16 (outcome_of G d w).lent.fcb buffer

-- the disk after a call and that close
abbrev pub then_closed : Geometry → Disk → Request → Asked → Bytes → Disk
then_closed G d w b buffer = left (outcome_of G (left (outcome_of G d w)) (close_back G d w b buffer))

-- what the write left
record WroteOne (G : Geometry) (d : Disk) (f : Bytes) (x : ℕ) (v : Bytes) (o : Outcome) : Type 0 where
  entry : ℕ
  cur : Cur G (seen_on G (left o)) d.session.user o.lent.fcb entry
  only : OnlyNamed G (by_name d.session.user f) (entry_at G d.drive.image) (rows_of G o.lent)
  grown : Grown G (seen_on G d)
      (view_of G (closed_image G o.lent.drive.image entry o.lent.fcb)
      (closed_map G (entry_at G o.lent.drive.image entry) o.lent.fcb o.lent.drive.map))
      d.session.user f x v

module _ {G : Geometry} (S : Sound G) (d : Disk) (f : Bytes) (e : ℕ) (k : Fresh G d f e) (x : ℕ) (small : x < 262144) (a : Asked) (buffer : Bytes)
    (accepted : accepts G d (write_record a f x buffer) ≡ true) where
  abbrev q : Request
  q = write_record a f x buffer

  abbrev lw : Lent
  lw = lent_to d q

  abbrev mid : Disk
  mid = left (outcome_of G d q)

  abbrev user : ℕ
  user = d.session.user

  hu : user ≤ 15
  hu = k.sane.range.user

  kx : Fresh G d (at_record_rule f x) e
  kx = fresh_record G d f e k x

  facts : AcceptedCall G q.asked lw d.session
  facts = (carried G d q accepted).facts

  writes : kind_of 34 ≡ Write
  unfolding kind_of
  writes = refl

  wrote_is : outcome_of G d q ≡ stamped_as G q.asked lw d.session Write
  wrote_is = carried_is G d q accepted Write writes

  to_extent : target_extent 34 (at_record_rule f x) ≡ x / extent_records
  unfolding is_random_rule
  to_extent = met_extent S 34 refl d f e k x (omega arith) buffer

  to_record : target_record 34 (at_record_rule f x) ≡ x % extent_records
  unfolding is_random_rule
  to_record = met_record S 34 refl d f e k x (omega arith) buffer

  closable : Closable G user x lw (written G d.session lw 34).lent
  unfolding is_random_rule
  closable =
      written_closable S 34 lw d.session k.sane.good facts.ready.fits e (met_present S 34 refl d f e k x (omega arith) buffer) k.cur.low
      (fcb_says (at_record_rule f x) kx.cur.right).cr
      record { slots = kx.slots; end = unchanged_end G (entry_at G d.drive.image e) (at_record_rule f x) kx.same }
      kx.same (rw to_extent (omega arith)) x to_extent to_record (writes_by G q.asked lw d.session facts.none writes)

  -- r0 to r2 are no part of the name
  same_name_as : SameName f 1 (at_record_rule f x) 1
  same_name_as i h = ap seven_bits (sym (rest_at_record f x k.long (1 + i) (omega arith) (omega arith)))

  mid_sane : Sane G mid
  mid_sane = sane_left G d q S k.sane

  mid_good : Good G mid.drive.image mid.drive.map
  mid_good = mid_sane.good

  -- what the write's own rule left, and then its stamps
  abbrev own_image : Bytes
  own_image = (written G d.session lw 34).lent.drive.image

  abbrev stamped_image : Bytes
  stamped_image = (stamped_as G q.asked lw d.session Write).lent.drive.image

  alike : Alike G own_image stamped_image
  alike = stamps_alike S q.asked lw d.session facts k.sane.good Write writes refl

  wrote_one : WroteOne G d f x buffer (outcome_of G d q)
  wrote_one =
      subst (WroteOne G d f x buffer) (sym wrote_is)
      record {
        entry = closable.entry;
        cur = cur_on S q.asked lw d.session facts k.sane.good Write writes refl _ closable.entry closable.cur;
        only = only_then (only_named user (at_record_rule f x) f same_name_as closable.only) (only_alike (by_name user f) own_image stamped_image alike);
        grown = grown_named (at_record_rule f x) f same_name_as
            (closable.grown stamped_image alike
            (subst (λ (o : Outcome). Long G o.lent.drive.image) wrote_is mid_good.image_long));
      }

  -- the FCB handed back has the name
  pub handed_back : SameName f 1 (outcome_of G d q).lent.fcb 1
  handed_back i h = same_name_as i h ∙ sym ((wrote S d q writes accepted).fcb.name i h)

  pub write_user : mid.session.user ≡ d.session.user
  write_user = user_left G d q Write writes refl

  -- the write changes entries of the file alone
  pub write_only : OnlyNamed G (by_name d.session.user f) (entry_at G d.drive.image) (entry_at G mid.drive.image)
  write_only = wrote_one.only

  -- ---- the close
  module _ (b : Asked) (time : time_right_rule b ≡ true) (cb : Bytes) (whole : length cb ≡ record_bytes) where
    abbrev c : Request
    c = close_back G d q b cb

    abbrev lc : Lent
    lc = lent_to mid c

    abbrev t : ℕ
    t = wrote_one.entry

    pub then_closes : accepts G mid c ≡ true
    then_closes = close_accepted S d q writes accepted b time cb whole

    abbrev end : Disk
    end = then_closed G d q b cb

    shuts : kind_of 16 ≡ Close
    unfolding kind_of
    shuts = refl

    close_facts : AcceptedCall G c.asked lc mid.session
    close_facts = (carried G mid c then_closes).facts

    present : present_entry G mid.session.user lc ≡ Some t
    unfolding present_entry
    present =
        ap (λ (u : ℕ). current G (entry_at G mid.drive.image) mid.drive.map u (outcome_of G d q).lent.fcb) write_user
        ∙ cur_current G mid.drive.image mid.drive.map user (outcome_of G d q).lent.fcb t mid_good.inv.dir hu wrote_one.cur

    own_is : closed G mid.session lc ≡ closed_at G mid.session lc t
    unfolding closed
    own_is = ap (λ (r : Option ℕ). closed_at G mid.session lc (number_of G.entries r)) present

    end_is : outcome_of G mid c ≡ stamped_as G c.asked lc mid.session Close
    end_is = carried_is G mid c then_closes Close shuts

    -- what its own rule left, and then its stamps
    abbrev own_end : Bytes
    own_end = (closed G mid.session lc).lent.drive.image

    abbrev stamped_end : Bytes
    stamped_end = (stamped_as G c.asked lc mid.session Close).lent.drive.image

    end_alike : Alike G own_end stamped_end
    end_alike = stamps_alike S c.asked lc mid.session close_facts mid_good Close shuts refl

    pub end_sane : Sane G end
    end_sane = sane_left G mid c S mid_sane

    -- the file gained the record
    pub write_close_grown : Grown G (seen_on G d) (seen_on G end) d.session.user f x buffer
    unfolding closed_at
    write_close_grown =
        subst (λ (o : Outcome). Grown G (seen_on G d) (seen_on G (left o)) user f x buffer) (sym end_is)
        (grown_stamped S (closed G mid.session lc).lent.drive.map hu
        (subst (λ (o : Outcome). Grown G (seen_on G d) (seen_on G (left o)) user f x buffer) (sym own_is) wrote_one.grown) end_alike)

    -- the close changes an entry of the file alone, and makes none
    pub close_only : OnlyNamed G (by_name d.session.user f) (entry_at G mid.drive.image) (entry_at G end.drive.image)
    unfolding closed_at
    close_only =
        subst (λ (o : Outcome). OnlyNamed G (by_name user f) (entry_at G mid.drive.image) (rows_of G o.lent)) (sym end_is)
        (only_then
        (subst (λ (o : Outcome). OnlyNamed G (by_name user f) (entry_at G mid.drive.image) (rows_of G o.lent)) (sym own_is)
        (only_named user (outcome_of G d q).lent.fcb f handed_back
        (closed_only S mid.drive.image mid.drive.map mid_good.image_long user hu (outcome_of G d q).lent.fcb t
        wrote_one.cur))) (only_alike (by_name user f) own_end stamped_end end_alike))

    pub close_none : NoneNew G (seen_on G mid) (seen_on G end)
    unfolding closed_at
    close_none i h z =
        let own : entry_at G own_end i ≡ entry_at G mid.drive.image i =
        ap (λ (o : Outcome). entry_at G o.lent.drive.image i) own_is
        ∙ row_closed_image_other S mid.drive.image mid_good.image_long t wrote_one.cur.low (outcome_of G d q).lent.fcb i h
        (empty_elsewhere (entry_at G mid.drive.image) i t z (cur_uses G (seen_on G mid) user hu (outcome_of G d q).lent.fcb t wrote_one.cur)) in
        ap (λ (o : Outcome). entry_at G o.lent.drive.image i) end_is
        ∙ end_alike.row i h (ap is_dates own ∙ empty_no_dates (entry_at G mid.drive.image i) z) ∙ own

    -- a write in the FCB's own extent makes no entry either
    pub write_close_none : x / extent_records ≡ extent_of f → NoneNew G (seen_on G d) (seen_on G end)
    write_close_none here i h z =
        split g.was
        (λ w. g.others i h (empty_no_dates (entry_at G d.drive.image i) z)
        (empty_elsewhere (entry_at G d.drive.image) i g.entry z
        (ap used w.0 ∙ file_used G user f 1 (x / 128) g.base w.1 hu)))
        (λ w. let own : is_file_rule G user f 1 (x / 128) (entry_at G d.drive.image e) ≡ true =
        ap (λ (y : ℕ). is_file_rule G user f 1 y (entry_at G d.drive.image e)) here ∙ k.cur.file in
        let still = grown_file S (seen_on G d) (seen_on G end) k.sane.good.inv user hu f x buffer g e (x / 128) k.cur.low own in
        absurd (empty_elsewhere (entry_at G d.drive.image) g.entry e w.0 (cur_uses G (seen_on G d) user hu f e k.cur)
        (at_once g.entry e (sym (found g.entry g.low g.file) ∙ found e k.cur.low still))))
      where
        g : Grown G (seen_on G d) (seen_on G end) user f x buffer
        g = write_close_grown

        found : (i : ℕ) → i < G.entries → is_file_rule G user f 1 (x / 128) (entry_at G end.drive.image i) ≡ true
            → find_file_rule G (entry_at G end.drive.image) user f 1 (x / 128) ≡ Some i
        found i h w = file_found G (entry_at G end.drive.image) user hu f 1 (x / 128) i h w end_sane.good.inv.dir

    -- names stay
    pub write_close_names : (u : ℕ) → u ≤ 15 → (h : Bytes) → NamesStay G (seen_on G d) (seen_on G end) (by_name u h)
    write_close_names = only_names user f (grown_only f write_close_grown)

    pub end_user : end.session.user ≡ d.session.user
    end_user = user_left G mid c Close shuts refl ∙ write_user
