-- Calls that are accepted: the close after a write, and a write through a fresh FCB in its own extent where a block is free; what a make hands
-- back, and what 46 tells of free blocks.
use Rattle.std.specs.Prelude.{◌≡◌, true, ℕ, ◌*◌, ◌/◌, ◌%◌, ◌≤◌, ◌<◌, eqb, length, get_or, None, Option, Some}
use Rattle.std.proofs.Math.Path.{refl, ap, sym, subst}
use Rattle.std.proofs.Common.{◌∙◌}
use Rattle.std.proofs.Math.Bool.{false}
use native.Mathlib.Omega.{arith}
use Rattle.std.proofs.Math.Nat.{mul-le-mul_left}
use borrow.Author.Tests.{eq-eqb, ne_eqb}
use Rattle.lists.specs.Cases.{split, bool_cases, eq_or_ne, not_both}
use Rattle.lists.specs.Tests.{◌or◌, and_left, and_right}
use Rattle.lists.specs.Count.{count_high, count_empty, count_zero}
use Rattle.lists.specs.Splice.{splice}
use Rattle.format.specs.Diskette.{Bytes, Geometry, Sound, record_bytes, slot_count, extent_records, extents}
use Rattle.format.specs.Entries.{entry_at, with_entry, slot_of, extent_of, run_of, count_of, count_in, end_of, read_only, empty, used, is_file_rule, find_file_rule}
use Rattle.format.specs.Dates.{is_dates}
use Rattle.format.specs.Notes.{note_at_rule, free_note, find_free, free_count_rule, is_free}
use Rattle.format.specs.Fcb.{fcb_end, fcb_right_rule, current}
use Rattle.format.specs.Found.{number_of}
use Rattle.facts.specs.Counts.{count_by_end, end_none}
use Rattle.facts.specs.Names.{name_bits, like_intro}
use Rattle.facts.specs.Naming.{named_intro, file_intro}
use Rattle.facts.specs.Found.{FoundAt, FirstAt, found_cases, found_row, at_not_nothing}
use Rattle.facts.specs.Find.{empty_test, empty_says}
use Rattle.consistency.specs.Reflect.{low_used, used_no_dates, empty_no_dates}
use Rattle.consistency.specs.Naming.{file_found}
use Rattle.rows.specs.Entries.{entry_stored, entry_left, record_kept}
use Rattle.notes.specs.Free.{free_is, none_free}
use Rattle.model.specs.declared.Asked.{Asked}
use Rattle.model.specs.declared.Kind.{Kind}
use Rattle.model.specs.declared.Kind.TheVariants.{Quiet, Create, Write}
use Rattle.model.specs.Kinds.{kind_of, is_call, is_random_rule}
use Rattle.model.specs.Lent.{Lent, Outcome, protected}
use Rattle.model.specs.Target.{present_entry}
use Rattle.model.specs.Entering.{copied, made_row_rule, three_bytes}
use Rattle.model.specs.Calls.{created_at, created, space}
use Rattle.model.specs.Step.{told}
use Rattle.model.specs.Table.{time_right_rule}
use Rattle.fields.specs.Agree.{SameName}
use Rattle.fields.specs.Closing.{nothing_to_close}
use Rattle.fields.specs.Entering.{length_copied, row_copied, first_copied, name_copied, slot_copied, extent_copied}
use Rattle.fields.specs.Making.{length_made_row, user_made, zero_made, slot_made, extent_made, name_made, read_only_made}
use Rattle.fields.specs.Numbers.{three_value, three_back, three_low, three_middle, three_high}
use Rattle.table.specs.First.{◌&◌}
use Rattle.table.specs.Own.{calling}
use Rattle.table.specs.Facts.{Makes, Writes, AcceptedCall}
use Rattle.table.specs.Accept.{makes_of, writes_random}
use Rattle.table.specs.Protection.{changes_kind, by_kind, changer_stopped, lifted_spared}
use Rattle.table.specs.Present.{numbers_extent}
use Rattle.effects.specs.View.{view_of}
use Rattle.effects.specs.Effect.{RecsStay}
use Rattle.effects.specs.Cur.{Cur, cur_current}
use Rattle.effects.specs.Alike.{Alike, dates_alike, used_row}
use Rattle.demands.specs.Runs.{Request, Disk, lent_to, outcome_of, left, accepts}
use Rattle.demands.specs.Stamped.{stamped_as}
use Rattle.demands.proofs.Stamped.{stamps_alike, cur_on}
use Rattle.demands.specs.StillCurrent.{created_cur}
use Rattle.demands.specs.ReadBack.{Wrote}
use Rattle.demands.proofs.ReadBack.{wrote}
use Rattle.demands.specs.Reading.{at_record_rule}
use Rattle.stored.specs.Closed.{asks, Sane, seen_on, Begins, Fresh}
use Rattle.stored.specs.Quiet.{lifted_left, range_left, sane_left, user_left, passed_accepts, sane_ready, carried, carried_is, sane_accepted, fresh_record, fresh_ready}
use Rattle.stored.specs.Told.{extent_entry}
use Rattle.stored.specs.Meeting.{met_extent, met_present, met_entry, met_locked}

-- ---- the session
-- an accepted call that changes the disk has found the protection lifted, and every call leaves it so
pub accepted_unprotected : (G : Geometry) (d : Disk) (q : Request) (k : Kind) → kind_of q.asked.number ≡ k → changes_kind k ≡ true → accepts G d q ≡ true
    → protected d.session ≡ false
accepted_unprotected G d q k kind changes accepted =
    let c = carried G d q accepted in
    split (bool_cases (protected d.session))
    (λ p. not_both _ (changer_stopped G q.asked (lent_to d q) d.session p (sym (by_kind q.asked.number k kind) ∙ changes)) c.facts.spared)
    (λ p. p)

pub protection_left : (G : Geometry) (d : Disk) (q : Request) → protected (left (outcome_of G d q)).session ≡ protected d.session
unfolding protected
protection_left G d q = ap (λ (b : ℕ). eqb b 0) (lifted_left G d q)

-- ---- 16 after an accepted write
module _ {G : Geometry} (S : Sound G) (d : Disk) (w : Request) (writes : kind_of w.asked.number ≡ Write) (accepted : accepts G d w ≡ true)
    (a : Asked) (time : time_right_rule a ≡ true) (buffer : Bytes) (whole : length buffer ≡ record_bytes) where
  abbrev mid : Disk
  mid = left (outcome_of G d w)

  abbrev c : Request
  c = asks a 16 (outcome_of G d w).lent.fcb buffer

  k : Wrote G d w
  k = wrote S d w writes accepted

  found_mid : present_entry G mid.session.user (lent_to mid c) ≡ Some k.entry
  unfolding present_entry
  found_mid =
      ap (λ (u : ℕ). current G (entry_at G mid.drive.image) mid.drive.map u (outcome_of G d w).lent.fcb) (user_left G d w Write writes refl)
      ∙ cur_current G mid.drive.image mid.drive.map d.session.user (outcome_of G d w).lent.fcb k.entry
      k.good.inv.dir k.range.user k.holds.cur

  pub close_accepted : accepts G (left (outcome_of G d w)) (asks a 16 (outcome_of G d w).lent.fcb buffer) ≡ true
  unfolding is_call kind_of time_right_rule
  close_accepted =
      passed_accepts G mid c refl
      (sane_ready G mid record { good = k.good; range = range_left G d w k.range } c.fcb k.fcb.long (rw k.fcb.first k.drive) (calling 16 a) time buffer whole)
      (lifted_spared G (calling 16 a) (lent_to mid c) mid.session (protection_left G d w ∙ accepted_unprotected G d w Write writes refl accepted))
      (found_row (present_entry G mid.session.user (lent_to mid c)) found_mid & tt)

-- ---- 34 through a fresh FCB, in its own extent
module _ {G : Geometry} (S : Sound G) (d : Disk) (f : Bytes) (e : ℕ) (k : Fresh G d f e) (unprotected : protected d.session ≡ false)
    (a : Asked) (time : time_right_rule a ≡ true) (buffer : Bytes) (whole : length buffer ≡ record_bytes)
    (writable : read_only (entry_at G d.drive.image e) ≡ false) (r : ℕ) (here : r / extent_records ≡ extent_of f) (free : FoundAt (find_free G d.drive.map)) where
  abbrev q : Request
  q = asks a 34 (at_record_rule f r) buffer

  abbrev lw : Lent
  lw = lent_to d q

  low : extent_of f < extents
  unfolding fcb_right_rule
  low = numbers_extent f (and_left _ _ (and_right _ _ k.cur.right))

  small : r < 16777216
  small = let l = low in omega arith

  -- the record's extent is the FCB's own
  own : extent_entry G (seen_on G d) d.session.user f r ≡ Some e
  unfolding extent_entry
  own =
      ap (find_file_rule G (entry_at G d.drive.image) d.session.user f 1) here
      ∙ file_found G (entry_at G d.drive.image) d.session.user k.sane.range.user f 1 (extent_of f) e
      k.cur.low k.cur.file k.sane.good.inv.dir

  writes_there : Writes G lw d.session 34
  unfolding is_random_rule ◌or◌
  writes_there = record {
    entry = record { place = e; is = met_present S 34 refl d f e k r small buffer };
    writable = met_locked S 34 refl d f e k r small buffer ∙ rw (own, writable);
    extent = rw (met_extent S 34 refl d f e k r small buffer, here) low;
    room = λ z. absurd (at_not_nothing e (sym (met_entry S 34 refl d f e k r small buffer ∙ own) ∙ z));
    block = λ z. free;
  }

  pub fresh_write_accepted : accepts G d (asks a 34 (at_record_rule f r) buffer) ≡ true
  unfolding is_call kind_of time_right_rule
  fresh_write_accepted =
      passed_accepts G d q refl (fresh_ready G d (at_record_rule f r) e (fresh_record G d f e k r) (calling 34 a) time buffer whole)
      (lifted_spared G (calling 34 a) lw d.session unprotected) (writes_random G a lw d.session writes_there)

-- ---- 22 hands back a fresh FCB, of an entry that was empty and has no record yet; all else stays, but for stamps
pub record MadeAt (G : Geometry) (d : Disk) (q : Request) : Type 0 where
  pub entry : ℕ
  pub low : entry < G.entries
  pub void : empty (entry_at G d.drive.image entry) ≡ true
  -- the FCB
  pub fresh : Fresh G (left (outcome_of G d q)) (outcome_of G d q).lent.fcb entry
  pub extent : extent_of (outcome_of G d q).lent.fcb ≡ 0
  pub name : SameName (outcome_of G d q).lent.fcb 1 q.fcb 1
  -- the new row
  pub file : is_file_rule G d.session.user q.fcb 1 0 (entry_at G (left (outcome_of G d q)).drive.image entry) ≡ true
  pub writable : read_only (entry_at G (left (outcome_of G d q)).drive.image entry) ≡ false
  pub end : end_of (entry_at G (left (outcome_of G d q)).drive.image entry) ≡ 0
  pub count : count_in (entry_at G (left (outcome_of G d q)).drive.image entry) 0 ≡ 0
  pub slots : (j : ℕ) → slot_of G (entry_at G (left (outcome_of G d q)).drive.image entry) j ≡ 0
  -- what stays
  pub others : (e : ℕ) → e < G.entries → is_dates (entry_at G d.drive.image e) ≡ false → (e ≡ entry → ⊥)
      → entry_at G (left (outcome_of G d q)).drive.image e ≡ entry_at G d.drive.image e
  pub dates : (e : ℕ) → e < G.entries → is_dates (entry_at G (left (outcome_of G d q)).drive.image e) ≡ is_dates (entry_at G d.drive.image e)
  pub recs : RecsStay G (seen_on G d) (seen_on G (left (outcome_of G d q)))
  pub map : (left (outcome_of G d q)).drive.map ≡ d.drive.map
  pub user : (left (outcome_of G d q)).session.user ≡ d.session.user

module _ {G : Geometry} (S : Sound G) (d : Disk) (q : Request) (number : q.asked.number ≡ 22) (accepted : accepts G d q ≡ true) (begins : Begins q.fcb) where
  abbrev lm : Lent
  lm = lent_to d q

  facts : AcceptedCall G q.asked lm d.session
  facts = (carried G d q accepted).facts

  creates : kind_of q.asked.number ≡ Create
  unfolding kind_of
  creates = ap kind_of number

  made_is : outcome_of G d q ≡ stamped_as G q.asked lm d.session Create
  made_is = carried_is G d q accepted Create creates

  makes : Makes G lm d.session
  makes = makes_of G q.asked lm d.session facts.none creates

  sane : Sane G d
  sane = sane_accepted G d q accepted (λ z. let w : 22 ≡ 13 = sym number ∙ z in omega arith)

  new : ℕ
  new = makes.entry.place

  room : FirstAt (empty_test (entry_at G d.drive.image)) 0 G.entries new
  unfolding new
  room = empty_says G (entry_at G d.drive.image) makes.entry.place makes.entry.is

  row : Bytes
  row = made_row_rule d.session.user q.fcb

  row_long : length row ≡ 32
  unfolding row
  row_long = length_made_row d.session.user q.fcb

  own_is : created G d.session lm ≡ created_at G d.session lm new
  unfolding created new
  own_is = ap (λ (r : Option ℕ). created_at G d.session lm (number_of G.entries r)) makes.entry.is

  -- its own rule, and then the stamps
  alike : Alike G (with_entry G d.drive.image new row) (left (outcome_of G d q)).drive.image
  unfolding created_at row
  alike =
      subst (λ (i : Bytes). Alike G i (left (outcome_of G d q)).drive.image) (ap (λ (o : Outcome). o.lent.drive.image) own_is)
      (subst (λ (o : Outcome). Alike G (created G d.session lm).lent.drive.image o.lent.drive.image) (sym made_is)
      (stamps_alike S q.asked lm d.session facts sane.good Create creates refl))

  row_used : used row ≡ true
  unfolding row
  row_used = low_used (made_row_rule d.session.user q.fcb) (rw (user_made d.session.user q.fcb) sane.range.user)

  own_row : entry_at G (with_entry G d.drive.image new row) new ≡ row
  own_row = entry_stored S d.drive.image sane.good.image_long new room.below row row_long

  new_row : entry_at G (left (outcome_of G d q)).drive.image new ≡ row
  new_row = used_row G _ _ alike new room.below (ap used own_row ∙ row_used) ∙ own_row

  own_others : (e : ℕ) → e < G.entries → (e ≡ new → ⊥) → entry_at G (with_entry G d.drive.image new row) e ≡ entry_at G d.drive.image e
  own_others e l n = entry_left S d.drive.image sane.good.image_long new room.below row row_long e l (λ z. n (sym z))

  dates_stay : (e : ℕ) → e < G.entries → is_dates (entry_at G (left (outcome_of G d q)).drive.image e) ≡ is_dates (entry_at G d.drive.image e)
  dates_stay e l =
      dates_alike G _ _ alike e l
      ∙ split (eq_or_ne e new)
      (λ z. ap (λ (x : ℕ). is_dates (entry_at G (with_entry G d.drive.image new row) x)) z ∙ ap is_dates own_row ∙ used_no_dates row row_used
      ∙ sym (empty_no_dates (entry_at G d.drive.image new) room.holds) ∙ ap (λ (x : ℕ). is_dates (entry_at G d.drive.image x)) (sym z))
      (λ z. ap is_dates (own_others e l z))

  fcb_is : (outcome_of G d q).lent.fcb ≡ copied q.fcb row
  unfolding created_at row
  fcb_is = ap (λ (o : Outcome). o.lent.fcb) made_is ∙ ap (λ (o : Outcome). o.lent.fcb) own_is

  map_is : (left (outcome_of G d q)).drive.map ≡ d.drive.map
  unfolding created created_at
  map_is = ap (λ (o : Outcome). o.lent.drive.map) made_is

  user_is : (left (outcome_of G d q)).session.user ≡ d.session.user
  user_is = user_left G d q Create creates refl

  -- the fields of the new row
  row_extent : extent_of row ≡ 0
  unfolding row
  row_extent = extent_made d.session.user q.fcb ∙ begins.ex

  row_end : end_of row ≡ 0
  unfolding row end_of count_of
  row_end = let x = row_extent in let z = zero_made d.session.user q.fcb 15 (omega arith) in omega arith

  row_file : is_file_rule G d.session.user q.fcb 1 0 row ≡ true
  unfolding row
  row_file =
      file_intro G d.session.user q.fcb 1 0 row
      (named_intro false d.session.user q.fcb 1 row (user_made d.session.user q.fcb)
      (like_intro q.fcb 1 row 1 (λ i h. sym (name_made d.session.user q.fcb i h)))) (ap (run_of G) row_extent)

  hf : 32 ≤ length q.fcb
  hf = let w = begins.long in omega arith

  hr : 32 ≤ length row
  hr = let w = row_long in omega arith

  fcb_extent : extent_of (copied q.fcb row) ≡ 0
  fcb_extent = extent_copied q.fcb row hf hr ∙ row_extent

  -- its count is 0
  fcb_end_law : fcb_end (copied q.fcb row) ≡ 0
  unfolding count_of row
  fcb_end_law =
      end_none (copied q.fcb row)
      (let z = zero_made d.session.user q.fcb 15 (omega arith) in let y = row_copied q.fcb row hf hr 15 (omega arith) (omega arith) in omega arith)

  cur_after : Cur G (seen_on G (left (outcome_of G d q))) d.session.user (copied q.fcb row) new
  unfolding created created_at row new
  cur_after =
      subst (λ (o : Outcome). Cur G (view_of G o.lent.drive.image o.lent.drive.map) d.session.user (copied q.fcb row) new) (sym made_is)
      (cur_on S q.asked lm d.session facts sane.good Create creates refl (copied q.fcb row) new
      (subst (λ (o : Outcome). Cur G (view_of G o.lent.drive.image d.drive.map) d.session.user (copied q.fcb row) new) (sym own_is)
      (created_cur S q.asked lm d.session facts.ready.fits sane.good begins.cr makes)))

  made_fresh : Fresh G (left (outcome_of G d q)) (copied q.fcb row) new
  made_fresh =
      let slots : (j : ℕ) → j < slot_count → slot_of G (copied q.fcb row) j ≡ slot_of G (entry_at G (left (outcome_of G d q)).drive.image new) j =
      λ j h. slot_copied q.fcb row hf hr G j ∙ sym (ap (λ (r : Bytes). slot_of G r j) new_row) in
      record {
        sane = sane_left G d q S sane;
        long = length_copied q.fcb row hf hr ∙ begins.long;
        drive = rw (first_copied q.fcb row hf hr) begins.drive;
        cur = rw user_is cur_after;
        slots = slots;
        same = nothing_to_close G (entry_at G (left (outcome_of G d q)).drive.image new) (copied q.fcb row) slots (rw fcb_end_law (omega arith));
      }

  pub made_at_law : MadeAt G d q
  unfolding row
  made_at_law = record {
    entry = new;
    low = room.below;
    void = room.holds;
    fresh = rw fcb_is made_fresh;
    extent = ap extent_of fcb_is ∙ fcb_extent;
    name = λ i h. ap (λ (x : Bytes). name_bits x 1 i) fcb_is ∙ name_copied q.fcb row hf hr i h ∙ name_made d.session.user q.fcb i h;
    file = ap (is_file_rule G d.session.user q.fcb 1 0) new_row ∙ row_file;
    writable = ap read_only new_row ∙ read_only_made d.session.user q.fcb;
    end = ap end_of new_row ∙ row_end;
    count = ap (λ (r : Bytes). count_in r 0) new_row ∙ (let x = row_end in count_by_end row 0 ∙ omega arith);
    slots = λ j. ap (λ (r : Bytes). slot_of G r j) new_row ∙ slot_made d.session.user q.fcb G j;
    others = λ e l n z. alike.row e l (ap is_dates (own_others e l z) ∙ n) ∙ own_others e l z;
    dates = dates_stay;
    recs = λ x a b. alike.recs x a b ∙ record_kept S d.drive.image sane.good.image_long new room.below row row_long x a b;
    map = map_is;
    user = user_is;
  }

-- ---- 46 tells of free blocks
-- the number in the first three bytes of a buffer
abbrev pub three_of : Bytes → ℕ
three_of b = three_value (get_or b 0 0) (get_or b 1 0) (get_or b 2 0)

module _ (G : Geometry) (d : Disk) (q : Request) (number : q.asked.number ≡ 46) (accepted : accepts G d q ≡ true) where
  abbrev free_records : ℕ
  free_records = G.per_block * free_count_rule G d.drive.map

  space_told : (outcome_of G d q).lent.buffer ≡ splice q.buffer 0 (three_bytes free_records)
  unfolding kind_of told space
  space_told =
      ap (λ (o : Outcome). o.lent.buffer) (carried_is G d q accepted Quiet (ap kind_of number))
      ∙ ap (λ (n : ℕ). (told G (calling n q.asked) (lent_to d q) d.session).buffer) number

  space_three : three_of (outcome_of G d q).lent.buffer
      ≡ three_value (free_records % 256) (free_records / 256 % 256) (free_records / 65536 % 256)
  space_three =
      let w : length q.buffer ≡ 128 = (carried G d q accepted).facts.ready.fits.buffer_long in
      let h : 3 ≤ length q.buffer = omega arith in
      rw (space_told, three_low q.buffer 0 free_records h, three_middle q.buffer 0 free_records h, three_high q.buffer 0 free_records h)

  -- where it tells of some, there is one
  pub space_free : (three_of (outcome_of G d q).lent.buffer ≡ 0 → ⊥) → FoundAt (find_free G d.drive.map)
  unfolding free_count_rule is_free
  space_free n =
      found_cases (find_free G d.drive.map) (λ k e. record { place = k; is = e })
      (λ e. let none : free_count_rule G d.drive.map ≡ 0 =
      count_empty (is_free d.drive.map) G.blocks (λ k h. ne_eqb (note_at_rule d.drive.map k) free_note (λ z. none_free G d.drive.map e k h z)) in
      let zero : free_records ≡ 0 = ap (λ (x : ℕ). G.per_block * x) none ∙ omega arith in
      absurd (n (space_three ∙ omega arith)))

  -- and where it tells of none, there is none: on a disk whose records three bytes can count
  pub space_none : Sound G → G.per_block * G.blocks < 16777216 → three_of (outcome_of G d q).lent.buffer ≡ 0 → find_free G d.drive.map ≡ None
  unfolding free_count_rule is_free
  space_none S small z =
      found_cases (find_free G d.drive.map)
      (λ k e. let f = free_is G d.drive.map k e in
      let most : free_records ≤ G.per_block * G.blocks =
      mul-le-mul_left G.per_block (count_high (is_free d.drive.map) G.blocks) in
      let zero : free_records ≡ 0 =
      sym (three_back free_records (omega arith)) ∙ sym space_three ∙ z in
      let none : free_count_rule G d.drive.map ≡ 0 = factor_zero G.per_block (free_count_rule G d.drive.map) S.some_record zero in
      not_both (is_free d.drive.map k) (eq-eqb (note_at_rule d.drive.map k) free_note f.free) (count_zero (is_free d.drive.map) G.blocks none k f.below))
      (λ e. e)
    where
      factor_zero : (n m : ℕ) → 0 < n → n * m ≡ 0 → m ≡ 0
      factor_zero n m h z =
          split (eq_or_ne m 0) (λ y. y)
          (λ y. let one : n * 1 ≤ n * m = mul-le-mul_left n (omega arith) in absurd (omega arith))
