-- A write, by its own rule, through an FCB that says what its entry says: wherever the call came to, a close of what it leaves gives the file the
-- record, whatever stamps are put in between.
use Rattle.std.specs.Prelude.{◌≡◌, ◌⊎◌, true, false, eqb, length, None, Some}
use Rattle.std.proofs.Math.Path.{refl, ap, sym, subst}
use Rattle.std.proofs.Common.{◌∙◌, length-set}
use Rattle.std.proofs.Math.Logic.{inl, inr}
use Prim.Native.Nat.{ℕ, ◌+◌, ◌-◌, ◌*◌, ◌/◌, ◌%◌, ◌≤◌, ◌<◌, min, max}
use native.Mathlib.Omega.{arith}
use Rattle.lists.specs.Cases.{split, bool_cases, eq_or_ne}
use Rattle.format.specs.Diskette.{Bytes, Geometry, Sound, Long, record_bytes, entry_bytes, slot_count, slots_on, extent_records, extents, record_at, with_record}
use Rattle.format.specs.Entries.{entry_at, with_entry, slot_of, slot_for_rule, extent_of, run_of, count_of, count_in, end_of, is_file_rule, used, empty, find_empty_rule}
use Rattle.format.specs.Dates.{is_dates}
use Rattle.format.specs.Notes.{note_at_rule, free_note, recorded_note, with_note, pending_for}
use Rattle.format.specs.Fcb.{fcb_end, fcb_right_rule, cr_of}
use Rattle.facts.specs.Counts.{count_is, count_high, count_by_end, end_some}
use Rattle.facts.specs.Found.{at_once}
use Rattle.facts.specs.Find.{empty_says}
use Rattle.facts.specs.Naming.{file_run}
use Rattle.facts.specs.Slots.{slot_place}
use Rattle.facts.specs.Long.{long_on}
use Rattle.consistency.specs.Naming.{file_used}
use Rattle.consistency.specs.Reflect.{used_no_dates, empty_no_dates}
use Rattle.notes.specs.Free.{free_is}
use Rattle.disk.specs.Places.{block_records}
use Rattle.disk.specs.Records.{record_written, record_left}
use Rattle.rows.specs.Entries.{area_records, block_past, entry_left, entry_stored, length_entry_at, record_kept}
use Rattle.model.specs.declared.Session.{Session}
use Rattle.model.specs.declared.Plan.{Plan}
use Rattle.model.specs.Lent.{Lent, rows_of}
use Rattle.model.specs.Closing.{close_changes_rule, closed_row_rule, closed_image, closed_map}
use Rattle.model.specs.Entering.{entered, next_row_rule}
use Rattle.model.specs.Target.{target_extent, target_record, target_slot, cr_after, present_entry, target_entry, stays, plan, moved, made, place_in, have_written, written_count, written_fcb, written_map}
use Rattle.model.specs.Calls.{written_at, writing, written}
use Rattle.fields.specs.Agree.{is_file_asked, is_file_cong}
use Rattle.fields.specs.Closing.{end_closed, slot_closed_old, slot_closed_new, file_closed, unchanged_end, map_kept, Takes, note_closed_cases}
use Rattle.fields.specs.Images.{row_closed_image, row_closed_image_other, record_closed_image}
use Rattle.fields.proofs.Entering.{slot_entered}
use Rattle.fields.proofs.OpenClose.{opened_keeps}
use Rattle.fields.specs.Making.{length_next_row, zero_next, slot_next, extent_next}
use Rattle.fields.specs.Target.{record_below, cr_after_high, target_slot_below, place_below, extent_written, slot_written, slot_written_other, rc_written, count_written_high, map_written_kept, note_written_other}
use Rattle.table.specs.Facts.{Fits, Writes}
use Rattle.table.specs.Plans.{Block, Planned, stay, move, make, planned_write}
use Rattle.table.specs.Plans as Plans
use Rattle.invariant.specs.Good.{Good}
use Rattle.effects.specs.View.{view_of}
use Rattle.effects.specs.Cur.{Cur, cur_uses}
use Rattle.effects.specs.Book.{Book}
use Rattle.effects.specs.Where.{WritesNone}
use Rattle.effects.specs.Closed.{by_name}
use Rattle.effects.specs.Alike.{Alike, dates_alike, used_row}
use Rattle.effects.specs.Put.{ForSlot, put_rows, put_low, put_cur}
use Rattle.effects.specs.Entered.{right_written}
use Rattle.effects.specs.Write.{came_slot}
use Rattle.effects.specs.Came.{CameTo}
use Rattle.effects.proofs.Came.{stay_came, move_came, make_came}
use Rattle.stored.specs.OnlyNamed.{OnlyNamed, only_one}
use Rattle.stored.specs.Grown.{slot_at_record, Grown}

-- an FCB says what its entry says: its blocks are the entry's, and its end is no later
pub record Says (G : Geometry) (row fcb : Bytes) : Type 0 where
  pub slots : (j : ℕ) → j < slot_count → slot_of G fcb j ≡ slot_of G row j
  pub end : fcb_end fcb ≤ end_of row

-- one past record r of an extent, or the end that was there
later_end_law : (e ext own count r : ℕ) → count ≡ min 128 (e - 128 * ext) → (own ≡ 0) ⊎ (128 * ext + own ≤ e)
    → max e (128 * ext + max (max own count) (r + 1)) ≡ max e (128 * ext + r + 1)
later_end_law e ext own count r c (inl z) = omega arith
later_end_law e ext own count r c (inr h) = omega arith

-- ---- the write, wherever the call came to with an FCB that says what its entry says
module _ {G : Geometry} (S : Sound G) (n : ℕ) (l : Lent) (s : Session) (g : Good G l.drive.image l.drive.map) (f : Fits G l s) (cr : cr_of l.fcb ≤ 128)
    (there : Lent) (t b : ℕ) (W : ℕ → Type 0) (B : Book → Book) (came : CameTo G n s.user l there t W B) (block : Block G n s.user l b)
    (says : Says G (entry_at G there.drive.image t) there.fcb) where
  abbrev j : ℕ
  j = target_slot G n l.fcb

  abbrev r : ℕ
  r = target_record n l.fcb

  abbrev row : Bytes
  row = entry_at G there.drive.image t

  abbrev count : ℕ
  count = count_in (entry_at G there.drive.image t) (extent_of there.fcb)

  abbrev put : Bytes
  put = with_record G there.drive.image (place_in G b r) there.buffer

  abbrev fcb : Bytes
  fcb = written_fcb G there.fcb count j b r (cr_after n l.fcb)

  abbrev map : Bytes
  map = written_map G there.drive.map there.fcb t j b

  r_below : r < extent_records
  r_below = record_below n l.fcb cr

  j_real : j < slots_on G
  j_real = target_slot_below S n l.fcb cr

  j_below : j < slot_count
  j_below = slot_place G j_real

  slot_is : j ≡ slot_for_rule G (extent_of there.fcb) r
  unfolding target_slot
  slot_is = ap (λ (x : ℕ). slot_for_rule G x (target_record n l.fcb)) (sym came.extent)

  here_good : Good G there.drive.image there.drive.map
  here_good = came.change.good

  low : t < G.entries
  low = came.cur.low

  uses : used row ≡ true
  uses = cur_uses G (view_of G there.drive.image there.drive.map) s.user f.user_low there.fcb t came.cur

  hr : length row ≡ 32
  hr = length_entry_at S there.drive.image here_good.image_long t low

  for_slot : ForSlot G there.drive.map (slot_of G there.fcb j) b
  for_slot = came_slot S n l s f there t b W B came j_below block

  -- the block was free, or the slot's
  origin : (note_at_rule l.drive.map b ≡ free_note) ⊎ (slot_of G row j ≡ b)
  origin = go block
    where
      go : Block G n s.user l b → (note_at_rule l.drive.map b ≡ free_note) ⊎ (slot_of G row j ≡ b)
      go (Plans.there q real) = inr (sym (says.slots j j_below) ∙ came.slot ∙ q)
      go (Plans.free z q) = inl (free_is G l.drive.map b q).free

  full : length there.buffer ≡ record_bytes
  full = ap length came.buffer ∙ f.buffer_long

  past : G.area ≤ b
  past =
      put_low S there.drive.image there.drive.map here_good s.user f.user_low there.fcb came.long t came.cur r r_below j slot_is b for_slot
      there.buffer full

  rows_put : (e : ℕ) → e < G.entries → entry_at G put e ≡ entry_at G there.drive.image e
  rows_put =
      put_rows S there.drive.image there.drive.map here_good s.user f.user_low there.fcb came.long t came.cur r r_below j slot_is b for_slot
      there.buffer full

  in_blocks : place_in G b r < block_records G
  in_blocks = place_below S b r for_slot.below

  -- the FCB after the write is current, with entry t
  right : fcb_right_rule fcb ≡ true
  right = right_written G there.fcb count j b r (cr_after n l.fcb) came.long j_real (cr_after_high n l.fcb cr) came.cur.right

  wrote_cur : Cur G (view_of G put map) s.user fcb t
  wrote_cur =
      put_cur S there.drive.image there.drive.map here_good s.user f.user_low there.fcb came.long t came.cur r r_below j slot_is b for_slot
      there.buffer full count (cr_after n l.fcb) right

  -- ---- the entry as the close will have it
  new_slot : slot_of G (closed_row_rule G row fcb) j ≡ b
  new_slot =
      split (eq_or_ne (slot_of G row j) 0)
      (λ z. slot_closed_new G row fcb hr j z ∙ slot_written G there.fcb count j b r (cr_after n l.fcb) j_real came.long)
      (λ z. slot_closed_old G row fcb hr j z ∙ sym (says.slots j j_below) ∙ for_slot.own (λ y. z (sym (says.slots j j_below) ∙ y)))

  -- the FCB counts the record
  fcb_end_law : fcb_end fcb ≡ 128 * extent_of there.fcb + max (max (count_of there.fcb) count) (r + 1)
  unfolding written_count end_of
  fcb_end_law =
      let rc = rc_written G there.fcb count j b r (cr_after n l.fcb) j_real came.long in
      let high = count_written_high there.fcb count r (count_high row (extent_of there.fcb)) r_below in
      let c = count_is fcb (omega arith) in
      let x = extent_written G there.fcb count j b r (cr_after n l.fcb) j_real in
      end_some fcb (λ z. omega arith) ∙ omega arith

  new_end : end_of (closed_row_rule G row fcb) ≡ max (end_of row) (128 * target_extent n l.fcb + r + 1)
  unfolding end_of
  new_end =
      end_closed G row fcb hr ∙ ap (max (end_of row)) fcb_end_law
      ∙ later_end_law (end_of row) (extent_of there.fcb) (count_of there.fcb) count r (count_by_end row (extent_of there.fcb))
      (split (eq_or_ne (count_of there.fcb) 0) (λ z. inl z) (λ z. let q = end_some there.fcb z in let h = says.end in inr (omega arith)))
      ∙ ap (λ (x : ℕ). max (end_of row) (128 * x + r + 1)) came.extent

  here_file : is_file_rule G s.user l.fcb 1 (target_extent n l.fcb) row ≡ true
  here_file =
      sym (is_file_asked there.fcb 1 l.fcb 1 came.name G s.user (target_extent n l.fcb) row)
      ∙ subst (λ (x : ℕ). is_file_rule G s.user there.fcb 1 x row ≡ true) came.extent came.cur.file

  same_run : run_of G (extent_of row) ≡ run_of G (extent_of fcb)
  same_run =
      file_run G s.user there.fcb 1 (extent_of there.fcb) row came.cur.file
      ∙ ap (run_of G) (sym (extent_written G there.fcb count j b r (cr_after n l.fcb) j_real))

  new_file : is_file_rule G s.user l.fcb 1 (target_extent n l.fcb) (closed_row_rule G row fcb) ≡ true
  new_file =
      is_file_cong G s.user l.fcb 1 (target_extent n l.fcb) (closed_row_rule G row fcb) row (file_closed G row fcb hr same_run) ∙ here_file

  map_long : length map ≡ G.blocks
  unfolding written_map with_note
  map_long =
      split (bool_cases (eqb (slot_of G there.fcb j) 0)) (λ z. rw z (length-set there.drive.map b (pending_for t j) ∙ here_good.map_long))
      (λ z. rw z here_good.map_long)

  -- the close takes no slot but the record's: the others are the entry's
  takes_own : (y : ℕ) → Takes G row fcb y → (y ≡ b) × (slot_of G row j ≡ 0)
  takes_own y k =
      split (eq_or_ne k.slot j)
      (λ q. (
        sym k.is ∙ ap (slot_of G fcb) q ∙ slot_written G there.fcb count j b r (cr_after n l.fcb) j_real came.long,
        sym (ap (slot_of G row) q) ∙ k.was,
      ))
      (λ q. absurd (k.some (sym k.is ∙ slot_written_other G there.fcb count j b r (cr_after n l.fcb) j_real k.slot q
      ∙ says.slots k.slot k.below ∙ k.was)))

  -- a block that the write took was free
  was_free : slot_of G row j ≡ 0 → note_at_rule l.drive.map b ≡ free_note
  was_free z = split origin (λ q. q) (λ q. absurd (let e : b ≡ 0 = sym q ∙ z in omega (arith, past, S.area_some)))

  new_notes : (y : ℕ) → y < G.blocks → (note_at_rule (closed_map G row fcb map) y ≡ note_at_rule there.drive.map y)
      ⊎ ((y ≡ b) × (note_at_rule l.drive.map y ≡ free_note) × (note_at_rule (closed_map G row fcb map) y ≡ recorded_note))
  new_notes y h =
      split (note_closed_cases G row fcb map y (rw map_long h))
      (λ k. let own = takes_own y k.0 in inr (own.0, ap (note_at_rule l.drive.map) own.0 ∙ was_free own.1, k.1))
      (λ k. split (eq_or_ne y b)
      (λ q. split (eq_or_ne (slot_of G there.fcb j) 0)
      (λ z. absurd (k.0 record {
        slot = j;
        below = j_below;
        was = sym (says.slots j j_below) ∙ z;
        is = slot_written G there.fcb count j b r (cr_after n l.fcb) j_real came.long ∙ sym q;
        some = λ e. omega (arith, past, S.area_some, q);
      }))
      (λ z. inl (k.1 ∙ ap (λ (x : Bytes). note_at_rule x y) (map_written_kept G there.drive.map there.fcb t j b z))))
      (λ q. inl (k.1 ∙ note_written_other G there.drive.map there.fcb t j b y q)))

  -- ---- seen from before the call
  module _ (x : ℕ) (ext-is : target_extent n l.fcb ≡ x / extent_records) (rec-is : target_record n l.fcb ≡ x % extent_records)
      (rows : (e : ℕ) → e < G.entries → (e ≡ t → ⊥) → entry_at G there.drive.image e ≡ entry_at G l.drive.image e)
      (recs : (y : ℕ) → area_records G ≤ y → y < block_records G → record_at G there.drive.image y ≡ record_at G l.drive.image y)
      (maps : there.drive.map ≡ l.drive.map)
      (was : (entry_at G l.drive.image t ≡ row)
      ⊎ ((empty (entry_at G l.drive.image t) ≡ true) × ((i : ℕ) → slot_of G row i ≡ 0) × (end_of row ≤ x))) where
    -- a date entry stays one, and none comes
    here_dates : is_dates row ≡ is_dates (entry_at G l.drive.image t)
    here_dates =
        split was (λ q. ap is_dates (sym q)) (λ q. used_no_dates row uses ∙ sym (empty_no_dates (entry_at G l.drive.image t) q.0))

    put_dates : (e : ℕ) → e < G.entries → is_dates (entry_at G put e) ≡ is_dates (entry_at G l.drive.image e)
    put_dates e h =
        ap is_dates (rows_put e h)
        ∙ split (eq_or_ne e t)
        (λ q. ap (λ (y : ℕ). is_dates (entry_at G there.drive.image y)) q ∙ here_dates ∙ ap (λ (y : ℕ). is_dates (entry_at G l.drive.image y)) (sym q))
        (λ q. ap is_dates (rows e h q))

    came_only : OnlyNamed G (by_name s.user l.fcb) (entry_at G l.drive.image) (entry_at G put)
    came_only =
        only_one t
        record {
          was = split was (λ q. inl (ap (by_name s.user l.fcb) q ∙ came.mine)) (λ q. inr q.0);
          is = ap (by_name s.user l.fcb) (rows_put t low) ∙ came.mine;
        } (λ e h n q. rows_put e h ∙ rows e h q) put_dates

    slot_at : slot_at_record G x ≡ j
    unfolding target_slot
    slot_at = sym (ap (λ (y : ℕ). slot_for_rule G y (target_record n l.fcb)) ext-is ∙ ap (slot_for_rule G (x / 128)) rec-is)

    place_at : place_in G b (x % extent_records) ≡ place_in G b r
    place_at = ap (place_in G b) (sym rec-is)

    file_at : (y : Bytes) → is_file_rule G s.user l.fcb 1 (target_extent n l.fcb) y ≡ true → is_file_rule G s.user l.fcb 1 (x / extent_records) y ≡ true
    file_at y h = subst (λ (z : ℕ). is_file_rule G s.user l.fcb 1 z y ≡ true) ext-is h

    end_at : 128 * target_extent n l.fcb + r + 1 ≡ x + 1
    end_at = omega arith

    -- ---- the close, after whatever stamps the call put
    module _ (img : Bytes) (alike : Alike G put img) (long : Long G img) where
      stamped_row : entry_at G img t ≡ row
      stamped_row = used_row G put img alike t low (ap used (rows_put t low) ∙ uses) ∙ rows_put t low

      shut : Bytes
      shut = closed_image G img t fcb

      new_row : entry_at G shut t ≡ closed_row_rule G row fcb
      unfolding shut
      new_row = row_closed_image S img long t low fcb ∙ ap (λ (y : Bytes). closed_row_rule G y fcb) stamped_row

      other_rows : (e : ℕ) → e < G.entries → (e ≡ t → ⊥) → entry_at G shut e ≡ entry_at G img e
      unfolding shut
      other_rows e h q = row_closed_image_other S img long t low fcb e h q

      new_used : used (closed_row_rule G row fcb) ≡ true
      new_used = file_used G s.user l.fcb 1 (target_extent n l.fcb) (closed_row_rule G row fcb) new_file f.user_low

      shut_dates : (e : ℕ) → e < G.entries → is_dates (entry_at G shut e) ≡ is_dates (entry_at G l.drive.image e)
      shut_dates e h =
          split (eq_or_ne e t)
          (λ q. ap (λ (y : ℕ). is_dates (entry_at G shut y)) q ∙ ap is_dates new_row ∙ used_no_dates (closed_row_rule G row fcb) new_used ∙ sym (used_no_dates row uses)
          ∙ here_dates ∙ ap (λ (y : ℕ). is_dates (entry_at G l.drive.image y)) (sym q))
          (λ q. ap is_dates (other_rows e h q) ∙ dates_alike G put img alike e h ∙ put_dates e h)

      shut_recs : (y : ℕ) → area_records G ≤ y → y < block_records G → record_at G shut y ≡ record_at G put y
      unfolding shut
      shut_recs y a h = record_closed_image S img long t low fcb y a h ∙ alike.recs y a h

      new_record : record_at G shut (place_in G b r) ≡ l.buffer
      unfolding place_in
      new_record =
          shut_recs (place_in G b r) (block_past G b (r % G.per_block) past) in_blocks
          ∙ record_written S there.drive.image here_good.image_long (place_in G b r) in_blocks there.buffer full ∙ came.buffer

      came_grown : Grown G (view_of G l.drive.image l.drive.map) (view_of G (closed_image G img t fcb) (closed_map G (entry_at G img t) fcb map))
          s.user l.fcb x l.buffer
      unfolding shut
      came_grown = record {
        entry = t;
        low = low;
        base = row;
        was = split was (λ q. inl (q, file_at row here_file)) (λ q. inr q);
        file = ap (is_file_rule G s.user l.fcb 1 (x / 128)) new_row ∙ file_at (closed_row_rule G row fcb) new_file;
        kept = λ i h z. ap (λ (y : Bytes). slot_of G y i) new_row ∙ slot_closed_old G row fcb hr i z;
        end = ap end_of new_row ∙ new_end ∙ ap (max (end_of row)) end_at;
        others = λ e h d q. other_rows e h q ∙ alike.row e h (put_dates e h ∙ d) ∙ rows_put e h ∙ rows e h q;
        dates = shut_dates;
        block = b;
        below = for_slot.below;
        past = past;
        slot = ap (slot_of G (entry_at G shut t)) slot_at ∙ ap (λ (y : Bytes). slot_of G y j) new_row ∙ new_slot;
        origin = split origin (λ z. inl z) (λ z. inr (ap (slot_of G row) slot_at ∙ z));
        notes = λ y h. let here = ap (λ (z : Bytes). note_at_rule (closed_map G z fcb map) y) stamped_row in
            split (new_notes y h) (λ q. inl (here ∙ q ∙ ap (λ (z : Bytes). note_at_rule z y) maps)) (λ q. inr (q.0, q.1, here ∙ q.2));
        recs = λ y a h q. shut_recs y a h
            ∙ record_left S there.drive.image here_good.image_long (place_in G b r) in_blocks there.buffer full y h
            (λ z. q (sym z ∙ sym place_at)) ∙ recs y a h;
        new = ap (record_at G shut) place_at ∙ new_record;
      }

-- ---- what a write leaves: no entry of another file changed, and an FCB that is current, whose close, after whatever stamps, gives the file the record
pub record Closable (G : Geometry) (user x : ℕ) (l left : Lent) : Type 0 where
  pub entry : ℕ
  pub cur : Cur G (view_of G left.drive.image left.drive.map) user left.fcb entry
  pub only : OnlyNamed G (by_name user l.fcb) (rows_of G l) (rows_of G left)
  pub grown : (img : Bytes) → Alike G left.drive.image img → Long G img
      → Grown G (view_of G l.drive.image l.drive.map)
      (view_of G (closed_image G img entry left.fcb) (closed_map G (entry_at G img entry) left.fcb left.drive.map)) user l.fcb x l.buffer

module _ {G : Geometry} (S : Sound G) (n : ℕ) (l : Lent) (s : Session) (g : Good G l.drive.image l.drive.map) (f : Fits G l s) (e : ℕ)
    (at : present_entry G s.user l ≡ Some e) (low : e < G.entries) (cr : cr_of l.fcb ≤ 128) (says : Says G (entry_at G l.drive.image e) l.fcb)
    (same : close_changes_rule G (entry_at G l.drive.image e) l.fcb ≡ false) (low-extent : target_extent n l.fcb < extents)
    (x : ℕ) (ext-is : target_extent n l.fcb ≡ x / extent_records) (rec-is : target_record n l.fcb ≡ x % extent_records) where
  hf : 32 ≤ length l.fcb
  hf = let w : length l.fcb ≡ 36 = f.fcb_long in omega arith

  -- a move closes nothing
  image_same : closed_image G l.drive.image e l.fcb ≡ l.drive.image
  unfolding closed_image
  image_same = rw same

  map_same : closed_map G (rows_of G l e) l.fcb l.drive.map ≡ l.drive.map
  map_same = map_kept G (rows_of G l e) l.fcb same l.drive.map

  says_entered : (row : Bytes) (ext : ℕ) → length row ≡ 32 → Says G row (entered l.fcb row ext)
  says_entered row ext hr = record {
    slots = λ i h. slot_entered l.fcb row ext hf G i;
    end = unchanged_end G row (entered l.fcb row ext) (opened_keeps G l.fcb row ext hf hr);
  }

  staying : (b : ℕ) → stays n l.fcb ≡ true → Block G n s.user l b → Closable G s.user x l (written_at G s l n e b l).lent
  unfolding written_at have_written
  staying b y k =
      let came = stay_came S n l s g f e at WritesNone y in
      record {
        entry = e;
        cur = wrote_cur S n l s g f cr l e b _ _ came k says;
        only = came_only S n l s g f cr l e b _ _ came k says x ext-is rec-is (λ i h q. refl) (λ i a h. refl) refl (inl refl);
        grown = came_grown S n l s g f cr l e b _ _ came k says x ext-is rec-is (λ i h q. refl) (λ i a h. refl) refl (inl refl);
      }

  moving : (t b : ℕ) → stays n l.fcb ≡ false → target_entry G n s.user l ≡ Some t → Block G n s.user l b
      → Closable G s.user x l (written_at G s l n t b (moved G (target_extent n l.fcb) l e t)).lent
  unfolding written_at have_written moved
  moving t b go target k =
      let to : Lent = moved G (target_extent n l.fcb) l e t in
      let came = move_came S n l s g f e at WritesNone go t target low-extent in
      let img : Bytes = closed_image G l.drive.image e l.fcb in
      let rows : (i : ℕ) → entry_at G img i ≡ entry_at G l.drive.image i = λ i. ap (λ (y : Bytes). entry_at G y i) image_same in
      let z = says_entered (entry_at G img t) (target_extent n l.fcb) (length_entry_at S img came.change.good.image_long t came.cur.low) in
      record {
        entry = t;
        cur = wrote_cur S n l s g f cr to t b _ _ came k z;
        only = came_only S n l s g f cr to t b _ _ came k z x ext-is rec-is (λ i h q. rows i)
            (λ i a h. ap (λ (y : Bytes). record_at G y i) image_same) map_same (inl (sym (rows t)));
        grown = came_grown S n l s g f cr to t b _ _ came k z x ext-is rec-is (λ i h q. rows i)
            (λ i a h. ap (λ (y : Bytes). record_at G y i) image_same) map_same (inl (sym (rows t)));
      }

  -- the entry that a move makes
  module _ (t b : ℕ) (go : stays n l.fcb ≡ false) (none : target_entry G n s.user l ≡ None) (room : find_empty_rule G (rows_of G l) ≡ Some t)
      (k : Block G n s.user l b) where
    abbrev img : Bytes
    img = closed_image G l.drive.image e l.fcb

    long : Long G img
    long = long_on G (ap length image_same) g.image_long

    next : Bytes
    next = next_row_rule (entry_at G img e) (target_extent n l.fcb)

    old_long : length (entry_at G img e) ≡ entry_bytes
    old_long = length_entry_at S img long e low

    whole : length next ≡ entry_bytes
    unfolding next
    whole = length_next_row (entry_at G img e) (target_extent n l.fcb) old_long

    below : t < G.entries
    below = (empty_says G (rows_of G l) t room).below

    here : entry_at G (with_entry G img t next) t ≡ next
    here = entry_stored S img long t below next whole

    rows_left : (i : ℕ) → i < G.entries → (i ≡ t → ⊥) → entry_at G (with_entry G img t next) i ≡ entry_at G l.drive.image i
    rows_left i h q = entry_left S img long t below next whole i h (λ y. q (sym y)) ∙ ap (λ (y : Bytes). entry_at G y i) image_same

    recs_left : (i : ℕ) → area_records G ≤ i → i < block_records G → record_at G (with_entry G img t next) i ≡ record_at G l.drive.image i
    recs_left i a h = record_kept S img long t below next whole i a h ∙ ap (λ (y : Bytes). record_at G y i) image_same

    next_end : end_of next ≤ x
    unfolding next end_of count_of
    next_end =
        let q = extent_next (entry_at G img e) (target_extent n l.fcb) old_long in
        let z = zero_next (entry_at G img e) (target_extent n l.fcb) old_long 15 (omega arith) in omega arith

    new_entry : (entry_at G l.drive.image t ≡ entry_at G (with_entry G img t next) t)
        ⊎ ((empty (entry_at G l.drive.image t) ≡ true) × ((i : ℕ) → slot_of G (entry_at G (with_entry G img t next) t) i ≡ 0)
        × (end_of (entry_at G (with_entry G img t next) t) ≤ x))
    unfolding next
    new_entry =
        inr (
          (empty_says G (rows_of G l) t room).holds,
          λ i. ap (λ (y : Bytes). slot_of G y i) here ∙ slot_next (entry_at G img e) (target_extent n l.fcb) old_long G i,
          rw here next_end,
        )

    making : Closable G s.user x l (written_at G s l n t b (made G (target_extent n l.fcb) l e t)).lent
    unfolding written_at have_written made next
    making =
        let to : Lent = made G (target_extent n l.fcb) l e t in
        let came = make_came S n l s g f e at WritesNone go t room none low-extent in
        let z = subst (λ (y : Bytes). Says G y (entered l.fcb next (target_extent n l.fcb))) (sym here) (says_entered next (target_extent n l.fcb) whole) in
        record {
          entry = t;
          cur = wrote_cur S n l s g f cr to t b _ _ came k z;
          only = came_only S n l s g f cr to t b _ _ came k z x ext-is rec-is rows_left recs_left map_same new_entry;
          grown = came_grown S n l s g f cr to t b _ _ came k z x ext-is rec-is rows_left recs_left map_same new_entry;
        }

  plan_close : (p : Plan) → Planned G n s.user l (Block G n s.user l) p → Closable G s.user x l (writing G s l n p).lent
  plan_close p (stay i b a y target k) =
      subst (λ (z : ℕ). Closable G s.user x l (written_at G s l n z b l).lent) (at_once e i (sym at ∙ a)) (staying b y k)
  plan_close p (move i t b a go target k) =
      subst (λ (z : ℕ). Closable G s.user x l (written_at G s l n t b (moved G (target_extent n l.fcb) l z t)).lent) (at_once e i (sym at ∙ a))
      (moving t b go target k)
  plan_close p (make i t b a go none room k) =
      subst (λ (z : ℕ). Closable G s.user x l (written_at G s l n t b (made G (target_extent n l.fcb) l z t)).lent) (at_once e i (sym at ∙ a))
      (making t b go none room k)

  pub written_closable : Writes G l s n → Closable G s.user x l (written G s l n).lent
  unfolding written
  written_closable w = plan_close (plan G n s.user l) (planned_write G n l s w)
