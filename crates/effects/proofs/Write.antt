-- 20, 21, 33 and 34, for every plan: one change by the name of the FCB; the FCB handed back is current, and a record that was written
-- can be read through it.
use Rattle.std.specs.Prelude.{◌≡◌, refl, true, ℕ, ◌≤◌, ◌<◌, length, Some}
use Rattle.std.proofs.Math.Path.{ap, subst}
use Rattle.std.proofs.Common.{sym, ◌∙◌, inr, arith}
use Rattle.std.proofs.Math.ListN.{length-set}
use Rattle.format.specs.Diskette.{Geometry, Sound, record_bytes, with_record, slot_count, slots_on, extents, extent_records}
use Rattle.format.specs.Entries.{entry_at, slot_of, slot_for_rule, extent_of, count_in}
use Rattle.format.specs.Fcb.{fcb_right_rule, cr_of}
use Rattle.format.specs.Found.{number_of}
use Rattle.model.specs.declared.Session.{Session}
use Rattle.model.specs.declared.Plan.{Plan}
use Rattle.model.specs.Lent.{Lent}
use Rattle.model.specs.Target.{target_extent, target_record, target_slot, cr_after, present_entry, plan, moved, made, place_in, have_read, have_written, written_fcb, written_map}
use Rattle.model.specs.Calls.{read_at, reading, read, written_at, writing, written}
use Rattle.facts.specs.Slots.{slots_on_high}
use Rattle.consistency.specs.Naming.{file_found}
use Rattle.fields.specs.Target.{record_below, cr_after_high, target_slot_below, length_written_fcb, head_written, name_written, extent_written, slot_written, name_read, extent_read, head_read}
use Rattle.table.specs.Facts.{Fits, Reads, Writes}
use Rattle.table.specs.Plans.{entry_of, Block, There, Planned, stay, move, make, planned_read, planned_write}
use Rattle.invariant.specs.Good.{Good}
use Rattle.effects.specs.View.{view_of}
use Rattle.effects.specs.Cur.{Holds}
use Rattle.effects.specs.Where.{WritesNone, OneRecord}
use Rattle.effects.specs.Book.{Book, moved_book, entry_after, written_book}
use Rattle.effects.specs.Change.{Change, as_change}
use Rattle.effects.proofs.Change.{then_change}
use Rattle.effects.specs.Closed.{by_name}
use Rattle.effects.specs.Put.{ForSlot, put_book, put_rows, put_stay, put_holds}
use Rattle.effects.proofs.Put.{put_change}
use Rattle.current.specs.Current.{fcb_says}
use Rattle.effects.specs.Entered.{right_written, set_cur}
use Rattle.effects.specs.Came.{CameTo, present_cur}
use Rattle.effects.proofs.Came.{stay_came, move_came, make_came}
use Rattle.effects.specs.Write.{OneOf, WriteOk, ReadOk, came_slot, theirs}

module _ {G : Geometry} (S : Sound G) (n : ℕ) (l : Lent) (s : Session) (g : Good G l.drive.image l.drive.map) (f : Fits G l s) (cr : cr_of l.fcb ≤ 128) where
  j : ℕ
  j = target_slot G n l.fcb

  r : ℕ
  r = target_record n l.fcb

  r_below : r < extent_records
  unfolding r
  r_below = record_below n l.fcb cr

  j_real : j < slots_on G
  unfolding j
  j_real = target_slot_below S n l.fcb cr

  j_below : j < slot_count
  j_below = omega (arith, j_real, slots_on_high G)

  -- ---- a write, wherever the call came to
  module _ (there : Lent) (t b : ℕ) (B : Book → Book)
      (came : CameTo G n s.user l there t (OneRecord G l.drive.image l.drive.map (by_name s.user l.fcb) b (target_record n l.fcb)) B)
      (block : Block G n s.user l b) where
    left : Lent
    left = have_written G t (target_slot G n l.fcb) b (target_record n l.fcb) (cr_after n l.fcb) there

    -- what the entry counts in the extent come to
    count : ℕ
    count = count_in (entry_at G there.drive.image t) (extent_of there.fcb)

    slot_is : j ≡ slot_for_rule G (extent_of there.fcb) r
    unfolding j r target_slot
    slot_is = ap (λ (x : ℕ). slot_for_rule G x (target_record n l.fcb)) (sym came.extent)

    here_good : Good G there.drive.image there.drive.map
    here_good = came.change.good

    for_slot : ForSlot G there.drive.map (slot_of G there.fcb j) b
    unfolding j
    for_slot = came_slot S n l s f there t b _ _ came j_below block

    full : length there.buffer ≡ record_bytes
    full = ap length came.buffer ∙ f.buffer_long

    right : fcb_right_rule (written_fcb G there.fcb count j b r (cr_after n l.fcb)) ≡ true
    right =
        right_written G there.fcb count j b r (cr_after n l.fcb) came.long j_real (cr_after_high n l.fcb cr) came.cur.right

    One : ℕ → Type 0
    One = OneRecord G l.drive.image l.drive.map (by_name s.user l.fcb) b (target_record n l.fcb)

    whole : Change G (by_name s.user l.fcb) One (λ (u : Book). put_book G there.fcb t j b (B u)) l.drive.image l.drive.map
        (with_record G there.drive.image (place_in G b r) there.buffer) (written_map G there.drive.map there.fcb t j b)
    unfolding One r
    whole =
        then_change G (by_name s.user l.fcb) One B (put_book G there.fcb t j b) l.drive.image l.drive.map there.drive.image there.drive.map
        (with_record G there.drive.image (place_in G b r) there.buffer) (written_map G there.drive.map there.fcb t j b) came.change
        (put_change S there.drive.image there.drive.map here_good s.user f.user_low there.fcb came.long t came.cur r r_below j slot_is b for_slot
        there.buffer full (by_name s.user l.fcb) came.mine One record { is = refl; below = for_slot.below; theirs = theirs S n l s g f cr there t b B came block })
        (put_stay S there.drive.image there.drive.map here_good s.user f.user_low there.fcb came.long t came.cur r r_below j slot_is b for_slot
        there.buffer full (by_name s.user l.fcb) came.mine)
        (inr (λ e h z. put_rows S there.drive.image there.drive.map here_good s.user f.user_low there.fcb came.long t came.cur r r_below j slot_is b for_slot
        there.buffer full e h))

    held : Holds G (view_of G (with_record G there.drive.image (place_in G b r) there.buffer) (written_map G there.drive.map there.fcb t j b)) s.user
        (written_fcb G there.fcb count j b r (cr_after n l.fcb)) t r there.buffer
    held =
        put_holds S there.drive.image there.drive.map here_good s.user f.user_low there.fcb came.long t came.cur r r_below j slot_is b for_slot
        there.buffer full count (cr_after n l.fcb) right

    new_slot : slot_of G (written_fcb G there.fcb count j b r (cr_after n l.fcb)) j ≡ b
    new_slot = slot_written G there.fcb count j b r (cr_after n l.fcb) j_real came.long

    after : entry_after G n s.user l left ≡ t
    unfolding entry_after left have_written count j r
    after =
        ap (number_of G.entries)
        (file_found G (entry_at G (with_record G there.drive.image (place_in G b r) there.buffer)) s.user f.user_low
        (written_fcb G there.fcb count j b r (cr_after n l.fcb)) 1
        (extent_of (written_fcb G there.fcb count j b r (cr_after n l.fcb))) t came.cur.low held.cur.file whole.good.inv.dir)

    left_slot : slot_of G left.fcb (target_slot G n l.fcb) ≡ b
    unfolding left have_written count j r
    left_slot = new_slot

    same_book : (u : Book) → written_book G n s.user l left u ≡ put_book G there.fcb t j b (B u)
    unfolding written_book put_book j
    same_book u = rw (left_slot, after, came.slot, came.book u)

    pub wrote_ok : WriteOk G n s.user l (have_written G t (target_slot G n l.fcb) b (target_record n l.fcb) (cr_after n l.fcb) there) t
    unfolding left have_written count j r One
    wrote_ok = record {
      change = as_change G (by_name s.user l.fcb) (by_name s.user l.fcb) One (OneOf G n s.user l left) (λ (u : Book). put_book G there.fcb t j b (B u))
          (written_book G n s.user l left) l.drive.image l.drive.map left.drive.image left.drive.map (λ x h. h)
          (λ d w. subst (λ (x : ℕ). OneRecord G l.drive.image l.drive.map (by_name s.user l.fcb) x (target_record n l.fcb) d) (sym left_slot) w)
          (λ u x h. ap (λ (v : Book). v x) (same_book u)) whole;
      fcb = record {
        long = length_written_fcb G there.fcb count j b r (cr_after n l.fcb) ∙ came.long;
        first = head_written G there.fcb count j b r (cr_after n l.fcb) j_real 0 (omega arith) (omega arith) ∙ came.first;
        name = λ i h. name_written G there.fcb count j b r (cr_after n l.fcb) j_real i h ∙ came.name i h;
        extent = extent_written G there.fcb count j b r (cr_after n l.fcb) j_real ∙ came.extent;
      };
      mine = ap (by_name s.user l.fcb) (put_rows S there.drive.image there.drive.map here_good s.user f.user_low there.fcb came.long t came.cur r r_below j slot_is b for_slot
          there.buffer full t came.cur.low) ∙ came.mine;
      holds = subst (Holds G (view_of G left.drive.image left.drive.map) s.user left.fcb t (target_record n l.fcb)) came.buffer held;
    }

  -- ---- a read
  pub read_ok : (there : Lent) (t b : ℕ) (B : Book → Book) → CameTo G n s.user l there t WritesNone B
      → ReadOk G n s.user l (have_read G b (target_record n l.fcb) (cr_after n l.fcb) there) t
  unfolding have_read
  read_ok there t b B came = record {
    change = as_change G (by_name s.user l.fcb) (by_name s.user l.fcb) WritesNone WritesNone B (moved_book G n s.user l) l.drive.image l.drive.map there.drive.image there.drive.map
        (λ x h. h) (λ d w. w) (λ u x h. ap (λ (v : Book). v x) (came.book u)) came.change;
    fcb = record {
      long = length-set there.fcb 32 (cr_after n l.fcb) ∙ came.long;
      first = head_read there.fcb (cr_after n l.fcb) 0 (omega arith) (omega arith) ∙ came.first;
      name = λ i h. name_read there.fcb (cr_after n l.fcb) i h ∙ came.name i h;
      extent = extent_read there.fcb (cr_after n l.fcb) ∙ came.extent;
    };
    mine = came.mine;
    cur = set_cur G (view_of G there.drive.image there.drive.map) s.user there.fcb (cr_after n l.fcb) t came.long (cr_after_high n l.fcb cr) came.cur;
  }

-- ---- every plan
module _ {G : Geometry} (S : Sound G) (n : ℕ) (l : Lent) (s : Session) (g : Good G l.drive.image l.drive.map) (f : Fits G l s) where
  current_cr : (e : ℕ) → present_entry G s.user l ≡ Some e → cr_of l.fcb ≤ 128
  current_cr e at = (fcb_says l.fcb (present_cur S n l s g f e at WritesNone).right).cr

  module _ (low : target_extent n l.fcb < extents) where
    write_plan : (p : Plan) → Planned G n s.user l (Block G n s.user l) p → WriteOk G n s.user l (writing G s l n p).lent (entry_of p)
    unfolding written_at
    write_plan p (stay e b at t target k) =
        wrote_ok S n l s g f (current_cr e at) l e b _ (stay_came S n l s g f e at (OneRecord G l.drive.image l.drive.map (by_name s.user l.fcb) b (target_record n l.fcb)) t) k
    write_plan p (move e t b at go target k) =
        wrote_ok S n l s g f (current_cr e at) (moved G (target_extent n l.fcb) l e t) t b _
        (move_came S n l s g f e at (OneRecord G l.drive.image l.drive.map (by_name s.user l.fcb) b (target_record n l.fcb)) go t target low) k
    write_plan p (make e t b at go none room k) =
        wrote_ok S n l s g f (current_cr e at) (made G (target_extent n l.fcb) l e t) t b _
        (make_came S n l s g f e at (OneRecord G l.drive.image l.drive.map (by_name s.user l.fcb) b (target_record n l.fcb)) go t room none low) k

    read_plan : (B : ℕ → Type 0) (p : Plan) → Planned G n s.user l B p → ReadOk G n s.user l (reading G s l n p).lent (entry_of p)
    unfolding read_at
    read_plan B p (stay e b at t target k) = read_ok S n l s g f (current_cr e at) l e b _ (stay_came S n l s g f e at WritesNone t)
    read_plan B p (move e t b at go target k) = read_ok S n l s g f (current_cr e at) (moved G (target_extent n l.fcb) l e t) t b _ (move_came S n l s g f e at WritesNone go t target low)
    read_plan B p (make e t b at go none room k) =
        read_ok S n l s g f (current_cr e at) (made G (target_extent n l.fcb) l e t) t b _ (make_came S n l s g f e at WritesNone go t room none low)

  -- 21 and 34
  pub written_ok : Writes G l s n → WriteOk G n s.user l (written G s l n).lent (entry_of (plan G n s.user l))
  unfolding written
  written_ok w = write_plan w.extent (plan G n s.user l) (planned_write G n l s w)

  -- 20 and 33
  pub reads_ok : Reads G l s n → ReadOk G n s.user l (read G s l n).lent (entry_of (plan G n s.user l))
  unfolding read
  reads_ok w = read_plan w.extent (There G n s.user l) (plan G n s.user l) (planned_read G n l s w)
