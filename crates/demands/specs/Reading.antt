-- A record that holds is read: call 33 through its FCB, with r0 to r2 set to the record, is accepted, also on a protected session, since it stays
-- in its extent, and gives its bytes.
use Rattle.std.specs.Prelude.{◌≡◌, true, ℕ, ◌+◌, ◌*◌, ◌≤◌, ◌<◌, length, get_or, Some}
use Rattle.std.proofs.Math.Path.{refl, ap, sym}
use Rattle.std.proofs.Common.{◌∙◌, arith}
use Rattle.std.proofs.Math.Bool.{not}
use borrow.Author.Tests.{eq-eqb, ne_eqb, lt-ltb}
use Rattle.lists.specs.Cases.{not_both}
use Rattle.lists.specs.Tests.{and_both}
use Rattle.lists.specs.Splice.{splice}
use Rattle.format.specs.Diskette.{Bytes, Geometry, Sound, record_at, extents, extent_records}
use Rattle.format.specs.Entries.{slot_of, slot_for_rule, count_of, extent_of}
use Rattle.format.specs.Fcb.{fcb_bytes, fcb_right_rule, random_of_rule}
use Rattle.facts.specs.Counts.{fcb_count_there}
use Rattle.model.specs.declared.Asked.{Asked}
use Rattle.model.specs.declared.Session.{Session}
use Rattle.model.specs.declared.Plan.{Plan}
use Rattle.model.specs.declared.Kind.TheVariants.{Read}
use Rattle.model.specs.Lent.{Lent, Outcome}
use Rattle.model.specs.Entering.{three_bytes}
use Rattle.model.specs.Target.{target_extent, target_record, target_slot, present_entry, stays, block_there, count_there, record_there, plan, place_in, have_read}
use Rattle.model.specs.Calls.{read_at, reading, read}
use Rattle.model.specs.Step.{step}
use Rattle.model.specs.Table.{time_right_rule}
use Rattle.current.specs.Current.{fcb_says}
use Rattle.fields.specs.Agree.{Agree, SameName, name_cong, slot_cong, extent_cong, count_cong}
use Rattle.fields.specs.Numbers.{below_three, length_three, random_three}
use Rattle.fields.specs.Target.{extent_random, record_random, stays_extent}
use Rattle.table.specs.Own.{calling}
use Rattle.model.specs.Kinds.{kind_of, is_call, is_random_rule}
use Rattle.table.specs.Protection.{unchanged_spared, stay_unchanged}
use Rattle.table.specs.Facts.{Fits, Reads, Ready}
use Rattle.table.specs.Accept.{reads_right}
use Rattle.table.specs.Present.{stays_within, target_present, stay_block}
use Rattle.table.specs.Plans.{There, Planned, stay, move, make, planned_read}
use Rattle.table.specs.Carried.{read_answered}
use Rattle.table.proofs.Total.{step_carried}
use Rattle.invariant.specs.Good.{Good, good_consistent, good_right}
use Rattle.effects.specs.View.{View, view_of}
use Rattle.effects.specs.Cur.{Cur, cur_current, Holds, rec_slot}
use Rattle.effects.specs.Entered.{right_like, like_cur}
use Rattle.demands.specs.Stamped.{stamped_as, stamped_as_law}

-- the FCB with r0 to r2 set
unfoldable pub at_record_rule : Bytes → ℕ → Bytes
at_record_rule f r = splice f 33 (three_bytes r)

-- the number of a record of an extent
abbrev pub record_number : ℕ → ℕ → ℕ
record_number ext rec = extent_records * ext + rec

module _ (f : Bytes) (r : ℕ) (hf : length f ≡ fcb_bytes) where
  pub length_at_record : length (at_record_rule f r) ≡ fcb_bytes
  unfolding at_record_rule
  length_at_record = length_three f 33 r (omega arith) ∙ hf

  -- the rest of the FCB stays
  pub rest_at_record : Agree (at_record_rule f r) f 0 33
  unfolding at_record_rule
  rest_at_record = below_three f 33 r (omega arith)

  pub random_at_record : r < 16777216 → random_of_rule (at_record_rule f r) ≡ r
  unfolding at_record_rule
  random_at_record h = random_three f r hf h

  pub extent_at_record : extent_of (at_record_rule f r) ≡ extent_of f
  extent_at_record = extent_cong (at_record_rule f r) f (λ i a b. rest_at_record i (omega arith) (omega arith))

  pub slot_at_record_law : (G : Geometry) (j : ℕ) → slot_of G (at_record_rule f r) j ≡ slot_of G f j
  slot_at_record_law = slot_cong (at_record_rule f r) f (λ i a b. rest_at_record i (omega arith) (omega arith))

  count_at_record : count_of (at_record_rule f r) ≡ count_of f
  count_at_record = count_cong (at_record_rule f r) f (λ i a b. rest_at_record i (omega arith) (omega arith))

  name_at_record : SameName (at_record_rule f r) 1 f 1
  name_at_record = name_cong (at_record_rule f r) f (λ i a b. rest_at_record i (omega arith) (omega arith))

  right_at_record : fcb_right_rule f ≡ true → fcb_right_rule (at_record_rule f r) ≡ true
  right_at_record t =
      let k = fcb_says f t in
      right_like f (at_record_rule f r) name_at_record (λ i a b. rest_at_record i (omega arith) (omega arith))
      (rw (rest_at_record 32 (omega arith) (omega arith)) k.cr) t

  pub cur_at_record : (G : Geometry) (s : View) (user e : ℕ) → Cur G s user f e → Cur G s user (at_record_rule f r) e
  cur_at_record G s user e c = like_cur G s user f (at_record_rule f r) e (right_at_record c.right) name_at_record extent_at_record (λ j h. slot_at_record_law G j) c

-- ---- the call: l is lent with that FCB
-- A and H are 0, and the buffer is v
pub record Gives (o : Outcome) (v : Bytes) : Type 0 where
  pub is_a : o.answer.a ≡ 0
  pub is_h : o.answer.h ≡ 0
  pub is_buffer : o.lent.buffer ≡ v

module _ {G : Geometry} (S : Sound G) (asked : Asked) (number : asked.number ≡ 33) (l : Lent) (s : Session) (g : Good G l.drive.image l.drive.map) (fits : Fits G l s)
    (time : time_right_rule asked ≡ true) (drive : get_or l.fcb 0 0 ≤ 1) (f : Bytes) (hf : length f ≡ fcb_bytes) (e rec : ℕ) (v : Bytes)
    (h : Holds G (view_of G l.drive.image l.drive.map) s.user f e rec v) (low : extent_of f < extents)
    (is : l.fcb ≡ at_record_rule f (record_number (extent_of f) rec)) where
  at : present_entry G s.user l ≡ Some e
  unfolding present_entry
  at =
      cur_current G l.drive.image l.drive.map s.user l.fcb e g.inv.dir fits.user_low
      (rw is (cur_at_record f (record_number (extent_of f) rec) hf G (view_of G l.drive.image l.drive.map) s.user e h.cur))

  random : random_of_rule l.fcb ≡ 128 * extent_of f + rec
  random = ap random_of_rule is ∙ random_at_record f (record_number (extent_of f) rec) hf (let a = h.inside in omega arith)

  target_extent_law : target_extent 33 l.fcb ≡ extent_of f
  unfolding is_random_rule
  target_extent_law = extent_random 33 l.fcb refl ∙ (let q = random in let a = h.inside in omega arith)

  target_record_law : target_record 33 l.fcb ≡ rec
  unfolding is_random_rule
  target_record_law = record_random 33 l.fcb refl ∙ (let q = random in let a = h.inside in omega arith)

  stays_there : stays 33 l.fcb ≡ true
  unfolding stays
  stays_there = eq-eqb _ _ (target_extent_law ∙ sym (ap extent_of is ∙ extent_at_record f (record_number (extent_of f) rec) hf))

  target_slot_law : target_slot G 33 l.fcb ≡ slot_for_rule G (extent_of f) rec
  unfolding target_slot
  target_slot_law = rw (target_extent_law, target_record_law)

  block : block_there G 33 s.user l ≡ rec_slot G f rec
  block =
      stay_block G 33 s.user l stays_there ∙ ap (slot_of G l.fcb) target_slot_law ∙ ap (λ (x : Bytes). slot_of G x (slot_for_rule G (extent_of f) rec)) is
      ∙ slot_at_record_law f (record_number (extent_of f) rec) hf G (slot_for_rule G (extent_of f) rec)

  counted : rec < count_there G 33 s.user l
  unfolding count_there
  counted =
      let q : count_of l.fcb ≡ count_of f = ap count_of is ∙ count_at_record f (record_number (extent_of f) rec) hf in
      let own = fcb_count_there l.fcb (target_extent 33 l.fcb) (stays_extent 33 l.fcb stays_there) in
      let k = h.counted in rw (stays_within G 33 s.user l stays_there, own) (omega arith)

  there : record_there G 33 s.user l ≡ true
  unfolding record_there
  there = and_both _ _ (rw target_record_law (lt-ltb _ _ counted)) (ap not (ne_eqb _ _ (λ z. h.real (sym block ∙ z))))

  reads : Reads G l s 33
  reads = record {
    entry = record { place = e; is = at };
    target = record { place = e; is = target_present G 33 s.user l e at (stays_within G 33 s.user l stays_there) };
    extent = rw target_extent_law low;
    there = there;
  }

  ready : Ready G (calling 33 asked) l s
  unfolding time_right_rule
  ready = record {
    fits = fits;
    time = time;
    drive = λ u. drive;
    image_right = good_consistent G l.drive.image l.drive.map g;
    map_right_law = λ q. good_right G l.drive.image l.drive.map g;
  }

  -- the buffer gets the record
  got : (p : Plan) → Planned G 33 s.user l (There G 33 s.user l) p → (reading G s l 33 p).lent.buffer ≡ v
  unfolding read_at have_read
  got p (stay k b q t target w) =
      ap (λ (x : ℕ). record_at G l.drive.image (place_in G x (target_record 33 l.fcb))) (sym w.is ∙ block)
      ∙ ap (λ (x : ℕ). record_at G l.drive.image (place_in G (rec_slot G f rec) x)) target_record_law ∙ h.dat
  got p (move k t b q go target w) = not_both (stays 33 l.fcb) stays_there go
  got p (make k t b q go none room w) = not_both (stays 33 l.fcb) stays_there go

  step_is : step G asked l s ≡ stamped_as G (calling 33 asked) l s Read
  unfolding is_call kind_of
  step_is =
      ap (λ (n : ℕ). step G (calling n asked) l s) number
      ∙ step_carried G (calling 33 asked) l s refl ready
      (unchanged_spared G (calling 33 asked) l s refl (stay_unchanged G (calling 33 asked) l s stays_there)) (reads_right G asked l s reads) ∙ stamped_as_law G (calling 33 asked) l s Read refl

  pub reads_back : Gives (step G asked l s) v
  unfolding read
  reads_back =
      let a = read_answered G asked l s 33 in
      record {
        is_a = ap (λ (o : Outcome). o.answer.a) step_is ∙ a.is_a;
        is_h = ap (λ (o : Outcome). o.answer.h) step_is ∙ a.is_h;
        is_buffer = ap (λ (o : Outcome). o.lent.buffer) step_is ∙ got (plan G 33 s.user l) (planned_read G 33 l s reads);
      }
