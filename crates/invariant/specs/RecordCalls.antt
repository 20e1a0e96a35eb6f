-- What a record call comes to: the FCB's own entry, and that of the target, whose block and count the table foresees as they are after a move.
use Rattle.std.specs.Prelude.{◌≡◌, true, Some}
use Rattle.std.proofs.Common.{ap, sym, ◌∙◌}
use Prim.Native.Nat.{ℕ, ◌<◌, max}
use native.Mathlib.Omega.{arith}
use Rattle.std.proofs.Math.ListN.{length}
use Rattle.lists.specs.Cases.{split, bool_cases}
use Rattle.format.specs.Diskette.{Bytes, Geometry, Sound, slot_count}
use Rattle.format.specs.Entries.{entry_at, slot_of, count_of, count_in, used, is_file_rule}
use Rattle.model.specs.declared.Session.{Session}
use Rattle.model.specs.Lent.{Lent, rows_of}
use Rattle.model.specs.Closing.{closed_image}
use Rattle.model.specs.Target.{target_extent, target_slot, present_entry, within, target_entry, block_there, count_there, moved}
use Rattle.rows.specs.Entries.{length_entry_at}
use Rattle.facts.specs.Slots.{slot_place}
use Rattle.table.specs.Present.{same_entry, other_entry, within_block, beyond_block}
use Rattle.facts.specs.Find.{file_says}
use Rattle.fields.specs.Agree.{used_cong}
use Rattle.fields.specs.Images.{row_closed_image_other}
use Rattle.fields.specs.Closing.{count_closed}
use Rattle.fields.specs.Entering.{count_entered}
use Rattle.consistency.specs.Naming.{file_used}
use Rattle.fields.specs.Target.{target_slot_below}
use Rattle.facts.specs.Current.{Current, current_says}
use Rattle.current.specs.Current.{fcb_says}
use Rattle.table.specs.Facts.{Fits}
use Rattle.invariant.specs.Good.{Good}
use Rattle.invariant.specs.CloseGood.{current_below, current_used, closed_file, closed_slot, here, good_closed}

module _ {G : Geometry} (S : Sound G) (n : ℕ) (l : Lent) (s : Session) (g : Good G l.drive.image l.drive.map) (f : Fits G l s) (e : ℕ)
    (at : present_entry G s.user l ≡ Some e) where
  -- ---- the FCB's own entry
  pub present_current : Current G (rows_of G l) l.drive.map s.user l.fcb e
  unfolding present_entry
  present_current = current_says G (rows_of G l) l.drive.map s.user l.fcb e at

  pub present_below : e < G.entries
  present_below = current_below S l.drive.image l.drive.map g s.user f.user_low l.fcb e present_current

  pub present_used : used (rows_of G l e) ≡ true
  present_used = current_used S l.drive.image l.drive.map g s.user f.user_low l.fcb e present_current

  pub slot_below : target_slot G n l.fcb < slot_count
  slot_below = slot_place G (target_slot_below S n l.fcb (fcb_says l.fcb present_current.right).cr)

  -- ---- the entry of the target's extent
  module _ (t : ℕ) (target : target_entry G n s.user l ≡ Some t) where
    pub target_file : is_file_rule G s.user l.fcb 1 (target_extent n l.fcb) (rows_of G l t) ≡ true
    unfolding target_entry
    target_file = (file_says G (rows_of G l) s.user l.fcb 1 (target_extent n l.fcb) t target).holds

    pub target_below : t < G.entries
    unfolding target_entry
    target_below = (file_says G (rows_of G l) s.user l.fcb 1 (target_extent n l.fcb) t target).below

    pub target_used : used (rows_of G l t) ≡ true
    target_used = file_used G s.user l.fcb 1 (target_extent n l.fcb) (rows_of G l t) target_file f.user_low

    -- the buffers after a move there, and the target's row then: its own, or the present one closed
    abbrev came_to : Lent
    came_to = moved G (target_extent n l.fcb) l e t

    abbrev arrived : Bytes
    arrived = entry_at G (closed_image G l.drive.image e l.fcb) t

    -- the block there is what its row then has
    pub move_block : block_there G n s.user l ≡ slot_of G (entry_at G (closed_image G l.drive.image e l.fcb) t) (target_slot G n l.fcb)
    move_block =
        split (bool_cases (within G n l.fcb))
        (λ w. within_block G n s.user l w
        ∙ sym (ap (λ (x : ℕ). slot_of G (entry_at G (closed_image G l.drive.image e l.fcb) x) (target_slot G n l.fcb)) (same_entry G n s.user l e at t target w)
        ∙ ap (λ (r : Bytes). slot_of G r (target_slot G n l.fcb)) (here S l.drive.image l.drive.map g s.user f.user_low l.fcb e present_current)
        ∙ closed_slot S l.drive.image l.drive.map g s.user f.user_low l.fcb e present_current (target_slot G n l.fcb) slot_below))
        (λ w. beyond_block G n s.user l t w target
        ∙ sym (ap (λ (r : Bytes). slot_of G r (target_slot G n l.fcb))
        (row_closed_image_other S l.drive.image g.image_long e present_below l.fcb t target_below (other_entry G n s.user l e at t target w))))

    -- and the count there is what that row counts
    arrived_count_law : count_there G n s.user l ≡ count_in arrived (target_extent n l.fcb)
    unfolding count_there
    arrived_count_law =
        let ext : ℕ = target_extent n l.fcb in
        split (bool_cases (within G n l.fcb))
        (λ w. let q = same_entry G n s.user l e at t target w in
        let long = length_entry_at S l.drive.image g.image_long e present_below in
        let c = count_closed G (rows_of G l e) l.fcb long ext in
        rw (w, target, q, here S l.drive.image l.drive.map g s.user f.user_low l.fcb e present_current, c) (omega arith))
        (λ w. rw (w, target, row_closed_image_other S l.drive.image g.image_long e present_below l.fcb t target_below (other_entry G n s.user l e at t target w)))

    -- so the table, which decides before the move, goes by the larger of the FCB's and the entry's count as they are after it
    pub move_count : count_there G n s.user l ≡ max (count_of came_to.fcb) (count_in (entry_at G came_to.drive.image t) (target_extent n l.fcb))
    unfolding moved
    move_count =
        let c = arrived_count_law in
        let closed = good_closed S l.drive.image l.drive.map g s.user f.user_low l.fcb e present_current in
        let own = count_entered l.fcb arrived (target_extent n l.fcb) (let q : length l.fcb ≡ 36 = f.fcb_long in omega arith)
        (let q = length_entry_at S (closed_image G l.drive.image e l.fcb) closed.image_long t target_below in omega arith) in
        omega arith

    -- it is used still
    pub arrived_used : used (entry_at G (closed_image G l.drive.image e l.fcb) t) ≡ true
    arrived_used =
        used_cong (entry_at G (closed_image G l.drive.image e l.fcb) t) (rows_of G l t)
        (closed_file S l.drive.image l.drive.map g s.user f.user_low l.fcb e present_current t target_below).user ∙ target_used
