-- A record call comes to the target's extent: it stays, moves to an entry, or makes one.
use Rattle.std.specs.Prelude.{◌≡◌, true, None, Some}
use Rattle.std.proofs.Math.Path.{refl, ap, sym}
use Rattle.std.proofs.Common.{◌∙◌, inl, arith}
use Rattle.std.proofs.Math.Bool.{false}
use Prim.Native.Nat.{ℕ, ◌≤◌, ◌<◌}
use Rattle.std.proofs.Math.ListN.{length}
use Rattle.format.specs.Diskette.{Bytes, Geometry, Sound, entry_bytes, slot_count, extents}
use Rattle.format.specs.Entries.{entry_at, with_entry, slot_of, user_of, extent_of, run_of, used, empty, named, is_file_rule, find_empty_rule}
use Rattle.format.specs.Notes.{free_note, note_at_rule}
use Rattle.facts.specs.Names.{like_at, like_trans, like_intro}
use Rattle.consistency.specs.Facts.{Fine, SameFile}
use Rattle.consistency.specs.Reflect.{empty_elsewhere}
use Rattle.rows.specs.Entries.{length_entry_at}
use Rattle.facts.specs.Find.{no_file_says, empty_says}
use Rattle.model.specs.declared.Session.{Session}
use Rattle.model.specs.Lent.{Lent, rows_of}
use Rattle.model.specs.Closing.{closed_image, closed_map}
use Rattle.model.specs.Entering.{entered, next_row_rule}
use Rattle.model.specs.Target.{target_extent, target_slot, present_entry, stays, within, target_entry, block_there, moved, made}
use Rattle.lists.specs.Cases.{split, bool_cases}
use Rattle.fields.specs.Agree.{SameName, is_file_cong}
use Rattle.consistency.specs.Naming.{file_used}
use Rattle.fields.specs.Fine.{fine_next}
use Rattle.fields.specs.Making.{length_next_row, slot_next, user_next, name_next, extent_next}
use Rattle.fields.specs.Entering.{length_entered, first_entered, extent_entered}
use Rattle.fields.proofs.Entering.{slot_entered, name_entered}
use Rattle.facts.specs.Naming.{named_intro, named_like, file_intro, file_named, file_user, file_like, file_run}
use Rattle.fields.specs.Target.{stays_extent}
use Rattle.table.specs.Facts.{Fits}
use Rattle.invariant.specs.Good.{Good}
use Rattle.invariant.specs.CloseGood.{closed_free, closed_file}
use Rattle.table.specs.Present.{stay_block, within_block, beyond_block, make_block}
use Rattle.invariant.specs.RecordCalls.{present_current, move_block, arrived_used, slot_below, target_file, target_below, target_used}
use Rattle.effects.specs.View.{view_of, listed}
use Rattle.effects.specs.Effect.{NoneNew}
use Rattle.effects.specs.Cur.{cur_uses, cur_mine}
use Rattle.effects.specs.Where.{Theirs, was_theirs}
use Rattle.effects.specs.Book.{Book, settled_by, moved_book}
use Rattle.effects.specs.Change.{Change, as_it_was}
use Rattle.effects.proofs.Change.{no_change, then_change}
use Rattle.fields.specs.Images.{row_closed_image_other, length_row_closed}
use Rattle.effects.specs.Closed.{by_name}
use Rattle.effects.proofs.Closed.{closed_change}
use Rattle.current.specs.Current.{fcb_says}
use Rattle.effects.specs.Picked.{made_here, made_change, made_names_stay}
use Rattle.effects.specs.Entered.{entered_cur}
use Rattle.effects.specs.Came.{CameTo, present_cur, present_named, move_book}

module _ {G : Geometry} (S : Sound G) (n : ℕ) (l : Lent) (s : Session) (g : Good G l.drive.image l.drive.map) (f : Fits G l s) (e : ℕ)
    (at : present_entry G s.user l ≡ Some e) (W : ℕ → Type 0) where
  place : target_slot G n l.fcb < slot_count
  place = slot_below S n l s g f e at

  -- ---- it stays
  stay_slot : stays n l.fcb ≡ true → slot_of G l.fcb (target_slot G n l.fcb) ≡ block_there G n s.user l
  stay_slot t = sym (stay_block G n s.user l t)

  stay_book : stays n l.fcb ≡ true → (u : Book) → moved_book G n s.user l u ≡ u
  unfolding moved_book
  stay_book t u = rw t

  pub stay_came : stays n l.fcb ≡ true → CameTo G n s.user l l e W as_it_was
  stay_came t = record {
    change = no_change G (by_name s.user l.fcb) W l.drive.image l.drive.map g;
    cur = present_cur S n l s g f e at W;
    mine = present_named S n l s g f e at W;
    extent = sym (stays_extent n l.fcb t);
    long = f.fcb_long;
    first = refl;
    name = λ i h. refl;
    buffer = refl;
    slot = stay_slot t;
    theirs = λ z. rw (← stay_slot t) (was_theirs e
        (cur_mine G (view_of G l.drive.image l.drive.map) s.user f.user_low l.fcb e (present_cur S n l s g f e at W) (target_slot G n l.fcb) place (λ y. z (sym (stay_slot t) ∙ y))) (present_named S n l s g f e at W));
    free = λ b h z. z;
    book = stay_book t;
  }

  -- ---- it moves to an entry of the file
  closed_by_law : Change G (by_name s.user l.fcb) W (settled_by G (rows_of G l e) l.fcb) l.drive.image l.drive.map
      (closed_image G l.drive.image e l.fcb) (closed_map G (rows_of G l e) l.fcb l.drive.map)
  closed_by_law = closed_change S l.drive.image l.drive.map g s.user f.user_low l.fcb e (present_cur S n l s g f e at W) W

  still_free : (b : ℕ) → b < G.blocks → note_at_rule l.drive.map b ≡ free_note → note_at_rule (closed_map G (rows_of G l e) l.fcb l.drive.map) b ≡ free_note
  still_free = closed_free S l.drive.image l.drive.map g s.user f.user_low l.fcb e (present_current S n l s g f e at)

  -- an FCB that entered row t of the file, wherever that row came from
  entered_name : (row : Bytes) (ext : ℕ) → named false s.user l.fcb 1 row ≡ true → SameName (entered l.fcb row ext) 1 l.fcb 1
  entered_name row ext nm i h =
      name_entered l.fcb row ext (let q : length l.fcb ≡ 36 = f.fcb_long in omega arith) i h
      ∙ sym (like_at l.fcb 1 row 1 (named_like false s.user l.fcb 1 row nm) i h)

  module _ (go : stays n l.fcb ≡ false) (t : ℕ) (target : target_entry G n s.user l ≡ Some t) where
    file : is_file_rule G s.user l.fcb 1 (target_extent n l.fcb) (rows_of G l t) ≡ true
    file = target_file S n l s g f e at t target

    below : t < G.entries
    below = target_below S n l s g f e at t target

    uses : used (rows_of G l t) ≡ true
    uses = target_used S n l s g f e at t target

    -- its row once the present entry is closed, which may be the same
    arrived : Bytes
    arrived = entry_at G (closed_image G l.drive.image e l.fcb) t

    arrived_like : SameFile G arrived (rows_of G l t)
    unfolding arrived
    arrived_like = closed_file S l.drive.image l.drive.map g s.user f.user_low l.fcb e (present_current S n l s g f e at) t below

    arrived_file : is_file_rule G s.user l.fcb 1 (target_extent n l.fcb) arrived ≡ true
    arrived_file = is_file_cong G s.user l.fcb 1 (target_extent n l.fcb) arrived (rows_of G l t) arrived_like ∙ file

    arrived_named : by_name s.user l.fcb arrived ≡ true
    arrived_named = file_named G s.user l.fcb 1 (target_extent n l.fcb) arrived arrived_file

    arrived_long : length arrived ≡ entry_bytes
    unfolding arrived
    arrived_long = length_entry_at S (closed_image G l.drive.image e l.fcb) closed_by_law.good.image_long t below

    arrived_fine : Fine G arrived
    unfolding arrived
    arrived_fine = closed_by_law.good.inv.dir.fine t below (arrived_used S n l s g f e at t target)

    move_slot : slot_of G arrived (target_slot G n l.fcb) ≡ block_there G n s.user l
    unfolding arrived
    move_slot = sym (move_block S n l s g f e at t target)

    -- the block there was the FCB's, where its entry is the target's, or the target's
    move_theirs : (block_there G n s.user l ≡ 0 → ⊥) → Theirs G l.drive.image l.drive.map (by_name s.user l.fcb) (block_there G n s.user l)
    move_theirs z =
        split (bool_cases (within G n l.fcb))
        (λ w. let q = within_block G n s.user l w in rw q (was_theirs e
        (cur_mine G (view_of G l.drive.image l.drive.map) s.user f.user_low l.fcb e (present_cur S n l s g f e at W) (target_slot G n l.fcb) place (λ y. z (q ∙ y))) (present_named S n l s g f e at W)))
        (λ w. was_theirs t (listed (target_slot G n l.fcb) record { entry = below; place = place; uses = uses; is = sym (beyond_block G n s.user l t w target); real = z })
        (file_named G s.user l.fcb 1 (target_extent n l.fcb) (rows_of G l t) file))

    pub move_came : target_extent n l.fcb < extents
        → CameTo G n s.user l (moved G (target_extent n l.fcb) l e t) t W (settled_by G (rows_of G l e) l.fcb)
    unfolding moved arrived
    move_came low =
        let ext : ℕ = target_extent n l.fcb in
        let hf : 32 ≤ length l.fcb = (let q : length l.fcb ≡ 36 = f.fcb_long in omega arith) in
        record {
          change = closed_by_law;
          cur = entered_cur G (view_of G (closed_image G l.drive.image e l.fcb) (closed_map G (rows_of G l e) l.fcb l.drive.map)) s.user l.fcb arrived ext t below refl
              (file_user G s.user l.fcb 1 ext arrived arrived_file) f.fcb_long arrived_long arrived_fine
              (file_run G s.user l.fcb 1 ext arrived arrived_file) low (fcb_says l.fcb (present_cur S n l s g f e at W).right).cr;
          mine = arrived_named;
          extent = extent_entered l.fcb arrived ext hf (let q = arrived_long in omega arith);
          long = length_entered l.fcb arrived ext hf ∙ f.fcb_long;
          first = first_entered l.fcb arrived ext hf;
          name = entered_name arrived ext arrived_named;
          buffer = refl;
          slot = slot_entered l.fcb arrived ext hf G (target_slot G n l.fcb) ∙ move_slot;
          theirs = move_theirs;
          free = still_free;
          book = move_book S n l s g f e at W go;
        }

  -- ---- it makes an entry for the target's extent
  module _ (go : stays n l.fcb ≡ false) (t : ℕ) (room : find_empty_rule G (rows_of G l) ≡ Some t) (none : target_entry G n s.user l ≡ None)
      (low : target_extent n l.fcb < extents) where
    room_below : t < G.entries
    room_below = (empty_says G (rows_of G l) t room).below

    elsewhere : t ≡ e → ⊥
    elsewhere =
        empty_elsewhere (rows_of G l) t e (empty_says G (rows_of G l) t room).holds
        (cur_uses G (view_of G l.drive.image l.drive.map) s.user f.user_low l.fcb e (present_cur S n l s g f e at W))

    -- after the close: the image, and the FCB's entry there
    mid : Bytes
    mid = closed_image G l.drive.image e l.fcb

    shut : Bytes
    shut = entry_at G mid e

    long : length shut ≡ entry_bytes
    unfolding shut mid
    long = length_row_closed S l.drive.image g.image_long e (present_cur S n l s g f e at W).low l.fcb e (present_cur S n l s g f e at W).low

    shut_file : is_file_rule G s.user l.fcb 1 (extent_of l.fcb) shut ≡ true
    unfolding shut mid
    shut_file =
        is_file_cong G s.user l.fcb 1 (extent_of l.fcb) shut (rows_of G l e)
        (closed_file S l.drive.image l.drive.map g s.user f.user_low l.fcb e (present_current S n l s g f e at) e (present_cur S n l s g f e at W).low) ∙ (present_cur S n l s g f e at W).file

    -- the new row
    next : Bytes
    next = next_row_rule shut (target_extent n l.fcb)

    whole : length next ≡ entry_bytes
    unfolding next
    whole = length_next_row shut (target_extent n l.fcb) long

    -- it is of the user's file
    next_user : user_of next ≡ s.user
    unfolding next
    next_user = user_next shut (target_extent n l.fcb) long ∙ file_user G s.user l.fcb 1 (extent_of l.fcb) shut shut_file

    next_extent : extent_of next ≡ target_extent n l.fcb
    unfolding next
    next_extent = extent_next shut (target_extent n l.fcb) long

    -- and stands for the target's extent, which no entry has
    next_file : is_file_rule G s.user l.fcb 1 (target_extent n l.fcb) next ≡ true
    unfolding next
    next_file =
        let ext : ℕ = target_extent n l.fcb in
        file_intro G s.user l.fcb 1 ext next
        (named_intro false s.user l.fcb 1 next next_user
        (like_trans l.fcb 1 shut 1 next 1 (file_like G s.user l.fcb 1 (extent_of l.fcb) shut shut_file)
        (like_intro shut 1 next 1 (λ i b. sym (name_next shut ext long i b)))))
        (ap (run_of G) next_extent)

    next_named : by_name s.user l.fcb next ≡ true
    next_named = file_named G s.user l.fcb 1 (target_extent n l.fcb) next next_file

    next_fine : Fine G next
    unfolding next shut mid
    next_fine =
        fine_next G shut (target_extent n l.fcb) long
        (closed_by_law.good.inv.dir.fine e (present_cur S n l s g f e at W).low (file_used G s.user l.fcb 1 (extent_of l.fcb) shut shut_file f.user_low)) low

    mid_map : Bytes
    mid_map = closed_map G (rows_of G l e) l.fcb l.drive.map

    void : empty (entry_at G mid t) ≡ true
    unfolding mid
    void =
        ap empty (row_closed_image_other S l.drive.image g.image_long e (present_cur S n l s g f e at W).low l.fcb t room_below elsewhere)
        ∙ (empty_says G (rows_of G l) t room).holds

    next_alone : (k : ℕ) → k < G.entries → is_file_rule G s.user l.fcb 1 (target_extent n l.fcb) (entry_at G mid k) ≡ false
    unfolding mid target_entry
    next_alone k h =
        is_file_cong G s.user l.fcb 1 (target_extent n l.fcb) (entry_at G (closed_image G l.drive.image e l.fcb) k) (rows_of G l k)
        (closed_file S l.drive.image l.drive.map g s.user f.user_low l.fcb e (present_current S n l s g f e at) k h)
        ∙ no_file_says G (rows_of G l) s.user l.fcb 1 (target_extent n l.fcb) none k h

    new : Bytes
    new = with_entry G mid t next

    mid_good : Good G mid mid_map
    unfolding mid mid_map
    mid_good = closed_by_law.good

    next_here : entry_at G new t ≡ next
    unfolding new
    next_here = made_here S (by_name s.user l.fcb) mid mid_map mid_good t room_below void next whole next_named

    -- the close makes no entry: only the FCB's own changes, which is used
    closed_none : NoneNew G (view_of G l.drive.image l.drive.map) (view_of G mid mid_map)
    unfolding mid
    closed_none k h z =
        row_closed_image_other S l.drive.image g.image_long e (present_cur S n l s g f e at W).low l.fcb k h
        (empty_elsewhere (rows_of G l) k e z (cur_uses G (view_of G l.drive.image l.drive.map) s.user f.user_low l.fcb e (present_cur S n l s g f e at W)))

    closed_then_made : Change G (by_name s.user l.fcb) W (settled_by G (rows_of G l e) l.fcb) l.drive.image l.drive.map new mid_map
    unfolding mid mid_map new next
    closed_then_made =
        then_change G (by_name s.user l.fcb) W (settled_by G (rows_of G l e) l.fcb) as_it_was l.drive.image l.drive.map mid mid_map new mid_map closed_by_law
        (made_change S (by_name s.user l.fcb) mid mid_map mid_good t room_below void next whole next_named next_fine
        (λ j h. slot_next shut (target_extent n l.fcb) long G j) s.user l.fcb 1 (target_extent n l.fcb) next_file next_alone W)
        (made_names_stay S (by_name s.user l.fcb) mid mid_map mid_good t room_below void next whole next_named) (inl closed_none)

    make_slot : block_there G n s.user l ≡ 0
    make_slot = make_block G n s.user l e at none

    next_slot : slot_of G next (target_slot G n l.fcb) ≡ 0
    unfolding next
    next_slot = slot_next shut (target_extent n l.fcb) long G (target_slot G n l.fcb)

    pub make_came : CameTo G n s.user l (made G (target_extent n l.fcb) l e t) t W (settled_by G (rows_of G l e) l.fcb)
    unfolding made new next shut mid mid_map
    make_came =
        let hf : 32 ≤ length l.fcb = (let q : length l.fcb ≡ 36 = f.fcb_long in omega arith) in
        record {
          change = closed_then_made;
          cur = entered_cur G (view_of G new mid_map) s.user l.fcb next (target_extent n l.fcb) t room_below next_here next_user f.fcb_long whole next_fine
              (ap (run_of G) next_extent) low (fcb_says l.fcb (present_cur S n l s g f e at W).right).cr;
          mine = ap (by_name s.user l.fcb) next_here ∙ next_named;
          extent = extent_entered l.fcb next (target_extent n l.fcb) hf (let q = whole in omega arith);
          long = length_entered l.fcb next (target_extent n l.fcb) hf ∙ f.fcb_long;
          first = first_entered l.fcb next (target_extent n l.fcb) hf;
          name = entered_name next (target_extent n l.fcb) next_named;
          buffer = refl;
          slot = slot_entered l.fcb next (target_extent n l.fcb) hf G (target_slot G n l.fcb) ∙ next_slot ∙ sym make_slot;
          theirs = λ z. absurd (z make_slot);
          free = still_free;
          book = move_book S n l s g f e at W go;
        }
