-- The bytes that a write of a file and its close, and a make of it before, may change: entries of the file and stamps beside them, and one record of
-- a block that was free or the file's.
use Rattle.std.specs.Prelude.{◌≡◌, ◌⊎◌, Bool, true, false, ℕ, ◌+◌, ◌≤◌, ◌<◌, ◌%◌, ◌-◌, length, get_or}
use Rattle.std.proofs.Math.Path.{refl, ap, sym, subst}
use Rattle.std.proofs.Common.{◌∙◌, inl, inr, arith, mod-lt}
use Rattle.lists.specs.Cases.{split, eq_or_ne, not_both}
use Rattle.lists.specs.Tests.{and_left, and_right, or_cases}
use Rattle.lists.specs.Splice.{get_d_part}
use Rattle.disk.specs.Places.{block_records, block_record, offset_fits}
use Rattle.rows.specs.Entries.{area_records, block_past}
use Rattle.model.specs.Target.{place_in}
use Rattle.format.specs.Diskette.{Bytes, Geometry, Sound, record_bytes, slot_count, Long, offset_of, record_at}
use Rattle.format.specs.Entries.{ex_of, Rows, entry_at, slot_of, named, used, empty}
use Rattle.format.specs.Names.{seven_bits}
use Rattle.format.specs.Dates.{is_dates, fourth_of}
use Rattle.format.specs.Notes.{note_at_rule, free_note, area_note, recorded_note, pending_for}
use Rattle.facts.specs.Beside.{fourth_below}
use Rattle.facts.specs.Naming.{file_named}
use Rattle.facts.specs.Slots.{slot_place}
use Rattle.consistency.specs.Reflect.{used_full, used_no_dates, empty_no_dates}
use Rattle.notes.specs.Numbers.{pending_once, pending_not}
use Rattle.notes.specs.Right.{NoteOk, ok_area, ok_recorded, ok_free, ok_pending}
use Rattle.model.specs.declared.Asked.{Asked}
use Rattle.model.specs.declared.Kind.TheVariants.{Close, Create, Rename, Write}
use Rattle.model.specs.Kinds.{kind_of, same, wild}
use Rattle.model.specs.Naming.{names}
use Rattle.model.specs.Stamps.{Stamp}
use Rattle.model.specs.Table.{time_right_rule}
use Rattle.fields.specs.Agree.{SameName, named_asked}
use Rattle.table.specs.Own.{kinds_apart}
use Rattle.invariant.specs.Good.{Good}
use Rattle.effects.specs.View.{view_of, Names, Mine, listed, pending, spare_free, mine_low}
use Rattle.effects.specs.Effect.{Effect, NoneNew, none_one, new_later, new_earlier, more_effect}
use Rattle.effects.specs.Change.{where_after}
use Rattle.effects.specs.Where.{in_entry, in_new, in_record, Where, by_rule, in_stamp, Bytewise, Frame, Theirs, was_free, was_theirs, OneRecord, theirs_more, one_more, frame_wider, InRecord}
use Rattle.effects.specs.Alike.{used_row, used_alike, alike_none}
use Rattle.effects.specs.Closed.{by_name}
use Rattle.effects.specs.Stamps.{Lies, lies, stamps_bytes}
use Rattle.demands.specs.StepOk.{MayWrite}
use Rattle.demands.proofs.Stamped.{step_ok}
use Rattle.demands.specs.Runs.{Request, Disk, lent_to, outcome_of, left, accepts}
use Rattle.demands.specs.Reading.{rest_at_record}
use Rattle.stored.specs.Closed.{Sane, seen_on, Begins, Fresh, Access, Restamped}
use Rattle.stored.specs.Restamped.{unstamped, sane_restamped, restamped_alike}
use Rattle.stored.specs.OnlyNamed.{OnlyNamed, only_one, only_stay, only_alike, only_named, by_used}
use Rattle.stored.specs.Quiet.{sane_accepted}
use Rattle.stored.specs.Grown.{grown_only}
use Rattle.stored.specs.Accepting.{MadeAt, made_at_law}
use Rattle.stored.specs.Growing.{write_record, close_back, then_closed, write_user, handed_back, write_only, write_close_grown, close_only, close_none, write_close_none}

-- disk record x lies in a block that was free, or of the user's file that f names
pub record FileBlock (G : Geometry) (img map : Bytes) (user : ℕ) (f : Bytes) (x : ℕ) : Type 0 where
  pub block : ℕ
  pub place : ℕ
  pub one : OneRecord G img map (by_name user f) block place x

-- ---- changes follow one another, where only named entries change, and one of the two makes none
module _ {G : Geometry} (S : Sound G) (N : Names) (sure : (r : Bytes) → N r ≡ true → used r ≡ true) (W : ℕ → Type 0) (img mid img' : Bytes)
    (first : OnlyNamed G N (entry_at G img) (entry_at G mid)) (second : OnlyNamed G N (entry_at G mid) (entry_at G img')) where
  stay : (e : ℕ) → e < G.entries → N (entry_at G mid e) ≡ true → N (entry_at G img' e) ≡ true
  stay = only_stay sure second

  -- a byte that the first touched lies where it lay
  touched_first : (i : ℕ) → Where G img mid N W i → Where G img img' N W i
  touched_first i (by_rule p) = by_rule (where_after G N img mid img' W stay i p)
  touched_first i (in_stamp e which p t (inl n)) = in_stamp e which p t (inl n)
  touched_first i (in_stamp e which p t (inr n)) = in_stamp e which p t (inr (stay e p.low n))

  -- a row that is no date entry after the first was none before
  plain : (e : ℕ) → e < G.entries → is_dates (entry_at G mid e) ≡ false → is_dates (entry_at G img e) ≡ false
  plain e l n = sym (first.dates e l) ∙ n

  pub touched_second : (i : ℕ) → Where G mid img' N W i → Where G img img' N W i
  touched_second i (by_rule (in_entry e p n)) =
      split (first.rows e p.low (plain e p.low (used_no_dates (entry_at G mid e) (sure (entry_at G mid e) n))))
      (λ q. by_rule (in_entry e p (sym (ap N q) ∙ n)))
      (λ q. split q.was (λ y. by_rule (in_entry e p y)) (λ z. by_rule (in_new e p z (stay e p.low n))))
  touched_second i (by_rule (in_new e p z n)) =
      split (first.rows e p.low (plain e p.low (empty_no_dates (entry_at G mid e) z)))
      (λ q. by_rule (in_new e p (sym (ap empty q) ∙ z) n))
      (λ q. not_both (empty (entry_at G mid e)) z (used_full (entry_at G mid e) (sure (entry_at G mid e) q.is)))
  touched_second i (by_rule (in_record x p w)) = by_rule (in_record x p w)
  touched_second i (in_stamp e which p t o) =
      in_stamp e which p (sym (first.dates (fourth_of e) (fourth_below S e p.low)) ∙ t) (inr (split o (λ n. stay e p.low n) (λ n. n)))

  bytes_then : Bytewise G img mid N W → Bytewise G mid img' N W → Bytewise G img img' N W
  bytes_then a b i =
      split (b i) (λ q. split (a i) (λ p. inl (q ∙ p)) (λ p. inr (touched_first i p))) (λ p. inr (touched_second i p))

  pub frame_then : (map mid_map map' : Bytes) → NoneNew G (view_of G img map) (view_of G mid mid_map) ⊎ NoneNew G (view_of G mid mid_map) (view_of G img' map')
      → Frame G img mid N W → Frame G mid img' N W → Frame G img img' N W
  frame_then map mid_map map' made a b =
      let s = view_of G img map in
      let t = view_of G mid mid_map in
      let u = view_of G img' map' in
      record {
        byte = bytes_then a.byte b.byte;
        one_new = λ e k x y. split made (λ none. b.one_new e k (new_later G s t u e x none) (new_later G s t u k y none))
            (λ none. a.one_new e k (new_earlier G s t u e x none) (new_earlier G s t u k y none));
        image_length = b.image_length ∙ a.image_length;
      }

-- ---- one call whose FCB has the name in f
-- a call that goes by no pattern and renames nothing names by its FCB's name
pub names_named : (n user : ℕ) (g row : Bytes) → wild n ≡ false → same (kind_of n) Rename ≡ false → names n user g row ≡ true → named false user g 1 row ≡ true
unfolding names
names_named n user g row a b h =
    split (or_cases _ _ (and_right _ _ (and_right _ _ h))) (λ k. subst (λ (x : Bool). named x user g 1 row ≡ true) a k)
    (λ k. not_both (same (kind_of n) Rename) (and_left _ _ k) b)

module _ {G : Geometry} (S : Sound G) (d : Disk) (q : Request) (f : Bytes) (alike : SameName q.fcb 1 f 1)
    (a : wild q.asked.number ≡ false) (b : same (kind_of q.asked.number) Rename ≡ false) where
  abbrev N : Names
  N = names q.asked.number d.session.user q.fcb

  more : (r : Bytes) → N r ≡ true → by_name d.session.user f r ≡ true
  more r h = sym (named_asked q.fcb 1 f 1 alike false d.session.user r) ∙ names_named q.asked.number d.session.user q.fcb r a b h

  pub call_effect : Effect G (seen_on G d) (seen_on G (left (outcome_of G d q))) (by_name d.session.user f)
  unfolding outcome_of
  call_effect =
      more_effect G (seen_on G d) (seen_on G (left (outcome_of G d q))) N (by_name d.session.user f) more (step_ok S q.asked (lent_to d q) d.session).effect

  pub call_frame : Frame G d.drive.image (left (outcome_of G d q)).drive.image (by_name d.session.user f)
      (FileBlock G d.drive.image d.drive.map d.session.user f)
  unfolding outcome_of
  call_frame =
      frame_wider G d.drive.image (left (outcome_of G d q)).drive.image N (by_name d.session.user f)
      (MayWrite G q.asked.number (lent_to d q) d.session (outcome_of G d q)) (FileBlock G d.drive.image d.drive.map d.session.user f) more
      (λ x m. record { block = _; place = _; one = one_more G d.drive.image d.drive.map N (by_name d.session.user f) more _ _ x m.one })
      (step_ok S q.asked (lent_to d q) d.session).frame

  -- a call that writes no record
  pub quiet_frame : (kind_of q.asked.number ≡ Write → ⊥) → (W : ℕ → Type 0)
      → Frame G d.drive.image (left (outcome_of G d q)).drive.image (by_name d.session.user f) W
  unfolding outcome_of
  quiet_frame n W =
      frame_wider G d.drive.image (left (outcome_of G d q)).drive.image N (by_name d.session.user f)
      (MayWrite G q.asked.number (lent_to d q) d.session (outcome_of G d q)) W more
      (λ x m. absurd (n m.writes)) (step_ok S q.asked (lent_to d q) d.session).frame

-- ---- record x written through a fresh FCB, and the close
module _ {G : Geometry} (S : Sound G) (d : Disk) (f : Bytes) (e : ℕ) (k : Fresh G d f e) (x : ℕ) (small : x < 262144) (a : Asked) (buffer : Bytes)
    (accepted : accepts G d (write_record a f x buffer) ≡ true) (b : Asked) (time : time_right_rule b ≡ true) (cb : Bytes) (whole : length cb ≡ record_bytes) where
  abbrev w : Request
  w = write_record a f x buffer

  abbrev mid : Disk
  mid = left (outcome_of G d w)

  abbrev c : Request
  c = close_back G d w b cb

  abbrev end : Disk
  end = then_closed G d w b cb

  abbrev File : Names
  File = by_name d.session.user f

  abbrev Blocks : ℕ → Type 0
  Blocks = FileBlock G d.drive.image d.drive.map d.session.user f

  write_frame : Frame G d.drive.image mid.drive.image File Blocks
  unfolding kind_of wild
  write_frame = call_frame S d w f (λ i h. ap seven_bits (rest_at_record f x k.long (1 + i) (omega arith) (omega arith))) refl refl

  close_frame : Frame G mid.drive.image end.drive.image File Blocks
  unfolding kind_of wild
  close_frame =
      subst (λ (u : ℕ). Frame G mid.drive.image end.drive.image (by_name u f) Blocks) (write_user S d f e k x small a buffer accepted)
      (quiet_frame S mid c f (λ i h. sym (handed_back S d f e k x small a buffer accepted i h)) refl refl (kinds_apart Close Write refl) Blocks)

  pub write_close_frame : Frame G d.drive.image end.drive.image (by_name d.session.user f)
      (FileBlock G d.drive.image d.drive.map d.session.user f)
  write_close_frame =
      frame_then S File (by_used d.session.user f k.sane.range.user) Blocks d.drive.image mid.drive.image end.drive.image
      (write_only S d f e k x small a buffer accepted) (close_only S d f e k x small a buffer accepted b time cb whole)
      d.drive.map mid.drive.map end.drive.map (inr (close_none S d f e k x small a buffer accepted b time cb whole)) write_frame close_frame

-- ---- and a make before it
-- a block that is pending is so for a used entry
note_used : (G : Geometry) (d : Rows) (y n : ℕ) → NoteOk G d y n → (e j : ℕ) → j < slot_count → n ≡ pending_for e j → (e < G.entries) × (used (d e) ≡ true)
note_used G d y n (ok_area q h) e j l p = absurd (pending_not area_note (omega arith) e j (sym p ∙ q))
note_used G d y n (ok_recorded q h i) e j l p = absurd (pending_not recorded_note (omega arith) e j (sym p ∙ q))
note_used G d y n (ok_free q s) e j l p = absurd (pending_not free_note (omega arith) e j (sym p ∙ q))
note_used G d y n (ok_pending i k q h m t s) e j l p =
    let z = (pending_once i k e j (slot_place G m) l (sym q ∙ p)).0 in
    (subst (λ (x : ℕ). x < G.entries) z h, subst (λ (x : ℕ). used (d x) ≡ true) z t)

module _ {G : Geometry} (S : Sound G) (d : Disk) (m : Request) (number : m.asked.number ≡ 22) (makes : accepts G d m ≡ true) (begins : Begins m.fcb) where
  abbrev new : Disk
  new = left (outcome_of G d m)

  at : MadeAt G d m
  at = made_at_law S d m number makes begins

  good : Good G d.drive.image d.drive.map
  good = (sane_accepted G d m makes (λ z. let w : 22 ≡ 13 = sym number ∙ z in omega arith)).good

  hu : d.session.user ≤ 15
  hu = (sane_accepted G d m makes (λ z. let w : 22 ≡ 13 = sym number ∙ z in omega arith)).range.user

  make_frame : (W : ℕ → Type 0) → Frame G d.drive.image new.drive.image (by_name d.session.user m.fcb) W
  unfolding kind_of wild
  make_frame = quiet_frame S d m m.fcb (λ i h. refl) (ap wild number) (ap (λ (n : ℕ). same (kind_of n) Rename) number)
      (λ z. kinds_apart Create Write refl (sym (ap kind_of number) ∙ z))

  make_only : OnlyNamed G (by_name d.session.user m.fcb) (entry_at G d.drive.image) (entry_at G new.drive.image)
  make_only =
      only_one at.entry
      record { was = inr at.void; is = file_named G d.session.user m.fcb 1 0 (entry_at G new.drive.image at.entry) at.file }
      at.others at.dates

  -- a block of the file after the make was the file's before: the new entry has none
  abbrev Made : Names
  Made = by_name d.session.user m.fcb

  module _ (y : ℕ) where
    note : note_at_rule new.drive.map y ≡ note_at_rule d.drive.map y
    note = ap (λ (z : Bytes). note_at_rule z y) at.map

    held : (i j : ℕ) → j < slot_count → y < G.blocks → note_at_rule new.drive.map y ≡ pending_for i j → (i < G.entries) × (used (entry_at G d.drive.image i) ≡ true)
    held i j l h p = note_used G (entry_at G d.drive.image) y (note_at_rule d.drive.map y) (good.inv.map y h) i j l (sym note ∙ p)

    new_none : Mine G (seen_on G new) y at.entry → ⊥
    new_none (listed j s) = s.real (sym s.is ∙ at.slots j)
    new_none (pending j l h p) =
        not_both (empty (entry_at G d.drive.image at.entry)) at.void (used_full (entry_at G d.drive.image at.entry) (held at.entry j l h p).1)

    old_mine : (i : ℕ) → (i ≡ at.entry → ⊥) → Mine G (seen_on G new) y i
        → Mine G (seen_on G d) y i × (entry_at G new.drive.image i ≡ entry_at G d.drive.image i)
    old_mine i n (listed j s) =
        let row : entry_at G new.drive.image i ≡ entry_at G d.drive.image i =
        at.others i s.entry (sym (at.dates i s.entry) ∙ used_no_dates (entry_at G new.drive.image i) s.uses) n in (
          listed j record {
            entry = s.entry;
            place = s.place;
            uses = sym (ap used row) ∙ s.uses;
            is = sym (ap (λ (r : Bytes). slot_of G r j) row) ∙ s.is;
            real = s.real;
          },
          row,
        )
    old_mine i n (pending j l h p) =
        let u = held i j l h p in (pending j l h (sym note ∙ p), at.others i u.0 (used_no_dates (entry_at G d.drive.image i) u.1) n)

    theirs_before : Theirs G new.drive.image new.drive.map Made y → Theirs G d.drive.image d.drive.map Made y
    theirs_before (was_free z) = was_free (sym note ∙ z)
    theirs_before (was_theirs i mine n) =
        split (eq_or_ne i at.entry) (λ q. absurd (new_none (subst (Mine G (seen_on G new) y) q mine)))
        (λ q. let o = old_mine i q mine in was_theirs i o.0 (sym (ap Made o.1) ∙ n))

  -- ---- record 0 is written, and the file closed
  module _ (a : Asked) (buffer : Bytes) (accepted : accepts G new (write_record a (outcome_of G d m).lent.fcb 0 buffer) ≡ true)
      (b : Asked) (time : time_right_rule b ≡ true) (cb : Bytes) (whole : length cb ≡ record_bytes) where
    abbrev f : Bytes
    f = (outcome_of G d m).lent.fcb

    abbrev done : Disk
    done = then_closed G new (write_record a f 0 buffer) b cb

    -- by the name in the FCB of the make
    asked : (u : ℕ) (r : Bytes) → by_name u f r ≡ by_name u m.fcb r
    asked = named_asked f 1 m.fcb 1 at.name false

    later_only : OnlyNamed G Made (entry_at G new.drive.image) (entry_at G done.drive.image)
    later_only =
        subst (λ (u : ℕ). OnlyNamed G (by_name u m.fcb) (entry_at G new.drive.image) (entry_at G done.drive.image)) at.user
        (only_named new.session.user f m.fcb (λ i h. sym (at.name i h))
        (grown_only f (write_close_grown S new f at.entry at.fresh 0 (omega arith) a buffer accepted b time cb whole)))

    abbrev BlocksBefore : ℕ → Type 0
    BlocksBefore = FileBlock G d.drive.image d.drive.map d.session.user m.fcb

    later_frame : Frame G new.drive.image done.drive.image Made BlocksBefore
    later_frame =
        subst (λ (u : ℕ). Frame G new.drive.image done.drive.image (by_name u m.fcb) BlocksBefore) at.user
        (frame_wider G new.drive.image done.drive.image (by_name new.session.user f) (by_name new.session.user m.fcb) _ _
        (λ r h. sym (asked new.session.user r) ∙ h)
        (λ x z. record {
          block = z.block;
          place = z.place;
          one = record {
            is = z.one.is;
            below = z.one.below;
            theirs = theirs_before z.block
                (theirs_more G new.drive.image new.drive.map (by_name new.session.user f) Made
                (λ r h. sym (ap (λ (u : ℕ). by_name u m.fcb r) at.user) ∙ sym (asked new.session.user r) ∙ h) z.block z.one.theirs);
          };
        })
        (write_close_frame S new f at.entry at.fresh 0 (omega arith) a buffer accepted b time cb whole))

    pub make_write_close_frame : Frame G d.drive.image done.drive.image (by_name d.session.user m.fcb)
        (FileBlock G d.drive.image d.drive.map d.session.user m.fcb)
    make_write_close_frame =
        frame_then S Made (by_used d.session.user m.fcb hu) BlocksBefore
        d.drive.image new.drive.image done.drive.image make_only later_only d.drive.map new.drive.map done.drive.map
        (inr (write_close_none S new f at.entry at.fresh 0 (omega arith) a buffer accepted b time cb whole (sym at.extent))) (make_frame _) later_frame

-- ---- stamps that were put: each byte stays, or lies in one of them
module _ {G : Geometry} (S : Sound G) (P : Stamp → Type 0) (d t : Disk) (sane : Sane G d) (w : Restamped G P d t) where
  pub restamped_bytes : (i : ℕ) → (get_or t.drive.image i 0 ≡ get_or d.drive.image i 0) ⊎ Lies G P i
  restamped_bytes i =
      split w.dates (λ z. inl (ap (λ (b : Bytes). get_or b i 0) (unstamped G P d t w z)))
      (λ y. subst (λ (b : Bytes). (get_or b i 0 ≡ get_or d.drive.image i 0) ⊎ Lies G P i) (sym w.image)
      (stamps_bytes S d.drive.map P w.stamps d.drive.image sane.good y w.placed w.each i))

  pub restamped_only : (N : Names) → OnlyNamed G N (entry_at G d.drive.image) (entry_at G t.drive.image)
  restamped_only N = only_alike N d.drive.image t.drive.image (restamped_alike S P d t sane w)

  row_same : (e : ℕ) → e < G.entries → used (entry_at G t.drive.image e) ≡ true → entry_at G t.drive.image e ≡ entry_at G d.drive.image e
  row_same e l u = used_row G d.drive.image t.drive.image (restamped_alike S P d t sane w) e l
      (sym (used_alike G d.drive.image t.drive.image (restamped_alike S P d t sane w) e l) ∙ u)

  -- whose a block is
  mine_restamped : (b e : ℕ) → Mine G (seen_on G t) b e → Mine G (seen_on G d) b e × (entry_at G t.drive.image e ≡ entry_at G d.drive.image e)
  mine_restamped b e (listed j s) =
      let row = row_same e s.entry s.uses in (
        listed j record {
          entry = s.entry;
          place = s.place;
          uses = sym (ap used row) ∙ s.uses;
          is = sym (ap (λ (r : Bytes). slot_of G r j) row) ∙ s.is;
          real = s.real;
        },
        row,
      )
  mine_restamped b e (pending j l h p) =
      let q : note_at_rule d.drive.map b ≡ pending_for e j = sym (ap (λ (z : Bytes). note_at_rule z b) w.map) ∙ p in
      let u = note_used G (entry_at G d.drive.image) b (note_at_rule d.drive.map b) (sane.good.inv.map b h) e j l q in
      (pending j l h q, used_row G d.drive.image t.drive.image (restamped_alike S P d t sane w) e u.0 u.1)

  pub block_restamped : (user : ℕ) (f : Bytes) (x : ℕ) → FileBlock G t.drive.image t.drive.map user f x → FileBlock G d.drive.image d.drive.map user f x
  block_restamped user f x h = record { block = h.block; place = h.place; one = record { is = h.one.is; below = h.one.below; theirs = go h.one.theirs } }
    where
      go : Theirs G t.drive.image t.drive.map (by_name user f) h.block → Theirs G d.drive.image d.drive.map (by_name user f) h.block
      go (was_free z) = was_free (sym (ap (λ (m : Bytes). note_at_rule m h.block) w.map) ∙ z)
      go (was_theirs e m n) = let o = mine_restamped h.block e m in was_theirs e o.0 (sym (ap (by_name user f) o.1) ∙ n)

-- ---- a record of such a block that stays keeps its bytes
-- the block lies past the directory
theirs_past : (G : Geometry) (img map : Bytes) → Good G img map → (N : Names) (b : ℕ) → b < G.blocks → Theirs G img map N b → G.area ≤ b
theirs_past G img map g N b low (was_free z) = (spare_free G (view_of G img map) g.inv b low z).past
theirs_past G img map g N b low (was_theirs e m n) = mine_low G (view_of G img map) g.inv b e m

-- one byte of a record
pub record_byte : {G : Geometry} (S : Sound G) (img img' : Bytes) → Long G img → Long G img' → (x : ℕ) → x < block_records G → record_at G img' x ≡ record_at G img x
    → (i : ℕ) → InRecord G x i → get_or img' i 0 ≡ get_or img i 0
unfolding record_at
record_byte {G} S img img' long long' x low same i p =
    let fits = offset_fits S x low in
    let from = p.from in
    let upto = p.upto in
    let k : ℕ = i - offset_of G x in
    let q : offset_of G x + (i - offset_of G x) ≡ i = omega arith in
    subst (λ (j : ℕ). get_or img' j 0 ≡ get_or img j 0) q
    (sym (get_d_part img' (offset_of G x) record_bytes (omega arith) (i - offset_of G x) (omega arith)) ∙ ap (λ (b : Bytes). get_or b (i - offset_of G x) 0) same
    ∙ get_d_part img (offset_of G x) record_bytes (omega arith) (i - offset_of G x) (omega arith))

-- where one record alone may have changed, a byte of such a block stays or lies in it
pub block_byte : {G : Geometry} (S : Sound G) (img map mid img' : Bytes) → Good G img map → Long G mid → Long G img' → (user : ℕ) (f : Bytes) (place : ℕ)
    → ((x : ℕ) → area_records G ≤ x → x < block_records G → (x ≡ place → ⊥) → record_at G img' x ≡ record_at G mid x)
    → (i x : ℕ) → InRecord G x i → FileBlock G img map user f x → (get_or img' i 0 ≡ get_or mid i 0) ⊎ (x ≡ place)
unfolding place_in
block_byte {G} S img map mid img' good long long' user f place recs i x p h =
    let b : ℕ = h.block in
    let past = theirs_past G img map good (by_name user f) h.block h.one.below h.one.theirs in
    let r : ℕ = h.place % G.per_block in
    split (eq_or_ne x place) (λ q. inr q)
    (λ q. let low : x < block_records G = rw h.one.is (block_record G h.block (h.place % G.per_block) h.one.below (mod-lt h.place S.some_record)) in
    inl (record_byte S mid img' long long' x low
    (recs x (rw h.one.is (block_past G h.block (h.place % G.per_block) past)) low q) i p))

-- access stamps of a file are a frame of it
pub access_frame : {G : Geometry} (S : Sound G) (a : Asked) (f : Bytes) (d t : Disk) → Sane G d → Restamped G (Access G a d f) d t
    → (W : ℕ → Type 0) → Frame G d.drive.image t.drive.image (by_name d.session.user f) W
access_frame {G} S a f d t sane w W = record {
  byte = λ i. split (restamped_bytes S P d t sane w i) (λ q. inl q) (λ p. out i p);
  one_new = none_one G (seen_on G d) (seen_on G t) (alike_none G d.drive.image t.drive.image (restamped_alike S P d t sane w) d.drive.map);
  image_length = (sane_restamped S P d t sane w).good.image_long ∙ sym sane.good.image_long;
}
  where
    P : Stamp → Type 0
    P = Access G a d f

    out : (i : ℕ) → Lies G P i → (get_or t.drive.image i 0 ≡ get_or d.drive.image i 0) ⊎ Where G d.drive.image t.drive.image (by_name d.session.user f) W i
    out i (lies x p h) = inr (in_stamp x.entry x.which p h.dates (inl (file_named G d.session.user f 1 (ex_of f) (entry_at G d.drive.image x.entry) h.file)))
