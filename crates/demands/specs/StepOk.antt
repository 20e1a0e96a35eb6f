-- What every call does to what it does not name, to the bytes of the image, and to the book: one record, for all seventeen calls and for
-- calls that are refused. Here stands what the own rule of each call does; `Stamped` joins it with the stamps.
use Rattle.std.specs.Prelude.{◌≡◌, eqb, length}
use Rattle.std.proofs.Math.Path.{refl, sym}
use Rattle.std.proofs.Common.{ap, ◌∙◌, subst, inl, eq-eqb, ne_eqb}
use Rattle.std.proofs.Math.Bool.{true, false}
use Prim.Native.Nat.{ℕ}
use Rattle.lists.specs.Cases.{split, bool_cases, eq_or_ne}
use Rattle.lists.specs.Tests.{and_both, or_left}
use Rattle.format.specs.Diskette.{Bytes, Geometry, Sound}
use Rattle.format.specs.Entries.{slot_of, ex_of, run_of, named}
use Rattle.format.specs.Notes.{note_at_rule, fresh_map, freed_map}
use Rattle.format.specs.Fcb.{fcb_bytes}
use Rattle.facts.specs.Names.{like_intro}
use Rattle.notes.specs.Right.{fresh_at, freed_at}
use Rattle.facts.specs.Find.{no_file_says, empty_says}
use Rattle.model.specs.declared.Asked.{Asked}
use Rattle.model.specs.declared.Session.{Session}
use Rattle.model.specs.Lent.{Lent, rows_of, Outcome}
use Rattle.model.specs.Naming.{names}
use Rattle.model.specs.Table.{asked_entry}
use Rattle.model.specs.Entering.{made_row_rule}
use Rattle.model.specs.Target.{target_record, target_slot}
use Rattle.model.specs.Kinds.{kind_of, uses_fcb_rule, wild}
use Rattle.model.specs.declared.Kind.TheVariants.{Settle, Close, Delete, Create, Rename, Read, Write}
use Rattle.model.specs.Calls.{logged_in, freed, user_set, closed_at, closed, deletes, deleted, created_at, created, renamed, read, written}
use Rattle.model.specs.Step.{settled}
use Rattle.fields.specs.Making.{length_made_row, user_made, name_made, slot_made, extent_made}
use Rattle.fields.specs.Fine.{fine_made}
use Rattle.facts.specs.Naming.{named_intro, file_intro}
use Rattle.table.specs.Own.{at_kind}
use Rattle.consistency.specs.Naming.{named_used}
use Rattle.table.specs.First.{◌&◌}
use Rattle.table.specs.Facts.{Fits, Closes, Makes, Renames, Ready}
use Rattle.table.specs.Accepted.{accepted_answer}
use Rattle.invariant.specs.Good.{Good, good_of}
use Rattle.invariant.specs.Updates.{good_fresh, good_freed}
use Rattle.effects.specs.View.{view_of}
use Rattle.effects.specs.Effect.{Effect, Keeps, nothing_kept}
use Rattle.effects.proofs.Effect.{nothing_done}
use Rattle.effects.specs.Where.{Bytewise, Frame, same_frame, WritesNone, OneRecord, one_more}
use Rattle.effects.specs.Book.{Book, nothing_held, settled_by, closed_book, moved_book, deleted_book, written_book, book_by, book_step}
use Rattle.effects.specs.Tracks.{Tracks, fresh_tracks, freed_tracks}
use Rattle.effects.specs.Change.{Change, as_it_was, as_change}
use Rattle.effects.proofs.Change.{no_change}
use Rattle.effects.specs.Closed.{by_name}
use Rattle.effects.proofs.Closed.{closed_change}
use Rattle.effects.specs.Picked.{made_change}
use Rattle.effects.proofs.Picked.{erased_change, renamed_change}
use Rattle.effects.specs.Came.{present_cur, present_before}
use Rattle.effects.specs.Write.{OneOf, WriteOk, ReadOk}

-- the disk records that a call may write: for an accepted 21 or 34 the one record of its target, in the block that the FCB handed back
-- has for it, which was free before or belonged to an entry of the file; for any other call none
pub record MayWrite (G : Geometry) (n : ℕ) (l : Lent) (s : Session) (o : Outcome) (d : ℕ) : Type 0 where
  pub accepts : accepted_answer n o.answer ≡ true
  pub writes : kind_of n ≡ Write
  pub one : OneRecord G l.drive.image l.drive.map (names n s.user l.fcb) (slot_of G o.lent.fcb (target_slot G n l.fcb)) (target_record n l.fcb) d

pub record StepOk (G : Geometry) (n : ℕ) (l : Lent) (s : Session) (o : Outcome) : Type 0 where
  pub effect : Effect G (view_of G l.drive.image l.drive.map) (view_of G o.lent.drive.image o.lent.drive.map) (names n s.user l.fcb)
  -- all but accepted 13 and 98 keep what is pending for other files
  pub keeps : (accepted_answer n o.answer ≡ true → kind_of n ≡ Settle → ⊥)
      → Keeps G (view_of G l.drive.image l.drive.map) (view_of G o.lent.drive.image o.lent.drive.map) (names n s.user l.fcb)
  pub frame : Frame G l.drive.image o.lent.drive.image (names n s.user l.fcb) (MayWrite G n l s o)
  pub map_length : length o.lent.drive.map ≡ length l.drive.map
  pub book : (u : Book) → Tracks G u (note_at_rule l.drive.map) → Tracks G (book_step G n l s o u) (note_at_rule o.lent.drive.map)

-- image and map of an outcome are good
abbrev pub GoodOutcome : Geometry → Outcome → Type 0
GoodOutcome G o = Good G o.lent.drive.image o.lent.drive.map

-- a call that was carried out leaves image and map good
pub record CarriedOk (G : Geometry) (n : ℕ) (l : Lent) (s : Session) (o : Outcome) : Type 0 where
  pub ok : StepOk G n l s o
  pub good : GoodOutcome G o

-- ---- a call that is refused
refused_book : (G : Geometry) (n : ℕ) (l : Lent) (s : Session) (o : Outcome) (u : Book) → accepted_answer n o.answer ≡ false → book_step G n l s o u ≡ u
unfolding book_step
refused_book G n l s o u f = rw f

accepted_book : (G : Geometry) (n : ℕ) (l : Lent) (s : Session) (o : Outcome) (u : Book) → accepted_answer n o.answer ≡ true
    → book_step G n l s o u ≡ book_by G n s.user l o.lent u
unfolding book_step
accepted_book G n l s o u t = rw t

pub refused_ok : (G : Geometry) (n : ℕ) (l : Lent) (s : Session) (o : Outcome) → o.lent ≡ l → accepted_answer n o.answer ≡ false → StepOk G n l s o
refused_ok G n l s o q f = record {
  effect = rw q (nothing_done G (view_of G l.drive.image l.drive.map) (names n s.user l.fcb));
  keeps = λ w. rw q (nothing_kept G (view_of G l.drive.image l.drive.map) (names n s.user l.fcb));
  frame = same_frame G l.drive.image o.lent.drive.image (names n s.user l.fcb) (MayWrite G n l s o) (rw q);
  map_length = rw q;
  book = λ u t b h. ap (λ (v : Book). v b) (refused_book G n l s o u f) ∙ rw q (t b h);
}

-- ---- a call that is carried out
abbrev pub Carries : Geometry → ℕ → Lent → Session → Outcome → Type 0
Carries G n l s o =
    Change G (names n s.user l.fcb) (MayWrite G n l s o) (book_by G n s.user l o.lent) l.drive.image l.drive.map o.lent.drive.image o.lent.drive.map

pub carries_ok : (G : Geometry) (n : ℕ) (l : Lent) (s : Session) (o : Outcome) → Fits G l s → accepted_answer n o.answer ≡ true
    → Effect G (view_of G l.drive.image l.drive.map) (view_of G o.lent.drive.image o.lent.drive.map) (names n s.user l.fcb)
    → Keeps G (view_of G l.drive.image l.drive.map) (view_of G o.lent.drive.image o.lent.drive.map) (names n s.user l.fcb)
    → Bytewise G l.drive.image o.lent.drive.image (names n s.user l.fcb) (MayWrite G n l s o) → GoodOutcome G o
    → ((u : Book) → Tracks G u (note_at_rule l.drive.map) → Tracks G (book_by G n s.user l o.lent u) (note_at_rule o.lent.drive.map)) → CarriedOk G n l s o
carries_ok G n l s o f a effect keeps bytes good book = record {
  good = good;
  ok = record {
    effect = effect;
    keeps = λ w. keeps;
    frame = record { byte = bytes; one_new = effect.one_new; image_length = good.image_long ∙ sym f.image_long };
    map_length = good.map_long ∙ sym f.map_long;
    book = λ u t b h. ap (λ (v : Book). v b) (accepted_book G n l s o u a) ∙ book u t b h;
  };
}

-- 13 and 98: the map alone changes, and nothing is held any more
settles_ok : (G : Geometry) (n : ℕ) (l : Lent) (s : Session) (o : Outcome) → Fits G l s → kind_of n ≡ Settle → o.lent.drive.image ≡ l.drive.image
    → GoodOutcome G o → Tracks G nothing_held (note_at_rule o.lent.drive.map) → accepted_answer n o.answer ≡ true → CarriedOk G n l s o
unfolding book_by
settles_ok G n l s o f w q good tr a = record {
  good = good;
  ok = record {
    effect = record { row = λ e f. rw q; new = λ e h z. inl (rw q); one_new = λ e k x y. absurd (x.changed (rw q)); dat = λ b k e h m f. rw q };
    keeps = λ z. absurd (z a w);
    frame = same_frame G l.drive.image o.lent.drive.image (names n s.user l.fcb) (MayWrite G n l s o) q;
    map_length = good.map_long ∙ sym f.map_long;
    book = λ u t b h. ap (λ (v : Book). v b) (accepted_book G n l s o u a) ∙ rw w (tr b h);
  };
}

-- ---- naming
names_by : (n user : ℕ) (fcb r : Bytes) → length fcb ≡ fcb_bytes → uses_fcb_rule n ≡ true → named (wild n) user fcb 1 r ≡ true
    → names n user fcb r ≡ true
unfolding names
names_by n user fcb r hf u h = and_both _ _ (eq-eqb _ _ hf) (and_both _ _ u (or_left _ _ h))

pub names_plain : (n user : ℕ) (fcb : Bytes) → length fcb ≡ fcb_bytes → uses_fcb_rule n ≡ true → wild n ≡ false
    → (r : Bytes) → by_name user fcb r ≡ true → names n user fcb r ≡ true
names_plain n user fcb hf u o r h = names_by n user fcb r hf u (rw o h)

-- a call that goes by the name in the FCB
pub record Named (n : ℕ) : Type 0 where
  pub uses : uses_fcb_rule n ≡ true
  pub plain : wild n ≡ false

pub named_close : (n : ℕ) → kind_of n ≡ Close → Named n
unfolding uses_fcb_rule wild
named_close n q = at_kind Named Close n refl (record { uses = refl; plain = refl } & tt) q

pub named_create : (n : ℕ) → kind_of n ≡ Create → Named n
unfolding uses_fcb_rule wild
named_create n q = at_kind Named Create n refl (record { uses = refl; plain = refl } & tt) q

pub named_read : (n : ℕ) → kind_of n ≡ Read → Named n
unfolding uses_fcb_rule wild
named_read n q = at_kind Named Read n refl (record { uses = refl; plain = refl } & record { uses = refl; plain = refl } & tt) q

pub named_write : (n : ℕ) → kind_of n ≡ Write → Named n
unfolding uses_fcb_rule wild
named_write n q = at_kind Named Write n refl (record { uses = refl; plain = refl } & record { uses = refl; plain = refl } & tt) q

-- ---- call by call
module _ {G : Geometry} (S : Sound G) (l : Lent) (s : Session) (f : Fits G l s) (g : Good G l.drive.image l.drive.map) where
  -- a call that changes neither image nor map nor book
  pub quiet : (n : ℕ) (o : Outcome) → o.lent.drive.image ≡ l.drive.image → o.lent.drive.map ≡ l.drive.map → ((u : Book) → book_by G n s.user l o.lent u ≡ u) → Carries G n l s o
  quiet n o p q b =
      subst (λ (m : Bytes). Change G (names n s.user l.fcb) (MayWrite G n l s o) (book_by G n s.user l o.lent) l.drive.image l.drive.map o.lent.drive.image m) (sym q)
      (subst (λ (i : Bytes). Change G (names n s.user l.fcb) (MayWrite G n l s o) (book_by G n s.user l o.lent) l.drive.image l.drive.map i l.drive.map) (sym p)
      (as_change G (names n s.user l.fcb) (names n s.user l.fcb) (MayWrite G n l s o) (MayWrite G n l s o) as_it_was (book_by G n s.user l o.lent)
      l.drive.image l.drive.map l.drive.image l.drive.map (λ r h. h) (λ d w. w) (λ u x h. ap (λ (v : Book). v x) (b u))
      (no_change G (names n s.user l.fcb) (MayWrite G n l s o) l.drive.image l.drive.map g)))

  -- a change by the name of the FCB that writes no record
  by_name_law : (n : ℕ) (o : Outcome) (B : Book → Book) → uses_fcb_rule n ≡ true → wild n ≡ false → ((u : Book) → book_by G n s.user l o.lent u ≡ B u)
      → Change G (by_name s.user l.fcb) WritesNone B l.drive.image l.drive.map o.lent.drive.image o.lent.drive.map → Carries G n l s o
  by_name_law n o B u w b c =
      as_change G (by_name s.user l.fcb) (names n s.user l.fcb) WritesNone (MayWrite G n l s o) B (book_by G n s.user l o.lent)
      l.drive.image l.drive.map o.lent.drive.image o.lent.drive.map (names_plain n s.user l.fcb f.fcb_long u w) (λ d z. absurd z) (λ v x h. ap (λ (y : Book). y x) (b v)) c

  -- 16
  pub closed_carries : (n : ℕ) → kind_of n ≡ Close → Closes G l s → Carries G n l s (closed G s l)
  unfolding closed closed_at closed_book book_by
  closed_carries n q c =
      let e : ℕ = c.entry.place in
      let m = named_close n q in
      rw c.entry.is
      (by_name_law n (closed_at G s l e) (settled_by G (rows_of G l e) l.fcb) m.uses m.plain (λ u. rw (q, present_before S n l s g f e c.entry.is WritesNone))
      (closed_change S l.drive.image l.drive.map g s.user f.user_low l.fcb e (present_cur S n l s g f e c.entry.is WritesNone) WritesNone))

  -- 20 and 33
  pub read_carries : (n : ℕ) → kind_of n ≡ Read → (t : ℕ) → ReadOk G n s.user l (read G s l n).lent t → Carries G n l s (read G s l n)
  unfolding book_by
  read_carries n q t r =
      let m = named_read n q in
      by_name_law n (read G s l n) (moved_book G n s.user l) m.uses m.plain (λ u. rw q) r.change

  -- 21 and 34
  pub written_carries : (n : ℕ) → kind_of n ≡ Write → accepted_answer n (written G s l n).answer ≡ true → (t : ℕ) → WriteOk G n s.user l (written G s l n).lent t
      → Carries G n l s (written G s l n)
  unfolding book_by
  written_carries n q a t r =
      let m = named_write n q in
      let more = names_plain n s.user l.fcb f.fcb_long m.uses m.plain in
      as_change G (by_name s.user l.fcb) (names n s.user l.fcb) (OneOf G n s.user l (written G s l n).lent) (MayWrite G n l s (written G s l n))
      (written_book G n s.user l (written G s l n).lent) (book_by G n s.user l (written G s l n).lent) l.drive.image l.drive.map
      (written G s l n).lent.drive.image (written G s l n).lent.drive.map more
      (λ d x. record {
        accepts = a;
        writes = q;
        one = one_more G l.drive.image l.drive.map (by_name s.user l.fcb) (names n s.user l.fcb) more
            (slot_of G (written G s l n).lent.fcb (target_slot G n l.fcb)) (target_record n l.fcb) d x;
      })
      (λ v x h. rw q) r.change

  -- 19
  pub deleted_carries : (n : ℕ) → kind_of n ≡ Delete → Carries G n l s (deleted G s l)
  unfolding deleted deletes deleted_book book_by uses_fcb_rule wild
  deleted_carries n q =
      let m = at_kind (λ (n : ℕ). (uses_fcb_rule n ≡ true) × (wild n ≡ true)) Delete n refl ((refl, refl) & tt) q in
      as_change G (deletes G s l) (names n s.user l.fcb) WritesNone (MayWrite G n l s (deleted G s l)) (deleted_book G n s.user l)
      (book_by G n s.user l (deleted G s l).lent) l.drive.image l.drive.map (deleted G s l).lent.drive.image (deleted G s l).lent.drive.map
      (λ r h. names_by n s.user l.fcb r f.fcb_long m.0 (rw m.1 h)) (λ d z. absurd z) (λ u x h. rw q)
      (erased_change S (deletes G s l) l.drive.image l.drive.map g (λ e h n. named_used true s.user l.fcb 1 (rows_of G l e) n f.user_low) WritesNone)

  -- 22
  pub created_carries : (n : ℕ) → kind_of n ≡ Create → Makes G l s → Carries G n l s (created G s l)
  unfolding created created_at asked_entry book_by
  created_carries n q m =
      let t : ℕ = m.entry.place in
      let row : Bytes = made_row_rule s.user l.fcb in
      let found = empty_says G (rows_of G l) t m.entry.is in
      let k = named_create n q in
      let nm = named_intro false s.user l.fcb 1 row (user_made s.user l.fcb) (like_intro l.fcb 1 row 1 (λ i h. sym (name_made s.user l.fcb i h))) in
      rw m.entry.is
      (by_name_law n (created_at G s l t) as_it_was k.uses k.plain (λ u. rw q)
      (made_change S (by_name s.user l.fcb) l.drive.image l.drive.map g t found.below found.holds row (length_made_row s.user l.fcb) nm
      (fine_made G s.user l.fcb f.user_low m.name m.ex) (λ j h. slot_made s.user l.fcb G j) s.user l.fcb 1 (ex_of l.fcb)
      (file_intro G s.user l.fcb 1 (ex_of l.fcb) row nm (ap (run_of G) (extent_made s.user l.fcb)))
      (no_file_says G (rows_of G l) s.user l.fcb 1 (ex_of l.fcb) m.new) WritesNone))

  -- 23
  pub renamed_carries : (n : ℕ) → kind_of n ≡ Rename → Renames G l s → Carries G n l s (renamed G s l)
  unfolding renamed book_by uses_fcb_rule wild
  renamed_carries n q r =
      let m = at_kind Named Rename n refl (record { uses = refl; plain = refl } & tt) q in
      by_name_law n (renamed G s l) as_it_was m.uses m.plain (λ u. rw q) (renamed_change S l.drive.image l.drive.map g s.user f.user_low l.fcb r.new_name r.new WritesNone)

  pub user_lent : (argument : ℕ) → (user_set G s l argument).lent ≡ l
  unfolding user_set
  user_lent argument = split (bool_cases (eqb argument 255)) (λ t. rw t) (λ t. rw t)

-- 13 leaves the fresh map, 98 one without pending notes: nothing is held
pub logged_in_tracks : (G : Geometry) (l : Lent) (s : Session) → Tracks G nothing_held (note_at_rule (logged_in G s l).lent.drive.map)
unfolding logged_in
logged_in_tracks G l s = fresh_tracks G (rows_of G l) (note_at_rule (fresh_map G (rows_of G l))) (fresh_at G (rows_of G l))

freed_settles : (G : Geometry) (l : Lent) (s : Session) → Tracks G nothing_held (note_at_rule (freed G s l).lent.drive.map)
unfolding freed
freed_settles G l s = freed_tracks G (note_at_rule l.drive.map) (note_at_rule (freed_map G l.drive.map)) (freed_at G l.drive.map)

-- image and map of a call that was carried out were good before, unless it is 13
pub ready_good : {G : Geometry} {asked : Asked} {l : Lent} {s : Session} → Ready G asked l s → (asked.number ≡ 13 → ⊥) → Good G l.drive.image l.drive.map
ready_good {G} {asked} {l} {s} r q = good_of G l.drive.image l.drive.map r.fits.image_long r.fits.map_long r.image_right (r.map_right_law q)

pub settles : (G : Geometry) (asked : Asked) (l : Lent) (s : Session) → Ready G asked l s → kind_of asked.number ≡ Settle
    → accepted_answer asked.number (settled G asked l s).answer ≡ true → CarriedOk G asked.number l s (settled G asked l s)
unfolding settled logged_in freed
settles G asked l s r q =
    split (eq_or_ne asked.number 13)
    (λ e. rw (eq-eqb asked.number 13 e)
    (settles_ok G asked.number l s (logged_in G s l) r.fits q refl (good_fresh G l.drive.image r.fits.image_long r.image_right) (logged_in_tracks G l s)))
    (λ e. rw (ne_eqb asked.number 13 e)
    (settles_ok G asked.number l s (freed G s l) r.fits q refl (good_freed G l.drive.image l.drive.map (ready_good r e)) (freed_settles G l s)))
