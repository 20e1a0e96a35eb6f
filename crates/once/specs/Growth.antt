-- What "picked and logged" leaves: the log has one record more, at its old size; the rest of the disk is as it was.
use Rattle.std.specs.Prelude.{◌≡◌, refl, true, false, ℕ, ◌<◌}
use Rattle.std.proofs.Common.{sym, ◌∙◌, subst, inl}
use Rattle.format.specs.Diskette.{Bytes, Geometry, Sound}
use Rattle.model.specs.declared.Asked.{Asked}
use Rattle.model.specs.Stamps.{Stamp}
use Rattle.model.specs.Table.{time_right_rule}
use Rattle.fields.specs.Agree.{SameName, named_asked}
use Rattle.effects.specs.Where.{Frame, one_more, frame_wider}
use Rattle.effects.specs.Alike.{alike_none}
use Rattle.effects.specs.Closed.{by_name}
use Rattle.demands.specs.Runs.{Disk, accepts, lifted_by}
use Rattle.stored.specs.Closed.{Sane, seen_on, First, Fresh, Access, Restamped}
use Rattle.stored.specs.Restamped.{restamped_alike}
use Rattle.stored.specs.OnlyNamed.{by_used}
use Rattle.stored.specs.Frames.{FileBlock, frame_then, write_close_frame, restamped_only, block_restamped, access_frame}
use Rattle.stored.specs.Grown.{Grown, grown_named, grown_file, grown_only}
use Rattle.stored.specs.Growing.{write_close_grown, end_sane, end_user}
use Rattle.picking.specs.declared.Wanted.{Wanted}
use Rattle.picking.specs.declared.Time.{Time}
use Rattle.picking.specs.Picker.{fcb_of_rule, blank, log_record_rule, call_at, writing}
use Rattle.once.specs.Bytes.{length_blank}
use Rattle.once.specs.Calls.{Timed}
use Rattle.once.specs.Grew.{grown_restamped}
use Rattle.once.specs.Lifting.{open_byte, opened_up}
use Rattle.once.specs.Same.{size_same}
use Rattle.once.specs.Table.{size_is}
use Rattle.once.specs.Writing.{sane_lifted, fresh_lifted, end}

pub record LogGrew (G : Geometry) (w : Wanted) (d e : Disk) : Type 0 where
  pub sane : Sane G e
  pub user : e.session.user ≡ d.session.user
  pub lifted : e.session.lifted ≡ d.session.lifted
  pub first : First G (seen_on G e) d.session.user (fcb_of_rule w.log)
  pub grown : Grown G (seen_on G d) (seen_on G e) d.session.user (fcb_of_rule w.log) (size_is G d w.log) (log_record_rule w.year w.day)
  -- every byte stays, or lies in an entry of the log, in a stamp beside one, or in the record written, in a block that was free or the log's
  pub frame : Frame G d.drive.image e.drive.image (by_name d.session.user (fcb_of_rule w.log))
      (FileBlock G d.drive.image d.drive.map d.session.user (fcb_of_rule w.log))

-- before access stamps of the log that were put
module _ {G : Geometry} (S : Sound G) (a : Asked) (w : Wanted) (d m : Disk) (sane : Sane G d)
    (r : Restamped G (Access G a d (fcb_of_rule w.log)) d m) (e : Disk) (g : LogGrew G w m e) where
  abbrev File : Bytes
  File = fcb_of_rule w.log

  abbrev P : Stamp → Type 0
  P = Access G a d (fcb_of_rule w.log)

  abbrev Blocks : ℕ → Type 0
  Blocks = FileBlock G d.drive.image d.drive.map d.session.user (fcb_of_rule w.log)

  grown_on : Grown G (seen_on G m) (seen_on G e) d.session.user File (size_is G d w.log) (log_record_rule w.year w.day)
  grown_on =
      subst (λ (n : ℕ). Grown G (seen_on G m) (seen_on G e) d.session.user File n (log_record_rule w.year w.day)) (size_same S P d m sane r w.log)
      (subst (λ (u : ℕ). Grown G (seen_on G m) (seen_on G e) u File (size_is G m w.log) (log_record_rule w.year w.day)) r.user g.grown)

  frame_on : Frame G m.drive.image e.drive.image (by_name d.session.user File) Blocks
  frame_on =
      subst (λ (u : ℕ). Frame G m.drive.image e.drive.image (by_name u File) Blocks) r.user
      (frame_wider G m.drive.image e.drive.image (by_name m.session.user File) (by_name m.session.user File)
      (FileBlock G m.drive.image m.drive.map m.session.user File) Blocks (λ x h. h)
      (λ x h. block_restamped S P d m sane r d.session.user File x
      (subst (λ (u : ℕ). FileBlock G m.drive.image m.drive.map u File x) r.user h)) g.frame)

  pub grew_restamped : LogGrew G w d e
  grew_restamped = record {
    sane = g.sane;
    user = g.user ∙ r.user;
    lifted = g.lifted ∙ r.lifted;
    first = subst (λ (u : ℕ). First G (seen_on G e) u File) r.user g.first;
    grown = grown_restamped S P d m sane r e File (size_is G d w.log) (log_record_rule w.year w.day) grown_on;
    frame = frame_then S (by_name d.session.user File) (by_used d.session.user File sane.range.user) Blocks d.drive.image m.drive.image e.drive.image
        (restamped_only S P d m sane r (by_name d.session.user File)) (grown_only File grown_on) d.drive.map m.drive.map e.drive.map
        (inl (alike_none G d.drive.image m.drive.image (restamped_alike S P d m sane r) d.drive.map))
        (access_frame S a File d m sane r Blocks) frame_on;
  }

-- the frame of a file, by another FCB with its name
frame_as : {G : Geometry} (img map img' : Bytes) (user : ℕ) (f g : Bytes) → SameName g 1 f 1 → Frame G img img' (by_name user f) (FileBlock G img map user f)
    → Frame G img img' (by_name user g) (FileBlock G img map user g)
frame_as {G} img map img' user f g same w =
    let more : (r : Bytes) → by_name user f r ≡ true → by_name user g r ≡ true = λ r h. named_asked g 1 f 1 same false user r ∙ h in
    frame_wider G img img' (by_name user f) (by_name user g) (FileBlock G img map user f) (FileBlock G img map user g) more
    (λ x h. record { block = h.block; place = h.place; one = one_more G img map (by_name user f) (by_name user g) more h.block h.place x h.one }) w

-- ---- the write of the log's next record, and its close
module _ {G : Geometry} (S : Sound G) (t : Time) (timed : Timed t) (w : Wanted) (d : Disk) (f : Bytes) (e : ℕ) (k : Fresh G d f e)
    (same : SameName f 1 (fcb_of_rule w.log) 1) (n : ℕ) (size : n ≡ size_is G d w.log) (low : n < 262144)
    (first : First G (seen_on G d) d.session.user (fcb_of_rule w.log)) (a : accepts G (opened_up d) (writing t w f n) ≡ true) where
  abbrev log : Bytes
  log = fcb_of_rule w.log

  abbrev new : Bytes
  new = log_record_rule w.year w.day

  abbrev last : Disk
  last = end S t timed w d f n

  time : time_right_rule (call_at t 0) ≡ true
  unfolding time_right_rule
  time = timed

  k_open : Fresh G (opened_up d) f e
  k_open = fresh_lifted (open_byte d.session) k

  grown : Grown G (seen_on G d) (seen_on G last) d.session.user log n new
  grown =
      grown_named f log (λ i b. sym (same i b))
      (write_close_grown S (opened_up d) f e k_open n low (call_at t 0) new a (call_at t 0) time blank length_blank)

  pub write_grew : LogGrew G w d (lifted_by d.session.lifted last)
  write_grew = record {
    sane = sane_lifted d.session.lifted (end_sane S (opened_up d) f e k_open n low (call_at t 0) new a (call_at t 0) time blank length_blank);
    user = end_user S (opened_up d) f e k_open n low (call_at t 0) new a (call_at t 0) time blank length_blank;
    lifted = refl;
    first = record {
      entry = first.entry;
      low = first.low;
      file = grown_file S (seen_on G d) (seen_on G last) k.sane.good.inv d.session.user k.sane.range.user log n new grown first.entry 0 first.low first.file;
    };
    grown = subst (λ (x : ℕ). Grown G (seen_on G d) (seen_on G last) d.session.user log x new) size grown;
    frame = frame_as d.drive.image d.drive.map last.drive.image d.session.user f log (λ i b. sym (same i b))
        (write_close_frame S (opened_up d) f e k_open n low (call_at t 0) new a (call_at t 0) time blank length_blank);
  }
