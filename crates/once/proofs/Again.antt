-- Theorem 2: "again" is told exactly where no earlier trouble is and a log record has the year and day; after "picked and logged" the log has one record
-- more, which has them, and all that it had. Theorem 3: a second run answers again, with the same word, and harms nothing.
use Rattle.std.specs.Prelude.{◌≡◌, ◌⊎◌, Bool, ℕ, ◌*◌, ◌≤◌, ◌<◌, eqb, ltb, length, is_some}
use Rattle.std.proofs.Math.Path.{refl, ap, subst}
use Rattle.std.proofs.Common.{sym, ◌∙◌, arith}
use Rattle.std.proofs.Math.Bool.{true, false, cond, not}
use borrow.Author.Tests.{not-false}
use Rattle.lists.specs.Cases.{split, bool_cases, not_both}
use Rattle.lists.specs.Tests.{and_left, and_right, and_both}
use Rattle.lists.specs.Below.{any_some}
use Rattle.lists.specs.Splice.{length_copies}
use Rattle.format.specs.Diskette.{Bytes, Geometry, Sound, record_bytes}
use Rattle.format.specs.Entries.{entry_at}
use Rattle.facts.specs.Found.{is_found_law}
use Rattle.facts.specs.Naming.{file_named}
use Rattle.model.specs.declared.Asked.{Asked}
use Rattle.model.specs.Stamps.{Stamp}
use Rattle.model.specs.Table.{time_right_rule}
use Rattle.demands.specs.Runs.{Disk, accepts}
use Rattle.stored.specs.Closed.{seen_on, Begins, Stored, asks}
use Rattle.stored.specs.Restamped.{sane_restamped, first_restamped}
use Rattle.stored.proofs.Restamped.{stored_restamped}
use Rattle.stored.specs.Looking.{ReadsAs, blank_buffer, opening_of, as_first, size_small, size_accepted, size_told, stored_below}
use Rattle.stored.proofs.Looking.{reads_as, as_stored}
use Rattle.stored.proofs.Told.{is_stored_law}
use Rattle.picking.specs.declared.Wanted.{Wanted}
use Rattle.picking.specs.declared.Time.{Time}
use Rattle.picking.specs.declared.Pick.TheVariants.{Logged, Again, DayOver, NoBook, NoWord, OneFile, NoFirst, Other}
use Rattle.picking.specs.Picker.{Picked, fcb_of_rule, log_record_rule, one_file_rule, last_day, picked}
use Rattle.once.specs.Bytes.{Named, begins_fcb_of, log_record_has}
use Rattle.once.specs.Calls.{Timed}
use Rattle.once.specs.Logs.{is_logged, first_at_law}
use Rattle.once.specs.Picks.{has_word, PickAccess, PickGrew, Left, same, more}
use Rattle.once.proofs.Picks.{pick_run}
use Rattle.once.specs.Table.{parameters_are, disk_is, name_is, has_entry, extent_at, size_is, record_is, bytes_are, has_day, growing, beginning, log_answer, word_answer, book_answer, answer}
use Rattle.once.proofs.Unharmed.{trouble_unharmed}
use Rattle.once.specs.Word.{can_read, read_can}
use Rattle.once.specs.Again.{is_again, past, not_beginning, not_growing, Done, done_answer, log_first, log_new, log_kept, log_size, book_first, book_kept, LoggedOnce, Repeats, SecondRun}

module _ (G : Geometry) (w : Wanted) (d : Disk) where
  has_day_law : is_again (cond (has_day G w d) Again (growing G w d)) ≡ true → has_day G w d ≡ true
  has_day_law h = split (bool_cases (has_day G w d)) (λ y. y) (λ y. not_both _ (rw y at h) (not_growing G w d))

-- ---- on a disk whose book has the word and whose log has the year and day a run answers again, with the word
module _ {G : Geometry} (S : Sound G) (countable : G.per_block * G.blocks < 16777216) (w : Wanted) (nm : Named w) (d : Disk) (word : Bytes) (x : Done G w d word)
    (t : Time) (timed : Timed t) (buffer : Bytes) (long : length buffer ≡ record_bytes) where
  pub done_again : (picked G t w d buffer).pick ≡ Again
  done_again = (pick_run S countable t w nm d buffer).pick ∙ done_answer w d word x t timed buffer long

  can : (has_word G t w d buffer ≡ true) × (bytes_are G d w.book w.day ≡ word)
  can = read_can t w d buffer word x.day timed x.sane x.book long x.stored

  pub done_given : (picked G t w d buffer).given ≡ true
  done_given = (pick_run S countable t w nm d buffer).given ∙ can.0

  pub done_word : (picked G t w d buffer).word ≡ word
  done_word =
      (pick_run S countable t w nm d buffer).word ∙ ap (λ (b : Bool). cond b (bytes_are G d w.book w.day) buffer) can.0 ∙ can.1

-- ---- what a run that answered "again" found
module _ {G : Geometry} (S : Sound G) (countable : G.per_block * G.blocks < 16777216) (t : Time) (w : Wanted) (nm : Named w) (d : Disk) (buffer : Bytes) where
  abbrev p : Picked
  p = picked G t w d buffer

  again_done : (picked G t w d buffer).pick ≡ Again → Done G w d (picked G t w d buffer).word
  unfolding answer book_answer word_answer log_answer has_day has_word
  again_done h =
      let r = pick_run S countable t w nm d buffer in
      let a1 = past (ltb last_day w.day) DayOver _ refl (ap is_again (sym r.pick ∙ h)) in
      let a2 = past (not (parameters_are G d t)) (Other 255 4) _ refl a1.1 in
      let a3 = past (not (disk_is G d)) (Other 255 1) _ refl a2.1 in
      let a4 = past (not (name_is w.book)) (Other 255 9) _ refl a3.1 in
      let a5 = past (not (is_some (extent_at G d w.book 0))) NoBook _ refl a4.1 in
      let a6 = past (not (eqb (length buffer) record_bytes)) (Other 255 4) _ refl a5.1 in
      let a7 = past (not (record_is G d w.book w.day)) NoWord _ refl a6.1 in
      let a8 = past (one_file_rule w) OneFile _ refl a7.1 in
      let a9 = past (not (name_is w.log)) (Other 255 9) _ refl a8.1 in
      let b1 = past (not (has_entry G d w.log)) (beginning G w d) _ (not_beginning G w d) a9.1 in
      let b2 = past (not (is_some (extent_at G d w.log 0))) NoFirst _ refl b1.1 in
      let day : has_day G w d ≡ true = has_day_law G w d b2.1 in
      let word : has_word G t w d buffer ≡ true =
      and_both _ _ (ap not a1.0) (and_both _ _ (not-false _ a2.0) (and_both _ _ (not-false _ a3.0) (and_both _ _ (not-false _ a4.0)
      (and_both _ _ (not-false _ a5.0) (and_both _ _ (not-false _ a6.0) (not-false _ a7.0)))))) in
      let c = can_read t w d buffer word in
      let at = is_found_law (extent_at G d w.log 0) (not-false _ b2.0) in
      let k = any_some _ (size_is G d w.log) day in
      record {
        day = c.day;
        apart = a8.0;
        sane = c.sane;
        book = c.first;
        stored = subst (Stored G (seen_on G d) d.session.user (fcb_of_rule w.book) w.day)
            (sym (r.word ∙ ap (λ (b : Bool). cond b (bytes_are G d w.book w.day) buffer) word)) c.stored;
        log = first_at_law G d w.log at.place at.is;
        place = k.place;
        bytes = bytes_are G d w.log k.place;
        has = is_stored_law G (seen_on G d) d.session.user (fcb_of_rule w.log) k.place (and_left _ _ k.holds);
        stamp = and_right _ _ k.holds;
      }

-- ---- theorem 2
module _ {G : Geometry} (S : Sound G) (countable : G.per_block * G.blocks < 16777216) (w : Wanted) (nm : Named w) (a : Asked) (time : time_right_rule a ≡ true) where
  module _ (t : Time) (d e : Disk) (g : PickGrew G t w d e) where
    abbrev begins : Begins (fcb_of_rule w.log)
    begins = begins_fcb_of w.log nm.log

    log_there : accepts G e (asks a 35 (fcb_of_rule w.log) blank_buffer) ≡ true
    log_there =
        let f = log_first S t w nm d e g in
        size_accepted G e g.log.sane (fcb_of_rule w.log) begins a time blank_buffer (length_copies record_bytes 0) f.entry f.low
        (file_named G e.session.user (fcb_of_rule w.log) 1 0 (entry_at G e.drive.image f.entry) f.file)

    log_reads : (r : ℕ) (v : Bytes) → Stored G (seen_on G e) e.session.user (fcb_of_rule w.log) r v → ReadsAs G a e (fcb_of_rule w.log) r v
    log_reads r v k = reads_as S a e (fcb_of_rule w.log) begins r v g.log.sane time (log_first S t w nm d e g) k

    once : LoggedOnce G w a d e
    unfolding size_is
    once = record {
      size = log_size S t w nm d e g;
      told = log_there;
      tells = size_told G e g.log.sane (fcb_of_rule w.log) begins.long a blank_buffer log_there ∙ log_size S t w nm d e g;
      new = log_reads (size_is G d w.log) (log_record_rule w.year w.day) (log_new S t w nm d e g);
      kept = λ r v small k. log_reads r v (log_kept S t w nm d e g r v (as_stored S a d (fcb_of_rule w.log) begins r v small k));
    }

  pub logged_once : (t : Time) (d : Disk) (buffer : Bytes) → (picked G t w d buffer).pick ≡ Logged → LoggedOnce G w a d (picked G t w d buffer).disk
  logged_once t d buffer h = go (pick_run S countable t w nm d buffer).left
    where
      go : Left G t w d (picked G t w d buffer) → LoggedOnce G w a d (picked G t w d buffer).disk
      go (same f r) = not_both _ (ap is_logged h) f
      go (more p y g) = once t d (picked G t w d buffer).disk g

  pub again_says : (t : Time) (d : Disk) (buffer : Bytes) → (picked G t w d buffer).pick ≡ Again → Repeats G w a d
  unfolding size_is
  again_says t d buffer h =
      let x = again_done S countable t w nm d buffer h in
      record {
        day = x.day;
        word = (picked G t w d buffer).word;
        reads = reads_as S a d (fcb_of_rule w.book) (begins_fcb_of w.book nm.book) w.day _ x.sane time x.book x.stored;
        apart = x.apart;
        place = x.place;
        below = stored_below G d x.sane (fcb_of_rule w.log) x.place x.bytes x.has;
        bytes = x.bytes;
        log = reads_as S a d (fcb_of_rule w.log) (begins_fcb_of w.log nm.log) x.place x.bytes x.sane time x.log x.has;
        has = x.stamp;
      }

  repeats_done : (d : Disk) (r : Repeats G w a d) → Done G w d r.word
  unfolding size_is
  repeats_done d r =
      let op = opening_of S a d (fcb_of_rule w.book) (begins_fcb_of w.book nm.book) _ r.reads.opens in
      let small = size_small G d op.sane (fcb_of_rule w.log) in
      let day = r.day in
      record {
        day = r.day;
        apart = r.apart;
        sane = op.sane;
        book = op.first;
        stored = as_stored S a d (fcb_of_rule w.book) (begins_fcb_of w.book nm.book) w.day r.word (omega arith) r.reads;
        log = as_first S a d (fcb_of_rule w.log) (begins_fcb_of w.log nm.log) r.place r.bytes r.log;
        place = r.place;
        bytes = r.bytes;
        has = as_stored S a d (fcb_of_rule w.log) (begins_fcb_of w.log nm.log) r.place r.bytes (omega (arith, r.below, small)) r.log;
        stamp = r.has;
      }

  pub repeats_again : (t : Time) → Timed t → (d : Disk) (buffer : Bytes) → length buffer ≡ record_bytes → (r : Repeats G w a d)
      → ((picked G t w d buffer).pick ≡ Again) × ((picked G t w d buffer).word ≡ r.word)
  repeats_again t timed d buffer long r =
      let x = repeats_done d r in
      (done_again S countable w nm d r.word x t timed buffer long, done_word S countable w nm d r.word x t timed buffer long)

-- ---- theorem 3
module _ {G : Geometry} (S : Sound G) (countable : G.per_block * G.blocks < 16777216) (w : Wanted) (nm : Named w) (t : Time) (d : Disk) (buffer : Bytes) where
  abbrev e : Disk
  e = (picked G t w d buffer).disk

  abbrev word : Bytes
  word = (picked G t w d buffer).word

  not_logged : Again ≡ Logged → ⊥
  not_logged q = let z : true ≡ false = ap is_again q in not_both true refl z

  again_left : (picked G t w d buffer).pick ≡ Again → Done G w (picked G t w d buffer).disk (picked G t w d buffer).word
  again_left h =
      let x = again_done S countable t w nm d buffer h in
      let r = trouble_unharmed S countable t w nm d buffer (λ q. not_logged (sym h ∙ q)) in
      let P : Stamp → Type 0 = PickAccess G t w d in
      let hu : d.session.user ≤ 15 = x.sane.range.user in
      record {
        day = x.day;
        apart = x.apart;
        sane = sane_restamped S (PickAccess G t w d) d e x.sane r;
        book = rw r.user (first_restamped S (PickAccess G t w d) d e x.sane r d.session.user hu (fcb_of_rule w.book) x.book);
        stored = rw r.user (stored_restamped S (PickAccess G t w d) d e x.sane r d.session.user hu (fcb_of_rule w.book) w.day word x.stored);
        log = rw r.user (first_restamped S (PickAccess G t w d) d e x.sane r d.session.user hu (fcb_of_rule w.log) x.log);
        place = x.place;
        bytes = x.bytes;
        has = rw r.user (stored_restamped S (PickAccess G t w d) d e x.sane r d.session.user hu (fcb_of_rule w.log) x.place x.bytes x.has);
        stamp = x.stamp;
      }

  logged_left : (picked G t w d buffer).pick ≡ Logged → Done G w (picked G t w d buffer).disk (picked G t w d buffer).word
  logged_left h = go (pick_run S countable t w nm d buffer).left
    where
      go : Left G t w d (picked G t w d buffer) → Done G w (picked G t w d buffer).disk (picked G t w d buffer).word
      go (same f r) = not_both _ (ap is_logged h) f
      go (more p y g) =
          let r = pick_run S countable t w nm d buffer in
          let has : has_word G t w d buffer ≡ true = sym r.given ∙ y in
          let c = can_read t w d buffer has in
          record {
            day = c.day;
            apart = g.apart;
            sane = g.log.sane;
            book = book_first S t w nm d e g c.first;
            stored = subst (Stored G (seen_on G e) e.session.user (fcb_of_rule w.book) w.day)
                (sym (r.word ∙ ap (λ (b : Bool). cond b (bytes_are G d w.book w.day) buffer) has)) (book_kept S t w nm d e g w.day _ c.stored);
            log = log_first S t w nm d e g;
            place = size_is G d w.log;
            bytes = log_record_rule w.year w.day;
            has = log_new S t w nm d e g;
            stamp = log_record_has w.year w.day;
          }

  pub second_run : ((picked G t w d buffer).pick ≡ Logged) ⊎ ((picked G t w d buffer).pick ≡ Again) → (again : Time) → Timed again → (other : Bytes)
      → length other ≡ record_bytes → SecondRun G w again (picked G t w d buffer) (picked G again w (picked G t w d buffer).disk other)
  second_run success again timed other long =
      let x : Done G w e word = split success (λ h. logged_left h) (λ h. again_left h) in
      let told : (picked G again w e other).pick ≡ Again = done_again S countable w nm e word x again timed other long in
      record {
        answer = told;
        given = done_given S countable w nm e word x again timed other long;
        word = done_word S countable w nm e word x again timed other long;
        unharmed = trouble_unharmed S countable again w nm e other (λ q. not_logged (sym told ∙ q));
      }
