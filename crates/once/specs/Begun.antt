-- A log that is missing: the look at the space, the make, and the first record.
use Rattle.std.specs.Prelude.{◌≡◌, Bool, Option, is_some}
use Rattle.std.proofs.Math.Path.{refl, ap, sym, subst}
use Rattle.std.proofs.Common.{◌∙◌, eqb-true}
use Rattle.std.proofs.Math.Bool.{true, false, cond, not}
use Prim.Native.Nat.{ℕ, ◌*◌, ◌≤◌, ◌<◌}
use native.Mathlib.Omega.{arith}
use Rattle.std.proofs.Math.Dec.{eqb}
use Rattle.std.proofs.lemmas.Bool.{eqb-false}
use Rattle.lists.specs.Cases.{split, bool_cases, eq_or_ne, not_both}
use Rattle.lists.specs.Tests.{◌and◌}
use Rattle.format.specs.Diskette.{Bytes, Geometry, Sound}
use Rattle.format.specs.Entries.{entry_at, named, is_file_rule, end_of, find_named_rule}
use Rattle.format.specs.Dates.{is_dates}
use Rattle.format.specs.Notes.{find_free}
use Rattle.facts.specs.Found.{FoundAt, is_found_law, none_says, found_cases}
use Rattle.facts.specs.Find.{file_says}
use Rattle.facts.specs.Naming.{file_named}
use Rattle.consistency.specs.Naming.{named_used}
use Rattle.consistency.specs.Reflect.{used_no_dates}
use Rattle.model.specs.Kinds.{kind_of}
use Rattle.model.specs.Lent.{Outcome}
use Rattle.model.specs.Table.{time_right_rule}
use Rattle.model.specs.Calls.{file_size_rule}
use Rattle.fields.specs.Size.{size_high}
use Rattle.demands.specs.Runs.{Request, Disk, outcome_of, left, accepts, lifted_by}
use Rattle.stored.specs.Closed.{Sane, seen_on, First, Fresh, Restamped}
use Rattle.stored.specs.Restamped.{sane_restamped}
use Rattle.stored.specs.Quiet.{quiet_same}
use Rattle.stored.specs.Accepting.{MadeAt, made_at_law, fresh_write_accepted, space_free, space_none}
use Rattle.stored.specs.Grown.{Grown}
use Rattle.stored.specs.Growing.{then_closed}
use Rattle.stored.specs.Frames.{FileBlock, make_write_close_frame}
use Rattle.effects.specs.Where.{Frame}
use Rattle.effects.specs.Closed.{by_name}
use Rattle.picking.specs.declared.Wanted.{Wanted}
use Rattle.picking.specs.declared.Time.{Time}
use Rattle.picking.specs.declared.Pick.{Pick}
use Rattle.picking.specs.declared.Pick.TheVariants.{Logged, DirectoryFull, Other}
use Rattle.picking.specs.Picker.{Logging, fcb_of_rule, blank, log_record_rule, space_in_rule, call_at, is_code, spacing, making, writing, lifted_call_rule, written, made, begun}
use Rattle.once.specs.Bytes.{Named, begins_fcb_of, length_blank, length_log_record}
use Rattle.once.specs.Calls.{Timed, space_accepts, make_by, as_test}
use Rattle.once.specs.Grew.{grown_made}
use Rattle.once.specs.Growth.{LogGrew, write_grew}
use Rattle.once.specs.Lifting.{open_byte, opened_up, open_unprotected, lifted_is}
use Rattle.once.specs.Logs.{is_logged, LogAccess, LogRun, stayed, grew, run_before}
use Rattle.once.specs.Same.{entry_same, free_same}
use Rattle.once.specs.Table.{name_is, has_entry, extent_at, size_is, some_empty, some_free, beginning, log_answer}
use Rattle.once.specs.Writing.{sane_lifted, fresh_lifted, lifted_accepted, lifted_left, lifted_refused, next_open, written_logged, end}

module _ {G : Geometry} (S : Sound G) (countable : G.per_block * G.blocks < 16777216) (t : Time) (timed : Timed t) (w : Wanted) (nm : Named w) where
  abbrev log : Bytes
  log = fcb_of_rule w.log

  time : time_right_rule (call_at t 0) ≡ true
  unfolding time_right_rule
  time = timed

  module _ (d : Disk) (sane : Sane G d) (name : name_is w.log ≡ true) (missing : has_entry G d w.log ≡ false) where
    abbrev user : ℕ
    user = d.session.user

    -- no entry has its name
    none : (e : ℕ) → e < G.entries → named false user log 1 (entry_at G d.drive.image e) ≡ false
    unfolding has_entry find_named_rule
    none e low =
        found_cases (find_named_rule G (entry_at G d.drive.image) false user log 1)
        (λ k q. not_both _ (ap is_some q) missing)
        (λ q. none_says (λ (k : ℕ). named false user log 1 (entry_at G d.drive.image k)) 0 G.entries q e (omega arith) low)

    -- nor, then, is there an extent 0
    no_extent : is_some (extent_at G d w.log 0) ≡ false
    unfolding extent_at
    no_extent =
        found_cases (extent_at G d w.log 0)
        (λ e q. let k = file_says G (entry_at G d.drive.image) user log 1 0 e q in
        not_both _ (file_named G user log 1 0 (entry_at G d.drive.image e) k.holds) (none e k.below))
        (λ q. ap is_some q)

    -- a file without entries has the size 0
    size_before : size_is G d w.log ≡ 0
    unfolding size_is
    size_before =
        let high : file_size_rule G (entry_at G d.drive.image) (named false user log 1) ≤ 0 =
        size_high G (entry_at G d.drive.image) (named false user log 1) 0 (λ e low h. not_both _ h (none e low)) in
        omega arith

    answer_is : log_answer G w d ≡ beginning G w d
    unfolding log_answer
    answer_is = rw (name, missing)

    -- ---- the make
    abbrev q : Request
    q = making t w.log

    abbrev o : Outcome
    o = outcome_of G (opened_up d) (making t w.log)

    -- the disk as the make leaves it, the protection as it was
    abbrev after : Disk
    after = lifted_by d.session.lifted (left o)

    make_told : {A : Type 0} (went : A) (not_so : ℕ → ℕ → A)
        → cond (accepts G (opened_up d) q) went (not_so o.answer.a o.answer.h) ≡ cond (not (some_empty G d)) (not_so 255 0) went
    unfolding extent_at
    make_told went not_so =
        make_by (opened_up d) (sane_lifted (open_byte d.session) sane) t timed w.log nm.log went not_so (open_unprotected d.session)
        ∙ rw (name, no_extent)

    module _ (a : accepts G (opened_up d) q ≡ true) (free : FoundAt (find_free G d.drive.map)) where
      at : MadeAt G (opened_up d) q
      at = made_at_law S (opened_up d) q refl a (begins_fcb_of w.log nm.log)

      abbrev f : Bytes
      f = o.lent.fcb

      k : Fresh G after f at.entry
      k = fresh_lifted d.session.lifted at.fresh

      first : First G (seen_on G after) after.session.user log
      first = record {
        entry = at.entry;
        low = at.low;
        file = ap (λ (u : ℕ). is_file_rule G u log 1 0 (entry_at G after.drive.image at.entry)) at.user ∙ at.file;
      }

      -- it has no record yet
      size_zero : size_is G after w.log ≡ 0
      unfolding size_is
      size_zero =
          let high : file_size_rule G (entry_at G after.drive.image) (named false after.session.user log 1) ≤ 0 =
          size_high G (entry_at G after.drive.image) (named false after.session.user log 1) 0 (λ e low h. at_most e low h) in
          omega arith
        where
          at_most : (e : ℕ) → e < G.entries → named false after.session.user log 1 (entry_at G after.drive.image e) ≡ true
              → end_of (entry_at G after.drive.image e) ≤ 0
          at_most e low h =
              let mine : named false user log 1 (entry_at G after.drive.image e) ≡ true =
              subst (λ (u : ℕ). named false u log 1 (entry_at G after.drive.image e) ≡ true) at.user h in
              split (eq_or_ne e at.entry)
              (λ z. let y : end_of (entry_at G after.drive.image e) ≡ 0 = ap (λ (x : ℕ). end_of (entry_at G after.drive.image x)) z ∙ at.end in omega arith)
              (λ z. let plain : is_dates (entry_at G d.drive.image e) ≡ false =
              sym (at.dates e low) ∙ used_no_dates (entry_at G after.drive.image e)
              (named_used false user log 1 (entry_at G after.drive.image e) mine sane.range.user) in
              not_both _ (ap (named false user log 1) (sym (at.others e low plain z)) ∙ mine) (none e low))

      -- the first record is written
      opens : opened_up after ≡ left o
      opens = ap opened_up (sym (lifted_left G d q)) ∙ next_open G d q

      wrote : accepts G (opened_up after) (writing t w f 0) ≡ true
      wrote =
          fresh_write_accepted S (opened_up after) f at.entry (fresh_lifted (open_byte after.session) k) (open_unprotected after.session) (call_at t 0) time
          (log_record_rule w.year w.day) (length_log_record w.year w.day) at.writable 0 (sym at.extent)
          (subst (λ (m : Bytes). FoundAt (find_free G m)) (sym at.map) free)

      -- seen from before the make
      made_grew : LogGrew G w d (lifted_by after.session.lifted (end S t timed w after f 0))
      made_grew =
          let last : Disk = lifted_by after.session.lifted (end S t timed w after f 0) in
          let g = write_grew S t timed w after f at.entry k at.name 0 (sym size_zero) (omega arith) first wrote in
          record {
            sane = g.sane;
            user = g.user ∙ at.user;
            lifted = g.lifted;
            first = subst (λ (u : ℕ). First G (seen_on G last) u log) at.user g.first;
            grown = subst (λ (n : ℕ). Grown G (seen_on G d) (seen_on G last) user log n (log_record_rule w.year w.day)) (sym size_before)
                (grown_made S (opened_up d) q at (sane_lifted (open_byte d.session) sane) none last g.sane (log_record_rule w.year w.day)
                (subst (λ (u : ℕ). Grown G (seen_on G after) (seen_on G last) u log 0 (log_record_rule w.year w.day)) at.user
                (subst (λ (n : ℕ). Grown G (seen_on G after) (seen_on G last) after.session.user log n (log_record_rule w.year w.day)) size_zero g.grown)));
            frame = subst (λ (x : Disk). Frame G d.drive.image (then_closed G x (writing t w f 0) (call_at t 0) blank).drive.image (by_name user log)
                (FileBlock G d.drive.image d.drive.map user log)) (sym opens)
                (make_write_close_frame S (opened_up d) q refl a (begins_fcb_of w.log nm.log) (call_at t 0) (log_record_rule w.year w.day)
                (subst (λ (x : Disk). accepts G x (writing t w f 0) ≡ true) opens wrote) (call_at t 0) time blank length_blank);
          }

      made_logged : made G t w d ≡ record { pick = Logged; disk = lifted_by after.session.lifted (end S t timed w after f 0) }
      unfolding made
      made_logged =
          rw (lifted_accepted G d q ∙ a)
          (ap (λ (x : Outcome). written G t w (left x) x.lent.fcb 0) (lifted_is G d q) ∙ written_logged S t timed w after f 0 wrote)

    made_run : some_free G d ≡ true → LogRun G t w d (made G t w d)
    unfolding made is_code beginning ◌and◌
    made_run room =
        let code : ℕ → ℕ → Pick = λ x y. cond (eqb x 255 and eqb y 0) DirectoryFull (Other x y) in
        split (bool_cases (some_empty G d))
        (λ some. let a : accepts G (opened_up d) q ≡ true = as_test (accepts G (opened_up d) q) ∙ make_told true (λ x y. false) ∙ rw some in
        let is = made_logged a (is_found_law (find_free G d.drive.map) room) in
        grew (ap (λ (l : Logging). l.pick) is) (answer_is ∙ rw (room, some))
        (subst (LogGrew G w d) (sym (ap (λ (l : Logging). l.disk) is)) (made_grew a (is_found_law (find_free G d.drive.map) room))))
        (λ some. let a : accepts G (opened_up d) q ≡ false = as_test (accepts G (opened_up d) q) ∙ make_told true (λ x y. false) ∙ rw some in
        let p : cond (eqb o.answer.a 255 and eqb o.answer.h 0) DirectoryFull (Other o.answer.a o.answer.h) ≡ DirectoryFull =
        ap (λ (b : Bool). cond b Logged (cond (eqb o.answer.a 255 and eqb o.answer.h 0) DirectoryFull (Other o.answer.a o.answer.h))) (sym a)
        ∙ make_told Logged (λ x y. cond (eqb x 255 and eqb y 0) DirectoryFull (Other x y)) ∙ rw some in
        let told : (made G t w d).pick ≡ DirectoryFull =
        rw (lifted_accepted G d q ∙ a) (ap (λ (x : Outcome).
        cond (eqb x.answer.a 255 and eqb x.answer.h 0) DirectoryFull (Other x.answer.a x.answer.h)) (lifted_is G d q) ∙ p) in
        let left_is : (made G t w d).disk ≡ left (lifted_call_rule G d q) = rw (lifted_accepted G d q ∙ a) in
        stayed (told ∙ sym (answer_is ∙ rw (room, some))) (ap is_logged told)
        (subst (Restamped G (LogAccess G t w d) d) (sym left_is) (lifted_refused G d q (LogAccess G t w d) a)))

    -- ---- the look at the space
    abbrev look : Outcome
    look = outcome_of G d (spacing t w.log)

    looked : Restamped G (LogAccess G t w d) d (left look)
    unfolding kind_of
    looked = quiet_same G (LogAccess G t w d) d (spacing t w.log) refl (λ z. omega arith)

    told_space : accepts G d (spacing t w.log) ≡ true
    told_space = space_accepts d sane t timed w.log nm.log

    -- 46 tells of space exactly where a block is free
    space_is : eqb (space_in_rule look.lent.buffer) 0 ≡ not (some_free G d)
    unfolding space_in_rule
    space_is =
        split (bool_cases (eqb (space_in_rule look.lent.buffer) 0))
        (λ z. z ∙ sym (ap (λ (x : Option ℕ). not (is_some x)) (space_none G d (spacing t w.log) refl told_space S countable (eqb-true _ _ z))))
        (λ z. z ∙ sym (ap (λ (x : Option ℕ). not (is_some x)) (space_free G d (spacing t w.log) refl told_space (eqb-false _ _ z)).is))

  pub begun_run : (d : Disk) → Sane G d → name_is w.log ≡ true → has_entry G d w.log ≡ false → LogRun G t w d (begun G t w d)
  unfolding begun beginning
  begun_run d sane name missing =
      let m : Disk = left (look d sane name missing) in
      let r = looked d sane name missing in
      split (bool_cases (some_free G d))
      (λ room. rw (told_space d sane name missing, space_is d sane name missing, room)
      (run_before S t timed w nm d (left (outcome_of G d (spacing t w.log))) sane r (made G t w (left (outcome_of G d (spacing t w.log))))
      (made_run (left (outcome_of G d (spacing t w.log))) (sane_restamped S (LogAccess G t w d) d (left (outcome_of G d (spacing t w.log))) sane r) name
      (entry_same S (LogAccess G t w d) d (left (outcome_of G d (spacing t w.log))) sane r w.log ∙ missing)
      (free_same S (LogAccess G t w d) d (left (outcome_of G d (spacing t w.log))) sane r ∙ room))))
      (λ room. rw (told_space d sane name missing, space_is d sane name missing, room)
      (stayed (sym (answer_is d sane name missing ∙ rw room)) refl r))
