-- A run's second half, the log: its answer is that of the table, and the disk is the same but for access stamps of the log, or has the log grown.
use Rattle.std.specs.Prelude.{◌≡◌, Bool, ℕ, ◌≤◌, ◌<◌, leb, Some}
use Rattle.std.proofs.Math.Path.{refl, ap, sym}
use Rattle.std.proofs.Common.{◌∙◌, subst, arith}
use Rattle.std.proofs.Math.Bool.{true, false, cond}
use Rattle.std.proofs.Math.Dec.{eqb}
use borrow.Author.Tests.{leb-false}
use Rattle.lists.specs.Cases.{split, bool_cases, cond_either}
use Rattle.lists.specs.Tests.{◌and◌}
use Rattle.lists.specs.Below.{any_below, any_cong}
use Rattle.format.specs.Diskette.{Bytes, Geometry, Sound}
use Rattle.format.specs.Entries.{entry_at, find_file_rule}
use Rattle.facts.specs.Find.{file_says}
use Rattle.model.specs.Lent.{ended}
use Rattle.model.specs.Stamps.{Stamp}
use Rattle.model.specs.Table.{asked_entry}
use Rattle.fields.specs.Agree.{SameName}
use Rattle.demands.specs.Runs.{Disk, lent_to, outcome_of, accepts}
use Rattle.stored.specs.Closed.{Sane, seen_on, First, Fresh, Access, Restamped}
use Rattle.stored.specs.Restamped.{restamped_none, restamped_more, restamped_then, access_before}
use Rattle.stored.specs.Looking.{size_small}
use Rattle.stored.specs.Told.{extent_entry, bytes_stored, entry_named, told_named, bytes_named}
use Rattle.picking.specs.declared.Wanted.{Wanted}
use Rattle.picking.specs.declared.Time.{Time}
use Rattle.picking.specs.declared.Pick.{Pick}
use Rattle.picking.specs.declared.Pick.TheVariants.{Logged, Again}
use Rattle.picking.specs.Numbers.{says_of}
use Rattle.picking.specs.Picker.{Logging, fcb_of_rule, has_stamp_rule, full_log, call_at, opening, writing, searched, added, written}
use Rattle.once.specs.Bytes.{Named, ex_fcb_of}
use Rattle.once.specs.Calls.{Timed}
use Rattle.once.specs.Growth.{LogGrew, grew_restamped, write_grew}
use Rattle.once.specs.Same.{log_same}
use Rattle.once.specs.Search.{has_at, searched_is}
use Rattle.once.specs.Table.{name_is, has_entry, extent_at, size_is, record_is, bytes_are, has_day, next_entry, log_locked, no_block, growing, log_answer}
use Rattle.once.specs.Writing.{written_logged, written_trouble, written_by, lifted_refused, trouble_by}
use Rattle.once.specs.Lifting.{opened_up}

-- the answer is "picked and logged"
abbrev pub is_logged : Pick → Bool
is_logged p = eqb (says_of p).number 0

-- the stamps that may be put: access stamps of the log, of the time that is asked with
abbrev pub LogAccess : Geometry → Time → Wanted → Disk → Stamp → Type 0
LogAccess G t w d = Access G (call_at t 0) d (fcb_of_rule w.log)

pub data LogRun (G : Geometry) (t : Time) (w : Wanted) (d : Disk) (l : Logging) : Type 0 where
  stayed : l.pick ≡ log_answer G w d → is_logged l.pick ≡ false → Restamped G (LogAccess G t w d) d l.disk → LogRun G t w d l
  grew : l.pick ≡ Logged → log_answer G w d ≡ Logged → LogGrew G w d l.disk → LogRun G t w d l

-- the trouble of a write is no "picked and logged"
never_logged : (a h : ℕ) → is_logged (trouble_by a h) ≡ false
never_logged a h =
    cond_either (λ (p : Pick). is_logged p ≡ false) (eqb a 255 and eqb h 3) (λ x. refl)
    (λ x. cond_either (λ (p : Pick). is_logged p ≡ false) (eqb a 5 and eqb h 0) (λ y. refl)
    (λ y. cond_either (λ (p : Pick). is_logged p ≡ false) (eqb a 2 and eqb h 0) (λ z. refl) (λ z. refl)))

-- the entry of extent 0 that was found, as a file
pub first_at_law : (G : Geometry) (d : Disk) (name : Bytes) (e : ℕ) → extent_at G d name 0 ≡ Some e → First G (seen_on G d) d.session.user (fcb_of_rule name)
unfolding extent_at
first_at_law G d name e q =
    let k = file_says G (entry_at G d.drive.image) d.session.user (fcb_of_rule name) 1 0 e q in record { entry = e; low = k.below; file = k.holds }

module _ {G : Geometry} (S : Sound G) (t : Time) (timed : Timed t) (w : Wanted) (nm : Named w) where
  abbrev log : Bytes
  log = fcb_of_rule w.log

  -- ---- stamps that were put before
  access_on : (d m : Disk) → Sane G d → Restamped G (LogAccess G t w d) d m → (x : Stamp) → LogAccess G t w m x → LogAccess G t w d x
  access_on d m sane r x h = access_before S (LogAccess G t w d) d m sane r (call_at t 0) log x h

  pub run_before : (d m : Disk) → Sane G d → Restamped G (LogAccess G t w d) d m → (l : Logging) → LogRun G t w m l → LogRun G t w d l
  run_before d m sane r l (stayed p n s) =
      stayed (p ∙ log_same S (LogAccess G t w d) d m sane r w) n
      (restamped_then G (LogAccess G t w d) d m l.disk r (restamped_more G (LogAccess G t w m) m l.disk (LogAccess G t w d) (access_on d m sane r) s))
  run_before d m sane r l (grew p q g) = grew p (sym (log_same S (LogAccess G t w d) d m sane r w) ∙ q)
      (grew_restamped S (call_at t 0) w d m sane r l.disk g)

  sizes_small : (d : Disk) → Sane G d → size_is G d w.log ≤ 262144
  unfolding size_is
  sizes_small d sane = size_small G d sane log

  -- the entry that an open asked for
  pub asked_is : (d : Disk) (e : ℕ) → asked_entry G (lent_to d (opening t w.log)) d.session.user ≡ Some e → extent_at G d w.log 0 ≡ Some e
  unfolding asked_entry extent_at
  asked_is d e q = ap (find_file_rule G (entry_at G d.drive.image) d.session.user log 1) (sym (ex_fcb_of w.log nm.log)) ∙ q

  -- ---- a log that was searched
  module _ (d : Disk) (f : Bytes) (e : ℕ) (k : Fresh G d f e) (same : SameName f 1 log 1) (at : extent_at G d w.log 0 ≡ Some e)
      (name : name_is w.log ≡ true) (some : has_entry G d w.log ≡ true) where
    abbrev n : ℕ
    n = size_is G d w.log

    next_is : extent_entry G (seen_on G d) d.session.user f n ≡ next_entry G w d
    unfolding extent_entry extent_at
    next_is = entry_named G (seen_on G d) d.session.user log f same n

    -- the rows of the table that the first two passed
    answer_is : log_answer G w d ≡ cond (has_day G w d) Again (growing G w d)
    unfolding log_answer
    answer_is = rw (name, some, at)

    first_is : First G (seen_on G d) d.session.user log
    first_is = first_at_law G d w.log e at

    added_run : (leb full_log n ≡ false) → has_day G w d ≡ false → LogRun G t w d (written G t w d f n)
    unfolding growing log_locked no_block
    added_run full none =
        let low : n < 1024 = leb-false full_log n full in
        let told : (written G t w d f n).pick ≡ log_answer G w d =
        written_by S t timed w d f n e k (omega arith) ∙ sym (answer_is ∙ rw (none, full, at, next_is)) in
        split (bool_cases (accepts G (opened_up d) (writing t w f n)))
        (λ a. let is = written_logged S t timed w d f n a in
        grew (ap (λ (l : Logging). l.pick) is) (sym told ∙ ap (λ (l : Logging). l.pick) is)
        (subst (LogGrew G w d) (sym (ap (λ (l : Logging). l.disk) is)) (write_grew S t timed w d f e k same n refl (omega arith) first_is a)))
        (λ a. let is = written_trouble S t timed w d f n a in
        stayed told (ap (λ (l : Logging). is_logged l.pick) is
        ∙ never_logged (outcome_of G (opened_up d) (writing t w f n)).answer.a (outcome_of G (opened_up d) (writing t w f n)).answer.h)
        (subst (Restamped G (LogAccess G t w d) d) (sym (ap (λ (l : Logging). l.disk) is)) (lifted_refused G d (writing t w f n) (LogAccess G t w d) a)))

    -- what the search finds is the table's row
    has_is : (r : ℕ) → has_at G d f w r ≡ (record_is G d w.log r and has_stamp_rule w.year w.day (bytes_are G d w.log r))
    has_is r =
        ap (λ (b : Bool). b and has_stamp_rule w.year w.day (bytes_stored G (seen_on G d) d.session.user f r))
        (told_named G (seen_on G d) d.session.user log f same r)
        ∙ ap (λ (v : Bytes). record_is G d w.log r and has_stamp_rule w.year w.day v) (bytes_named G (seen_on G d) d.session.user log f same r)

    found_is : any_below (has_at G d f w) n ≡ has_day G w d
    unfolding has_day
    found_is = any_cong _ _ n (λ r h. has_is r)

    pub searched_run : d.session ≡ ended d.session → LogRun G t w d (added G t w (searched G t w d f n) f n)
    unfolding added growing
    searched_run over =
        let small : n ≤ 262144 = sizes_small d k.sane in
        let is : searched G t w d f n ≡ record { found = has_day G w d; disk = d } =
        searched_is S d f e k t timed w over n (omega arith) ∙ ap (λ (b : Bool). record { found = b; disk = d }) found_is in
        let still : Restamped G (LogAccess G t w d) d d = restamped_none G (LogAccess G t w d) d d refl refl refl (λ r. r) in
        rw is
        (split (bool_cases (has_day G w d))
        (λ h. rw h (stayed (sym (answer_is ∙ rw h)) refl still))
        (λ h. rw h (split (bool_cases (leb full_log n))
        (λ full. rw full (stayed (sym (answer_is ∙ rw (h, full))) refl still))
        (λ full. rw full (added_run full h)))))
