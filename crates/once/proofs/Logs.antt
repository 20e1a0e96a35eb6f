-- A log that is there: it is opened and searched, and its answer is that of the table.
use Rattle.std.specs.Prelude.{◌≡◌, Bool, ℕ, Some, is_some}
use Rattle.std.proofs.Math.Path.{refl, ap, sym}
use Rattle.std.proofs.Common.{◌∙◌}
use Rattle.std.proofs.Math.Bool.{true, false, cond}
use Rattle.std.proofs.Math.Dec.{eqb}
use Rattle.lists.specs.Tests.{◌and◌, and_both, and_fails_right}
use Rattle.format.specs.Diskette.{Bytes, Geometry, Sound}
use Rattle.model.specs.Lent.{Outcome, ended}
use Rattle.demands.specs.Runs.{Disk, outcome_of, left, accepts}
use Rattle.stored.specs.Closed.{Sane, Restamped}
use Rattle.stored.specs.Quiet.{opened_ended}
use Rattle.stored.specs.Looking.{Opening, opening_of, opened_restamped}
use Rattle.picking.specs.declared.Wanted.{Wanted}
use Rattle.picking.specs.declared.Time.{Time}
use Rattle.picking.specs.declared.Pick.TheVariants.{Logged, NoFirst, Other}
use Rattle.picking.specs.Picker.{fcb_of_rule, blank, call_at, is_code, opening, searched, added, extended}
use Rattle.once.specs.Bytes.{Named, begins_fcb_of}
use Rattle.once.specs.Calls.{Timed, open_by, open_accepts}
use Rattle.once.specs.Same.{extent_same, size_same, entry_same}
use Rattle.once.specs.Table.{name_is, has_entry, extent_at, size_is, log_answer}
use Rattle.once.specs.Logs.{LogAccess, LogRun, stayed, run_before, asked_is, searched_run}

module _ {G : Geometry} (S : Sound G) (t : Time) (timed : Timed t) (w : Wanted) (nm : Named w) where
  abbrev log : Bytes
  log = fcb_of_rule w.log

  -- ---- a log that has entries: it is opened
  module _ (d : Disk) (sane : Sane G d) (name : name_is w.log ≡ true) (some : has_entry G d w.log ≡ true) where
    abbrev o : Outcome
    o = outcome_of G d (opening t w.log)

    abbrev m : Disk
    m = left o

    restamped : Restamped G (LogAccess G t w d) d m
    restamped = opened_restamped S (call_at t 0) d log blank

    pub found_run : is_some (extent_at G d w.log 0) ≡ true → LogRun G t w d (extended G t w d (size_is G d w.log))
    unfolding extended
    found_run h =
        let a : accepts G d (opening t w.log) ≡ true = open_accepts d sane t timed w.log nm.log ∙ and_both _ _ name h in
        let op = opening_of S (call_at t 0) d log (begins_fcb_of w.log nm.log) blank a in
        let size : size_is G m w.log ≡ size_is G d w.log = size_same S (LogAccess G t w d) d m sane restamped w.log in
        rw (a, ← size)
        (run_before S t timed w nm d m sane restamped (added G t w (searched G t w m o.lent.fcb (size_is G m w.log)) o.lent.fcb (size_is G m w.log))
        (searched_run S t timed w nm m o.lent.fcb op.at.entry op.at.fresh op.same (at_entry a op) name
        (entry_same S (LogAccess G t w d) d m sane restamped w.log ∙ some) (over a)))
      where
        at_entry : accepts G d (opening t w.log) ≡ true → (op : Opening G (call_at t 0) d log blank) → extent_at G m w.log 0 ≡ Some op.at.entry
        at_entry a op = extent_same S (LogAccess G t w d) d m sane restamped w.log 0 ∙ asked_is S t timed w nm d op.at.entry op.at.asked

        over : accepts G d (opening t w.log) ≡ true → m.session ≡ ended m.session
        over a = let q = opened_ended S d (opening t w.log) refl a in q ∙ ap ended (sym q)

    pub missed_run : is_some (extent_at G d w.log 0) ≡ false → (n : ℕ) → LogRun G t w d (extended G t w d n)
    unfolding extended is_code log_answer ◌and◌
    missed_run h n =
        let a : accepts G d (opening t w.log) ≡ false =
        open_accepts d sane t timed w.log nm.log ∙ and_fails_right (name_is w.log) (is_some (extent_at G d w.log 0)) h in
        let p : cond (eqb o.answer.a 255 and eqb o.answer.h 0) NoFirst (Other o.answer.a o.answer.h) ≡ NoFirst =
        ap (λ (b : Bool). cond b Logged (cond (eqb o.answer.a 255 and eqb o.answer.h 0) NoFirst (Other o.answer.a o.answer.h))) (sym a)
        ∙ open_by d sane t timed w.log nm.log Logged (λ x y. cond (eqb x 255 and eqb y 0) NoFirst (Other x y)) ∙ rw (name, h) in
        rw (a, p) (stayed (rw (name, some, h)) refl restamped)
