-- The second half of a run, whatever the log.
use Rattle.std.specs.Prelude.{◌≡◌, Bool, is_some}
use Rattle.std.proofs.Math.Path.{refl, ap, sym}
use Rattle.std.proofs.Common.{◌∙◌}
use Rattle.std.proofs.Math.Bool.{true, false, cond, not}
use Prim.Native.Nat.{ℕ, ◌*◌, ◌<◌}
use native.Mathlib.Omega.{arith}
use Rattle.std.proofs.Math.Dec.{eqb}
use Rattle.lists.specs.Cases.{split, bool_cases}
use Rattle.lists.specs.Tests.{◌and◌, and_both, and_fails_left, and_fails_right}
use Rattle.format.specs.Diskette.{Bytes, Geometry, Sound}
use Rattle.format.specs.Fcb.{random_of_rule}
use Rattle.model.specs.Kinds.{kind_of}
use Rattle.model.specs.Lent.{Outcome}
use Rattle.demands.specs.Runs.{Disk, outcome_of, left, accepts}
use Rattle.stored.specs.Closed.{Sane, Restamped}
use Rattle.stored.specs.Restamped.{sane_restamped}
use Rattle.stored.specs.Quiet.{quiet_same}
use Rattle.stored.specs.Looking.{size_told}
use Rattle.picking.specs.declared.Wanted.{Wanted}
use Rattle.picking.specs.declared.Time.{Time}
use Rattle.picking.specs.declared.Pick.TheVariants.{Logged, Other}
use Rattle.picking.specs.Picker.{fcb_of_rule, blank, call_at, is_code, sizing, begun, extended, logged}
use Rattle.once.specs.Bytes.{Named, begins_fcb_of}
use Rattle.once.specs.Calls.{Timed, size_by, size_accepts}
use Rattle.once.specs.Logs.{LogAccess, LogRun, stayed, run_before}
use Rattle.once.proofs.Logs.{found_run, missed_run}
use Rattle.once.specs.Same.{entry_same, size_same}
use Rattle.once.specs.Table.{name_is, has_entry, extent_at, size_is, log_answer}
use Rattle.once.specs.Begun.{begun_run}

module _ {G : Geometry} (S : Sound G) (countable : G.per_block * G.blocks < 16777216) (t : Time) (timed : Timed t) (w : Wanted) (nm : Named w) where
  abbrev log : Bytes
  log = fcb_of_rule w.log

  -- ---- the second half of a run
  module _ (d : Disk) (sane : Sane G d) where
    abbrev sized : Outcome
    sized = outcome_of G d (sizing t w.log)

    asked_size : Restamped G (LogAccess G t w d) d (left sized)
    unfolding kind_of
    asked_size = quiet_same G (LogAccess G t w d) d (sizing t w.log) refl (λ z. omega arith)

    sane_sized : Sane G (left sized)
    sane_sized = sane_restamped S (LogAccess G t w d) d (left sized) sane asked_size

    size_coded : {A : Type 0} (not_so : ℕ → ℕ → A) (b : A) → accepts G d (sizing t w.log) ≡ false
        → not_so sized.answer.a sized.answer.h ≡ cond (not (name_is w.log)) (not_so 255 9) (cond (not (has_entry G d w.log)) (not_so 255 0) b)
    size_coded not_so b a =
        ap (λ (x : Bool). cond x b (not_so sized.answer.a sized.answer.h)) (sym a) ∙ size_by d sane t timed w.log nm.log b not_so

    told_size : accepts G d (sizing t w.log) ≡ true → random_of_rule sized.lent.fcb ≡ size_is G d w.log
    unfolding size_is
    told_size a = size_told G d sane log (begins_fcb_of w.log nm.log).long (call_at t 0) blank a

    -- it has entries
    there_run : name_is w.log ≡ true → has_entry G d w.log ≡ true → LogRun G t w d (logged G t w d)
    unfolding logged
    there_run name some =
        let a : accepts G d (sizing t w.log) ≡ true = size_accepts d sane t timed w.log nm.log ∙ and_both _ _ name some in
        let some' : has_entry G (left sized) w.log ≡ true = entry_same S (LogAccess G t w d) d (left sized) sane asked_size w.log ∙ some in
        rw (a, size_is_law a)
        (run_before S t timed w nm d (left sized) sane asked_size (extended G t w (left sized) (size_is G (left sized) w.log))
        (split (bool_cases (is_some (extent_at G (left sized) w.log 0)))
        (λ h. found_run S t timed w nm (left sized) sane_sized name some' h)
        (λ h. missed_run S t timed w nm (left sized) sane_sized name some' h (size_is G (left sized) w.log))))
      where
        size_is_law : accepts G d (sizing t w.log) ≡ true → random_of_rule sized.lent.fcb ≡ size_is G (left sized) w.log
        size_is_law a = told_size a ∙ sym (size_same S (LogAccess G t w d) d (left sized) sane asked_size w.log)

    -- it has none
    missing_run : name_is w.log ≡ true → has_entry G d w.log ≡ false → LogRun G t w d (logged G t w d)
    unfolding logged is_code ◌and◌
    missing_run name none =
        let a : accepts G d (sizing t w.log) ≡ false =
        size_accepts d sane t timed w.log nm.log ∙ and_fails_right (name_is w.log) (has_entry G d w.log) none in
        let c : (eqb sized.answer.a 255 and eqb sized.answer.h 0) ≡ true = size_coded (λ x y. eqb x 255 and eqb y 0) true a ∙ rw (name, none) in
        rw (a, c)
        (run_before S t timed w nm d (left sized) sane asked_size (begun G t w (left sized))
        (begun_run S countable t timed w nm (left sized) sane_sized name (entry_same S (LogAccess G t w d) d (left sized) sane asked_size w.log ∙ none)))

    -- its name is none
    unnamed_run : name_is w.log ≡ false → LogRun G t w d (logged G t w d)
    unfolding logged is_code log_answer ◌and◌
    unnamed_run name =
        let a : accepts G d (sizing t w.log) ≡ false =
        size_accepts d sane t timed w.log nm.log ∙ and_fails_left (name_is w.log) (has_entry G d w.log) name in
        let c : (eqb sized.answer.a 255 and eqb sized.answer.h 0) ≡ false = size_coded (λ x y. eqb x 255 and eqb y 0) true a ∙ rw name in
        let p : Other sized.answer.a sized.answer.h ≡ Other 255 9 = size_coded (λ x y. Other x y) Logged a ∙ rw name in
        rw (a, c, p) (stayed (rw name) refl asked_size)

    pub log_run : LogRun G t w d (logged G t w d)
    log_run =
        split (bool_cases (name_is w.log))
        (λ name. split (bool_cases (has_entry G d w.log)) (λ some. there_run name some) (λ none. missing_run name none))
        (λ name. unnamed_run name)
