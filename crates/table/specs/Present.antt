-- The target's entry and block, by whether the FCB's entry covers its extent; and a record that is there has an entry for its extent, below
-- extent 2,048.
use Rattle.std.specs.Prelude.{◌≡◌, refl, false, ℕ, ◌/◌, ◌≤◌, ◌<◌, None, Option, Some}
use Rattle.std.proofs.Common.{sym, ◌∙◌, arith}
use Rattle.std.proofs.Math.Path.{ap}
use Rattle.std.proofs.Math.Bool.{true}
use Rattle.std.proofs.Math.Dec.{ltb}
use borrow.Author.Tests.{eqb-true, eqb-false, eq-eqb, leb-true, ltb-true}
use Rattle.lists.specs.Cases.{split, bool_cases}
use Rattle.lists.specs.Tests.{and_left, and_right}
use Rattle.lists.specs.Below.{all_at}
use Rattle.format.specs.Diskette.{Bytes, Geometry, extents}
use Rattle.format.specs.Entries.{entry_at, user_of, ex_of, s2_of, slot_of, extent_of, run_of, covers, find_file_rule}
use Rattle.format.specs.Consistent.{extent_right_rule, entry_right, consistent_rows, consistent}
use Rattle.facts.specs.Found.{FoundAt, at_once, at_not_nothing}
use Rattle.facts.specs.Find.{file_says, find_run}
use Rattle.facts.specs.Naming.{run_s2, file_user, file_run}
use Rattle.consistency.specs.Reflect.{low_used, numbers_intro, fine_elim}
use Rattle.facts.specs.Current.{current_says}
use Rattle.model.specs.Lent.{Lent, rows_of}
use Rattle.model.specs.Target.{target_extent, target_record, target_slot, present_entry, stays, within, target_entry, block_there, count_at, count_there, record_there}

-- a row that is right and whose byte 0 is a user has ex and s2 in range
pub user_numbers : (G : Geometry) (r : Bytes) → entry_right G r ≡ true → user_of r ≤ 15 → extent_right_rule r ≡ true
user_numbers G r h low = numbers_intro r (fine_elim G r (low_used r low) h).numbers

pub numbers_extent : (r : Bytes) → extent_right_rule r ≡ true → extent_of r < extents
unfolding extent_of
numbers_extent r h =
    let x : ex_of r ≤ 31 = leb-true _ _ (and_left _ _ h) in
    let y : s2_of r ≤ 63 = leb-true _ _ (and_right _ _ h) in omega arith

pub file_extent_below : (G : Geometry) (img : Bytes) (user : ℕ) (s : Bytes) (q ext e : ℕ) → consistent G img ≡ true → user ≤ 15
    → find_file_rule G (entry_at G img) user s q ext ≡ Some e → ext < extents
unfolding consistent consistent_rows
file_extent_below G img user s q ext e right low at =
    let first = file_says G (entry_at G img) user s q ext e at in
    let is : extent_of (entry_at G img e) / 32 ≡ ext / 32 = run_s2 G (extent_of (entry_at G img e)) ext (file_run G user s q ext (entry_at G img e) first.holds) in
    let mine : user_of (entry_at G img e) ≡ user = file_user G user s q ext (entry_at G img e) first.holds in
    let fine = user_numbers G (entry_at G img e) (all_at _ G.entries (and_left _ _ right) e first.below) (omega arith) in
    omega (arith, numbers_extent (entry_at G img e) fine)

-- ---- the target
module _ (G : Geometry) (n user : ℕ) (l : Lent) where
  -- where there is no move, the target lies within the FCB's entry
  pub stays_within : stays n l.fcb ≡ true → within G n l.fcb ≡ true
  unfolding stays within covers
  stays_within t =
      let q : target_extent n l.fcb ≡ extent_of l.fcb = eqb-true _ _ t in
      eq-eqb (run_of G (extent_of l.fcb)) (run_of G (target_extent n l.fcb)) (ap (run_of G) (sym q))

  -- where it lies within it, the target's entry is the FCB's
  pub target_present : (e : ℕ) → present_entry G user l ≡ Some e → within G n l.fcb ≡ true → target_entry G n user l ≡ Some e
  unfolding present_entry within covers target_entry
  target_present e at t =
      find_run G (rows_of G l) user l.fcb 1 (target_extent n l.fcb) (extent_of l.fcb) (sym (eqb-true _ _ t))
      ∙ (current_says G (rows_of G l) l.drive.map user l.fcb e at).found

  -- the target's entry is the FCB's where that covers the target's extent, and else another one
  module _ (e : ℕ) (at : present_entry G user l ≡ Some e) (t : ℕ) (target : target_entry G n user l ≡ Some t) where
    pub same_entry : within G n l.fcb ≡ true → t ≡ e
    same_entry w = at_once t e (sym target ∙ target_present e at w)

    pub other_entry : within G n l.fcb ≡ false → t ≡ e → ⊥
    unfolding present_entry within covers target_entry
    other_entry w q =
        let run : (ext k : ℕ) → find_file_rule G (rows_of G l) user l.fcb 1 ext ≡ Some k → run_of G (extent_of (rows_of G l k)) ≡ run_of G ext =
        λ ext k h. file_run G user l.fcb 1 ext (rows_of G l k) (file_says G (rows_of G l) user l.fcb 1 ext k h).holds in
        eqb-false _ _ w
        (sym (run (extent_of l.fcb) e (current_says G (rows_of G l) l.drive.map user l.fcb e at).found) ∙ ap (λ (x : ℕ). run_of G (extent_of (rows_of G l x))) (sym q)
        ∙ run (target_extent n l.fcb) t target)

  -- an extent without an entry is not covered by the FCB's
  pub make_beyond : (e : ℕ) → present_entry G user l ≡ Some e → target_entry G n user l ≡ None → within G n l.fcb ≡ false
  make_beyond e at none =
      split (bool_cases (within G n l.fcb)) (λ t. absurd (at_not_nothing e (sym (target_present e at t) ∙ none))) (λ f. f)

  -- ---- the block that is there, by the plan
  pub within_block : within G n l.fcb ≡ true → block_there G n user l ≡ slot_of G l.fcb (target_slot G n l.fcb)
  unfolding block_there
  within_block t = rw t

  pub stay_block : stays n l.fcb ≡ true → block_there G n user l ≡ slot_of G l.fcb (target_slot G n l.fcb)
  stay_block t = within_block (stays_within t)

  pub beyond_block : (t : ℕ) → within G n l.fcb ≡ false → target_entry G n user l ≡ Some t → block_there G n user l ≡ slot_of G (rows_of G l t) (target_slot G n l.fcb)
  unfolding block_there
  beyond_block t f q = rw (f, q)

  pub make_block : (e : ℕ) → present_entry G user l ≡ Some e → target_entry G n user l ≡ None → block_there G n user l ≡ 0
  unfolding block_there
  make_block e at none = rw (make_beyond e at none, none)

  -- ---- the record that is there
  some_count : (r : Option ℕ) → target_record n l.fcb < count_at G n user l r → FoundAt r
  some_count (Some k) h = record { place = k; is = refl }
  some_count None h = absurd (omega arith)

  -- a record that is there has an entry for its extent
  pub there_target : FoundAt (present_entry G user l) → record_there G n user l ≡ true → FoundAt (target_entry G n user l)
  unfolding record_there count_there
  there_target p t =
      split (bool_cases (within G n l.fcb))
      (λ y. record { place = p.place; is = target_present p.place p.is y })
      (λ y. let h : ltb (target_record n l.fcb) (count_at G n user l (target_entry G n user l)) ≡ true = rw y at (and_left _ _ t) in
      some_count (target_entry G n user l) (ltb-true _ _ h))
