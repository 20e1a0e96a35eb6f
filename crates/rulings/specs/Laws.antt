-- The rulings by what the look-ups have found: one law for each way in which a record call is told what to do.
use Rattle.std.specs.Prelude.{◌≡◌, refl, List, leb, None, Option, Some, Err, Ok, Result, is_some}
use Rattle.std.proofs.Math.Path.{sym, ap}
use Rattle.std.proofs.Common.{◌∙◌}
use Rattle.std.proofs.Math.Bool.{Bool, true, false, not, cond}
use Prim.Native.Nat.{ℕ, ◌≤◌, ◌<◌}
use Rattle.std.proofs.Math.Dec.{eqb, ltb}
use borrow.Author.Tests.{eq-eqb, ne_eqb, lt-ltb, le-ltb, not-true}
use Rattle.lists.specs.Cases.{split, bool_cases, not_both}
use Rattle.lists.specs.Tests.{and_right, and_fails_left, and_fails_right, and_both, or_left, or_then}
use Rattle.format.specs.Diskette.{Bytes, Geometry, extents}
use Rattle.format.specs.Entries.{Rows, run_of, read_only, find_empty_rule}
use Rattle.format.specs.Notes.{find_free}
use Rattle.format.specs.Fcb.{current}
use Rattle.facts.specs.Found.{found_cases, found_row, missed_row}
use Rattle.facts.specs.Find.{found_own}
use Rattle.facts.specs.Counts.{count_there_law, fcb_count_there}
use Rattle.model.specs.declared.Code.{Code}
use Rattle.model.specs.declared.Code.TheVariants.{BadRecord, NotCurrent, ReadOnly, NoExtent, NoRecord, NoEntry, DiskFull}
use Rattle.model.specs.declared.Plan.{Plan}
use Rattle.model.specs.declared.Plan.TheVariants.{Make}
use Rattle.model.specs.Lent.{Lent, rows_of}
use Rattle.model.specs.Target.{target_extent, target_record, target_slot, present_entry, stays, within, target_entry, block_there, count_there, record_there, target_block, read_only_in, read_only_there, plan_from, plan}
use Rattle.model.specs.declared.Kind.TheVariants.{Write}
use Rattle.model.specs.Kinds.{kind_of, same}
use Rattle.model.specs.Table.{Row, when, first_row}
use Rattle.facts.specs.Current.{current_says}
use Rattle.current.specs.Current.{fcb_says}
use Rattle.fields.specs.Target.{record_below}
use Rattle.fields.specs.OneExtent.{within_extent, within_stays}
use Rattle.table.specs.First.{◌&◌, NoneHolds, Decides, here, later, first_passes, none_passed, decides_refused}
use Rattle.table.specs.Present.{stays_within, same_entry, other_entry, make_beyond, make_block}
use Rattle.targets.specs.declared.Target.{Target}
use Rattle.targets.specs.Target.{TargetOf, over_last_rule, missing_code, arrived_slot_rule, arrived_count_rule, go_to_rule}
use Rattle.rulings.specs.Ruling.{ruling_of, read_rows, write_rows, ruling_rows, ruling, read_to_rule, read_from, guarded, block_for_rule, with_block, write_new_rule, write_to_rule, write_from}

-- ---- the ruling of a list of rows
refuses : (c : Code) (rows : List Row) (p : Plan) → Decides c rows → ruling_of (first_row rows) p ≡ Err c
refuses c rows p d = rw (decides_refused c rows d)

follows : (rows : List Row) (p q : Plan) → NoneHolds rows → p ≡ q → ruling_of (first_row rows) p ≡ Ok q
follows rows p q none h = rw (none_passed rows none, h)

module _ (G : Geometry) (n user : ℕ) (l : Lent) (e : ℕ) (at : present_entry G user l ≡ Some e) where
  -- ---- the FCB's entry e and the target's t are one exactly where the target lies within it
  within_by : (t : ℕ) → target_entry G n user l ≡ Some t → within G n l.fcb ≡ eqb t e
  within_by t target =
      split (bool_cases (within G n l.fcb)) (λ w. w ∙ sym (eq-eqb t e (same_entry G n user l e at t target w)))
      (λ w. w ∙ sym (ne_eqb t e (other_entry G n user l e at t target w)))

  module _ (t : ℕ) (target : target_entry G n user l ≡ Some t) where
    block_by : block_there G n user l ≡ arrived_slot_rule G (rows_of G l) l.fcb e t (target_slot G n l.fcb)
    unfolding block_there arrived_slot_rule
    block_by = rw (within_by t target, target)

    -- where an entry covers one extent, each carries the count of its own, and a move is one to another entry
    module _ (single : (x : ℕ) → run_of G x ≡ x) where
      count_by : count_there G n user l ≡ arrived_count_rule (rows_of G l) l.fcb e t
      unfolding count_there arrived_count_rule target_entry
      count_by =
          let ext : ℕ = target_extent n l.fcb in
          let there = count_there_law (rows_of G l t) ext (sym (found_own G (rows_of G l) user l.fcb 1 ext single t target)) in
          split (bool_cases (within G n l.fcb))
          (λ w. rw (w, sym (within_by t target) ∙ w, target, there, fcb_count_there l.fcb ext (within_extent G single n l.fcb w)))
          (λ w. rw (w, sym (within_by t target) ∙ w, target, there))

      plan_by : (b : ℕ) → target_block G n user l ≡ b → plan G n user l ≡ go_to_rule e t b
      unfolding plan plan_from go_to_rule
      plan_by b q = rw (at, sym (within_stays G single n l.fcb) ∙ within_by t target, target, q)

  plan_new : (t b : ℕ) → target_entry G n user l ≡ None → find_empty_rule G (rows_of G l) ≡ Some t → target_block G n user l ≡ b → plan G n user l ≡ Make e t b
  unfolding plan plan_from
  plan_new t b none m q = rw (at, moves, none, m, q)
    where
      moves : stays n l.fcb ≡ false
      moves =
          split (bool_cases (stays n l.fcb))
          (λ y. absurd (not_both _ (stays_within G n user l y) (make_beyond G n user l e at none))) (λ f. f)

-- ---- the target's block
module _ (G : Geometry) (n user : ℕ) (l : Lent) where
  block_there_law : eqb (block_there G n user l) 0 ≡ false → target_block G n user l ≡ block_there G n user l
  unfolding target_block
  block_there_law z = rw z

  block_free : (b : ℕ) → eqb (block_there G n user l) 0 ≡ true → find_free G l.drive.map ≡ Some b → target_block G n user l ≡ b
  unfolding target_block
  block_free b z q = rw (z, q)

-- ---- the rows that the four calls share
module _ (G : Geometry) (n user : ℕ) (l : Lent) where
  pub rule_over : over_last_rule n (target_extent n l.fcb) ≡ true → ruling G n user l ≡ Err BadRecord
  unfolding ruling ruling_rows
  rule_over h = refuses BadRecord _ _ (here h refl)

  module _ (in_range : over_last_rule n (target_extent n l.fcb) ≡ false) where
    pub rule_stale : present_entry G user l ≡ None → ruling G n user l ≡ Err NotCurrent
    unfolding ruling ruling_rows
    rule_stale q = refuses NotCurrent _ _ (later in_range (here (missed_row _ q) refl))

    -- past them, those of a read or of a write decide
    past : (e : ℕ) → present_entry G user l ≡ Some e → (w : Bool) → same (kind_of n) Write ≡ w
        → ruling G n user l ≡ ruling_of (first_row (cond w (write_rows G n user l) (read_rows G n user l))) (plan G n user l)
    unfolding ruling ruling_rows
    past e at w q =
        ap (λ (v : Option Code). ruling_of v (plan G n user l))
        (first_passes (when (over_last_rule n (target_extent n l.fcb)) BadRecord) _ in_range
        ∙ first_passes (when (not (is_some (present_entry G user l))) NotCurrent) _ (found_row _ at)
        ∙ ap (λ (b : Bool). first_row (cond b (write_rows G n user l) (read_rows G n user l))) q)

-- ---- 20 and 33
module _ (G : Geometry) (n user : ℕ) (l : Lent) (e : ℕ) (at : present_entry G user l ≡ Some e) (single : (x : ℕ) → run_of G x ≡ x) where
  abbrev read_told : Result Plan Code
  read_told = ruling_of (first_row (read_rows G n user l)) (plan G n user l)

  read_missing : target_entry G n user l ≡ None → read_told ≡ Err (missing_code n NoExtent)
  unfolding read_rows
  read_missing q = refuses (missing_code n NoExtent) _ _ (here (missed_row _ q) refl)

  read_found : (t : ℕ) → target_entry G n user l ≡ Some t → read_told ≡ read_to_rule G (rows_of G l) l.fcb e t (target_slot G n l.fcb) (target_record n l.fcb)
  unfolding read_rows read_to_rule record_there
  read_found t q =
      let chosen : Bool → Result Plan Code = λ (x : Bool). cond x (Ok (go_to_rule e t (block_there G n user l))) (Err NoRecord) in
      rw (← block_by G n user l e at t q, ← count_by G n user l e at t q single)
      (split (bool_cases (record_there G n user l))
      (λ y. follows _ _ _ (found_row _ q & ap not y & tt)
      (plan_by G n user l e at t q single (block_there G n user l) (block_there_law G n user l (not-true _ (and_right _ _ y)))) ∙ sym (ap chosen y))
      (λ f. refuses NoRecord _ _ (later (found_row _ q) (here (ap not f) refl)) ∙ sym (ap chosen f)))

  pub rule_read : over_last_rule n (target_extent n l.fcb) ≡ false → same (kind_of n) Write ≡ false
      → ruling G n user l ≡ read_from G (rows_of G l) l.fcb n e (target_slot G n l.fcb) (target_record n l.fcb) (target_entry G n user l)
  rule_read in_range w = past G n user l in_range e at false w ∙ found_cases (target_entry G n user l) (λ t q. read_found t q ∙ rw q) (λ q. read_missing q ∙ rw q)

  -- ---- 21 and 34
  abbrev write_told : Result Plan Code
  write_told = ruling_of (first_row (write_rows G n user l)) (plan G n user l)

  guarded_is : read_only_there G n user l ≡ guarded (rows_of G l) e (target_entry G n user l)
  unfolding read_only_there guarded
  guarded_is = rw at (found_cases (target_entry G n user l) (λ t q. rw q) (λ q. rw q))

  write_guarded : read_only_there G n user l ≡ true → write_told ≡ Err ReadOnly
  unfolding write_rows
  write_guarded h = refuses ReadOnly _ _ (here h refl)

  module _ (writable : read_only_there G n user l ≡ false) where
    write_past : leb extents (target_extent n l.fcb) ≡ true → write_told ≡ Err NoRecord
    unfolding write_rows
    write_past h = refuses NoRecord _ _ (later writable (here h refl))

    module _ (below : leb extents (target_extent n l.fcb) ≡ false) where
      -- the rows that are left are those of the entry and of the block
      write_there : (t : ℕ) → target_entry G n user l ≡ Some t
          → write_told ≡ with_block (go_to_rule e t) (block_for_rule G l.drive.map (arrived_slot_rule G (rows_of G l) l.fcb e t (target_slot G n l.fcb)))
      unfolding write_rows block_for_rule
      write_there t q =
          let block : Option ℕ → Result Plan Code = with_block (go_to_rule e t) in
          rw (← block_by G n user l e at t q)
          (split (bool_cases (eqb (block_there G n user l) 0))
          (λ z. let want : block_for_rule G l.drive.map (block_there G n user l) ≡ find_free G l.drive.map = rw z in
          found_cases (find_free G l.drive.map)
          (λ b f. follows _ _ _ (writable & below & and_fails_left _ _ (found_row _ q) & and_fails_right _ _ (found_row _ f) & tt)
          (plan_by G n user l e at t q single b (block_free G n user l b z f)) ∙ sym (ap block (want ∙ f)))
          (λ f. refuses DiskFull _ _
          (later writable (later below (later (and_fails_left _ _ (found_row _ q)) (here (and_both _ _ z (missed_row _ f)) refl)))) ∙ sym (ap block (want ∙ f))))
          (λ z. let kept : block_for_rule G l.drive.map (block_there G n user l) ≡ Some (block_there G n user l) = rw z in
          follows _ _ _ (writable & below & and_fails_left _ _ (found_row _ q) & and_fails_left _ _ z & tt)
          (plan_by G n user l e at t q single (block_there G n user l) (block_there_law G n user l z)) ∙ sym (ap block kept)))

      write_made : target_entry G n user l ≡ None → write_told ≡ write_new_rule G (rows_of G l) l.drive.map (missing_code n NoEntry) e
      unfolding write_rows write_new_rule
      write_made q =
          let z : eqb (block_there G n user l) 0 ≡ true = eq-eqb _ _ (make_block G n user l e at q) in
          found_cases (find_empty_rule G (rows_of G l))
          (λ t m. found_cases (find_free G l.drive.map)
          (λ b f. follows _ _ _ (writable & below & and_fails_right _ _ (found_row _ m) & and_fails_right _ _ (found_row _ f) & tt)
          (plan_new G n user l e at t b q m (block_free G n user l b z f)) ∙ sym (rw (m, f)))
          (λ f. refuses DiskFull _ _
          (later writable (later below (later (and_fails_right _ _ (found_row _ m)) (here (and_both _ _ z (missed_row _ f)) refl)))) ∙ sym (rw (m, f))))
          (λ m. refuses (missing_code n NoEntry) _ _ (later writable (later below (here (and_both _ _ (missed_row _ q) (missed_row _ m)) refl))) ∙ sym (rw m))

      write_found : write_told ≡ write_to_rule G (rows_of G l) l.drive.map l.fcb (missing_code n NoEntry) e (target_slot G n l.fcb) (target_entry G n user l)
      write_found = found_cases (target_entry G n user l) (λ t q. write_there t q ∙ rw q) (λ q. write_made q ∙ rw q)

  pub rule_write : over_last_rule n (target_extent n l.fcb) ≡ false → same (kind_of n) Write ≡ true
      → ruling G n user l
      ≡ write_from G (rows_of G l) l.drive.map l.fcb n e (target_slot G n l.fcb) (target_extent n l.fcb) (target_entry G n user l)
  unfolding write_from
  rule_write in_range w =
      past G n user l in_range e at true w ∙ rw (← guarded_is)
      (split (bool_cases (read_only_there G n user l)) (λ g. write_guarded g ∙ sym (rw g))
      (λ g. split (bool_cases (leb extents (target_extent n l.fcb))) (λ b. write_past g b ∙ sym (rw (g, b))) (λ b. write_found g b ∙ sym (rw (g, b)))))

-- ---- what code needs of the FCB's entry before it goes on
-- the target's record is one of an extent's
pub target_low : (G : Geometry) (d : Rows) (map : Bytes) (user : ℕ) (fcb : Bytes) (e n : ℕ) (t : Target)
    → current G d map user fcb ≡ Some e → TargetOf n fcb t → t.at < 128
target_low G d map user fcb e n t q is = rw is.at (record_below n fcb (fcb_says fcb (current_says G d map user fcb e q).right).cr)

-- ---- the parts, from what the callees have answered
module _ (G : Geometry) (d : Rows) (fcb : Bytes) (e t j r : ℕ) where
  pub read_short : (x : ℕ) → x ≡ arrived_count_rule d fcb e t → x ≤ r → Err NoRecord ≡ read_to_rule G d fcb e t j r
  unfolding read_to_rule
  read_short x q h =
      let f : ltb r (arrived_count_rule d fcb e t) ≡ false = rw (← q) (le-ltb r x h) in
      sym (ap (λ (b : Bool). cond b (Ok (go_to_rule e t (arrived_slot_rule G d fcb e t j))) (Err NoRecord)) (and_fails_left _ _ f))

  pub read_empty : (b : ℕ) → b ≡ arrived_slot_rule G d fcb e t j → b ≡ 0 → Err NoRecord ≡ read_to_rule G d fcb e t j r
  unfolding read_to_rule
  read_empty b q h =
      sym (ap (λ (b : Bool). cond b (Ok (go_to_rule e t (arrived_slot_rule G d fcb e t j))) (Err NoRecord)) (and_fails_right _ _ (ap not (eq-eqb _ _ (sym q ∙ h)))))

  pub read_there : (x b : ℕ) (p : Plan) → x ≡ arrived_count_rule d fcb e t → r < x → b ≡ arrived_slot_rule G d fcb e t j → (b ≡ 0 → ⊥)
      → p ≡ go_to_rule e t b → Ok p ≡ read_to_rule G d fcb e t j r
  unfolding read_to_rule
  read_there x b p q h s real is =
      let y : ltb r (arrived_count_rule d fcb e t) ≡ true = rw (← q) (lt-ltb r x h) in
      ap Ok (is ∙ ap (go_to_rule e t) s)
      ∙ sym (ap (λ (b : Bool). cond b (Ok (go_to_rule e t (arrived_slot_rule G d fcb e t j))) (Err NoRecord))
      (and_both _ _ y (ap not (ne_eqb _ _ (λ z. real (s ∙ z))))))

module _ (d : Rows) (e : ℕ) (target : Option ℕ) where
  pub guarded_here : read_only (d e) ≡ true → guarded d e target ≡ true
  unfolding guarded
  guarded_here h = or_left _ _ h

  pub guarded_there : (r : Option ℕ) → read_only (d e) ≡ false → target ≡ r → guarded d e target ≡ read_only_in d r
  unfolding guarded
  guarded_there r h q = or_then _ _ h ∙ ap (read_only_in d) q
