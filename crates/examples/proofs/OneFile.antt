-- A disk with one entry: entry 0 of an erased disk is an extent of user 0's file A, with its rc, and lists one block.
use Rattle.std.specs.Prelude.{◌≡◌, ◌⊎◌, true, ℕ, ◌+◌, ◌*◌, ◌≤◌, ◌<◌, get_or}
use Rattle.std.proofs.Math.Path.{ap}
use Rattle.std.proofs.Common.{sym, ◌∙◌, inl, inr}
use Rattle.std.proofs.Math.Bool.{false}
use native.Mathlib.Omega.{arith}
use borrow.Author.Tests.{eqb-true, le-leb}
use Rattle.lists.specs.Cases.{split, eq_or_ne, bool_cases, not_both}
use Rattle.lists.specs.Tests.{and_left, and_fails_right}
use Rattle.lists.specs.Splice.{splice}
use Rattle.format.specs.Diskette.{Bytes, eight_inch, Long}
use Rattle.format.specs.Entries.{Rows, entry_at, slot_of, user_of, rc_of, count_of, empty, used, end_of, named}
use Rattle.format.specs.Dates.{is_dates}
use Rattle.format.specs.Consistent.{consistent}
use Rattle.format.specs.Notes.{is_listed, fresh_map, free_count_rule}
use Rattle.disk.specs.Eight.{eight_sound}
use Rattle.facts.specs.Long.{long_on}
use Rattle.rows.specs.Entries.{length_with_entry, entry_stored, entry_left}
use Rattle.consistency.specs.Facts.{Stands, Consistent}
use Rattle.consistency.specs.Listed.{somewhere_listed, listed_somewhere}
use Rattle.consistency.specs.Reflect.{facts_image}
use Rattle.model.specs.declared.Session.{Session}
use Rattle.model.specs.Table.{time_right_rule}
use Rattle.model.specs.Lent.{Lent, lend, rows_of, ended}
use Rattle.model.specs.Entering.{three_bytes}
use Rattle.model.specs.Calls.{done, file_size_rule}
use Rattle.model.specs.Step.{step}
use Rattle.fields.specs.Erased.{ErasedDisk, erased_empty, erased_unused}
use Rattle.fields.specs.Size.{size_covers, size_high}
use Rattle.invariant.specs.Carry.{plain_no_dates, plain_no_label}
use Rattle.table.specs.Facts.{Ready}
use Rattle.table.specs.Own.{calling}
use Rattle.model.specs.declared.Asked.{Asked}
use Rattle.examples.specs.Erased.{Fitting, fresh_count, logged_ready}
use Rattle.examples.specs.Numbers.{size_step, HasEntry, some_entry}
use Rattle.examples.specs.OneFile.{Entry, InRange, file_slots, file_row, one_file_rule, file_fcb, drive_low, fcb_name, length_file, file_used, file_slot, slot_first, file_asked, file_extent, file_rc, file_fine}

module _ (img : Bytes) (erased : ErasedDisk eight_inch img) (f : Entry) (range : InRange f) where
  rows : Rows
  rows = entry_at eight_inch (one_file_rule img f)

  pub one_long : Long eight_inch (one_file_rule img f)
  unfolding one_file_rule
  one_long = long_on eight_inch (length_with_entry eight_sound img erased.long 0 (omega arith) (file_row f) (length_file f)) erased.long

  one_row : rows 0 ≡ file_row f
  unfolding rows one_file_rule
  one_row = entry_stored eight_sound img erased.long 0 (omega arith) (file_row f) (length_file f)

  one_left : (e : ℕ) → e < 64 → (e ≡ 0 → ⊥) → rows e ≡ entry_at eight_inch img e
  unfolding rows one_file_rule
  one_left e h ne = entry_left eight_sound img erased.long 0 (omega arith) (file_row f) (length_file f) e h (λ q. ne (sym q))

  pub one_rc : rc_of (entry_at eight_inch (one_file_rule img f) 0) ≡ f.rc
  unfolding rows
  one_rc = rw one_row (file_rc f)

  -- no other entry is used
  only : (e : ℕ) → e < 64 → used (rows e) ≡ true → e ≡ 0
  only e h u =
      split (eq_or_ne e 0) (λ q. q)
      (λ q. not_both _ (ap used (sym (one_left e h q)) ∙ u) (erased_unused eight_inch img erased e h))

  -- and no other slot lists a block
  only_slot : (b e j : ℕ) → Stands eight_inch rows b e j → (e ≡ 0) × (j ≡ 0) × (b ≡ f.block)
  only_slot b e j s =
      let q : e ≡ 0 = only e s.entry s.uses in
      let is : slot_of eight_inch (file_row f) j ≡ b = ap (λ (x : Bytes). slot_of eight_inch x j) (sym (ap rows q ∙ one_row)) ∙ s.is in
      let at : get_or (file_slots f) j 0 ≡ b = sym (file_slot f j) ∙ is in
      let z : j ≡ 0 = slot_first f j s.place (λ w. s.real (sym at ∙ w)) in
      (q, z, sym at ∙ rw z)

  pub one_only : (e : ℕ) → e < 64 → used (entry_at eight_inch (one_file_rule img f) e) ≡ true → e ≡ 0
  unfolding rows
  one_only = only

  pub one_uses : used (entry_at eight_inch (one_file_rule img f) 0) ≡ true
  unfolding rows
  one_uses = rw one_row (file_used f)

  -- an entry is file A's or empty
  plain : (e : ℕ) → e < 64 → (used (rows e) ≡ true) ⊎ (empty (rows e) ≡ true)
  plain e h = split (eq_or_ne e 0) (λ q. inl (ap used (ap rows q ∙ one_row) ∙ file_used f)) (λ q. inr (ap empty (one_left e h q) ∙ erased_empty eight_inch img erased e h))

  no_dates : (e : ℕ) → e < 64 → is_dates (rows e) ≡ false
  no_dates e h = plain_no_dates (rows e) (plain e h)

  one_facts : Consistent eight_inch rows
  one_facts = record {
    fine = λ e h u. let q : e ≡ 0 = only e h u in rw (q, one_row) (file_fine f range);
    other = λ e h u z. split (plain e h) (λ w. not_both _ w u) (λ w. not_both _ w z);
    dates = λ e h. no_dates e h ∙ sym (and_fails_right _ _ (no_dates 3 (omega arith)));
    label = λ e g h l p q. not_both _ p (plain_no_label (rows e) (plain e h));
    once_entry = λ b e j g k s t. (only_slot b e j s).0 ∙ sym (only_slot b g k t).0;
    once_slot = λ b e j g k s t. (only_slot b e j s).1 ∙ sym (only_slot b g k t).1;
    apart = λ e g h l u v s. only e h u ∙ sym (only g l v);
  }

  pub one_consistent : consistent eight_inch (one_file_rule img f) ≡ true
  unfolding rows
  one_consistent = facts_image eight_inch (one_file_rule img f) one_facts

  its_listed : is_listed eight_inch rows f.block ≡ true
  its_listed =
      let low = range.low in
      somewhere_listed eight_inch rows f.block 0 0 record {
        entry = omega arith;
        place = omega arith;
        uses = rw one_row (file_used f);
        is = rw one_row (file_slot f 0);
        real = λ z. omega arith;
      }

  pub rest_unlisted : (b : ℕ) → 2 ≤ b → (b ≡ f.block → ⊥) → is_listed eight_inch (entry_at eight_inch (one_file_rule img f)) b ≡ false
  unfolding rows
  rest_unlisted b h other =
      split (bool_cases (is_listed eight_inch rows b))
      (λ t. let s = listed_somewhere eight_inch rows b (λ z. omega arith) t in absurd (other (only_slot b s.e s.j s.stands).2))
      (λ n. n)

  -- where it lists the first block past the directory, 240 are free after a log-in
  pub one_count : f.block ≡ 2 → free_count_rule eight_inch (fresh_map eight_inch (entry_at eight_inch (one_file_rule img f))) ≡ 240
  unfolding rows
  one_count two =
      fresh_count eight_inch rows 3 (omega arith) (omega arith)
      (λ b h l. let q : b ≡ f.block = omega arith in rw q its_listed) (λ b h. rest_unlisted b (omega arith) (λ q. omega arith))

  -- ---- the size of file A, by 35
  only_named : (e : ℕ) → e < 64 → named false 0 file_fcb 1 (rows e) ≡ true → e ≡ 0
  unfolding named used
  only_named e h t = let q : user_of (rows e) ≡ 0 = eqb-true _ _ (and_left _ _ t) in only e h (le-leb (user_of (rows e)) 15 (omega arith))

  one_mine : named false 0 file_fcb 1 (rows 0) ≡ true
  one_mine = rw one_row (file_asked f)

  one_size : file_size_rule eight_inch rows (named false 0 file_fcb 1) ≡ 128 * f.extent + count_of (file_row f)
  unfolding end_of
  one_size =
      let is : end_of (rows 0) ≡ 128 * f.extent + count_of (file_row f) = rw (one_row, file_extent f) in
      let least = size_covers eight_inch rows (named false 0 file_fcb 1) 0 (omega arith) one_mine in
      let most = size_high eight_inch rows (named false 0 file_fcb 1) (128 * f.extent + count_of (file_row f)) (λ e h t. let q : e ≡ 0 = only_named e h t in rw q (omega arith)) in
      omega arith

  -- file A after a log-in, with what fits
  module _ (map buffer : Bytes) (s : Session) (zero-user : s.user ≡ 0) (fit : Fitting eight_inch map file_fcb buffer s) (x : Asked)
      (time : time_right_rule x ≡ true) where
    abbrev pub one_lent : Lent
    one_lent = lend (one_file_rule img f) (fresh_map eight_inch (entry_at eight_inch (one_file_rule img f))) file_fcb buffer

    pub one_ready : Ready eight_inch (calling 35 x) one_lent (ended s)
    unfolding time_right_rule
    one_ready = logged_ready eight_inch (one_file_rule img f) one_long one_consistent map file_fcb buffer s fit (calling 35 x) time (λ u. drive_low)

    pub one_entry : HasEntry eight_inch one_lent (ended s) f.extent (count_of (file_row f))
    unfolding rows
    one_entry = record { entry = 0; below = omega arith; mine = rw zero-user one_mine; extent = rw one_row (file_extent f); counted = rw one_row }

    pub one_sized : step eight_inch (calling 35 x) one_lent (ended s)
        ≡ done 0 s (lend (one_file_rule img f) one_lent.drive.map (splice file_fcb 33 (three_bytes (128 * f.extent + count_of (file_row f)))) buffer)
    unfolding rows
    one_sized =
        let size : file_size_rule eight_inch (rows_of eight_inch one_lent) (named false s.user file_fcb 1) ≡ 128 * f.extent + count_of (file_row f) = rw zero-user one_size in
        size_step eight_inch x one_lent (ended s) one_ready record { name = fcb_name; some = some_entry eight_inch one_lent (ended s) f.extent (count_of (file_row f)) one_entry }
        ∙ ap (λ (k : ℕ). done 0 s (lend (one_file_rule img f) one_lent.drive.map (splice file_fcb 33 (three_bytes k)) buffer)) size
