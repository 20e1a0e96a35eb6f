-- The pass over the directory: what is tested at each entry, and what stands after the first n entries.
use Rattle.std.specs.Option.{is_some}
use Rattle.std.specs.Prelude.{◌≡◌, refl, Bool, true, false, not, cond, eqb, get_or, None, Option, Some}
use Rattle.std.proofs.Math.Path.{ap, sym}
use Rattle.std.proofs.Common.{◌∙◌, add-zero, eqb-true, eq-eqb}
use Prim.Native.Nat.{ℕ, zero, suc, ◌+◌, ◌*◌, ◌/◌, ◌%◌, ◌≤◌, ◌<◌}
use native.Mathlib.Omega.{arith}
use Rattle.std.proofs.lemmas.Bool.{eqb-false}
use Rattle.lists.specs.Cases.{split, bool_cases, bool_ext, refute, not_both, clash}
use Rattle.lists.specs.Tests.{◌and◌, and_left, and_right, and_both, and_then, and_assoc, and_first, and_fails_left, and_fails_right, or_left, or_then, or_first}
use Rattle.lists.specs.Below.{all_below, all_none, all_at, all_intro, all_more, all_fails}
use Rattle.format.specs.Diskette.{Bytes, eight_inch, Geometry, Sound, Long, record_at, slot_count, entries_per_record}
use Rattle.format.specs.Entries.{Rows, entry_at, slot_of, empty, used}
use Rattle.format.specs.Dates.{is_label, label_right_rule, dates_right_rule}
use Rattle.format.specs.Consistent.{slots_right, file_right, aside_right, entry_right, slots_in_all, listed_once, alone, dates_placed, label_once, places_right, consistent_rows}
use Rattle.facts.specs.Marks.{mark_count}
use Rattle.facts.specs.Slots.{slot_byte}
use Rattle.rows.specs.Entries.{row_of, row_in_record}
use Rattle.dates.specs.Label.{Labelled, labelled_start, labelled_skip, labelled_take, plain_once, first_once, again_fails}
use Rattle.consistency.specs.Listed.{listed_unused}
use Rattle.consistency.specs.Reflect.{used_full, empty_unused, empty_right, empty_no_label, empty_no_dates, used_no_label, used_no_dates, label_no_dates, dates_no_label, dates_is, aside_right_law, aside_unused, dates_aside, alone_intro, same_used_left}
use Rattle.heads.specs.Head.{fields_right_rule, row_right_rule}
use Rattle.blocks.specs.BlockMarks.{BlockMarks, mark_slots, slots_free, marks_skip, marks_row, slots_right_law}
use Rattle.chains.specs.Chain.{Chained, chained_skip, Indexed}
use Rattle.consistent.specs.declared.Seen.{Seen}
use Rattle.consistent.specs.Dating.{Dating, next_dates, dating_start, dating_skip, dating_take, dating_wrong, dating_none, dating_end}

-- a look-up that has found nothing
missed : (b : Option ℕ) → not (is_some b) ≡ true → b ≡ None
missed None t = refl
missed (Some e) t = clash (sym t)

-- the slots of a row that is an entry's, one byte each, can be taken among the marks
pub slots_low : (d : Rows) (e : ℕ) (r : Bytes) → r ≡ d e → ((i : ℕ) → get_or r i 0 < 256) → (j : ℕ) → j < slot_count → slot_of eight_inch (d e) j < mark_count
slots_low d e r q bytes j h = rw (slot_byte (d e) j h) (rw q at (bytes (16 + j)))

-- entry e passes: it is right, its blocks do not stand before, it is alone, and the first label if it is one
unfoldable pub entry_fits : Geometry → Rows → ℕ → Bool
entry_fits G d e =
    entry_right G (d e) and all_below (λ (j : ℕ). listed_once G d (slot_count * e + j)) slot_count and alone G d e and label_once d e

-- what stands after the first n entries, by what was seen of them
pub record Passed (G : Geometry) (d : Rows) (n : ℕ) (s : Seen) : Type 0 where
  pub fits : all_below (entry_fits G d) n ≡ true
  pub blocks : BlockMarks G d (slot_count * n) s.marks.now
  pub chained : Chained G d n s.chain.now
  pub labelled : Labelled d n s.label
  pub dating : Dating d n s.dates

-- the same, but for the count of the date entries, or for the label
abbrev pub with_dates : Seen → ℕ → Seen
with_dates s k = record { marks = s.marks; chain = s.chain; label = s.label; dates = k }

abbrev pub with_label : Seen → Option ℕ → Seen
with_label s b = record { marks = s.marks; chain = s.chain; label = b; dates = s.dates }

-- whether entry e, whose row is neither empty nor a file's, is a right date entry or the first label, and then what was seen with it
unfoldable pub aside_taken : ℕ → Bytes → Seen → Bool
aside_taken e r s = cond (dates_right_rule r) (eqb e (next_dates s.dates)) (not (is_some s.label) and label_right_rule r)

unfoldable pub aside_after : ℕ → Bytes → Seen → Seen
aside_after e r s = cond (dates_right_rule r) (with_dates s (s.dates + 1)) (with_label s (Some e))

-- ---- the directory is consistent when each entry passes and the date entries stand where they have to
module _ (G : Geometry) (d : Rows) where
  slot_once : all_below (entry_fits G d) G.entries ≡ true → (x : ℕ) → x < slots_in_all G → listed_once G d x ≡ true
  unfolding entry_fits
  slot_once t x h =
      let e : ℕ = x / slot_count in
      let j : ℕ = x % slot_count in
      let q : x ≡ slot_count * e + j = omega arith in
      rw q (all_at (λ (k : ℕ). listed_once G d (slot_count * e + k)) slot_count (and_left _ _ (and_right _ _ (all_at _ G.entries t e (omega arith)))) j (omega arith))

  pub pass_all : consistent_rows G d ≡ (all_below (entry_fits G d) G.entries and all_below (dates_placed d) G.entries)
  unfolding consistent_rows places_right entry_fits
  pass_all =
      bool_ext _ _
      (λ t.
      let places = all_at _ G.entries (and_right _ _ (and_right _ _ (and_right _ _ t))) in
      and_both _ _
      (all_intro _ G.entries (λ e h.
      and_both _ _ (all_at _ G.entries (and_left _ _ t) e h)
      (and_both _ _ (all_intro _ slot_count (λ j l. all_at _ (slots_in_all G) (and_left _ _ (and_right _ _ t)) (slot_count * e + j) (omega arith)))
      (and_both _ _ (all_at _ G.entries (and_left _ _ (and_right _ _ (and_right _ _ t))) e h) (and_right _ _ (places e h))))))
      (all_intro _ G.entries (λ e h. and_left _ _ (places e h))))
      (λ t.
      let fits = all_at _ G.entries (and_left _ _ t) in
      let placed = all_at _ G.entries (and_right _ _ t) in
      and_both _ _ (all_intro _ G.entries (λ e h. and_left _ _ (fits e h)))
      (and_both _ _ (all_intro _ (slots_in_all G) (slot_once (and_left _ _ t)))
      (and_both _ _ (all_intro _ G.entries (λ e h. and_left _ _ (and_right _ _ (and_right _ _ (fits e h)))))
      (all_intro _ G.entries (λ e h. and_both _ _ (placed e h) (and_right _ _ (and_right _ _ (and_right _ _ (fits e h)))))))))

  pub entry_fails : (e : ℕ) → e < G.entries → entry_fits G d e ≡ false → consistent_rows G d ≡ false
  entry_fails e h f = pass_all ∙ and_fails_left _ _ (all_fails _ G.entries e h f)

-- ---- one entry
pub row_used : (r : Bytes) → row_right_rule r ≡ true → used r ≡ true
unfolding row_right_rule
row_used r h = and_left _ _ h

label_is : (r : Bytes) → label_right_rule r ≡ true → is_label r ≡ true
unfolding label_right_rule
label_is r h = and_left _ _ h

label_aside : (r : Bytes) → label_right_rule r ≡ true → aside_right r ≡ true
unfolding aside_right
label_aside r h = or_left _ _ h

module _ (G : Geometry) (d : Rows) (e : ℕ) where
  unused_once : used (d e) ≡ false → (j : ℕ) → j < slot_count → listed_once G d (slot_count * e + j) ≡ true
  unfolding listed_once
  unused_once u j h = or_left _ _ (eq-eqb _ _ (listed_unused G d e j h u))

  -- an entry that is not used lists nothing and is of no file
  unused_fits : entry_right G (d e) ≡ true → used (d e) ≡ false → label_once d e ≡ true → entry_fits G d e ≡ true
  unfolding entry_fits
  unused_fits r u l =
      and_both _ _ r
      (and_both _ _ (all_intro _ slot_count (unused_once u))
      (and_both _ _ (alone_intro G d e (λ f h t. not_both (used (d e)) (same_used_left G (d e) (d f) t) u)) l))

  aside_fits : aside_right (d e) ≡ true → label_once d e ≡ true → entry_fits G d e ≡ true
  aside_fits a l = unused_fits (aside_right_law G (d e) a) (aside_unused (d e) a) l

  fits_right : entry_fits G d e ≡ true → entry_right G (d e) ≡ true
  unfolding entry_fits
  fits_right t = and_left _ _ t

  fits_labelled : entry_fits G d e ≡ true → label_once d e ≡ true
  unfolding entry_fits
  fits_labelled t = and_right _ _ (and_right _ _ (and_right _ _ t))

  -- what is right and is neither empty, a file's nor a date entry is a label
  left_label : empty (d e) ≡ false → row_right_rule (d e) ≡ false → dates_right_rule (d e) ≡ false → entry_right G (d e) ≡ true → label_right_rule (d e) ≡ true
  unfolding entry_right file_right aside_right row_right_rule fields_right_rule
  left_label h r n t =
      let file = sym (and_assoc _ _ _ ∙ ap (λ (b : Bool). used (d e) and b) (and_assoc _ _ _)) ∙ and_fails_left _ _ r in
      sym (or_first _ _ n) ∙ sym (or_then _ _ file) ∙ sym (or_then _ _ h) ∙ t

  first_label : (b : Option ℕ) → Labelled d e b → is_label (d e) ≡ true → label_once d e ≡ true → not (is_some b) ≡ true
  first_label None l i o = refl
  first_label (Some b) l i o = not_both (label_once d e) o (again_fails d e b l i)

  -- so of such a row being the first label, and a right one, decides
  label_fails : (b : Option ℕ) → empty (d e) ≡ false → row_right_rule (d e) ≡ false → dates_right_rule (d e) ≡ false → Labelled d e b → (not (is_some b) and label_right_rule (d e)) ≡ false → entry_fits G d e ≡ false
  label_fails b h r n l f =
      sym (refute _ (λ t. let a = left_label h r n (fits_right t) in
      not_both _ (and_both _ _ (first_label b l (label_is (d e) a) (fits_labelled t)) a) f))

  -- an entry that is a file's
  file_right_law : used (d e) ≡ true → entry_right G (d e) ≡ (row_right_rule (d e) and slots_right G (d e))
  unfolding entry_right file_right row_right_rule fields_right_rule
  file_right_law u = or_then _ _ (used_full (d e) u) ∙ or_first _ _ (sym (refute _ (λ t. not_both (used (d e)) u (aside_unused (d e) t)))) ∙ simp and_assoc

  -- on a disk whose block numbers are one byte
  module _ (narrow : (r : Bytes) (j : ℕ) → j < slot_count → slot_of G r j ≡ get_or r (16 + j) 0) (l : Bytes)
      (bytes : (j : ℕ) → j < slot_count → slot_of G (d e) j < mark_count) (r : row_right_rule (d e) ≡ true) (m : BlockMarks G d (slot_count * e) l) where
    in_use : used (d e) ≡ true
    in_use = row_used (d e) r

    free : slots_free l (d e) ≡ (slots_right G (d e) and all_below (λ (j : ℕ). listed_once G d (slot_count * e + j)) slot_count)
    free = slots_right_law G d narrow e l in_use bytes m

    pub slots_fail : slots_free l (d e) ≡ false → entry_fits G d e ≡ false
    unfolding entry_fits
    slots_fail f =
        sym (refute _ (λ t. not_both _
        (free ∙ and_both _ _ (and_right _ _ (sym (file_right_law in_use) ∙ and_left _ _ t)) (and_left _ _ (and_right _ _ t))) f))

    pub alone_decides : slots_free l (d e) ≡ true → entry_fits G d e ≡ alone G d e
    unfolding entry_fits
    alone_decides f =
        let both = sym free ∙ f in
        and_then _ _ (file_right_law in_use ∙ and_both _ _ r (and_left _ _ both)) ∙ and_then _ _ (and_right _ _ both)
        ∙ and_first _ _ (plain_once d e (used_no_label (d e) in_use))

-- ---- what stands before the first entry, and after one more
module _ (G : Geometry) (d : Rows) where
  pub passed_none : (s : Seen) → BlockMarks G d 0 s.marks.now → Chained G d 0 s.chain.now → s.label ≡ None → s.dates ≡ 0 → Passed G d 0 s
  passed_none s m c l k = record { fits = all_none _; blocks = m; chained = c; labelled = rw l (labelled_start d); dating = rw k (dating_start d) }

  module _ (e : ℕ) (s : Seen) (p : Passed G d e s) where
    -- an entry that is not used leaves marks and chain
    unused_passed : (b : Option ℕ) (k : ℕ) → entry_fits G d e ≡ true → used (d e) ≡ false → Labelled d (e + 1) b → Dating d (e + 1) k
        → Passed G d (e + 1) record { marks = s.marks; chain = s.chain; label = b; dates = k }
    unused_passed b k f u l t = record {
      fits = all_more _ e p.fits f;
      blocks = marks_skip G d e s.marks.now u p.blocks;
      chained = chained_skip G d e s.chain.now u p.chained;
      labelled = l;
      dating = t;
    }

    pub passed_empty : empty (d e) ≡ true → Passed G d (e + 1) s
    passed_empty z =
        let label = empty_no_label (d e) z in let u = empty_unused (d e) z in
        unused_passed s.label s.dates (unused_fits G d e (empty_right G (d e) z) u (plain_once d e label)) u
        (labelled_skip d e _ label p.labelled) (dating_skip d e _ (empty_no_dates (d e) z) p.dating)

    dates_passed : dates_right_rule (d e) ≡ true → e ≡ next_dates s.dates → Passed G d (e + 1) (with_dates s (s.dates + 1))
    dates_passed h q =
        let i = dates_is (d e) h in let a = dates_aside (d e) h in let label = dates_no_label (d e) i in
        unused_passed s.label (s.dates + 1) (aside_fits G d e a (plain_once d e label)) (aside_unused (d e) a)
        (labelled_skip d e _ label p.labelled) (dating_take d e _ i q p.dating)

    label_passed : label_right_rule (d e) ≡ true → not (is_some s.label) ≡ true → Passed G d (e + 1) (with_label s (Some e))
    label_passed h z =
        let i = label_is (d e) h in let a = label_aside (d e) h in
        unused_passed (Some e) s.dates (aside_fits G d e a (first_once d e (rw (missed s.label z) at p.labelled))) (aside_unused (d e) a)
        (labelled_take d e i) (dating_skip d e _ (label_no_dates (d e) i) p.dating)

    pub aside_passed : aside_taken e (d e) s ≡ true → Passed G d (e + 1) (aside_after e (d e) s)
    unfolding aside_taken aside_after
    aside_passed t =
        split (bool_cases (dates_right_rule (d e))) (λ q. rw q (dates_passed q (eqb-true _ _ (rw q at t))))
        (λ q. let both = rw q at t in rw q (label_passed (and_right _ _ both) (and_left _ _ both)))

    pub aside_fails : Sound G → e < G.entries → empty (d e) ≡ false → row_right_rule (d e) ≡ false → aside_taken e (d e) s ≡ false → consistent_rows G d ≡ false
    unfolding aside_taken
    aside_fails S h z r t =
        split (bool_cases (dates_right_rule (d e)))
        (λ q. pass_all G d ∙ and_fails_right _ _ (dating_wrong S d e s.dates h (dates_is (d e) q) (eqb-false _ _ (rw q at t)) p.dating))
        (λ q. entry_fails G d e h (label_fails G d e s.label z r q p.labelled (rw q at t)))

    -- an entry that is a file's, on a disk whose block numbers are one byte
    pub passed_used : (narrow : (r : Bytes) (j : ℕ) → j < slot_count → slot_of G r j ≡ get_or r (16 + j) 0) (t : Seen) → row_right_rule (d e) ≡ true
        → ((j : ℕ) → j < slot_count → slot_of G (d e) j < mark_count) → entry_fits G d e ≡ true → t.marks.now ≡ mark_slots s.marks.now (d e) slot_count
        → Chained G d (e + 1) t.chain.now → t.label ≡ s.label → t.dates ≡ s.dates → Passed G d (e + 1) t
    passed_used narrow t r bytes f q l same as_many =
        let u = row_used (d e) r in
        record {
          fits = all_more _ e p.fits f;
          blocks = rw q (marks_row G d narrow e s.marks.now u bytes p.blocks);
          chained = l;
          labelled = rw same (labelled_skip d e _ (used_no_label (d e) u) p.labelled);
          dating = rw as_many (dating_skip d e _ (used_no_dates (d e) u) p.dating);
        }

  -- entries that are all empty
  passed_empties : (m n : ℕ) → ((i : ℕ) → i < n → empty (d (m + i)) ≡ true) → (s : Seen) → Passed G d m s → Passed G d (m + n) s
  passed_empties m zero h s p = rw add-zero p
  passed_empties m (suc n) h s p =
      let q : m + n + 1 ≡ m + suc n = omega arith in
      rw q at (passed_empty (m + n) s (passed_empties m n (λ i l. h i (omega arith)) s p) (h n (omega arith)))

  -- ---- what stands at the end: a look-up can go by the chains
  pub passed_all : (s : Seen) → Passed G d G.entries s → Indexed G d s.chain.now
  unfolding entry_fits
  passed_all s p = record {
    chained = p.chained;
    single = λ e h. and_left _ _ (and_right _ _ (and_right _ _ (all_at _ G.entries p.fits e h)));
  }

  -- and the count of the date entries tells the rest
  module _ (S : Sound G) (s : Seen) (p : Passed G d G.entries s) where
    dates_left : consistent_rows G d ≡ all_below (dates_placed d) G.entries
    dates_left = pass_all G d ∙ and_then _ _ p.fits

    pub passed_undated : s.dates ≡ 0 → consistent_rows G d ≡ true
    passed_undated z = dates_left ∙ dating_none S d (rw z at p.dating)

    pub passed_dated : (s.dates ≡ 0 → ⊥) → consistent_rows G d ≡ eqb s.dates (G.entries / entries_per_record)
    passed_dated some = dates_left ∙ dating_end S d s.dates some p.dating

-- the first n rows of a record, where they are all empty
pub passed_rows : {G : Geometry} → Sound G → (img : Bytes) → Long G img → (k : ℕ) → entries_per_record * k < G.entries → (n : ℕ) → n ≤ entries_per_record → (four : Bytes) → four ≡ record_at G img k
    → all_below (λ (i : ℕ). empty (row_of four i)) n ≡ true → (s : Seen) → Passed G (entry_at G img) (entries_per_record * k) s
    → Passed G (entry_at G img) (entries_per_record * k + n) s
passed_rows {G} S img long k h n l four q z s p =
    let fours = S.fours in
    passed_empties G (entry_at G img) (entries_per_record * k) n
    (λ i w. ap empty (sym (row_in_record S img long k i (omega arith) (omega arith)) ∙ ap (λ (f : Bytes). row_of f i) (sym q)) ∙ all_at _ n z i w) s p
