-- What it says that an FCB is current, as facts: its fields are in range, its entry is found, and its slots fit, slot by slot.
use Rattle.std.specs.Prelude.{◌≡◌, refl, Bool, true, false, cond, ℕ, ◌≤◌, ◌<◌, None, Some}
use Rattle.std.specs.Bool.{then_some}
use Rattle.std.proofs.Common.{sym, ◌∙◌, leb-true, le-leb}
use Rattle.lists.specs.Tests.{◌and◌, and_left, and_right, and_both, and_assoc}
use Rattle.format.specs.Diskette.{Bytes, Geometry, slot_count}
use Rattle.format.specs.Names.{name_right_rule}
use Rattle.format.specs.Entries.{Rows, slots_of, extent_of, find_file_rule}
use Rattle.format.specs.Fcb.{cr_of, cr_right, fcb_right_rule, slots_fit_rule, current}
use Rattle.heads.specs.Head.{fields_right_rule}
use Rattle.facts.specs.Found.{FirstAt}
use Rattle.facts.specs.Find.{file_test, file_says}
use Rattle.facts.specs.Current.{Current, current_fitting}
use Rattle.consistency.specs.Facts.{Numbers}
use Rattle.consistency.specs.Reflect.{numbers_elim, numbers_intro}
use Rattle.slots.specs.Slots.{SlotOk, slots_say}

-- ---- the fields
pub record FcbOk (fcb : Bytes) : Type 0 where
  pub name : name_right_rule false fcb 1 ≡ true
  pub numbers : Numbers fcb
  pub cr : cr_of fcb ≤ 128

pub fcb_says : (fcb : Bytes) → fcb_right_rule fcb ≡ true → FcbOk fcb
unfolding fcb_right_rule
fcb_says fcb t = record {
  name = and_left _ _ t;
  numbers = numbers_elim fcb (and_left _ _ (and_right _ _ t));
  cr = leb-true _ _ (and_right _ _ (and_right _ _ t));
}

pub fcb_is : (fcb : Bytes) → FcbOk fcb → fcb_right_rule fcb ≡ true
unfolding fcb_right_rule
fcb_is fcb f = and_both _ _ f.name (and_both _ _ (numbers_intro fcb f.numbers) (le-leb _ _ f.cr))

-- the name, ex and s2 first, and then cr
pub fcb_fields : (fcb : Bytes) → fcb_right_rule fcb ≡ (fields_right_rule fcb and cr_right fcb)
unfolding fcb_right_rule fields_right_rule
fcb_fields fcb = sym (and_assoc _ _ _)

-- ---- the FCB is current, and e is its entry
then_cond : (f : Bool) (e : ℕ) → then_some f e ≡ cond f (Some e) None
then_cond true e = refl
then_cond false e = refl

module _ (G : Geometry) (d : Rows) (map : Bytes) (user : ℕ) (fcb : Bytes) where
  -- from the slots taken out and the test of them
  pub current_by : (e : ℕ) (es fs : Bytes) (f : Bool) → fcb_right_rule fcb ≡ true → find_file_rule G d user fcb 1 (extent_of fcb) ≡ Some e
      → es ≡ slots_of (d e) → fs ≡ slots_of fcb → f ≡ slots_fit_rule G map e es fs → cond f (Some e) None ≡ current G d map user fcb
  current_by e es fs f t q he hf h = rw (h, he, hf) (sym (current_fitting G d map user fcb e t q))

  -- the same, as code answers by the library's method
  pub current_then : (e : ℕ) (f : Bool) → fcb_right_rule fcb ≡ true → find_file_rule G d user fcb 1 (extent_of fcb) ≡ Some e
      → f ≡ slots_fit_rule G map e (slots_of (d e)) (slots_of fcb) → then_some f e ≡ current G d map user fcb
  current_then e f t q h = then_cond f e ∙ current_by e _ _ f t q refl refl h

  -- the entry of a current FCB is the first of its file
  pub current_file : (e : ℕ) → Current G d map user fcb e → FirstAt (file_test G d user fcb 1 (extent_of fcb)) 0 G.entries e
  current_file e c = file_says G d user fcb 1 (extent_of fcb) e c.found

  pub current_low : (e : ℕ) → Current G d map user fcb e → e < G.entries
  current_low e c = (current_file e c).below

  pub current_slot : (e : ℕ) → Current G d map user fcb e → (j : ℕ) → j < slot_count → SlotOk G map e (d e) fcb j
  current_slot e c = slots_say G map e (d e) fcb c.fits
