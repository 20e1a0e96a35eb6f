-- The picker's calls that look for a name, 15, 35, 46 and 22: what they answer on a disk that is right, in words of the directory.
use Rattle.std.specs.Prelude.{◌≡◌, Bool, false, cond, not, ℕ, ◌≤◌, ltb, length, get_or, is_some}
use Rattle.std.proofs.Math.Path.{refl, ap}
use Rattle.std.proofs.Common.{◌∙◌}
use Rattle.std.proofs.Math.Bool.{true}
use Rattle.lists.specs.Tests.{◌and◌}
use Rattle.format.specs.Diskette.{Bytes, Geometry, record_bytes}
use Rattle.format.specs.Names.{name_bytes}
use Rattle.format.specs.Entries.{entry_at, ex_of, find_file_rule}
use Rattle.format.specs.Dates.{bcd}
use Rattle.model.specs.Kinds.{kind_of, is_call}
use Rattle.model.specs.Lent.{protected}
use Rattle.model.specs.Table.{time_right_rule, any_named, asked_entry}
use Rattle.table.specs.Facts.{Ready}
use Rattle.table.specs.Protection.{lifted_spared, other_spared}
use Rattle.demands.specs.Runs.{Disk, lent_to, accepts}
use Rattle.stored.specs.Closed.{Sane}
use Rattle.stored.specs.Quiet.{sane_ready}
use Rattle.picking.specs.declared.Time.{Time}
use Rattle.picking.specs.Picker.{fcb_of_rule, blank, asking, opening, sizing, spacing, making}
use Rattle.once.specs.Bytes.{length_blank, ex_fcb_of, begins_fcb_of}
use Rattle.once.specs.Deciding.{answered, answered_own}
use Rattle.once.specs.Table.{name_is, has_entry, extent_at, some_empty}

-- an answer as a test
pub as_test : (b : Bool) → b ≡ cond b true false
as_test true = refl
as_test false = refl

both : (a b : Bool) → cond (not a) false (cond (not b) false true) ≡ (a and b)
unfolding ◌and◌
both true true = refl
both true false = refl
both false b = refl

-- the time is in BCD
abbrev pub Timed : Time → Type 0
Timed t = (bcd t.hour and bcd t.minute) ≡ true

module _ {G : Geometry} (d : Disk) (sane : Sane G d) (t : Time) (timed : Timed t) where
  -- a call with an FCB of 36 bytes and drive 0 or 1, and a buffer of 128, has passed the first three rows
  pub ready_call : (n : ℕ) (f buffer : Bytes) → length f ≡ 36 → get_or f 0 0 ≤ 1 → length buffer ≡ record_bytes
      → Ready G (asking t n f buffer).asked (lent_to d (asking t n f buffer)) d.session
  unfolding time_right_rule
  ready_call n f buffer hf drive hb = sane_ready G d sane f hf drive (asking t n f buffer).asked timed buffer hb

  module _ (name : Bytes) (h : length name ≡ name_bytes) where
    ready_name : (n : ℕ) → Ready G (asking t n (fcb_of_rule name) blank).asked (lent_to d (asking t n (fcb_of_rule name) blank)) d.session
    ready_name n = ready_call n (fcb_of_rule name) blank (begins_fcb_of name h).long (begins_fcb_of name h).drive length_blank

    first_row_law : ltb 31 (ex_of (fcb_of_rule name)) ≡ false
    first_row_law = rw (ex_fcb_of name h)

    asked_first : (n : ℕ) → asked_entry G (lent_to d (asking t n (fcb_of_rule name) blank)) d.session.user ≡ extent_at G d name 0
    unfolding asked_entry extent_at
    asked_first n = ap (find_file_rule G (entry_at G d.drive.image) d.session.user (fcb_of_rule name) 1) (ex_fcb_of name h)

    module _ {A : Type 0} (went : A) (not_so : ℕ → ℕ → A) where
      -- 15
      pub open_by : answered went not_so G d (opening t name)
          ≡ cond (not (name_is name)) (not_so 255 9) (cond (not (is_some (extent_at G d name 0))) (not_so 255 0) went)
      unfolding is_call kind_of
      open_by =
          answered_own went not_so G d (opening t name) refl (ready_name 15) (other_spared G _ _ _ refl)
          ∙ rw (first_row_law, asked_first 15)

      -- 35
      pub size_by : answered went not_so G d (sizing t name)
          ≡ cond (not (name_is name)) (not_so 255 9) (cond (not (has_entry G d name)) (not_so 255 0) went)
      unfolding is_call kind_of any_named has_entry
      size_by = answered_own went not_so G d (sizing t name) refl (ready_name 35) (other_spared G _ _ _ refl)

      -- 46
      pub space_by : answered went not_so G d (spacing t name) ≡ went
      unfolding is_call kind_of
      space_by = answered_own went not_so G d (spacing t name) refl (ready_name 46) (other_spared G _ _ _ refl)

      -- 22, on a session that is not protected
      pub make_by : protected d.session ≡ false → answered went not_so G d (making t name)
          ≡ cond (not (name_is name)) (not_so 255 9)
          (cond (is_some (extent_at G d name 0)) (not_so 255 8) (cond (not (some_empty G d)) (not_so 255 0) went))
      unfolding is_call kind_of
      make_by p =
          answered_own went not_so G d (making t name) refl (ready_name 22) (lifted_spared G _ _ _ p)
          ∙ rw (first_row_law, asked_first 22)

    -- ---- so they are accepted
    pub open_accepts : accepts G d (opening t name) ≡ (name_is name and is_some (extent_at G d name 0))
    unfolding ◌and◌
    open_accepts = as_test (accepts G d (opening t name)) ∙ open_by true (λ a h. false) ∙ both (name_is name) (is_some (extent_at G d name 0))

    pub size_accepts : accepts G d (sizing t name) ≡ (name_is name and has_entry G d name)
    unfolding ◌and◌
    size_accepts = as_test (accepts G d (sizing t name)) ∙ size_by true (λ a h. false) ∙ both (name_is name) (has_entry G d name)

    pub space_accepts : accepts G d (spacing t name) ≡ true
    space_accepts = as_test (accepts G d (spacing t name)) ∙ space_by true (λ a h. false)
