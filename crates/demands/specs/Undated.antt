-- A disk without date entries and labels is that of before: consistency is the old three tests, no stamp is made, and the time that is handed in
-- does not matter, as long as it is one.
use Rattle.model.specs.declared.Code.{Code}
use Rattle.std.specs.Prelude.{◌≡◌, ◌⊎◌, Bool, true, false, List, ◌∷◌, ℕ, ◌<◌, None, Option, Some}
use Rattle.std.proofs.Math.Path.{refl, ap, sym}
use Rattle.std.proofs.Common.{◌∙◌, arith}
use Rattle.std.proofs.Math.Bool.{not}
use Rattle.lists.specs.Cases.{split, not_both, refute}
use Rattle.lists.specs.Tests.{◌and◌, ◌or◌, and_both, and_first, and_fails_left, and_fails_right, or_first, same_agree}
use Rattle.lists.specs.Below.{all_below, all_cong, all_intro}
use Rattle.format.specs.Diskette.{Geometry, Sound}
use Rattle.format.specs.Entries.{Rows, used, empty}
use Rattle.format.specs.Dates.{is_label, is_dates, dated}
use Rattle.format.specs.Consistent.{file_right, aside_right, entry_right, slots_in_all, listed_once, alone, dates_placed, label_once, places_right, consistent_rows}
use Rattle.consistency.specs.Reflect.{aside_either}
use Rattle.model.specs.declared.Asked.{Asked}
use Rattle.model.specs.declared.Session.{Session}
use Rattle.model.specs.declared.Code.TheVariants.{NotListed, BadParameter, BadDisk, Protected}
use Rattle.model.specs.Kinds.{kind_of, is_call}
use Rattle.model.specs.Lent.{Lent, rows_of}
use Rattle.model.specs.Table.{time_right_rule, parameters_right_rule, disk_right_rule, when, first_row, own_rows, table, verdict, would_succeed, move_changes, protection_holds}
use Rattle.model.specs.Stamps.{Stamp, stamps_by, stamped_outcome}
use Rattle.model.specs.Step.{effect, carried_out, stamps_made, step}
use Rattle.table.specs.OwnStep.{does_same}
use Rattle.invariant.specs.Carry.{plain_no_dates, plain_no_label}
use Rattle.table.specs.Stamping.{where_undated}

-- every row is a file's or empty
abbrev pub Plain : Geometry → Rows → Type 0
Plain G d = (e : ℕ) → e < G.entries → (used (d e) ≡ true) ⊎ (empty (d e) ≡ true)

-- the three tests of before
abbrev pub three_tests : Geometry → Rows → Bool
three_tests G d =
    all_below (λ (e : ℕ). empty (d e) or file_right G (d e)) G.entries and all_below (listed_once G d) (slots_in_all G) and all_below (alone G d) G.entries

module _ {G : Geometry} (S : Sound G) (d : Rows) (plain : Plain G d) where
  -- such a disk has no date entries
  pub plain_undated : dated d ≡ false
  plain_undated = plain_no_dates (d 3) (plain 3 (omega (arith, S.fours, S.some_entry)))

  no_aside : (e : ℕ) → e < G.entries → aside_right (d e) ≡ false
  no_aside e h =
      sym (refute _ (λ t. split (aside_either (d e) t) (λ y. not_both (is_label (d e)) y (plain_no_label (d e) (plain e h)))
      (λ y. not_both (is_dates (d e)) y (plain_no_dates (d e) (plain e h)))))

  entries_same : all_below (λ (e : ℕ). entry_right G (d e)) G.entries ≡ all_below (λ (e : ℕ). empty (d e) or file_right G (d e)) G.entries
  unfolding entry_right
  entries_same = all_cong _ _ G.entries (λ e h. ap (λ (b : Bool). empty (d e) or b) (or_first _ _ (no_aside e h)))

  places : places_right G d ≡ true
  unfolding places_right dates_placed label_once
  places =
      all_intro _ G.entries
      (λ e h. and_both _ _ (same_agree _ _ (plain_no_dates (d e) (plain e h) ∙ sym (and_fails_right _ _ plain_undated)))
      (ap not (and_fails_left _ _ (plain_no_label (d e) (plain e h)))))

  pub plain_consistent : consistent_rows G d ≡ three_tests G d
  unfolding consistent_rows
  plain_consistent =
      ap (λ (b : Bool). b and all_below (listed_once G d) (slots_in_all G) and all_below (alone G d) G.entries and places_right G d) entries_same
      ∙ ap (λ (b : Bool). all_below (λ (e : ℕ). empty (d e) or file_right G (d e)) G.entries and all_below (listed_once G d) (slots_in_all G) and b) (and_first _ _ places)

-- ---- where there are no date entries no stamp is made, whatever a label asks: every call leaves what the table and its own rule say
pub undated_step : (G : Geometry) (asked : Asked) (l : Lent) (s : Session) → dated (rows_of G l) ≡ false
    → step G asked l s ≡ carried_out G asked l s (verdict G asked l s)
unfolding step
undated_step G asked l s n = go (verdict G asked l s)
  where
    go : (v : Option Code) → stamped_outcome G (stamps_made G asked l s v) (carried_out G asked l s v) ≡ carried_out G asked l s v
    go None =
        ap (λ (xs : List Stamp). stamped_outcome G xs (effect G asked l s)) (where_undated (dated (rows_of G l)) (stamps_by G asked l s (kind_of asked.number)) n)
    go (Some c) = refl

-- ---- the same call at another time
abbrev pub at_time : Asked → ℕ → ℕ → ℕ → Asked
at_time asked day hour minute = record { number = asked.number; argument = asked.argument; day = day; hour = hour; minute = minute }

module _ (G : Geometry) (asked : Asked) (day hour minute : ℕ) (l : Lent) (s : Session) where
  abbrev other : Asked
  other = at_time asked day hour minute

  module _ (now : time_right_rule asked ≡ true) (then : time_right_rule other ≡ true) where
    parameters_same : parameters_right_rule G l other s ≡ parameters_right_rule G l asked s
    unfolding parameters_right_rule
    parameters_same = rw (now, then)

    verdict_same : verdict G other l s ≡ verdict G asked l s
    unfolding verdict table disk_right_rule protection_holds would_succeed move_changes
    verdict_same =
        ap (λ (b : Bool). first_row (when (not (is_call asked.number)) NotListed ∷ when (not b) BadParameter ∷ when (not (disk_right_rule G l asked)) BadDisk
        ∷ when (protection_holds G asked l s) Protected ∷ own_rows G asked l s))
        parameters_same

    pub times_same : dated (rows_of G l) ≡ false → step G other l s ≡ step G asked l s
    unfolding effect
    times_same n =
        undated_step G other l s n ∙ ap (carried_out G other l s) verdict_same ∙ go (verdict G asked l s) ∙ sym (undated_step G asked l s n)
      where
        go : (v : Option Code) → carried_out G other l s v ≡ carried_out G asked l s v
        go None = does_same G asked other l s refl refl (kind_of asked.number)
        go (Some c) = refl
