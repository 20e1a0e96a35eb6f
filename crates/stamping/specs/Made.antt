-- The stamps of a call that the first three rows have passed: none where the protection or its own rows refuse it, or where the disk has no
-- date entries; else those of its kind. What is due is told from the state as it came, as if the call were accepted, and its answer then says
-- whether it was.
use Rattle.model.specs.declared.Code.{Code}
use Rattle.std.specs.Prelude.{◌≡◌, refl, true, false, List, [], ℕ, None, Option, Some}
use Rattle.std.proofs.Common.{ap, sym, ◌∙◌}
use Rattle.lists.specs.Cases.{split, bool_cases, not_both}
use Rattle.format.specs.Diskette.{Bytes, Geometry}
use Rattle.format.specs.Dates.{dated}
use Rattle.model.specs.declared.Asked.{Asked}
use Rattle.model.specs.declared.Session.{Session}
use Rattle.model.specs.declared.Answer.{Answer}
use Rattle.model.specs.Kinds.{kind_of, is_call}
use Rattle.model.specs.Lent.{Lent, rows_of, Outcome, outcome}
use Rattle.model.specs.Table.{first_row, own_rows}
use Rattle.model.specs.Stamps.{Stamp, stamps_by, stamped_with, stamped_outcome}
use Rattle.model.specs.Step.{stamps_made, step}
use Rattle.table.specs.First.{NoneHolds, none_passed}
use Rattle.table.specs.Stamping.{where_dated_law, where_undated}
use Rattle.table.specs.Own.{calling, ready_rows}
use Rattle.table.specs.Facts.{Ready, AcceptedCall}
use Rattle.table.proofs.Total.{total_accepted}
use Rattle.table.specs.OwnStep.{ready_step}
use Rattle.table.proofs.OwnStep.{verdict_ready, step_ready}
use Rattle.table.specs.Accepted.{accepted_answer}
use Rattle.table.proofs.Accepted.{carried_says, accepted_carried}
use Rattle.stamps.specs.declared.Due.{Due}
use Rattle.stamps.specs.Due.{due_stamps, accepted_stamps}

-- the stamps of a call by the rows behind the first three
abbrev pub made_by : Geometry → Asked → Lent → Session → List Stamp
made_by G asked l s = stamps_made G asked l s (first_row (ready_rows G asked l s))

-- what is due is what the call makes, where none of its rows refuses it
abbrev pub Dues : Geometry → Asked → Lent → Session → Due → Type 0
Dues G asked l s due = NoneHolds (own_rows G asked l s) → due_stamps asked due ≡ stamps_by G asked l s (kind_of asked.number)

-- the call with its own number asked is the call
pub made_at_law : (G : Geometry) (asked : Asked) (l : Lent) (s : Session) (n : ℕ) → asked.number ≡ n → made_by G (calling n asked) l s ≡ made_by G asked l s
made_at_law G asked l s n q = ap (λ (m : ℕ). made_by G (calling m asked) l s) (sym q)

-- 13 stamps nothing
pub log_in_made : (G : Geometry) (asked : Asked) (l : Lent) (s : Session) → made_by G (calling 13 asked) l s ≡ []
unfolding kind_of
log_in_made G asked l s = none (first_row (ready_rows G (calling 13 asked) l s))
  where
    none : (v : Option Code) → stamps_made G (calling 13 asked) l s v ≡ []
    none None = refl
    none (Some code) = refl

module _ (G : Geometry) (asked : Asked) (l : Lent) (s : Session) where
  pub made_undated : dated (rows_of G l) ≡ false → made_by G asked l s ≡ []
  made_undated f = none (first_row (ready_rows G asked l s))
    where
      none : (v : Option Code) → stamps_made G asked l s v ≡ []
      none None = where_undated (dated (rows_of G l)) (stamps_by G asked l s (kind_of asked.number)) f
      none (Some code) = refl

  module _ (t : is_call asked.number ≡ true) (r : Ready G asked l s) where
    -- ---- the answer says whether one of these rows has refused the call
    answers_ready : (step G asked l s).answer ≡ (ready_step G asked l s).answer
    answers_ready = ap (λ (o : Outcome). o.answer) (step_ready G asked l s t r)

    accepted_facts : accepted_answer asked.number (ready_step G asked l s).answer ≡ true → AcceptedCall G asked l s
    accepted_facts h = (accepted_carried G asked l s (ap (accepted_answer asked.number) answers_ready ∙ h)).facts

    refused_none : accepted_answer asked.number (ready_step G asked l s).answer ≡ false → made_by G asked l s ≡ []
    refused_none h = none (first_row (ready_rows G asked l s)) refl
      where
        none : (v : Option Code) → first_row (ready_rows G asked l s) ≡ v → stamps_made G asked l s v ≡ []
        none None q =
            let says = carried_says G asked l s (total_accepted G asked l s (verdict_ready G asked l s t r ∙ q)) in
            not_both _ (ap (accepted_answer asked.number) (sym answers_ready) ∙ says) h
        none (Some code) q = refl

    pub made_accepted : dated (rows_of G l) ≡ true → (due : Due) → Dues G asked l s due
        → accepted_stamps asked (ready_step G asked l s).answer due ≡ made_by G asked l s
    made_accepted dates due makes =
        split (bool_cases (accepted_answer asked.number (ready_step G asked l s).answer))
        (λ y. let c = accepted_facts y in
        rw y (makes c.none
        ∙ sym (rw (none_passed (ready_rows G asked l s) (c.spared, c.none)) (where_dated_law (dated (rows_of G l)) (stamps_by G asked l s (kind_of asked.number)) dates))))
        (λ n. rw n (sym (refused_none n)))

    -- ---- the whole call, from what its own function leaves: as it is where no stamp is made, or with the stamps put
    module _ (a : Answer) (img map fcb buffer : Bytes) (own : outcome a img map fcb buffer ≡ ready_step G asked l s) where
      stamped : (xs : List Stamp) (after : Bytes) → xs ≡ made_by G asked l s → after ≡ stamped_with G xs img → outcome a after map fcb buffer ≡ step G asked l s
      stamped xs after m q =
          rw (q, m) (ap (λ (o : Outcome). stamped_outcome G (made_by G asked l s) o) own ∙ sym (step_ready G asked l s t r))

      pub step_plain : made_by G asked l s ≡ [] → outcome a img map fcb buffer ≡ step G asked l s
      step_plain none = stamped [] img (sym none) refl

      pub step_stamped : dated (rows_of G l) ≡ true → (due : Due) → Dues G asked l s due → (after : Bytes) → after ≡ stamped_with G (accepted_stamps asked a due) img
          → outcome a after map fcb buffer ≡ step G asked l s
      step_stamped dates due makes after q =
          stamped (accepted_stamps asked a due) after
          (ap (λ (o : Outcome). accepted_stamps asked o.answer due) own ∙ made_accepted dates due makes) q
