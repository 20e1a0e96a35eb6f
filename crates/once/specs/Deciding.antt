-- What follows from a call's answer, told by the rows of the table of refusals.
use Rattle.std.specs.Prelude.{◌≡◌, refl, true, false, cond, List, [], ◌∷◌, ℕ}
use Rattle.std.proofs.Math.Path.{sym}
use Rattle.std.proofs.Common.{◌∙◌}
use Rattle.lists.specs.Cases.{split, bool_cases}
use Rattle.format.specs.Diskette.{Geometry}
use Rattle.model.specs.declared.Code.{Code}
use Rattle.model.specs.Codes.{a_of, h_of}
use Rattle.model.specs.Kinds.{is_call}
use Rattle.model.specs.Table.{Row, own_rows, protection_holds}
use Rattle.table.specs.First.{NoneHolds, Decides, here, later, none_passed, decides_refused}
use Rattle.table.specs.Own.{rows_for, verdict_rows}
use Rattle.table.specs.Facts.{Ready}
use Rattle.table.specs.Reflect.{parameters_right_law, disk_right_law}
use Rattle.table.proofs.Accepted.{refused_says, carried_says}
use Rattle.table.specs.Total.{RefusedBy}
use Rattle.table.proofs.Total.{total_refused, total_accepted}
use Rattle.demands.specs.Runs.{Request, Disk, lent_to, outcome_of, accepts}

-- by the first row that holds
abbrev pub decided : {A : Type 0} → A → (ℕ → ℕ → A) → List Row → A
decided went not_so [] = went
decided went not_so (r ∷ rs) = cond r.holds (not_so (a_of r.code) (h_of r.code)) (decided went not_so rs)

-- by the answer of a call: accepted, or A and H of its refusal
abbrev pub answered : {A : Type 0} → A → (ℕ → ℕ → A) → Geometry → Disk → Request → A
answered went not_so G d q = cond (accepts G d q) went (not_so (outcome_of G d q).answer.a (outcome_of G d q).answer.h)

decided_none : {A : Type 0} (went : A) (not_so : ℕ → ℕ → A) (rs : List Row) → NoneHolds rs → decided went not_so rs ≡ went
decided_none went not_so [] n = refl
decided_none went not_so (r ∷ rs) n = rw n.0 (decided_none went not_so rs n.1)

decided_by : {A : Type 0} (went : A) (not_so : ℕ → ℕ → A) (c : Code) (rs : List Row) → Decides c rs → decided went not_so rs ≡ not_so (a_of c) (h_of c)
decided_by went not_so c rs (here {r = r} {rs = ts} t q) = rw (t, q)
decided_by went not_so c rs (later {r = r} {rs = ts} f x) = rw f (decided_by went not_so c ts x)

-- every list of rows passes or decides
rows_cases : {B : Type 0} (rs : List Row) → (NoneHolds rs → B) → ((c : Code) → Decides c rs → B) → B
rows_cases [] n d = n tt
rows_cases (r ∷ rs) n d =
    split (bool_cases r.holds) (λ t. d r.code (here t refl))
    (λ f. rows_cases rs (λ k. n (f, k)) (λ c k. d c (later f k)))

module _ {A : Type 0} (went : A) (not_so : ℕ → ℕ → A) (G : Geometry) (d : Disk) (q : Request) where
  -- the call is refused by c
  pub answered_refused : (c : Code) → RefusedBy G q.asked (lent_to d q) d.session c → answered went not_so G d q ≡ not_so (a_of c) (h_of c)
  unfolding outcome_of
  answered_refused c r = rw (refused_says G q.asked (lent_to d q) d.session c r, r.is_a, r.is_h)

  -- a call of the list is told by its rows
  pub answered_rows : is_call q.asked.number ≡ true → answered went not_so G d q ≡ decided went not_so (rows_for G q.asked (lent_to d q) d.session)
  unfolding outcome_of
  answered_rows t =
      rows_cases (rows_for G q.asked (lent_to d q) d.session)
      (λ n. rw (carried_says G q.asked (lent_to d q) d.session
      (total_accepted G q.asked (lent_to d q) d.session
      (verdict_rows G q.asked (lent_to d q) d.session t ∙ none_passed (rows_for G q.asked (lent_to d q) d.session) n)))
      (sym (decided_none went not_so (rows_for G q.asked (lent_to d q) d.session) n)))
      (λ c n. answered_refused c (total_refused G q.asked (lent_to d q) d.session c
      (verdict_rows G q.asked (lent_to d q) d.session t ∙ decides_refused c (rows_for G q.asked (lent_to d q) d.session) n))
      ∙ sym (decided_by went not_so c (rows_for G q.asked (lent_to d q) d.session) n))

  -- and by its own, once the first three rows and the protection have passed it
  pub answered_own : is_call q.asked.number ≡ true → Ready G q.asked (lent_to d q) d.session → protection_holds G q.asked (lent_to d q) d.session ≡ false
      → answered went not_so G d q ≡ decided went not_so (own_rows G q.asked (lent_to d q) d.session)
  answered_own t r p =
      answered_rows t
      ∙ rw (
        parameters_right_law G q.asked (lent_to d q) d.session r.fits r.time r.drive,
        disk_right_law G q.asked (lent_to d q) d.session r.image_right r.map_right_law,
        p,
      )
