-- One call once the first three rows have passed it: the protection and its own rows decide, and then it is carried out. What a call's own function
-- does; but for the record calls, which ask for the protection themselves, the protection has been asked for before.
use Rattle.std.specs.Prelude.{◌≡◌, true, false, ℕ}
use Rattle.std.proofs.Math.Path.{refl, ap}
use Rattle.std.proofs.Common.{sym, ◌∙◌}
use Rattle.format.specs.Diskette.{Geometry}
use Rattle.model.specs.declared.Asked.{Asked}
use Rattle.model.specs.declared.Session.{Session}
use Rattle.model.specs.declared.Kind.{Kind}
use Rattle.model.specs.declared.Kind.TheVariants.{Unlisted, Quiet, Search, User, Settle, Close, Delete, Create, Rename, Read, Write}
use Rattle.model.specs.declared.Answer.{Answer}
use Rattle.model.specs.declared.Code.{Code}
use Rattle.model.specs.declared.Code.TheVariants.{Protected}
use Rattle.model.specs.Kinds.{kind_of}
use Rattle.model.specs.Lent.{Lent, Outcome, outcome, answer_of}
use Rattle.model.specs.Table.{first_row, own_rows, protection_holds}
use Rattle.model.specs.Calls.{quietly}
use Rattle.model.specs.Step.{refused_session, refused, told, pattern, place, settled, does, effect, carried_out}
use Rattle.table.specs.First.{NoneHolds, Decides, first_passes, none_passed, decides_refused, first_holds}
use Rattle.table.specs.Own.{calling, ready_rows}

module _ (G : Geometry) (asked : Asked) (l : Lent) (s : Session) where
  -- refused by the call's own rows, or carried out
  unfoldable pub own_step : Outcome
  own_step = carried_out G asked l s (first_row (own_rows G asked l s))

  -- ---- refused by the first of its rows that holds
  pub own_refused : (code : Code) → Decides code (own_rows G asked l s) → own_step ≡ refused code s l
  unfolding own_step
  own_refused code d = rw (decides_refused code (own_rows G asked l s) d)

  -- an answer that changed nothing
  pub refuses_own : (code : Code) (r : Answer) → Decides code (own_rows G asked l s)
      → r ≡ answer_of code (refused_session code s) → outcome r l.drive.image l.drive.map l.fcb l.buffer ≡ own_step
  refuses_own code r d q =
      ap (λ (x : Answer). outcome x l.drive.image l.drive.map l.fcb l.buffer) q ∙ sym (own_refused code d)

  -- ---- carried out where none of them holds
  pub own_carried : NoneHolds (own_rows G asked l s) → own_step ≡ effect G asked l s
  unfolding own_step
  own_carried none = rw (none_passed (own_rows G asked l s) none)

  pub carries_own : (o : Outcome) → NoneHolds (own_rows G asked l s) → o ≡ effect G asked l s → o ≡ own_step
  carries_own o none q = q ∙ sym (own_carried none)

  -- a quiet call none of whose rows holds leaves what its rule tells
  pub quiet_own : (o : Outcome) → kind_of asked.number ≡ Quiet → NoneHolds (own_rows G asked l s) → o ≡ quietly (told G asked l s) s l → o ≡ own_step
  unfolding effect
  quiet_own o k none q = carries_own o none (q ∙ rw k)

  -- ---- refused by the protection or by one of the call's own rows, or carried out
  unfoldable pub ready_step : Outcome
  ready_step = carried_out G asked l s (first_row (ready_rows G asked l s))

  pub ready_stopped : protection_holds G asked l s ≡ true → ready_step ≡ refused Protected s l
  unfolding ready_step
  ready_stopped h = ap (carried_out G asked l s) (first_holds _ _ h)

  pub ready_own : protection_holds G asked l s ≡ false → ready_step ≡ own_step
  unfolding ready_step own_step
  ready_own f = ap (carried_out G asked l s) (first_passes _ _ f)

-- ---- what a call does goes by its number and its argument, whatever the time
module _ (G : Geometry) (asked other : Asked) (l : Lent) (s : Session) (number : other.number ≡ asked.number) (argument : other.argument ≡ asked.argument) where
  pub does_same : (k : Kind) → does G other l s k ≡ does G asked l s k
  unfolding told pattern place settled
  does_same Unlisted = refl
  does_same Quiet = rw number
  does_same Search = rw number
  does_same User = rw argument
  does_same Settle = rw number
  does_same Close = refl
  does_same Delete = refl
  does_same Create = refl
  does_same Rename = refl
  does_same Read = rw number
  does_same Write = rw number

-- the call with its own number asked is the call
pub own_at : (G : Geometry) (asked : Asked) (l : Lent) (s : Session) (n : ℕ) → asked.number ≡ n
    → own_step G (calling n asked) l s ≡ own_step G asked l s
own_at G asked l s n q = ap (λ (m : ℕ). own_step G (calling m asked) l s) (sym q)
