-- The protection lifted for one call: the call is that of a session whose protection is lifted, and the byte that says so is afterwards what it was.
use Rattle.std.specs.Prelude.{◌≡◌, false, cond, ℕ}
use Rattle.std.proofs.Math.Path.{ap}
use Rattle.std.proofs.Common.{sym, eqb-true}
use Rattle.lists.specs.Cases.{split, bool_cases}
use Rattle.format.specs.Diskette.{Geometry}
use Rattle.model.specs.declared.Session.{Session}
use Rattle.model.specs.Lent.{Outcome, with_lifted, protected}
use Rattle.demands.specs.Runs.{Request, Disk, lent_to, outcome_of, left, lifted_by}
use Rattle.demands.specs.Protected.{lifted_stays, relifted}
use Rattle.picking.specs.Picker.{unlocked, relocked, lifted_call_rule}

-- the byte while the call is made
unfoldable pub open_byte : Session → ℕ
open_byte s = cond (protected s) 1 s.lifted

-- the call as it is made
abbrev pub opened_up : Disk → Disk
opened_up d = lifted_by (open_byte d.session) d

pub open_unprotected : (s : Session) → protected (with_lifted s (open_byte s)) ≡ false
unfolding open_byte protected
open_unprotected s = split (bool_cases (protected s)) (λ t. rw t) (λ f. rw f f)

unlocked_is : (s : Session) → unlocked s ≡ with_lifted s (open_byte s)
unfolding unlocked open_byte
unlocked_is s = split (bool_cases (protected s)) (λ t. rw t) (λ f. rw f)

-- a byte that came back is the one that was there
relocked_is : (s t : Session) → t.lifted ≡ open_byte s → relocked s t ≡ with_lifted t s.lifted
unfolding relocked open_byte protected
relocked_is s t q =
    split (bool_cases (protected s)) (λ p. rw p (ap (with_lifted t) (sym (eqb-true s.lifted 0 p))))
    (λ p. rw p (ap (with_lifted t) (rw p at q)))

module _ (G : Geometry) (d : Disk) (q : Request) where
  pub lifted_is : lifted_call_rule G d q ≡ relifted d.session.lifted (outcome_of G (opened_up d) q)
  unfolding lifted_call_rule outcome_of
  lifted_is =
      let o : Outcome = outcome_of G (opened_up d) q in
      rw (unlocked_is d.session)
      (ap (λ (x : Session). record { answer = record { a = o.answer.a; h = o.answer.h; session = x }; lent = o.lent })
      (relocked_is d.session o.answer.session (lifted_stays G q.asked (lent_to (opened_up d) q) (opened_up d).session)))

  -- what a call left, opened up again, is what it left
  pub left_open : lifted_by (open_byte d.session) (left (outcome_of G (opened_up d) q)) ≡ left (outcome_of G (opened_up d) q)
  unfolding outcome_of
  left_open =
      let o : Outcome = outcome_of G (opened_up d) q in
      ap (λ (b : ℕ). lifted_by b (left o)) (sym (lifted_stays G q.asked (lent_to (opened_up d) q) (opened_up d).session))

-- the byte is the same for a session with the same protection
pub byte_same : (s t : Session) → t.lifted ≡ s.lifted → open_byte t ≡ open_byte s
unfolding open_byte protected
byte_same s t q = rw q
