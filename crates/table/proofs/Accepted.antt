-- What an answer says of its call: it was carried out exactly when A and H say so.
use Rattle.std.specs.Prelude.{◌≡◌, Bool, true, not, cond, List, [], ◌∷◌, ℕ, ◌%◌, ◌≤◌, Option}
use Rattle.std.proofs.Math.Path.{refl, ap}
use Rattle.std.proofs.Common.{sym, ◌∙◌, arith, eq-eqb, eqb-true, ne_eqb}
use Rattle.std.proofs.Math.Bool.{false}
use Rattle.std.proofs.Math.Dec.{eqb}
use Rattle.lists.specs.Cases.{split, bool_cases, not_both, clash, cond_either}
use Rattle.lists.specs.Tests.{and_both, and_then, and_fails_left}
use Rattle.format.specs.Diskette.{Geometry}
use Rattle.model.specs.declared.Asked.{Asked}
use Rattle.model.specs.declared.Session.{Session}
use Rattle.model.specs.declared.Answer.{Answer}
use Rattle.model.specs.declared.Code.{Code}
use Rattle.model.specs.declared.Kind.{Kind}
use Rattle.model.specs.declared.Kind.TheVariants.{Unlisted, Quiet, Search, User, Settle, Close, Delete, Create, Rename, Read, Write}
use Rattle.model.specs.Codes.{a_of, h_of}
use Rattle.model.specs.Lent.{Lent, Outcome, answer_of}
use Rattle.model.specs.Kinds.{one_of, kind_of, of_record}
use Rattle.model.specs.Table.{call_rows}
use Rattle.model.specs.Step.{refused_session, told, step}
use Rattle.table.specs.Carried.{AnswersEntry, Done}
use Rattle.table.specs.Refuse.{row_of, Refuses, unlisted, parameter, disk, protection, own}
use Rattle.table.specs.Total.{RefusedBy, CarriedOut}
use Rattle.table.proofs.Total.{total}
use Rattle.table.specs.Accepted.{accepted_answer}

-- ---- a code that the table gives for a call is no acceptance
-- every call of the list is of records
abbrev all_record : List ℕ → Bool
all_record [] = true
all_record (n ∷ ns) = cond (of_record (kind_of n)) (all_record ns) false

-- H is not 0, or A is 255, or A is not 0 and the calls are of records
abbrev refusal : List ℕ → Code → Bool
refusal cs c = cond (eqb (h_of c) 0) (cond (eqb (a_of c) 255) true (cond (eqb (a_of c) 0) false (all_record cs))) true

all_record_law : (n : ℕ) (cs : List ℕ) → all_record cs ≡ true → one_of n cs ≡ true → of_record (kind_of n) ≡ true
all_record_law n [] a h = clash (sym h)
all_record_law n (c ∷ cs) a h =
    split (bool_cases (of_record (kind_of c)))
    (λ t. split (bool_cases (eqb n c)) (λ e. rw (eqb-true n c e) t) (λ e. all_record_law n cs (rw t at a) (rw e at h)))
    (λ f. let z : false ≡ true = rw f at a in clash (sym z))

-- H is not 0
error_refused : (n : ℕ) (c : Code) (t : Session) → eqb (h_of c) 0 ≡ false → accepted_answer n (answer_of c t) ≡ false
unfolding accepted_answer
error_refused n c t h = and_fails_left _ _ h

refusal_refused : (n : ℕ) (cs : List ℕ) (c : Code) (t : Session) → refusal cs c ≡ true → one_of n cs ≡ true → accepted_answer n (answer_of c t) ≡ false
unfolding accepted_answer
refusal_refused n cs c t r o =
    split (bool_cases (eqb (h_of c) 0))
    (λ h. and_then _ _ h ∙ split (bool_cases (eqb (a_of c) 255))
    (λ a. rw (eqb-true (a_of c) 255 a) (cond_either (λ (b : Bool). b ≡ false) (of_record (kind_of n)) (λ y. refl) (λ y. refl)))
    (λ a. split (bool_cases (eqb (a_of c) 0)) (λ z. let w : false ≡ true = rw (h, a, z) at r in clash (sym w))
    (λ z. rw (all_record_law n cs (rw (h, a, z) at r) o) z)))
    (λ h. error_refused n c t h)

-- ---- a call that was carried out answers with acceptance
plain_accepted : (n : ℕ) (k : Kind) → kind_of n ≡ k → (a : Answer) → of_record k ≡ false → a.h ≡ 0 → (a.a ≡ 255 → ⊥) → accepted_answer n a ≡ true
unfolding accepted_answer
plain_accepted n k q a o h z = and_both _ _ (eq-eqb _ _ h) (rw (q, o) (ap not (ne_eqb a.a 255 z)))

record_accepted : (n : ℕ) (k : Kind) → kind_of n ≡ k → (a : Answer) → of_record k ≡ true → a.h ≡ 0 → a.a ≡ 0 → accepted_answer n a ≡ true
unfolding accepted_answer
record_accepted n k q a o h z = and_both _ _ (eq-eqb _ _ h) (rw (q, o) (eq-eqb a.a 0 z))

module _ (G : Geometry) (asked : Asked) (l : Lent) (s : Session) (low : s.user ≤ 15) where
  entry_low : (r : Option ℕ) (a : ℕ) → AnswersEntry r a → a ≡ 255 → ⊥
  entry_low r a w q = let m : a ≡ w.entry % 4 = w.mod_four in omega arith

  zero_low : (a : ℕ) → a ≡ 0 → a ≡ 255 → ⊥
  zero_low a z q = omega arith

  user_low : (a : ℕ) → a ≡ cond (eqb asked.argument 255) s.user 0 → a ≡ 255 → ⊥
  user_low a e q = absurd (cond_either (λ (x : ℕ). a ≡ x → ⊥) (eqb asked.argument 255) (λ y z. omega arith) (λ y z. omega arith) e)

  done_accepted : (k : Kind) → kind_of asked.number ≡ k → (o : Outcome) → Done G asked l s k o → accepted_answer asked.number o.answer ≡ true
  done_accepted Unlisted q o d = absurd d.answers
  done_accepted Quiet q o d = plain_accepted asked.number Quiet q o.answer refl d.no_error (λ z. let m : o.answer.a ≡ (told G asked l s).entry % 4 = d.answers.0 in omega arith)
  done_accepted Search q o d = plain_accepted asked.number Search q o.answer refl d.no_error (entry_low _ _ d.answers)
  done_accepted User q o d = plain_accepted asked.number User q o.answer refl d.no_error (user_low o.answer.a d.answers)
  done_accepted Settle q o d = plain_accepted asked.number Settle q o.answer refl d.no_error (zero_low _ d.answers)
  done_accepted Close q o d = plain_accepted asked.number Close q o.answer refl d.no_error (entry_low _ _ d.answers)
  done_accepted Delete q o d = plain_accepted asked.number Delete q o.answer refl d.no_error (zero_low _ d.answers)
  done_accepted Create q o d = plain_accepted asked.number Create q o.answer refl d.no_error (entry_low _ _ d.answers)
  done_accepted Rename q o d = plain_accepted asked.number Rename q o.answer refl d.no_error (zero_low _ d.answers)
  done_accepted Read q o d = record_accepted asked.number Read q o.answer refl d.no_error d.answers
  done_accepted Write q o d = record_accepted asked.number Write q o.answer refl d.no_error d.answers

-- ---- the answer and what was done
module _ (G : Geometry) (asked : Asked) (l : Lent) (s : Session) where
  pub refused_says : (c : Code) → RefusedBy G asked l s c → accepted_answer asked.number (step G asked l s).answer ≡ false
  unfolding kind_of
  refused_says c r = ap (λ (o : Outcome). accepted_answer asked.number o.answer) r.is ∙ go r.source
    where
      go : Refuses G asked l s c → accepted_answer asked.number (answer_of c (refused_session c s)) ≡ false
      go (unlisted e f) = error_refused asked.number c (refused_session c s) (ap (λ (d : Code). eqb (h_of d) 0) e)
      go (parameter e t f) = error_refused asked.number c (refused_session c s) (ap (λ (d : Code). eqb (h_of d) 0) e)
      go (disk e t f) = error_refused asked.number c (refused_session c s) (ap (λ (d : Code). eqb (h_of d) 0) e)
      go (protection e t w f) = error_refused asked.number c (refused_session c s) (ap (λ (d : Code). eqb (h_of d) 0) e)
      go (own g w p d) =
          let row = row_of refusal asked.number c (call_rows G asked l s) refl d in
          refusal_refused asked.number row.calls c (refused_session c s) row.passes row.applies

  pub carried_says : CarriedOut G asked l s → accepted_answer asked.number (step G asked l s).answer ≡ true
  carried_says c = done_accepted G asked l s c.facts.ready.fits.user_low (kind_of asked.number) refl (step G asked l s) c.done

  -- an answer of acceptance comes from a call that was carried out
  pub accepted_carried : accepted_answer asked.number (step G asked l s).answer ≡ true → CarriedOut G asked l s
  accepted_carried t = split (total G asked l s) (λ r. not_both _ t (refused_says r.0 r.1)) (λ c. c)
