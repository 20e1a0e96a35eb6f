-- Demand 1: every call either is refused, by the first row of the table that holds, with nothing changed, or is carried out.
use Rattle.std.specs.Prelude.{◌≡◌, ◌⊎◌, true, false, cond, ◌≤◌, ◌<◌, eqb, None, Option, Some}
use Rattle.std.proofs.Math.Path.{refl}
use Rattle.std.proofs.Common.{sym, ap, ◌∙◌, inl, inr, eq-eqb, ne_eqb}
use native.Mathlib.Omega.{arith}
use Rattle.lists.specs.Cases.{split, bool_cases, not_both}
use Rattle.format.specs.Diskette.{Geometry, eight_inch}
use Rattle.facts.specs.Found.{first_says}
use Rattle.model.specs.declared.Asked.{Asked}
use Rattle.model.specs.declared.Session.{Session}
use Rattle.model.specs.declared.Code.{Code}
use Rattle.model.specs.declared.Code.TheVariants.{SearchOver}
use Rattle.model.specs.Codes.{says_of}
use Rattle.model.specs.Kinds.{kind_of, is_call}
use Rattle.model.specs.Lent.{Lent, ended, with_user}
use Rattle.model.specs.Search.{find_hit_rule}
use Rattle.model.specs.Table.{own_rows, protection_holds, table, verdict}
use Rattle.model.specs.Step.{refused_session, refused, place, effect, stamped, step}
use Rattle.table.specs.First.{NoneHolds, Decides, passed_none, refused_same, refused_decides}
use Rattle.table.specs.Facts.{Ready, AcceptedCall}
use Rattle.table.specs.Accept.{own_at}
use Rattle.table.proofs.Accept.{accepted, passes}
use Rattle.table.specs.Refuse.{SearchEnds}
use Rattle.table.proofs.Refuse.{search_over, over_search, refuses, refused_own}
use Rattle.table.specs.Carried.{Leaves, over, on, sets, Done}
use Rattle.table.proofs.Carried.{carried_done}
use Rattle.table.specs.Total.{RefusedBy, CarriedOut, InRange}

module _ (G : Geometry) (asked : Asked) (l : Lent) (s : Session) where
  refused_is : (c : Code) → verdict G asked l s ≡ Some c → step G asked l s ≡ refused c s l
  unfolding step
  refused_is c q = rw q

  passed_is : verdict G asked l s ≡ None → step G asked l s ≡ stamped G asked l s
  unfolding step stamped
  passed_is q = rw q

  -- a code that ends no search is another than that of a search that is over
  not_over : (c : Code) → (says_of c).over ≡ false → verdict G asked l s ≡ Some c → SearchEnds G asked l s asked.number → ⊥
  not_over c f q e =
      let z : SearchOver ≡ c = refused_same SearchOver c (sym (over_search G asked l s asked.number e) ∙ q) in
      not_both (says_of c).over (ap (λ (x : Code). (says_of x).over) (sym z)) f

  session_of : (c : Code) → verdict G asked l s ≡ Some c
      → (SearchEnds G asked l s asked.number × (refused_session c s ≡ ended s)) ⊎ ((SearchEnds G asked l s asked.number → ⊥) × (refused_session c s ≡ s))
  session_of c q =
      split (bool_cases (says_of c).over) (λ t. inl (search_over G asked l s c t (refuses G asked l s c q), rw t)) (λ f. inr (not_over c f q, rw f))

  pub total_refused : (c : Code) → verdict G asked l s ≡ Some c → RefusedBy G asked l s c
  unfolding verdict
  total_refused c q =
      let is = refused_is c q in
      record {
        row = refused_decides c (table G asked l s) q;
        source = refuses G asked l s c q;
        is = is;
        is_a = rw is;
        is_h = rw is;
        kept = rw is;
        session = rw is (session_of c q);
      }

  effect_done : AcceptedCall G asked l s → Done G asked l s (kind_of asked.number) (stamped G asked l s)
  unfolding effect stamped
  effect_done c =
      let d = carried_done G asked l s c (kind_of asked.number) refl in record { answers = d.answers; no_error = d.no_error; leaves = d.leaves }

  pub total_accepted : verdict G asked l s ≡ None → CarriedOut G asked l s
  unfolding verdict
  total_accepted q =
      let facts = accepted G asked l s q in
      let is = passed_is q in
      record {
        none = passed_none (table G asked l s) q;
        facts = facts;
        is = is;
        done = rw is (effect_done facts);
      }

  -- a call whose facts hold is carried out
  pub step_carried : is_call asked.number ≡ true → Ready G asked l s → protection_holds G asked l s ≡ false → NoneHolds (own_rows G asked l s)
      → step G asked l s ≡ stamped G asked l s
  step_carried t r p o = passed_is (passes G asked l s t r p o)

  -- a call that a row of its own refuses is refused
  pub step_refused : (code : Code) → is_call asked.number ≡ true → Ready G asked l s → protection_holds G asked l s ≡ false → Decides code (own_rows G asked l s)
      → step G asked l s ≡ refused code s l
  step_refused code t r p d = refused_is code (refused_own G asked l s code t r p d)

  -- every call is the one or the other
  pub total : ((c : Code) × RefusedBy G asked l s c) ⊎ CarriedOut G asked l s
  total = go (verdict G asked l s) refl
    where
      go : (v : Option Code) → verdict G asked l s ≡ v → ((c : Code) × RefusedBy G asked l s c) ⊎ CarriedOut G asked l s
      go None q = inr (total_accepted q)
      go (Some c) q = inl (c, total_refused c q)

-- ---- the session stays in range
ended_range : (G : Geometry) (s : Session) → InRange G s → InRange G (ended s)
ended_range G s r = record { user = r.user; place = omega arith }

module _ (G : Geometry) (asked : Asked) (l : Lent) (s : Session) (r : InRange G s) where
  user_range : (t : Session) → (asked.argument ≡ 255) ⊎ (asked.argument ≤ 15)
      → t ≡ ended (cond (eqb asked.argument 255) s (with_user s asked.argument)) → InRange G t
  user_range t (inl q) e = let z : eqb asked.argument 255 ≡ true = eq-eqb _ _ q in rw (e, z) (ended_range G s r)
  user_range t (inr h) e =
      let z : eqb asked.argument 255 ≡ false = ne_eqb asked.argument 255 (λ q. omega arith) in rw (e, z) record { user = h; place = omega arith }

  leaves_range : (t : Session) → AcceptedCall G asked l s → Leaves G asked l s (kind_of asked.number) t → InRange G t
  unfolding find_hit_rule
  leaves_range t c (over p q e) = rw e (ended_range G s r)
  leaves_range t c (on k g) =
      let below : g.entry < G.entries = (first_says _ (place G asked l s) G.entries g.entry g.found).below in
      rw g.on record { user = r.user; place = omega arith }
  leaves_range t c (sets k e) = user_range t (own_at G asked l s c k) e

pub step_range : (G : Geometry) (asked : Asked) (l : Lent) (s : Session) → InRange G s → InRange G (step G asked l s).answer.session
step_range G asked l s r =
    split (total G asked l s)
    (λ w. split w.1.session (λ e. rw e.1 (ended_range G s r)) (λ e. rw e.1 r))
    (λ w. leaves_range G asked l s r (step G asked l s).answer.session w.facts w.done.leaves)

-- ---- the 8-inch disk
pub eight_total : (asked : Asked) (l : Lent) (s : Session) → ((c : Code) × RefusedBy eight_inch asked l s c) ⊎ CarriedOut eight_inch asked l s
eight_total = total eight_inch
