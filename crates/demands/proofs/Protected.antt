-- On a protected session no call changes a byte of the image, and none but 13 and 98 one of the map; so nothing changes over any run in which the
-- protection is never lifted. And but for an open, a call that the protection does not refuse does the same once it is lifted.
use Rattle.model.specs.declared.Code.{Code}
use Rattle.std.specs.Prelude.{◌≡◌, true, ℕ, None, Option, Some}
use Rattle.std.proofs.Math.Path.{refl, ap}
use Rattle.std.proofs.Common.{◌∙◌}
use Rattle.std.proofs.Math.Bool.{false}
use mathlib.Core.List.{List, [], ◌∷◌}
use Rattle.lists.specs.Cases.{split}
use Rattle.format.specs.Diskette.{Geometry}
use Rattle.model.specs.declared.Asked.{Asked}
use Rattle.model.specs.declared.Session.{Session}
use Rattle.model.specs.Lent.{Lent, protected, with_lifted}
use Rattle.model.specs.Step.{step}
use Rattle.model.specs.Table.{protection_holds, verdict}
use Rattle.table.proofs.Total.{total}
use Rattle.format.specs.Dates.{dated}
use Rattle.model.specs.Kinds.{kind_of}
use Rattle.model.specs.Lent.{rows_of}
use Rattle.model.specs.Stamps.{where_dated}
use Rattle.model.specs.Step.{stamps_made}
use Rattle.demands.specs.Runs.{Disk, lent_to, outcome_of, after, Act, one_call, lifts, protects, after_act, run}
use Rattle.demands.specs.Protected.{Unchanged, NeverLifted, NeverSettled, relifted, nothing_changed, carried_leaves, stays_protected, same_verdict, same_carried, same_stamps}

-- ---- one call
pub protected_step : (G : Geometry) (asked : Asked) (l : Lent) (s : Session) → protected s ≡ true → Unchanged l asked.number (step G asked l s)
protected_step G asked l s p =
    split (total G asked l s) (λ r. nothing_changed l asked.number (step G asked l s) (ap (λ (x : Lent). x.drive) r.1.kept))
    (λ c. carried_leaves G asked l s p c)

-- ---- any run in which the protection is never lifted
module _ (G : Geometry) where
  pub protected_image : (d : Disk) → protected d.session ≡ true → (acts : List Act) → NeverLifted acts → (run G d acts).drive.image ≡ d.drive.image
  unfolding run after outcome_of protected
  protected_image d p [] n = refl
  protected_image d p (one_call q ∷ acts) n =
      protected_image (after G d q) (stays_protected G d q p) acts n ∙ (protected_step G q.asked (lent_to d q) d.session p).image
  protected_image d p (lifts ∷ acts) n = absurd n
  protected_image d p (protects ∷ acts) n = protected_image (after_act G d protects) refl acts n

  pub protected_map : (d : Disk) → protected d.session ≡ true → (acts : List Act) → NeverLifted acts → NeverSettled G d acts → (run G d acts).drive.map ≡ d.drive.map
  unfolding run after outcome_of protected
  protected_map d p [] n m = refl
  protected_map d p (one_call q ∷ acts) n m =
      protected_map (after G d q) (stays_protected G d q p) acts n m.1 ∙ (protected_step G q.asked (lent_to d q) d.session p).map m.0
  protected_map d p (lifts ∷ acts) n m = absurd n
  protected_map d p (protects ∷ acts) n m = protected_map (after_act G d protects) refl acts n m

-- ---- a call that the protection does not refuse
module _ (G : Geometry) (asked : Asked) (l : Lent) (s : Session) (b : ℕ) (nonzero : b ≡ 0 → ⊥) where
  same_made : (asked.number ≡ 15 → ⊥) → (v : Option Code) → stamps_made G asked l (with_lifted s b) v ≡ stamps_made G asked l s v
  same_made n None = ap (where_dated (dated (rows_of G l))) (same_stamps G asked l s b nonzero n (kind_of asked.number))
  same_made n (Some c) = refl

module _ (G : Geometry) (asked : Asked) (l : Lent) (s : Session) (b : ℕ) (nonzero : b ≡ 0 → ⊥)
    (f : protection_holds G asked l s ≡ false) where
  -- the whole of any but an open
  pub lifted_same : (asked.number ≡ 15 → ⊥) → step G asked l (with_lifted s b) ≡ relifted b (step G asked l s)
  unfolding step
  lifted_same n = rw (same_verdict G asked l s b nonzero f, same_made G asked l s b nonzero n (verdict G asked l s), same_carried G asked l s b nonzero (verdict G asked l s))
