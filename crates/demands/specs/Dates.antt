-- What the law of each stamp, in proofs/Dates, rests on: the newest of a list of stamps; the calls that are refused or settle, which stamp nothing;
-- and what a close stamps.
use Rattle.std.specs.Prelude.{◌≡◌, refl, Bool, false, cond, List, [], ◌∷◌, ◌++◌, ℕ, ◌<◌}
use Rattle.std.proofs.Math.Path.{ap}
use Rattle.std.proofs.Common.{sym, ◌∙◌, arith}
use Rattle.std.proofs.Math.Bool.{true}
use Rattle.std.proofs.Math.Dec.{eqb}
use borrow.Author.Tests.{eqb-true, eq-eqb}
use Rattle.lists.specs.Cases.{split, eq_or_ne, refute, cond_either}
use Rattle.lists.specs.Tests.{◌and◌, and_left, and_right, and_both}
use Rattle.format.specs.Diskette.{Bytes, Geometry}
use Rattle.format.specs.Dates.{stamp_at, asks_update, asks}
use Rattle.model.specs.declared.Asked.{Asked}
use Rattle.model.specs.declared.Session.{Session}
use Rattle.model.specs.declared.Kind.TheVariants.{Settle}
use Rattle.model.specs.declared.Code.{Code}
use Rattle.model.specs.Kinds.{kind_of}
use Rattle.model.specs.Lent.{Lent, Outcome, rows_of}
use Rattle.model.specs.Stamps.{Stamp, time_stamp_rule, no_stamp, first, update, only_if, close_stamps}
use Rattle.model.specs.Closing.{close_changes_rule}
use Rattle.model.specs.Calls.{logged_in, freed}
use Rattle.model.specs.Step.{settled, does, step}
use Rattle.table.specs.Total.{RefusedBy, CarriedOut}
use Rattle.invariant.specs.Stamps.{newest}
use Rattle.demands.specs.Stamped.{stamped_as_law}

-- ---- the newest of a list
pub newest_join : (xs ys : List Stamp) (e which : ℕ) (was : Bytes) → newest (xs ++ ys) e which was ≡ newest ys e which (newest xs e which was)
newest_join [] ys e which was = refl
newest_join (x ∷ xs) ys e which was = newest_join xs ys e which (cond (eqb x.entry e and eqb x.which which) x.bytes was)

module _ (x : Stamp) (e which : ℕ) (was : Bytes) where
  hit : x.entry ≡ e → x.which ≡ which → newest (x ∷ []) e which was ≡ x.bytes
  hit p q = let t : (eqb x.entry e and eqb x.which which) ≡ true = and_both _ _ (eq-eqb _ _ p) (eq-eqb _ _ q) in rw t

  miss : ((x.entry ≡ e) × (x.which ≡ which) → ⊥) → newest (x ∷ []) e which was ≡ was
  miss n =
      let t : (eqb x.entry e and eqb x.which which) ≡ false =
      sym (refute _ (λ h. n (eqb-true _ _ (and_left _ _ h), eqb-true _ _ (and_right _ _ h)))) in rw t

  pub only_hit : (b : Bool) → x.entry ≡ e → x.which ≡ which → newest (only_if b x) e which was ≡ cond b x.bytes was
  only_hit true p q = hit p q
  only_hit false p q = refl

  pub only_miss : (b : Bool) → ((x.entry ≡ e) × (x.which ≡ which) → ⊥) → newest (only_if b x) e which was ≡ was
  only_miss true n = miss n
  only_miss false n = refl

-- both stamps of a new entry become zero, and no other
module _ (f e which : ℕ) (was : Bytes) where
  pub new_hit : f ≡ e → which < 2 → newest (first f no_stamp ∷ update f no_stamp ∷ []) e which was ≡ no_stamp
  new_hit p h =
      split (eq_or_ne 1 which) (λ q. hit (update f no_stamp) e which _ p q)
      (λ q. miss (update f no_stamp) e which (newest (first f no_stamp ∷ []) e which was) (λ w. q w.1) ∙ hit (first f no_stamp) e which was p (omega arith))

  pub new_miss : (f ≡ e → ⊥) → newest (first f no_stamp ∷ update f no_stamp ∷ []) e which was ≡ was
  new_miss n =
      miss (update f no_stamp) e which (newest (first f no_stamp ∷ []) e which was) (λ w. n w.0) ∙ miss (first f no_stamp) e which was (λ w. n w.0)

-- ---- a refusal stamps nothing
pub refused_stamp : (G : Geometry) (asked : Asked) (l : Lent) (s : Session) (c : Code) → RefusedBy G asked l s c
    → (e which : ℕ) → stamp_at G (step G asked l s).lent.drive.image e which ≡ stamp_at G l.drive.image e which
refused_stamp G asked l s c r e which = ap (λ (x : Lent). stamp_at G x.drive.image e which) r.kept

-- ---- 13 and 98 leave the image as it is
pub settles_image : (G : Geometry) (asked : Asked) (l : Lent) (s : Session) → (does G asked l s Settle).lent.drive.image ≡ l.drive.image
unfolding settled logged_in freed
settles_image G asked l s = cond_either (λ (o : Outcome). o.lent.drive.image ≡ l.drive.image) (eqb asked.number 13) (λ t. refl) (λ f. refl)

pub settled_image : (G : Geometry) (asked : Asked) (l : Lent) (s : Session) → CarriedOut G asked l s → kind_of asked.number ≡ Settle
    → (step G asked l s).lent.drive.image ≡ l.drive.image
settled_image G asked l s c q = ap (λ (o : Outcome). o.lent.drive.image) (c.is ∙ stamped_as_law G asked l s Settle q) ∙ settles_image G asked l s

-- ---- what a close stamps
module _ (G : Geometry) (asked : Asked) (l : Lent) (s : Session) where
  module _ (e which : ℕ) where
    -- f is closed: its update is stamped where the label asks and the close changes it
    abbrev pub stamps_update : ℕ → Bool
    stamps_update f = asks G (rows_of G l) asks_update and close_changes_rule G (rows_of G l f) l.fcb

    pub close_hit : (f : ℕ) (was : Bytes) → f ≡ e → 1 ≡ which → newest (close_stamps G asked l s f) e which was ≡ cond (stamps_update f) (time_stamp_rule asked) was
    unfolding close_stamps
    close_hit f was p w = only_hit (update f (time_stamp_rule asked)) e which was (stamps_update f) p w

    pub close_miss : (f : ℕ) (was : Bytes) → ((f ≡ e) × (1 ≡ which) → ⊥) → newest (close_stamps G asked l s f) e which was ≡ was
    unfolding close_stamps
    close_miss f was n = only_miss (update f (time_stamp_rule asked)) e which was (stamps_update f) n
