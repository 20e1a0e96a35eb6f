-- The protection of a record call by its ruling. Of a protected session only reads come here: one that its ruling refuses is refused as ever, and of
-- one that has a plan the plan tells whether the protection holds.
use Rattle.std.specs.Prelude.{◌≡◌, refl, true, false, ℕ, None, Option, Some, Err, Ok}
use Rattle.std.proofs.Common.{ap, ◌∙◌, arith}
use Rattle.lists.specs.Cases.{split, bool_cases}
use Rattle.lists.specs.Tests.{◌and◌, and_left, and_right, second_fails}
use Rattle.format.specs.Diskette.{Geometry}
use Rattle.model.specs.declared.Asked.{Asked}
use Rattle.model.specs.declared.Session.{Session}
use Rattle.model.specs.declared.Code.{Code}
use Rattle.model.specs.declared.Plan.{Plan}
use Rattle.model.specs.declared.Kind.TheVariants.{Read}
use Rattle.model.specs.Kinds.{kind_of, one_of}
use Rattle.model.specs.Lent.{Lent, protected}
use Rattle.model.specs.Target.{plan}
use Rattle.model.specs.Table.{readers, first_row, own_rows, move_changes, protection_holds}
use Rattle.table.specs.First.{◌&◌, passed_none, refused_decides}
use Rattle.table.specs.Own.{calling, at_kind}
use Rattle.table.specs.Protection.{reads_listed, plan_changes, lifted_spared, read_stopped, none_succeeds, unchanged_spared, failing_spared}
use Rattle.table.proofs.Protection.{plan_changes_law}
use Rattle.rulings.specs.Ruling.{ruling_of, ruling_rows, ruling}
use Rattle.rulings.specs.Own.{rows_20, rows_33}

-- a ruling tells the verdict of its rows, and the plan
ruling_refused : (v : Option Code) (p : Plan) (code : Code) → ruling_of v p ≡ Err code → v ≡ Some code
ruling_refused None p code h = absurd (let z : ◌≡◌ {A = ℕ} 0 1 = cc in omega arith)
ruling_refused (Some d) p code h = cc

ruling_passed : (v : Option Code) (q p : Plan) → ruling_of v q ≡ Ok p → (v ≡ None) × (q ≡ p)
ruling_passed None q p h = (refl, cc)
ruling_passed (Some d) q p h = absurd (let z : ◌≡◌ {A = ℕ} 0 1 = cc in omega arith)

module _ (G : Geometry) (asked : Asked) (l : Lent) (s : Session) (only : protected s ≡ true → kind_of asked.number ≡ Read) where
  reader : protected s ≡ true → one_of asked.number readers ≡ true
  reader t = reads_listed asked.number (only t)

  -- the rows of a read decide as its chain does
  rows_read : protected s ≡ true → first_row (own_rows G asked l s) ≡ first_row (ruling_rows G asked.number s.user l)
  rows_read t =
      at_kind (λ (m : ℕ). first_row (own_rows G (calling m asked) l s) ≡ first_row (ruling_rows G m s.user l)) Read asked.number refl
      (rows_20 G asked l s & rows_33 G asked l s & tt) (only t)

  -- a refusal
  pub refuse_spared : (code : Code) → ruling G asked.number s.user l ≡ Err code → protection_holds G asked l s ≡ false
  unfolding ruling
  refuse_spared code q =
      split (bool_cases (protected s))
      (λ t. failing_spared G asked l s (reader t) code (refused_decides code (own_rows G asked l s)
      (rows_read t ∙ ruling_refused (first_row (ruling_rows G asked.number s.user l)) (plan G asked.number s.user l) code q)))
      (λ f. lifted_spared G asked l s f)

  -- a plan
  module _ (p : Plan) (q : ruling G asked.number s.user l ≡ Ok p) where
    told : (first_row (ruling_rows G asked.number s.user l) ≡ None) × (plan G asked.number s.user l ≡ p)
    unfolding ruling
    told = ruling_passed (first_row (ruling_rows G asked.number s.user l)) (plan G asked.number s.user l) p q

    changes : move_changes G asked l s ≡ plan_changes G l p
    changes = plan_changes_law G asked l s ∙ ap (plan_changes G l) told.1

    pub follow_stopped : (protected s and plan_changes G l p) ≡ true → protection_holds G asked l s ≡ true
    follow_stopped h =
        let t = and_left _ _ h in
        read_stopped G asked l s t (reader t) (none_succeeds G asked l s (passed_none (own_rows G asked l s) (rows_read t ∙ told.0))) (changes ∙ and_right _ _ h)

    pub follow_spared : (protected s and plan_changes G l p) ≡ false → protection_holds G asked l s ≡ false
    follow_spared h =
        split (bool_cases (protected s)) (λ t. unchanged_spared G asked l s (reader t) (changes ∙ second_fails _ _ h t)) (λ f. lifted_spared G asked l s f)
