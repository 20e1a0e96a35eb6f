-- What a refusal says and what a call that is carried out says, and that a step is exact.
use Rattle.std.specs.Prelude.{◌≡◌, ◌⊎◌, ℕ, ◌≤◌}
use Rattle.std.proofs.Common.{sym, ◌∙◌}
use Rattle.format.specs.Diskette.{Geometry, eight_inch}
use Rattle.model.specs.declared.Asked.{Asked}
use Rattle.model.specs.declared.Session.{Session}
use Rattle.model.specs.declared.Code.{Code}
use Rattle.model.specs.Codes.{a_of, h_of}
use Rattle.model.specs.Kinds.{kind_of}
use Rattle.model.specs.Lent.{Lent, Outcome, ended, with_lifted}
use Rattle.model.specs.Table.{table}
use Rattle.model.specs.Step.{refused, stamped, step}
use Rattle.table.specs.First.{NoneHolds, Decides}
use Rattle.table.specs.Facts.{AcceptedCall}
use Rattle.table.specs.Refuse.{SearchEnds, Refuses}
use Rattle.table.specs.Carried.{Done}

module _ (G : Geometry) (asked : Asked) (l : Lent) (s : Session) where
  -- a refusal with code c
  pub record RefusedBy (c : Code) : Type 0 where
    -- c is the code of the first row of the table that holds
    pub row : Decides c (table G asked l s)
    -- where that row stands: the first three, the protection's, or those of the call
    pub source : Refuses G asked l s c
    pub is : step G asked l s ≡ refused c s l
    pub is_a : (step G asked l s).answer.a ≡ a_of c
    pub is_h : (step G asked l s).answer.h ≡ h_of c
    -- nothing changes
    pub kept : (step G asked l s).lent ≡ l
    -- the session ends its search exactly where the search is over, and stays as it was everywhere else
    pub session : (SearchEnds G asked l s asked.number × ((step G asked l s).answer.session ≡ ended s))
        ⊎ ((SearchEnds G asked l s asked.number → ⊥) × ((step G asked l s).answer.session ≡ s))

  -- a call that is carried out
  pub record CarriedOut : Type 0 where
    -- no row of the table holds
    pub none : NoneHolds (table G asked l s)
    pub facts : AcceptedCall G asked l s
    pub is : step G asked l s ≡ stamped G asked l s
    -- A, H and the session
    pub done : Done G asked l s (kind_of asked.number) (step G asked l s)

  -- exact: any two outcomes that meet the contract are equal
  pub exact : (o p : Outcome) → o ≡ step G asked l s → p ≡ step G asked l s → o ≡ p
  exact o p a b = a ∙ sym b

-- ---- the session stays in range: its user at most 15, its place at most the number of entries
pub record InRange (G : Geometry) (s : Session) : Type 0 where
  pub user : s.user ≤ 15
  pub place : s.place ≤ G.entries

-- whatever the protection
pub range_lifted : {G : Geometry} {s : Session} (b : ℕ) → InRange G s → InRange G (with_lifted s b)
range_lifted b r = record { user = r.user; place = r.place }

-- ---- the 8-inch disk
pub eight_exact : (asked : Asked) (l : Lent) (s : Session) (o p : Outcome) → o ≡ step eight_inch asked l s → p ≡ step eight_inch asked l s → o ≡ p
eight_exact = exact eight_inch
