-- The target of a record call as code has it, and what the FCB will find there.
use Rattle.std.specs.Prelude.{◌≡◌, Bool, cond, ℕ, max, eqb, leb}
use Rattle.lists.specs.Tests.{◌and◌}
use Rattle.format.specs.Diskette.{Bytes, Geometry, extents}
use Rattle.format.specs.Entries.{Rows, slot_of, count_of}
use Rattle.model.specs.declared.Code.{Code}
use Rattle.model.specs.declared.Code.TheVariants.{NoRecord}
use Rattle.model.specs.declared.Plan.{Plan}
use Rattle.model.specs.declared.Plan.TheVariants.{Stay, Move}
use Rattle.model.specs.Kinds.{is_random_rule}
use Rattle.model.specs.Target.{target_extent, target_record, cr_after}
use Rattle.targets.specs.declared.Target.{Target}

-- t is the target of call n, with cr afterwards
pub record TargetOf (n : ℕ) (fcb : Bytes) (t : Target) : Type 0 where
  pub extent : t.extent ≡ target_extent n fcb
  pub at : t.at ≡ target_record n fcb
  pub after : t.after ≡ cr_after n fcb

-- the random record is over 262,143: its extent is past the last
unfoldable pub over_last_rule : ℕ → ℕ → Bool
over_last_rule n ext = is_random_rule n and leb extents ext

-- the code where the target's extent has no entry and that refuses the call: 33 and 34 have codes of their own
unfoldable pub missing_code : ℕ → Code → Code
missing_code n random = cond (is_random_rule n) random NoRecord

-- ---- from the FCB's entry e to the target's entry t, on a disk whose entries cover one extent each: they are one exactly where there is no
-- move, and each carries the count of the extent that it is asked for
-- the slot and the count as the FCB has them once it has come there: its own, or those of the entry moved to
unfoldable pub arrived_slot_rule : Geometry → Rows → Bytes → ℕ → ℕ → ℕ → ℕ
arrived_slot_rule G d fcb e t j = cond (eqb t e) (slot_of G fcb j) (slot_of G (d t) j)

unfoldable pub arrived_count_rule : Rows → Bytes → ℕ → ℕ → ℕ
arrived_count_rule d fcb e t = cond (eqb t e) (max (count_of fcb) (count_of (d t))) (count_of (d t))

unfoldable pub go_to_rule : ℕ → ℕ → ℕ → Plan
go_to_rule e t b = cond (eqb t e) (Stay e b) (Move e t b)
