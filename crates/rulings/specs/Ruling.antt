-- What the state says of a record call that the first three rows of the table have passed: refused with a code, or a plan to follow.
-- The four calls have one chain of rows, whose end goes by whether the call writes: the number decides only where document 01's table tells
-- them apart.
use Rattle.std.specs.Prelude.{◌≡◌, Bool, not, cond, List, [], ◌∷◌, ℕ, ◌<◌, eqb, leb, ltb, None, Option, Some, Err, Ok, Result, is_some}
use Rattle.lists.specs.Tests.{◌and◌, ◌or◌}
use Rattle.format.specs.Diskette.{Bytes, Geometry, extents}
use Rattle.format.specs.Entries.{Rows, read_only, find_empty_rule}
use Rattle.format.specs.Notes.{find_free}
use Rattle.model.specs.declared.Code.{Code}
use Rattle.model.specs.declared.Code.TheVariants.{BadRecord, NotCurrent, ReadOnly, NoExtent, NoRecord, NoEntry, DiskFull}
use Rattle.model.specs.declared.Plan.{Plan}
use Rattle.model.specs.declared.Plan.TheVariants.{Make}
use Rattle.model.specs.declared.Kind.TheVariants.{Write}
use Rattle.model.specs.Kinds.{kind_of, same}
use Rattle.model.specs.Lent.{Lent, rows_of}
use Rattle.model.specs.Target.{target_extent, present_entry, target_entry, block_there, record_there, read_only_there, plan, read_only_in}
use Rattle.model.specs.Table.{Row, when, first_row}
use Rattle.targets.specs.Target.{over_last_rule, missing_code, arrived_slot_rule, arrived_count_rule, go_to_rule}

-- ---- the ruling, from the table's verdict and the plan
abbrev pub ruling_of : Option Code → Plan → Result Plan Code
ruling_of None p = Ok p
ruling_of (Some code) p = Err code

module _ (G : Geometry) (n user : ℕ) (l : Lent) where
  -- the rows of 20 and 33 where the FCB is current
  unfoldable pub read_rows : List Row
  read_rows = when (not (is_some (target_entry G n user l))) (missing_code n NoExtent) ∷ when (not (record_there G n user l)) NoRecord ∷ []

  -- those of 21 and 34
  unfoldable pub write_rows : List Row
  write_rows =
      when (read_only_there G n user l) ReadOnly
      ∷ when (leb extents (target_extent n l.fcb)) NoRecord
      ∷ when (not (is_some (target_entry G n user l)) and not (is_some (find_empty_rule G (rows_of G l)))) (missing_code n NoEntry)
      ∷ when (eqb (block_there G n user l) 0 and not (is_some (find_free G l.drive.map))) DiskFull
      ∷ []

  unfoldable pub ruling_rows : List Row
  ruling_rows =
      when (over_last_rule n (target_extent n l.fcb)) BadRecord
      ∷ when (not (is_some (present_entry G user l))) NotCurrent
      ∷ cond (same (kind_of n) Write) write_rows read_rows

  unfoldable pub ruling : Result Plan Code
  ruling = ruling_of (first_row ruling_rows) (plan G n user l)

-- ---- the ruling once the FCB's entry is known: e
-- reading record r of the extent, in slot j
unfoldable pub read_to_rule : Geometry → Rows → Bytes → ℕ → ℕ → ℕ → ℕ → Result Plan Code
read_to_rule G d fcb e t j r =
    cond (ltb r (arrived_count_rule d fcb e t) and not (eqb (arrived_slot_rule G d fcb e t j) 0)) (Ok (go_to_rule e t (arrived_slot_rule G d fcb e t j)))
    (Err NoRecord)

abbrev pub read_from : Geometry → Rows → Bytes → ℕ → ℕ → ℕ → ℕ → Option ℕ → Result Plan Code
read_from G d fcb n e j r (Some t) = read_to_rule G d fcb e t j r
read_from G d fcb n e j r None = Err (missing_code n NoExtent)

-- a look-up's answer, where it has found something, is below n
abbrev pub Among : ℕ → Option ℕ → Type 0
Among n r = (k : ℕ) → r ≡ Some k → k < n

-- t1' in the FCB's entry or in the target's
unfoldable pub guarded : Rows → ℕ → Option ℕ → Bool
guarded d e target = read_only (d e) or read_only_in d target

-- a slot of 0 takes the first free block; where there is none, the disk is full
unfoldable pub block_for_rule : Geometry → Bytes → ℕ → Option ℕ
block_for_rule G map slot = cond (eqb slot 0) (find_free G map) (Some slot)

abbrev pub with_block : (ℕ → Plan) → Option ℕ → Result Plan Code
with_block p (Some b) = Ok (p b)
with_block p None = Err DiskFull

-- writing where the extent has no entry: it is made in the first empty one
abbrev pub made_at : Geometry → Bytes → Code → ℕ → Option ℕ → Result Plan Code
made_at G map code e (Some t) = with_block (Make e t) (find_free G map)
made_at G map code e None = Err code

unfoldable pub write_new_rule : Geometry → Rows → Bytes → Code → ℕ → Result Plan Code
write_new_rule G d map code e = made_at G map code e (find_empty_rule G d)

-- writing into slot j of the target's entry
abbrev pub write_to_rule : Geometry → Rows → Bytes → Bytes → Code → ℕ → ℕ → Option ℕ → Result Plan Code
write_to_rule G d map fcb code e j (Some t) = with_block (go_to_rule e t) (block_for_rule G map (arrived_slot_rule G d fcb e t j))
write_to_rule G d map fcb code e j None = write_new_rule G d map code e

-- and what is asked before that: both entries writable, and an extent below 2,048
unfoldable pub write_from : Geometry → Rows → Bytes → Bytes → ℕ → ℕ → ℕ → ℕ → Option ℕ → Result Plan Code
write_from G d map fcb n e j ext target =
    cond (guarded d e target) (Err ReadOnly)
    (cond (leb extents ext) (Err NoRecord) (write_to_rule G d map fcb (missing_code n NoEntry) e j target))
