-- Document 01, "Codes, in the order they are tested", without the row of 3, 0, which request [7] takes away (docs/changes/07-code-3.md), and with
-- the row of 255, 2, which request [12] puts in (docs/changes/12-protect.md). Each row says to which calls it applies, when, and with which code.
-- Every row looks at the state as it came; the first that holds decides, and only the table refuses.
use Rattle.std.specs.Prelude.{Bool, true, false, cond, not, List, [], ◌∷◌, ℕ, eqb, leb, ltb, get_or, length, Option, None, Some, is_some}
use Rattle.lists.specs.Tests.{◌and◌, ◌or◌}
use Rattle.lists.specs.Below.{any_below}
use Rattle.format.specs.Diskette.{Bytes, Geometry, is_long, record_bytes, extents, last_record}
use Rattle.format.specs.Names.{name_right_rule}
use Rattle.format.specs.Entries.{ex_of, named, read_only, find_file_rule, find_named_rule, find_empty_rule}
use Rattle.format.specs.Dates.{bcd}
use Rattle.format.specs.Consistent.{extent_right_rule, consistent}
use Rattle.format.specs.Notes.{map_right, find_free}
use Rattle.format.specs.Fcb.{fcb_bytes, cr_right, random_of_rule}
use Rattle.format.specs.Found.{number_of}
use Rattle.model.specs.declared.Session.{Session}
use Rattle.model.specs.declared.Code.{Code}
use Rattle.model.specs.declared.Asked.{Asked}
use Rattle.model.specs.Kinds.{one_of, uses_fcb_rule, is_call}
use Rattle.model.specs.Lent.{Lent, rows_of, search_on, protected}
use Rattle.model.specs.Closing.{close_changes_rule}
use Rattle.model.specs.Target.{target_extent, present_entry, stays, target_entry, block_there, record_there, read_only_there}
use Rattle.model.specs.Search.{pattern_of, find_hit_rule}

-- ---- the tests
-- hour and minute in BCD
unfoldable pub time_right_rule : Asked → Bool
time_right_rule asked = bcd asked.hour and bcd asked.minute

module _ (G : Geometry) (l : Lent) where
  unfoldable pub lengths_right_rule : Bool
  lengths_right_rule =
      is_long G l.drive.image and eqb (length l.drive.map) G.blocks and eqb (length l.fcb) fcb_bytes
      and eqb (length l.buffer) record_bytes

  -- a length, the session's user or place, the time, or byte 0 of an FCB that is used
  unfoldable pub parameters_right_rule : Asked → Session → Bool
  parameters_right_rule asked s =
      lengths_right_rule and leb s.user 15 and leb s.place G.entries and time_right_rule asked
      and (not (uses_fcb_rule asked.number) or leb (get_or l.fcb 0 0) 1)

  unfoldable pub disk_right_rule : Asked → Bool
  disk_right_rule asked = consistent G l.drive.image and (eqb asked.number 13 or map_right G (rows_of G l) l.drive.map)

  -- some extent of the name in the FCB at q is there
  unfoldable pub any_named : Bool → ℕ → ℕ → Bool
  any_named wild user q = is_some (find_named_rule G (rows_of G l) wild user l.fcb q)

  -- the entry of this name, with ex = byte 12 and s2 0: the extent of that number, since byte 12 and every ex are at most 31 here
  unfoldable pub asked_entry : ℕ → Option ℕ
  asked_entry user = find_file_rule G (rows_of G l) user l.fcb 1 (ex_of l.fcb)

  -- t1' in a matched entry
  unfoldable pub any_read_only_rule : Bool → ℕ → Bool
  any_read_only_rule wild user = any_below (λ (e : ℕ). named wild user l.fcb 1 (rows_of G l e) and read_only (rows_of G l e)) G.entries

-- ex, s2 and cr in range
unfoldable pub position_right_rule : Bytes → Bool
position_right_rule fcb = extent_right_rule fcb and cr_right fcb

-- ---- rows: whether one holds of the call at hand, and the code that it gives
pub record Row : Type 0 where
  pub holds : Bool
  pub code : Code

abbrev pub when : Bool → Code → Row
when test code = record { holds = test; code = code }

-- a row of some calls, and the rows of a call among them
pub record RowFor : Type 0 where
  pub calls : List ℕ
  pub row : Row

abbrev pub keep : Bool → Row → List Row → List Row
keep true r rs = r ∷ rs
keep false r rs = rs

abbrev pub rows_at : ℕ → List RowFor → List Row
rows_at n [] = []
rows_at n (r ∷ rs) = keep (one_of n r.calls) r.row (rows_at n rs)

-- the first row that holds
unfoldable pub first_row : List Row → Option Code
first_row [] = None
first_row (r ∷ rs) = cond r.holds (Some r.code) (first_row rs)

abbrev pub is_passed : Option Code → Bool
is_passed None = true
is_passed (Some code) = false

abbrev pub row : List ℕ → Bool → Code → RowFor
row calls test code = record { calls = calls; row = when test code }

-- the calls that change the disk, and those that read a record; 30 is to come among the first (request [5])
abbrev pub changers : List ℕ
changers = 16 ∷ 19 ∷ 21 ∷ 22 ∷ 23 ∷ 34 ∷ []

abbrev pub readers : List ℕ
readers = 20 ∷ 33 ∷ []

module _ (G : Geometry) (asked : Asked) (l : Lent) (s : Session) where
  -- the rows that name calls
  abbrev pub call_rows : List RowFor
  call_rows =
      -- 6, 0
      row (33 ∷ 34 ∷ []) (ltb last_record (random_of_rule l.fcb)) Code.BadRecord
      -- 9, 0
      ∷ row (20 ∷ 21 ∷ 33 ∷ 34 ∷ []) (not (is_some (present_entry G s.user l))) Code.NotCurrent
      -- 255, 0
      ∷ row (16 ∷ []) (not (is_some (present_entry G s.user l))) Code.Failed
      ∷ row (36 ∷ []) (not (position_right_rule l.fcb)) Code.Failed
      ∷ row (32 ∷ []) (not (eqb asked.argument 255 or leb asked.argument 15)) Code.Failed
      -- 255, 9
      ∷ row (15 ∷ 22 ∷ 23 ∷ 35 ∷ []) (not (name_right_rule false l.fcb 1)) Code.BadName
      ∷ row (17 ∷ 19 ∷ []) (not (name_right_rule true l.fcb 1)) Code.BadName
      ∷ row (23 ∷ []) (not (name_right_rule false l.fcb 17)) Code.BadName
      ∷ row (15 ∷ 22 ∷ []) (ltb 31 (ex_of l.fcb)) Code.BadName
      ∷ row (17 ∷ []) (ltb 31 (ex_of l.fcb) and not (eqb (ex_of l.fcb) 63)) Code.BadName
      -- 255, 0: nothing matches; no search on
      ∷ row (15 ∷ []) (not (is_some (asked_entry G l s.user))) Code.Failed
      ∷ row (17 ∷ []) (not (is_some (find_hit_rule G (rows_of G l) s.user (pattern_of l.fcb) 0))) Code.SearchOver
      ∷ row (18 ∷ []) (not (search_on s)) Code.Failed
      ∷ row (18 ∷ []) (not (is_some (find_hit_rule G (rows_of G l) s.user s.pattern s.place))) Code.SearchOver
      ∷ row (19 ∷ []) (not (any_named G l true s.user 1)) Code.Failed
      ∷ row (23 ∷ 35 ∷ []) (not (any_named G l false s.user 1)) Code.Failed
      -- 255, 3
      ∷ row (19 ∷ []) (any_read_only_rule G l true s.user) Code.ReadOnly
      ∷ row (23 ∷ []) (any_read_only_rule G l false s.user) Code.ReadOnly
      ∷ row (21 ∷ 34 ∷ []) (read_only_there G asked.number s.user l) Code.ReadOnly
      -- 255, 8
      ∷ row (22 ∷ []) (is_some (asked_entry G l s.user)) Code.Exists
      ∷ row (23 ∷ []) (any_named G l false s.user 17) Code.Exists
      -- 255, 0
      ∷ row (22 ∷ []) (not (is_some (find_empty_rule G (rows_of G l)))) Code.Failed
      -- 4, 0
      ∷ row (33 ∷ []) (not (is_some (target_entry G asked.number s.user l))) Code.NoExtent
      -- 1, 0
      ∷ row (20 ∷ 33 ∷ []) (not (record_there G asked.number s.user l)) Code.NoRecord
      -- 1, 0 (21) or 5, 0 (34)
      ∷ row (21 ∷ []) (leb extents (target_extent asked.number l.fcb)) Code.NoRecord
      ∷ row (21 ∷ []) (not (is_some (target_entry G asked.number s.user l)) and not (is_some (find_empty_rule G (rows_of G l)))) Code.NoRecord
      ∷ row (34 ∷ []) (not (is_some (target_entry G asked.number s.user l)) and not (is_some (find_empty_rule G (rows_of G l)))) Code.NoEntry
      -- 2, 0
      ∷ row (21 ∷ 34 ∷ []) (eqb (block_there G asked.number s.user l) 0 and not (is_some (find_free G l.drive.map))) Code.DiskFull
      ∷ []

  -- those of this call
  abbrev pub own_rows : List Row
  own_rows = rows_at asked.number call_rows

  -- ---- document 02, [12]
  -- a read would else succeed: no later row holds
  unfoldable pub would_succeed : Bool
  would_succeed = is_passed (first_row own_rows)

  -- it moves, and the close with which a move begins changes the entry
  unfoldable pub move_changes : Bool
  move_changes =
      not (stays asked.number l.fcb) and close_changes_rule G (rows_of G l (number_of G.entries (present_entry G s.user l))) l.fcb

  -- "until the caller lifts it", the protection refuses those that change the disk, "and .. a read that would else succeed by a move that changes an entry"
  unfoldable pub protection_holds : Bool
  protection_holds = protected s and (one_of asked.number changers or (one_of asked.number readers and would_succeed and move_changes))

  unfoldable pub table : List Row
  table =
      -- 255, 255
      when (not (is_call asked.number)) Code.NotListed
      -- 255, 4
      ∷ when (not (parameters_right_rule G l asked s)) Code.BadParameter
      -- 255, 1
      ∷ when (not (disk_right_rule G l asked)) Code.BadDisk
      -- 255, 2
      ∷ when protection_holds Code.Protected
      ∷ own_rows

  unfoldable pub verdict : Option Code
  verdict = first_row table
