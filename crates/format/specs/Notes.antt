-- Document 01 on the map: what a note says, when a map is right, and the fresh map.
use Rattle.std.specs.Prelude.{Bool, not, cond, ℕ, ◌+◌, ◌-◌, ◌*◌, ◌/◌, ◌%◌, eqb, leb, ltb, get_or, set, Option}
use Rattle.lists.specs.Tests.{◌and◌, ◌or◌}
use Rattle.lists.specs.Below.{all_below, any_below, first_in}
use Rattle.lists.specs.Count.{count_below}
use Rattle.lists.specs.Tab.{tab}
use Rattle.lists.specs.Seen.{taken}
use Rattle.format.specs.Diskette.{Bytes, Geometry, slot_count, slots_on}
use Rattle.format.specs.Entries.{Rows, used}
use Rattle.format.specs.Consistent.{listed, slots_in_all}
use Rattle.format.specs.Found.{found_below}

-- ---- the numbers of notes
abbrev pub free_note : ℕ
free_note = 0

abbrev pub area_note : ℕ
area_note = 1

abbrev pub recorded_note : ℕ
recorded_note = 2

-- pending for slot j of entry e
unfoldable pub pending_for : ℕ → ℕ → ℕ
pending_for e j = 16 + 16 * e + j

-- a note that is pending, and the entry for which it is
unfoldable pub is_pending : ℕ → Bool
is_pending n = leb 16 n

unfoldable pub pending_entry : ℕ → ℕ
pending_entry n = (n - 16) / 16

unfoldable pub pending_slot : ℕ → ℕ
pending_slot n = n % 16

-- the note of a block
abbrev pub note_at_rule : Bytes → ℕ → ℕ
note_at_rule map b = get_or map b 0

-- ---- the map that is right for a directory
-- some used entry lists block b (asked only of blocks past the directory: a slot of 0 lists none)
unfoldable pub is_listed : Geometry → Rows → ℕ → Bool
is_listed G d b = taken (listed G d) (slots_in_all G) b

-- n is pending for a slot of a used entry
unfoldable pub held_by_used_rule : Geometry → Rows → ℕ → Bool
held_by_used_rule G d n = is_pending n and ltb (pending_entry n) G.entries and used (d (pending_entry n)) and ltb (pending_slot n) (slots_on G)

-- 1 at the directory, 2 at the blocks that are listed, any other note free or pending for a used entry
unfoldable pub note_right_rule : Geometry → Rows → ℕ → ℕ → Bool
note_right_rule G d b n =
    cond (ltb b G.area) (eqb n area_note)
    (cond (is_listed G d b) (eqb n recorded_note) (eqb n free_note or held_by_used_rule G d n))

unfoldable pub map_right : Geometry → Rows → Bytes → Bool
map_right G d map = all_below (λ (b : ℕ). note_right_rule G d b (note_at_rule map b)) G.blocks

-- the fresh map has no pending notes
unfoldable pub fresh_note_rule : Geometry → Rows → ℕ → ℕ
fresh_note_rule G d b = cond (ltb b G.area) area_note (cond (is_listed G d b) recorded_note free_note)

unfoldable pub fresh_map : Geometry → Rows → Bytes
fresh_map G d = tab G.blocks (fresh_note_rule G d)

-- ---- free blocks
unfoldable pub is_free : Bytes → ℕ → Bool
is_free map b = eqb (note_at_rule map b) free_note

unfoldable pub find_free : Geometry → Bytes → Option ℕ
find_free G map = found_below G.blocks (first_in (is_free map) 0 G.blocks)

unfoldable pub free_count_rule : Geometry → Bytes → ℕ
free_count_rule G map = count_below (is_free map) G.blocks

-- ---- changes of the map: one note, and every note at once
unfoldable pub with_note : Bytes → ℕ → ℕ → Bytes
with_note map b n = set map b n

-- every pending note becomes free
unfoldable pub settled_note_rule : ℕ → ℕ
settled_note_rule n = cond (is_pending n) free_note n

unfoldable pub freed_map : Geometry → Bytes → Bytes
freed_map G map = tab G.blocks (λ (b : ℕ). settled_note_rule (note_at_rule map b))

-- a picked entry lists block b: a slot of 0 lists no block
unfoldable pub listed_by : Geometry → Rows → (ℕ → Bool) → ℕ → Bool
listed_by G d picked b = not (eqb b 0) and any_below (λ (x : ℕ). picked (x / slot_count) and eqb (listed G d x) b) (slots_in_all G)

-- n is pending for a picked entry
unfoldable pub held_for_rule : (ℕ → Bool) → ℕ → Bool
held_for_rule picked n = is_pending n and picked (pending_entry n)

-- the blocks of the picked entries, and those that are pending for them, become free
unfoldable pub released_note : Geometry → Rows → (ℕ → Bool) → ℕ → ℕ → ℕ
released_note G d picked b n = cond (listed_by G d picked b or held_for_rule picked n) free_note n

unfoldable pub released_map : Geometry → Rows → (ℕ → Bool) → Bytes → Bytes
released_map G d picked map = tab G.blocks (λ (b : ℕ). released_note G d picked b (note_at_rule map b))
