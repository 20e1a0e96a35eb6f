-- The parts of a delete on the map: the blocks that slots list become free, and the notes that are pending for picked entries do.
use Rattle.std.specs.Prelude.{Bool, not, cond, ℕ, eqb, get_or}
use Rattle.lists.specs.Tests.{◌and◌}
use Rattle.lists.specs.Below.{any_below}
use Rattle.lists.specs.Tab.{tab}
use Rattle.format.specs.Diskette.{Bytes, Geometry, slot_count}
use Rattle.format.specs.Entries.{slot_in}
use Rattle.format.specs.Notes.{free_note, note_at_rule, with_note, held_for_rule}

-- one of the slots below j lists block b: a slot of 0 lists none
unfoldable pub in_slots : Geometry → Bytes → ℕ → ℕ → Bool
in_slots G slots j b = not (eqb b 0) and any_below (λ (k : ℕ). eqb (slot_in G slots k) b) j

-- the blocks that the slots list become free
unfoldable pub unlisted_note : Geometry → Bytes → ℕ → ℕ → ℕ
unlisted_note G slots b n = cond (in_slots G slots slot_count b) free_note n

unfoldable pub unlisted_map : Geometry → Bytes → Bytes → Bytes
unlisted_map G slots map = tab G.blocks (λ (b : ℕ). unlisted_note G slots b (note_at_rule map b))

-- one slot's block becomes free
unfoldable pub unlisted_slot : Bytes → ℕ → Bytes
unlisted_slot map b = cond (eqb b 0) map (with_note map b free_note)

-- the notes that are pending for picked entries become free
unfoldable pub unheld_note_rule : (ℕ → Bool) → ℕ → ℕ
unheld_note_rule picked n = cond (held_for_rule picked n) free_note n

unfoldable pub unheld_map : Geometry → (ℕ → Bool) → Bytes → Bytes
unheld_map G picked map = tab G.blocks (λ (b : ℕ). unheld_note_rule picked (note_at_rule map b))

-- an entry is picked where its mark is not 0
unfoldable pub marks_pick : Bytes → ℕ → Bool
marks_pick marks e = not (eqb (get_or marks e 0) 0)
