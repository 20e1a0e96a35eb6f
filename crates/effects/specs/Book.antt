-- The book of takings: which blocks the calls have taken and not yet settled, told from the calls alone, never from the map.
--   A write that takes a block enters it for its entry and slot. An accepted close or move settles the FCB's blocks in the slots where
--   the entry had 0; a delete all that is held for the entries it matched; freeing and log-in everything; any other call nothing.
--   A refused call changes nothing.
use Rattle.std.specs.Prelude.{Bool, true, cond, ℕ, eqb}
use Rattle.lists.specs.Tests.{◌and◌}
use Rattle.lists.specs.Below.{any_below}
use Rattle.format.specs.Diskette.{Bytes, Geometry, slot_count}
use Rattle.format.specs.Entries.{slot_of, slots_of, extent_of, named, find_file_rule}
use Rattle.format.specs.Notes.{pending_for, held_for_rule}
use Rattle.format.specs.Found.{number_of}
use Rattle.model.specs.declared.Session.{Session}
use Rattle.model.specs.Lent.{Lent, rows_of, Outcome}
use Rattle.model.specs.Closing.{takes_slot_rule}
use Rattle.model.specs.Target.{target_slot, stays, block_there}
use Rattle.model.specs.Kinds.{kind_of, same}
use Rattle.model.specs.declared.Kind.TheVariants.{Settle, Close, Delete, Read, Write}
use Rattle.table.specs.Accepted.{accepted_answer}

-- the place that each block is held for, written as its note would be (`pending_for`); 0 where it is not held
abbrev pub Book : Type 0
Book = ℕ → ℕ

-- ---- the changes of a book
abbrev pub nothing_held : Book
nothing_held b = 0

-- the block is the FCB's in a slot where the entry has 0
unfoldable pub settles : Geometry → Bytes → Bytes → ℕ → Bool
settles G row fcb b = any_below (λ (j : ℕ). takes_slot_rule G (slots_of row) (slots_of fcb) j and eqb (slot_of G fcb j) b) slot_count

unfoldable pub settled_by : Geometry → Bytes → Bytes → Book → Book
settled_by G row fcb u b = cond (settles G row fcb b) 0 (u b)

-- what is held for the picked entries is settled
unfoldable pub dropped_for : (ℕ → Bool) → Book → Book
dropped_for picked u b = cond (held_for_rule picked (u b)) 0 (u b)

-- block b is entered for slot j of entry e
unfoldable pub entered_for : ℕ → ℕ → ℕ → Book → Book
entered_for b e j u c = cond (eqb c b) (pending_for e j) (u c)

-- ---- call by call: call n of the user was given l
module _ (G : Geometry) (n user : ℕ) (l : Lent) where
  -- the entry that the directory has for the FCB
  unfoldable pub entry_before : ℕ
  entry_before = number_of G.entries (find_file_rule G (rows_of G l) user l.fcb 1 (extent_of l.fcb))

  unfoldable pub closed_book : Book → Book
  closed_book u = settled_by G (rows_of G l entry_before) l.fcb u

  -- a record call that moves closes first
  unfoldable pub moved_book : Book → Book
  moved_book u = cond (stays n l.fcb) u (closed_book u)

  unfoldable pub deleted_book : Book → Book
  deleted_book u = dropped_for (λ (e : ℕ). named true user l.fcb 1 (rows_of G l e)) u

  -- and it left these buffers
  module _ (left : Lent) where
    -- the entry that the directory has for the FCB handed back
    unfoldable pub entry_after : ℕ
    entry_after = number_of G.entries (find_file_rule G (rows_of G left) user left.fcb 1 (extent_of left.fcb))

    -- a write that found 0 in its slot took the block that the FCB handed back has there
    unfoldable pub written_book : Book → Book
    written_book u =
        cond (eqb (block_there G n user l) 0)
        (entered_for (slot_of G left.fcb (target_slot G n l.fcb)) entry_after (target_slot G n l.fcb) (moved_book u)) (moved_book u)

    -- the book after an accepted call
    unfoldable pub book_by : Book → Book
    book_by u =
        cond (same (kind_of n) Settle) nothing_held
        (cond (same (kind_of n) Close) (closed_book u)
        (cond (same (kind_of n) Delete) (deleted_book u)
        (cond (same (kind_of n) Read) (moved_book u)
        (cond (same (kind_of n) Write) (written_book u) u))))

-- the book after any call: a refused one leaves it
unfoldable pub book_step : Geometry → ℕ → Lent → Session → Outcome → Book → Book
book_step G n l s o u = cond (accepted_answer n o.answer) (book_by G n s.user l o.lent u) u
