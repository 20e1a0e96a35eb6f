-- A record call comes to the target's extent: it stays, moves to an entry, or makes one. Wherever it came to, the change so far is by
-- the name of the FCB, and the FCB is current there.
use Rattle.std.specs.Prelude.{◌≡◌, true, get_or, Some}
use Rattle.std.proofs.Math.Path.{ap}
use Rattle.std.proofs.Math.Bool.{false}
use Prim.Native.Nat.{ℕ, ◌<◌}
use Rattle.std.proofs.Math.ListN.{length}
use Rattle.format.specs.Diskette.{Geometry, Sound}
use Rattle.format.specs.Entries.{entry_at, slot_of, extent_of}
use Rattle.format.specs.Notes.{free_note, note_at_rule}
use Rattle.format.specs.Found.{number_of}
use Rattle.format.specs.Fcb.{fcb_bytes}
use Rattle.model.specs.declared.Session.{Session}
use Rattle.model.specs.Lent.{Lent, rows_of}
use Rattle.model.specs.Target.{target_extent, target_slot, present_entry, stays, block_there}
use Rattle.fields.specs.Agree.{SameName}
use Rattle.facts.specs.Naming.{file_named}
use Rattle.table.specs.Facts.{Fits}
use Rattle.invariant.specs.Good.{Good}
use Rattle.effects.specs.View.{view_of}
use Rattle.effects.specs.Cur.{Cur, current_cur}
use Rattle.effects.specs.Where.{Theirs}
use Rattle.effects.specs.Book.{Book, settled_by, entry_before, closed_book, moved_book}
use Rattle.effects.specs.Change.{Change}
use Rattle.effects.specs.Closed.{by_name}
use Rattle.facts.specs.Current.{current_says}

-- the call, given l, has come to `there` and entry t, with the book changed by B; it may write the records that W allows
pub record CameTo (G : Geometry) (n user : ℕ) (l there : Lent) (t : ℕ) (W : ℕ → Type 0) (B : Book → Book) : Type 0 where
  pub change : Change G (by_name user l.fcb) W B l.drive.image l.drive.map there.drive.image there.drive.map
  pub cur : Cur G (view_of G there.drive.image there.drive.map) user there.fcb t
  pub mine : by_name user l.fcb (entry_at G there.drive.image t) ≡ true
  pub extent : extent_of there.fcb ≡ target_extent n l.fcb
  pub long : length there.fcb ≡ fcb_bytes
  pub first : get_or there.fcb 0 0 ≡ get_or l.fcb 0 0
  pub name : SameName there.fcb 1 l.fcb 1
  pub buffer : there.buffer ≡ l.buffer
  -- the block in the target's slot, whose it was, and that free blocks are free still
  pub slot : slot_of G there.fcb (target_slot G n l.fcb) ≡ block_there G n user l
  pub theirs : (block_there G n user l ≡ 0 → ⊥) → Theirs G l.drive.image l.drive.map (by_name user l.fcb) (block_there G n user l)
  pub free : (b : ℕ) → b < G.blocks → note_at_rule l.drive.map b ≡ free_note → note_at_rule there.drive.map b ≡ free_note
  -- the book's change, as the calls tell it
  pub book : (u : Book) → moved_book G n user l u ≡ B u

module _ {G : Geometry} (S : Sound G) (n : ℕ) (l : Lent) (s : Session) (g : Good G l.drive.image l.drive.map) (f : Fits G l s) (e : ℕ)
    (at : present_entry G s.user l ≡ Some e) (W : ℕ → Type 0) where
  pub present_cur : Cur G (view_of G l.drive.image l.drive.map) s.user l.fcb e
  unfolding present_entry
  present_cur = current_cur G l.drive.image l.drive.map s.user l.fcb e f.map_long at

  pub present_named : by_name s.user l.fcb (rows_of G l e) ≡ true
  present_named = file_named G s.user l.fcb 1 (extent_of l.fcb) (rows_of G l e) present_cur.file

  pub present_before : entry_before G n s.user l ≡ e
  unfolding entry_before present_entry
  present_before = ap (number_of G.entries) (current_says G (rows_of G l) l.drive.map s.user l.fcb e at).found

  -- a move closes the entry first
  pub move_book : stays n l.fcb ≡ false → (u : Book) → moved_book G n s.user l u ≡ settled_by G (rows_of G l e) l.fcb u
  unfolding moved_book closed_book
  move_book go u = rw (go, present_before)
