-- What is told of 20, 21, 33 and 34: one change by the name of the FCB; the FCB handed back is current, and a record that was written can be
-- read through it.
use Rattle.std.specs.Prelude.{◌≡◌, true, ℕ, ◌≤◌, ◌<◌, length, get_or}
use Rattle.std.proofs.Math.Path.{subst}
use Rattle.std.proofs.Common.{sym, ◌∙◌}
use Rattle.format.specs.Diskette.{Geometry, Sound, slot_count}
use Rattle.format.specs.Entries.{entry_at, slot_of, extent_of}
use Rattle.format.specs.Fcb.{fcb_bytes, cr_of}
use Rattle.notes.specs.Free.{free_is}
use Rattle.model.specs.declared.Session.{Session}
use Rattle.model.specs.Lent.{Lent}
use Rattle.model.specs.Target.{target_extent, target_record, target_slot}
use Rattle.fields.specs.Agree.{SameName}
use Rattle.table.specs.Facts.{Fits}
use Rattle.table.specs.Plans.{Block}
use Rattle.table.specs.Plans as Plans
use Rattle.invariant.specs.Good.{Good}
use Rattle.effects.specs.View.{view_of, mine_high}
use Rattle.effects.specs.Cur.{Cur, cur_mine, Holds}
use Rattle.effects.specs.Where.{WritesNone, Theirs, was_free, OneRecord}
use Rattle.effects.specs.Book.{Book, moved_book, written_book}
use Rattle.effects.specs.Change.{Change}
use Rattle.effects.specs.Closed.{by_name}
use Rattle.effects.specs.Put.{ForSlot}
use Rattle.effects.specs.Came.{CameTo}

-- ---- what is told of a record call that left these buffers
-- the FCB handed back is of the same file and drive, at the target's extent
pub record HandedBack (n : ℕ) (l left : Lent) : Type 0 where
  pub long : length left.fcb ≡ fcb_bytes
  pub first : get_or left.fcb 0 0 ≡ get_or l.fcb 0 0
  pub name : SameName left.fcb 1 l.fcb 1
  pub extent : extent_of left.fcb ≡ target_extent n l.fcb

-- the one record of a write: that of the target, in the block that the FCB handed back has for it
abbrev pub OneOf : Geometry → ℕ → ℕ → Lent → Lent → ℕ → Type 0
OneOf G n user l left d =
    OneRecord G l.drive.image l.drive.map (by_name user l.fcb) (slot_of G left.fcb (target_slot G n l.fcb)) (target_record n l.fcb) d

-- it has come to entry t, which is named
pub record WriteOk (G : Geometry) (n user : ℕ) (l left : Lent) (t : ℕ) : Type 0 where
  pub change : Change G (by_name user l.fcb) (OneOf G n user l left) (written_book G n user l left) l.drive.image l.drive.map left.drive.image left.drive.map
  pub fcb : HandedBack n l left
  pub mine : by_name user l.fcb (entry_at G left.drive.image t) ≡ true
  pub holds : Holds G (view_of G left.drive.image left.drive.map) user left.fcb t (target_record n l.fcb) l.buffer

pub record ReadOk (G : Geometry) (n user : ℕ) (l left : Lent) (t : ℕ) : Type 0 where
  pub change : Change G (by_name user l.fcb) WritesNone (moved_book G n user l) l.drive.image l.drive.map left.drive.image left.drive.map
  pub fcb : HandedBack n l left
  pub mine : by_name user l.fcb (entry_at G left.drive.image t) ≡ true
  pub cur : Cur G (view_of G left.drive.image left.drive.map) user left.fcb t

-- the block of a write suits the slot that the FCB has once the call has come to its target
pub came_slot : {G : Geometry} (S : Sound G) (n : ℕ) (l : Lent) (s : Session) → Fits G l s → (there : Lent) (t b : ℕ) (W : ℕ → Type 0) (B : Book → Book)
    → CameTo G n s.user l there t W B → target_slot G n l.fcb < slot_count → Block G n s.user l b
    → ForSlot G there.drive.map (slot_of G there.fcb (target_slot G n l.fcb)) b
came_slot {G} S n l s f there t b W B came low (Plans.there q real) =
    let own : slot_of G there.fcb (target_slot G n l.fcb) ≡ b = came.slot ∙ q in
    record {
      below = rw (← own) (mine_high G (view_of G there.drive.image there.drive.map) came.change.good.inv (slot_of G there.fcb (target_slot G n l.fcb)) t
          (cur_mine G (view_of G there.drive.image there.drive.map) s.user f.user_low there.fcb t came.cur (target_slot G n l.fcb) low
          (λ z. real (sym own ∙ z))));
      free = λ z. absurd (real (sym own ∙ z));
      own = λ z. own;
    }
came_slot {G} S n l s f there t b W B came low (Plans.free z q) =
    let h = free_is G l.drive.map b q in
    record { below = h.below; free = λ y. came.free b h.below h.free; own = λ y. absurd (y (came.slot ∙ z)) }

-- it was free, or belonged to the file
module _ {G : Geometry} (S : Sound G) (n : ℕ) (l : Lent) (s : Session) (g : Good G l.drive.image l.drive.map) (f : Fits G l s) (cr : cr_of l.fcb ≤ 128) where
  module _ (there : Lent) (t b : ℕ) (B : Book → Book)
      (came : CameTo G n s.user l there t (OneRecord G l.drive.image l.drive.map (by_name s.user l.fcb) b (target_record n l.fcb)) B)
      (block : Block G n s.user l b) where
    pub theirs : Theirs G l.drive.image l.drive.map (by_name s.user l.fcb) b
    theirs = go block
      where
        go : Block G n s.user l b → Theirs G l.drive.image l.drive.map (by_name s.user l.fcb) b
        go (Plans.there q real) = subst (Theirs G l.drive.image l.drive.map (by_name s.user l.fcb)) q (came.theirs (λ z. real (sym q ∙ z)))
        go (Plans.free z q) = was_free (free_is G l.drive.map b q).free
