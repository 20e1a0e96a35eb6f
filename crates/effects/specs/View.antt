-- A disk seen as rows, notes and records; and whose a block is.
use Rattle.std.specs.Prelude.{◌≡◌, Bool, true, ℕ, ◌≤◌, ◌<◌}
use Rattle.std.proofs.Common.{sym, ◌∙◌, arith}
use Rattle.lists.specs.Cases.{not_both}
use Rattle.format.specs.Diskette.{Bytes, Geometry, record_at, slot_count}
use Rattle.format.specs.Entries.{Rows, entry_at, empty}
use Rattle.format.specs.Notes.{free_note, note_at_rule, pending_for}
use Rattle.consistency.specs.Facts.{Stands}
use Rattle.consistency.specs.Listed.{somewhere_listed}
use Rattle.notes.specs.Numbers.{pending_once, pending_not}
use Rattle.notes.specs.Right.{Spare}
use Rattle.notes.specs.Free.{free_spare}
use Rattle.invariant.specs.Close.{pending_spare}
use Rattle.invariant.specs.Inv.{Inv}

pub record View : Type 0 where
  pub rows : Rows
  pub notes : ℕ → ℕ
  pub recs : ℕ → Bytes

abbrev pub view_of : Geometry → Bytes → Bytes → View
view_of G img map = record { rows = entry_at G img; notes = note_at_rule map; recs = record_at G img }

-- the directory is consistent and the map right for it
abbrev pub Right : Geometry → View → Type 0
Right G s = Inv G s.rows s.notes

-- the rows that a call names: a test of a row
abbrev pub Names : Type 0
Names = Bytes → Bool

-- an empty entry that has changed
pub record NewRow (G : Geometry) (d d' : Rows) (e : ℕ) : Type 0 where
  pub low : e < G.entries
  pub was : empty (d e) ≡ true
  pub changed : d' e ≡ d e → ⊥

-- block b is entry e's: listed there, or pending for it
pub data Mine (G : Geometry) (s : View) (b e : ℕ) : Type 0 where
  listed : (j : ℕ) → Stands G s.rows b e j → Mine G s b e
  pending : (j : ℕ) → j < slot_count → b < G.blocks → s.notes b ≡ pending_for e j → Mine G s b e

module _ (G : Geometry) (s : View) (v : Right G s) where
  -- ---- what the notes say
  -- a block that is pending, or free, lies past the directory, and no entry lists it
  pub spare_held : (b e j : ℕ) → b < G.blocks → s.notes b ≡ pending_for e j → Spare G s.rows b
  spare_held b e j l q = pending_spare G s.rows b e j (s.notes b) (v.map b l) q

  pub spare_free : (b : ℕ) → b < G.blocks → s.notes b ≡ free_note → Spare G s.rows b
  spare_free b l q = free_spare G s.rows b (s.notes b) (v.map b l) q

  -- a block that stands in an entry is not spare
  pub stands_not_spare : (b e j : ℕ) → Stands G s.rows b e j → Spare G s.rows b → ⊥
  stands_not_spare b e j a x = not_both _ (somewhere_listed G s.rows b e j a) x.unlisted

  pub stands_low : (b e j : ℕ) → Stands G s.rows b e j → G.area ≤ b
  stands_low b e j a = rw (← a.is) ((v.dir.fine e a.entry a.uses).low j a.place (λ z. a.real (sym a.is ∙ z)))

  pub stands_high : (b e j : ℕ) → Stands G s.rows b e j → b < G.blocks
  stands_high b e j a = rw (← a.is) ((v.dir.fine e a.entry a.uses).high j a.place (λ z. a.real (sym a.is ∙ z)))

  -- ---- whose a block is
  -- a block is one entry's
  pub mine_one : (b e f : ℕ) → Mine G s b e → Mine G s b f → e ≡ f
  mine_one b e f (listed j a) (listed k c) = v.dir.once_entry b e j f k a c
  mine_one b e f (listed j a) (pending k l h q) = absurd (stands_not_spare b e j a (spare_held b f k h q))
  mine_one b e f (pending j l h q) (listed k a) = absurd (stands_not_spare b f k a (spare_held b e j h q))
  mine_one b e f (pending j l h q) (pending k m i p) = (pending_once e j f k l m (sym q ∙ p)).0

  -- it is a block past the directory
  pub mine_low : (b e : ℕ) → Mine G s b e → G.area ≤ b
  mine_low b e (listed j a) = stands_low b e j a
  mine_low b e (pending j l h q) = (spare_held b e j h q).past

  pub mine_high : (b e : ℕ) → Mine G s b e → b < G.blocks
  mine_high b e (listed j a) = stands_high b e j a
  mine_high b e (pending j l h q) = h

  pub mine_not_free : (b e : ℕ) → Mine G s b e → s.notes b ≡ free_note → ⊥
  mine_not_free b e (listed j a) z = stands_not_spare b e j a (spare_free b (stands_high b e j a) z)
  mine_not_free b e (pending j l h q) z = pending_not free_note (omega arith) e j (sym q ∙ z)
