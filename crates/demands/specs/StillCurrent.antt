-- For those who build above the calls: the FCB handed back by an accepted 16, 20, 21, 33 or 34 is current under the session handed back,
-- and so is that of an accepted 15 or 22 whose cr is at most 128. Here after the own rule of each call; proofs/StillCurrent adds its stamps.
use Rattle.std.specs.Prelude.{List, [], ◌∷◌}
use Rattle.std.proofs.Math.Path.{refl}
use Rattle.std.proofs.Common.{arith}
use Prim.Native.Nat.{ℕ, ◌≤◌}
use Rattle.format.specs.Diskette.{Bytes, Geometry, Sound}
use Rattle.format.specs.Entries.{ex_of}
use Rattle.format.specs.Fcb.{cr_of}
use Rattle.rows.specs.Entries.{entry_stored, length_entry_at}
use Rattle.facts.specs.Find.{file_says, empty_says}
use Rattle.model.specs.declared.Asked.{Asked}
use Rattle.model.specs.declared.Session.{Session}
use Rattle.model.specs.Lent.{Lent, rows_of}
use Rattle.model.specs.Entering.{made_row_rule}
use Rattle.model.specs.Target.{plan}
use Rattle.model.specs.Table.{asked_entry}
use Rattle.model.specs.Calls.{quietly, opened_at, opened, closed_at, closed, created_at, created, read, written}
use Rattle.fields.specs.Fine.{fine_made}
use Rattle.fields.specs.Making.{length_made_row, user_made}
use Rattle.facts.specs.Naming.{file_user, file_run}
use Rattle.consistency.specs.Naming.{file_used}
use Rattle.table.specs.Plans.{entry_of}
use Rattle.table.specs.Facts.{Fits, Opens, Closes, Makes, Reads, Writes}
use Rattle.invariant.specs.Good.{Good}
use Rattle.effects.specs.View.{view_of}
use Rattle.effects.specs.Cur.{Cur}
use Rattle.effects.specs.Where.{WritesNone}
use Rattle.effects.specs.Entered.{entered_cur, copied_cur, closed_cur}
use Rattle.effects.specs.Came.{present_cur}
use Rattle.effects.proofs.Write.{written_ok, reads_ok}

-- the calls that may hand back a current FCB
abbrev pub current_calls : List ℕ
current_calls = 15 ∷ 16 ∷ 20 ∷ 21 ∷ 22 ∷ 33 ∷ 34 ∷ []

-- the FCB of these buffers is current for the user
pub record CurrentIn (G : Geometry) (user : ℕ) (l : Lent) : Type 0 where
  pub entry : ℕ
  pub cur : Cur G (view_of G l.drive.image l.drive.map) user l.fcb entry

module _ {G : Geometry} (S : Sound G) (asked : Asked) (l : Lent) (s : Session) (f : Fits G l s) (g : Good G l.drive.image l.drive.map) where
  -- 15
  pub opened_current : cr_of l.fcb ≤ 128 → Opens G l s → CurrentIn G s.user (quietly (opened G s l) s l).lent
  unfolding opened opened_at asked_entry
  opened_current cr o =
      let e : ℕ = o.entry.place in
      let k = file_says G (rows_of G l) s.user l.fcb 1 (ex_of l.fcb) e o.entry.is in
      rw o.entry.is
      record {
        entry = e;
        cur = entered_cur G (view_of G l.drive.image l.drive.map) s.user l.fcb (rows_of G l e) (ex_of l.fcb) e k.below refl
            (file_user G s.user l.fcb 1 (ex_of l.fcb) (rows_of G l e) k.holds) f.fcb_long (length_entry_at S l.drive.image g.image_long e k.below)
            (g.inv.dir.fine e k.below (file_used G s.user l.fcb 1 (ex_of l.fcb) (rows_of G l e) k.holds f.user_low))
            (file_run G s.user l.fcb 1 (ex_of l.fcb) (rows_of G l e) k.holds) (let x = o.ex in omega arith) cr;
      }

  -- 16
  pub closed_current : Closes G l s → CurrentIn G s.user (closed G s l).lent
  unfolding closed closed_at
  closed_current c =
      let e : ℕ = c.entry.place in
      rw c.entry.is
      record {
        entry = e;
        cur = closed_cur S l.drive.image l.drive.map g s.user f.user_low l.fcb f.fcb_long e (present_cur S 16 l s g f e c.entry.is WritesNone);
      }

  -- 22
  pub created_cur : cr_of l.fcb ≤ 128 → (m : Makes G l s)
      → Cur G (view_of G (created_at G s l m.entry.place).lent.drive.image l.drive.map) s.user (created_at G s l m.entry.place).lent.fcb m.entry.place
  unfolding created_at
  created_cur cr m =
      let t : ℕ = m.entry.place in
      let row : Bytes = made_row_rule s.user l.fcb in
      let found = empty_says G (rows_of G l) t m.entry.is in
      copied_cur G (view_of G (created_at G s l t).lent.drive.image l.drive.map) s.user l.fcb row t found.below
      (entry_stored S l.drive.image g.image_long t found.below row (length_made_row s.user l.fcb)) (user_made s.user l.fcb) f.fcb_long
      (length_made_row s.user l.fcb) (fine_made G s.user l.fcb f.user_low m.name m.ex) cr

  pub created_current : cr_of l.fcb ≤ 128 → Makes G l s → CurrentIn G s.user (created G s l).lent
  unfolding created created_at
  created_current cr m = rw m.entry.is record { entry = m.entry.place; cur = created_cur cr m }

  -- 20 and 33
  pub read_current : (n : ℕ) → Reads G l s n → CurrentIn G s.user (read G s l n).lent
  read_current n o = record { entry = entry_of (plan G n s.user l); cur = (reads_ok S n l s g f o).cur }

  -- 21 and 34
  pub written_current : (n : ℕ) → Writes G l s n → CurrentIn G s.user (written G s l n).lent
  written_current n o = record { entry = entry_of (plan G n s.user l); cur = (written_ok S n l s g f o).holds.cur }
