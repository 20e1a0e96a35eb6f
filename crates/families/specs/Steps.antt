-- Calls 19 and 23: the answer that each of their rows gives, and what is left where none of them holds.
use Rattle.std.specs.Prelude.{◌≡◌, refl, Bool, true, false, ℕ, None, Some, is_some}
use Rattle.std.proofs.Math.Path.{ap}
use Rattle.std.proofs.Math.Bool.{not}
use Rattle.format.specs.Diskette.{Bytes, Geometry}
use Rattle.format.specs.Names.{name_right_rule}
use Rattle.format.specs.Entries.{named, find_named_rule}
use Rattle.format.specs.Notes.{released_map}
use Rattle.model.specs.declared.Asked.{Asked}
use Rattle.model.specs.declared.Session.{Session}
use Rattle.model.specs.declared.Answer.{Answer}
use Rattle.model.specs.declared.Code.TheVariants.{Accepted, BadName, Failed, ReadOnly, Exists}
use Rattle.model.specs.Lent.{Lent, rows_of, outcome, answer_of, ended}
use Rattle.model.specs.Entering.{renamed_row_rule}
use Rattle.model.specs.Table.{any_named, any_read_only_rule}
use Rattle.model.specs.Calls.{changed_rows, erased_row, deletes, deleted, renamed}
use Rattle.model.specs.Kinds.{kind_of}
use Rattle.model.specs.Step.{effect}
use Rattle.table.specs.First.{◌&◌, here, later}
use Rattle.table.specs.Own.{calling}
use Rattle.table.specs.OwnStep.{own_step, refuses_own, carries_own}

-- ---- the test of a row that asks for a name, by what was looked up
module _ (G : Geometry) (l : Lent) (wild : Bool) (user q : ℕ) where
  pub some_named : (e : ℕ) → find_named_rule G (rows_of G l) wild user l.fcb q ≡ Some e → any_named G l wild user q ≡ true
  unfolding any_named
  some_named e h = ap is_some h

  pub none_named : find_named_rule G (rows_of G l) wild user l.fcb q ≡ None → any_named G l wild user q ≡ false
  unfolding any_named
  none_named h = ap is_some h

-- ---- 19
module _ (G : Geometry) (asked : Asked) (l : Lent) (s : Session) (r : Answer) where
  pub delete_wrong : name_right_rule true l.fcb 1 ≡ false → r ≡ answer_of BadName s → outcome r l.drive.image l.drive.map l.fcb l.buffer ≡ own_step G (calling 19 asked) l s
  delete_wrong h a = refuses_own G (calling 19 asked) l s BadName r (here (ap not h) refl) a

  module _ (name : name_right_rule true l.fcb 1 ≡ true) where
    pub delete_missed : any_named G l true s.user 1 ≡ false → r ≡ answer_of Failed s
        → outcome r l.drive.image l.drive.map l.fcb l.buffer ≡ own_step G (calling 19 asked) l s
    delete_missed q a = refuses_own G (calling 19 asked) l s Failed r (later (ap not name) (here (ap not q) refl)) a

    module _ (some : any_named G l true s.user 1 ≡ true) where
      pub delete_guarded : any_read_only_rule G l true s.user ≡ true → r ≡ answer_of ReadOnly s
          → outcome r l.drive.image l.drive.map l.fcb l.buffer ≡ own_step G (calling 19 asked) l s
      delete_guarded g a = refuses_own G (calling 19 asked) l s ReadOnly r (later (ap not name) (later (ap not some) (here g refl))) a

      pub delete_done : (img map : Bytes) → any_read_only_rule G l true s.user ≡ false → r ≡ answer_of (Accepted 0) (ended s)
          → img ≡ changed_rows G (named true s.user l.fcb 1) erased_row l.drive.image
          → map ≡ released_map G (rows_of G l) (λ (e : ℕ). named true s.user l.fcb 1 (rows_of G l e)) l.drive.map
          → outcome r img map l.fcb l.buffer ≡ own_step G (calling 19 asked) l s
      unfolding deleted deletes effect kind_of
      delete_done img map g a i m = carries_own G (calling 19 asked) l s _ (ap not name & ap not some & g & tt) (rw (a, i, m))

-- ---- 23
module _ (G : Geometry) (asked : Asked) (l : Lent) (s : Session) (r : Answer) where
  pub rename_wrong : name_right_rule false l.fcb 1 ≡ false → r ≡ answer_of BadName s → outcome r l.drive.image l.drive.map l.fcb l.buffer ≡ own_step G (calling 23 asked) l s
  rename_wrong h a = refuses_own G (calling 23 asked) l s BadName r (here (ap not h) refl) a

  module _ (old : name_right_rule false l.fcb 1 ≡ true) where
    pub rename_new_wrong : name_right_rule false l.fcb 17 ≡ false → r ≡ answer_of BadName s
        → outcome r l.drive.image l.drive.map l.fcb l.buffer ≡ own_step G (calling 23 asked) l s
    rename_new_wrong h a = refuses_own G (calling 23 asked) l s BadName r (later (ap not old) (here (ap not h) refl)) a

    module _ (new : name_right_rule false l.fcb 17 ≡ true) where
      pub rename_missed : any_named G l false s.user 1 ≡ false → r ≡ answer_of Failed s
          → outcome r l.drive.image l.drive.map l.fcb l.buffer ≡ own_step G (calling 23 asked) l s
      rename_missed q a = refuses_own G (calling 23 asked) l s Failed r (later (ap not old) (later (ap not new) (here (ap not q) refl))) a

      module _ (some : any_named G l false s.user 1 ≡ true) where
        pub rename_guarded : any_read_only_rule G l false s.user ≡ true → r ≡ answer_of ReadOnly s
            → outcome r l.drive.image l.drive.map l.fcb l.buffer ≡ own_step G (calling 23 asked) l s
        rename_guarded g a =
            refuses_own G (calling 23 asked) l s ReadOnly r (later (ap not old) (later (ap not new) (later (ap not some) (here g refl)))) a

        module _ (free : any_read_only_rule G l false s.user ≡ false) where
          pub rename_exists : any_named G l false s.user 17 ≡ true → r ≡ answer_of Exists s
              → outcome r l.drive.image l.drive.map l.fcb l.buffer ≡ own_step G (calling 23 asked) l s
          rename_exists q a =
              refuses_own G (calling 23 asked) l s Exists r (later (ap not old) (later (ap not new) (later (ap not some) (later free (here q refl))))) a

          pub rename_done : (img : Bytes) → any_named G l false s.user 17 ≡ false → r ≡ answer_of (Accepted 0) (ended s)
              → img ≡ changed_rows G (named false s.user l.fcb 1) (renamed_row_rule l.fcb) l.drive.image
              → outcome r img l.drive.map l.fcb l.buffer ≡ own_step G (calling 23 asked) l s
          unfolding renamed effect kind_of
          rename_done img q a i = carries_own G (calling 23 asked) l s _ (ap not old & ap not new & ap not some & free & q & tt) (rw (a, i))
