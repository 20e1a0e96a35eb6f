-- Document 02, [8]: the stamps that a call makes. They are worked out from the state as it came, and put down once the call's own rule is done:
-- no rule touches a date entry.
use Rattle.std.specs.Prelude.{Bool, cond, not, List, [], ◌∷◌, ◌++◌, ℕ, ◌/◌, ◌%◌, eqb}
use Rattle.lists.specs.Tests.{◌and◌}
use Rattle.format.specs.Diskette.{Bytes, Geometry}
use Rattle.format.specs.Entries.{find_empty_rule}
use Rattle.format.specs.Dates.{asks_create, asks_update, asks_access, asks, dated, with_stamp}
use Rattle.format.specs.Found.{number_of}
use Rattle.model.specs.declared.Asked.{Asked}
use Rattle.model.specs.declared.Session.{Session}
use Rattle.model.specs.declared.Plan.{Plan}
use Rattle.model.specs.declared.Plan.TheVariants.{Stay, Move, Make}
use Rattle.model.specs.declared.Kind.{Kind}
use Rattle.model.specs.declared.Kind.TheVariants.{Unlisted, Quiet, Search, User, Settle, Close, Delete, Create, Rename, Read, Write}
use Rattle.model.specs.Lent.{Lent, lend, rows_of, Outcome, protected}
use Rattle.model.specs.Closing.{close_changes_rule}
use Rattle.model.specs.Target.{present_entry, plan}
use Rattle.model.specs.Table.{asked_entry}

-- ---- the time that is handed in, as a stamp, and the stamp of a new entry
unfoldable pub time_stamp_rule : Asked → Bytes
time_stamp_rule asked = asked.day % 256 ∷ asked.day / 256 ∷ asked.hour ∷ asked.minute ∷ []

unfoldable pub no_stamp : Bytes
no_stamp = 0 ∷ 0 ∷ 0 ∷ 0 ∷ []

-- ---- a stamp beside an entry: which of the two, and what it becomes
pub record Stamp : Type 0 where
  pub entry : ℕ
  pub which : ℕ
  pub bytes : Bytes

-- create or access
abbrev pub first : ℕ → Bytes → Stamp
first e b = record { entry = e; which = 0; bytes = b }

abbrev pub update : ℕ → Bytes → Stamp
update e b = record { entry = e; which = 1; bytes = b }

abbrev pub only_if : Bool → Stamp → List Stamp
only_if b x = cond b (x ∷ []) []

-- a disk without date entries is never stamped
abbrev pub where_dated : Bool → List Stamp → List Stamp
where_dated b [] = []
where_dated b (x ∷ xs) = cond b (x ∷ xs) []

-- one after the other
abbrev pub stamped_with : Geometry → List Stamp → Bytes → Bytes
stamped_with G [] img = img
stamped_with G (x ∷ xs) img = stamped_with G xs (with_stamp G img x.entry x.which x.bytes)

module _ (G : Geometry) (asked : Asked) (l : Lent) (s : Session) where
  -- 15: access, where the label asks; "an open on a protected session stamps no date" (02, [12])
  unfoldable pub access_stamps : ℕ → List Stamp
  access_stamps e = only_if (not (protected s) and asks G (rows_of G l) asks_access) (first e (time_stamp_rule asked))

  -- 16, and the close of a move: update, where the label asks and the close changes the entry
  unfoldable pub close_stamps : ℕ → List Stamp
  close_stamps e = only_if (asks G (rows_of G l) asks_update and close_changes_rule G (rows_of G l e) l.fcb) (update e (time_stamp_rule asked))

  -- a new entry: both stamps start at zero, whatever the label asks
  unfoldable pub new_stamps : ℕ → List Stamp
  new_stamps e = first e no_stamp ∷ update e no_stamp ∷ []

  -- 22: and then create, where the label asks
  unfoldable pub create_stamps : ℕ → List Stamp
  create_stamps e = new_stamps e ++ only_if (asks G (rows_of G l) asks_create) (first e (time_stamp_rule asked))

  -- 20, 21, 33, 34: a move stamps no access
  abbrev pub move_stamps : Plan → List Stamp
  move_stamps (Stay e b) = []
  move_stamps (Move e t b) = close_stamps e
  move_stamps (Make e t b) = close_stamps e ++ new_stamps t

  abbrev pub stamps_by : Kind → List Stamp
  stamps_by Unlisted = []
  stamps_by Quiet = cond (eqb asked.number 15) (access_stamps (number_of G.entries (asked_entry G l s.user))) []
  stamps_by Search = []
  stamps_by User = []
  stamps_by Settle = []
  stamps_by Close = close_stamps (number_of G.entries (present_entry G s.user l))
  stamps_by Delete = []
  stamps_by Create = create_stamps (number_of G.entries (find_empty_rule G (rows_of G l)))
  stamps_by Rename = []
  stamps_by Read = move_stamps (plan G asked.number s.user l)
  stamps_by Write = move_stamps (plan G asked.number s.user l)

  abbrev pub stamps : Kind → List Stamp
  stamps k = where_dated (dated (rows_of G l)) (stamps_by k)

-- the outcome with its image stamped; all else stays
abbrev pub stamped_outcome : Geometry → List Stamp → Outcome → Outcome
stamped_outcome G xs o =
    record { answer = o.answer; lent = lend (stamped_with G xs o.lent.drive.image) o.lent.drive.map o.lent.fcb o.lent.buffer }
