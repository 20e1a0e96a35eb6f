-- Runs: lists of calls, with the protection lifted and set between them. Each call brings its own number, argument, FCB and buffer, of any bytes
-- and any length; image, map and session pass from one to the next.
use Rattle.std.specs.Prelude.{Bool, List, [], ◌∷◌, ℕ}
use Rattle.format.specs.Diskette.{Bytes, Geometry}
use Rattle.model.specs.declared.Asked.{Asked}
use Rattle.model.specs.declared.Session.{Session}
use Rattle.model.specs.Lent.{Drive, Lent, Outcome, with_lifted}
use Rattle.model.specs.Step.{step}
use Rattle.table.specs.Accepted.{accepted_answer}
use Rattle.effects.specs.Book.{Book, book_step}

pub record Request : Type 0 where
  pub asked : Asked
  pub fcb : Bytes
  pub buffer : Bytes

-- what passes from call to call
pub record Disk : Type 0 where
  pub drive : Drive
  pub session : Session

-- of an image, a map and a session
abbrev pub disk_of : Bytes → Bytes → Session → Disk
disk_of image map s = record { drive = record { image = image; map = map }; session = s }

abbrev pub lent_to : Disk → Request → Lent
lent_to d q = record { drive = d.drive; fcb = q.fcb; buffer = q.buffer }

-- one call, and the disk after it
unfoldable pub outcome_of : Geometry → Disk → Request → Outcome
outcome_of G d q = step G q.asked (lent_to d q) d.session

abbrev pub left : Outcome → Disk
left o = record { drive = o.lent.drive; session = o.answer.session }

unfoldable pub after : Geometry → Disk → Request → Disk
after G d q = left (outcome_of G d q)

-- its answer says that it was accepted
abbrev pub accepts : Geometry → Disk → Request → Bool
accepts G d q = accepted_answer q.asked.number (outcome_of G d q).answer

-- ---- document 02, [12]: what a run is made of, a call, or the protection lifted or set, which counts as a call that names no file
pub data Act : Type 0 where
  one_call : Request → Act
  lifts : Act
  protects : Act

-- the disk with another byte for its session's protection: 1 lifts it, 0 sets it; all else stays
abbrev pub lifted_by : ℕ → Disk → Disk
lifted_by b d = record { drive = d.drive; session = with_lifted d.session b }

abbrev pub lifted_disk : Disk → Disk
lifted_disk d = lifted_by 1 d

abbrev pub protected_disk : Disk → Disk
protected_disk d = lifted_by 0 d

abbrev pub after_act : Geometry → Disk → Act → Disk
after_act G d (one_call q) = after G d q
after_act G d lifts = lifted_disk d
after_act G d protects = protected_disk d

-- the disk after a run, one act after the other
unfoldable pub run : Geometry → Disk → List Act → Disk
run G d [] = d
run G d (a ∷ acts) = run G (after_act G d a) acts

-- the book after a call, and after a run
unfoldable pub book_after : Geometry → Disk → Request → Book → Book
book_after G d q u = book_step G q.asked.number (lent_to d q) d.session (outcome_of G d q) u

abbrev pub book_act : Geometry → Disk → Act → Book → Book
book_act G d (one_call q) u = book_after G d q u
book_act G d lifts u = u
book_act G d protects u = u

unfoldable pub book_run : Geometry → Disk → List Act → Book → Book
book_run G d [] u = u
book_run G d (a ∷ acts) u = book_run G (after_act G d a) acts (book_act G d a u)
