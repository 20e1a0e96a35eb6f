-- Document 01: "Every call lends four buffers .. it answers with A, H and the session."
use Rattle.std.specs.Prelude.{◌≡◌, Bool, true, false, cond, ℕ, eqb, length}
use Rattle.format.specs.Diskette.{Bytes, Geometry, Long, record_bytes}
use Rattle.format.specs.Entries.{Rows, entry_at}
use Rattle.format.specs.Fcb.{fcb_bytes}
use Rattle.model.specs.declared.Session.{Session}
use Rattle.model.specs.declared.Answer.{Answer}
use Rattle.model.specs.declared.Code.{Code}
use Rattle.model.specs.Codes.{a_of, h_of}

-- a diskette in its drive: the image and its map
pub record Drive : Type 0 where
  pub image : Bytes
  pub map : Bytes

-- the four buffers
pub record Lent : Type 0 where
  pub drive : Drive
  pub fcb : Bytes
  pub buffer : Bytes

abbrev pub lend : Bytes → Bytes → Bytes → Bytes → Lent
lend i m f b = record { drive = record { image = i; map = m }; fcb = f; buffer = b }

-- each of the four has its length
abbrev pub AllLong : Geometry → Lent → Type 0
AllLong G l =
    Long G l.drive.image × (length l.drive.map ≡ G.blocks) × (length l.fcb ≡ fcb_bytes) × (length l.buffer ≡ record_bytes)

-- the rows of the directory, as they were lent
abbrev pub rows_of : Geometry → Lent → Rows
rows_of G l = entry_at G l.drive.image

-- what a call leaves: A, H, the session and the four buffers
pub record Outcome : Type 0 where
  pub answer : Answer
  pub lent : Lent

abbrev pub outcome : Answer → Bytes → Bytes → Bytes → Bytes → Outcome
outcome r i m f b = record { answer = r; lent = lend i m f b }

-- the answer of a code
abbrev pub answer_of : Code → Session → Answer
answer_of code s = record { a = a_of code; h = h_of code; session = s }

abbrev pub ends : Code → Session → Lent → Outcome
ends code s l = record { answer = answer_of code s; lent = l }

-- ---- the session's changes
-- a search ends: it is off and its place is 0; the pattern stays
abbrev pub ended : Session → Session
ended s = record { user = s.user; pattern = s.pattern; place = 0; on = 0; lifted = s.lifted }

-- a search goes on from a place
abbrev pub searching : Session → Bytes → ℕ → Session
searching s pattern place = record { user = s.user; pattern = pattern; place = place; on = 1; lifted = s.lifted }

abbrev pub with_user : Session → ℕ → Session
with_user s user = record { user = user; pattern = s.pattern; place = s.place; on = s.on; lifted = s.lifted }

abbrev pub search_on : Session → Bool
search_on s = cond (eqb s.on 0) false true

-- ---- document 02, [12]: the write protection, "a field of the session; lifting or setting it changes nothing else". 0 is protected, any other
-- byte is lifted
abbrev pub with_lifted : Session → ℕ → Session
with_lifted s lifted = record { user = s.user; pattern = s.pattern; place = s.place; on = s.on; lifted = lifted }

abbrev pub lift : Session → Session
lift s = with_lifted s 1

abbrev pub protect : Session → Session
protect s = with_lifted s 0

unfoldable pub protected : Session → Bool
protected s = eqb s.lifted 0
