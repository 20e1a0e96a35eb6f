-- One call: refused by the table with nothing changed, or carried out and stamped.
use Rattle.std.specs.Prelude.{cond, List, [], ℕ, eqb, None, Option, Some}
use Rattle.format.specs.Diskette.{Bytes, Geometry}
use Rattle.model.specs.declared.Asked.{Asked}
use Rattle.model.specs.declared.Session.{Session}
use Rattle.model.specs.declared.Kind.{Kind}
use Rattle.model.specs.declared.Kind.TheVariants.{Unlisted, Quiet, Search, User, Settle, Close, Delete, Create, Rename, Read, Write}
use Rattle.model.specs.declared.Code.{Code}
use Rattle.model.specs.declared.Code.TheVariants.{NotListed}
use Rattle.model.specs.Codes.{says_of}
use Rattle.model.specs.Kinds.{kind_of}
use Rattle.model.specs.Lent.{Lent, Outcome, ends, ended}
use Rattle.model.specs.Search.{pattern_of}
use Rattle.model.specs.Table.{verdict}
use Rattle.model.specs.Calls.{Told, quietly, logged_in, freed, user_set, opened, closed, searched, deleted, created, renamed, sized, positioned, space, read, written}
use Rattle.model.specs.Stamps.{Stamp, stamps, stamped_outcome}

-- "only a 17 that finds nothing, or an 18 with a search on that finds no more, ends the search"
abbrev pub refused_session : Code → Session → Session
refused_session code s = cond (says_of code).over (ended s) s

-- every refusal changes nothing
abbrev pub refused : Code → Session → Lent → Outcome
refused code s l = ends code (refused_session code s) l

module _ (G : Geometry) (asked : Asked) (l : Lent) (s : Session) where
  -- what a quiet call tells, by its number: the rule of each, and the last is that of the number which is left in the list of calls, 46
  unfoldable pub told : Told
  told =
      cond (eqb asked.number 15) (opened G s l)
      (cond (eqb asked.number 35) (sized G s l)
      (cond (eqb asked.number 36) (positioned G s l) (space G s l)))

  -- 17 begins a search, 18 goes on with the session's
  unfoldable pub pattern : Bytes
  pattern = cond (eqb asked.number 17) (pattern_of l.fcb) s.pattern

  unfoldable pub place : ℕ
  place = cond (eqb asked.number 17) 0 s.place

  unfoldable pub settled : Outcome
  settled = cond (eqb asked.number 13) (logged_in G s l) (freed G s l)

  -- what a call does, by its kind; only listed numbers come here
  abbrev pub does : Kind → Outcome
  does Unlisted = refused NotListed s l
  does Quiet = quietly told s l
  does Search = searched G s l pattern place
  does User = user_set G s l asked.argument
  does Settle = settled
  does Close = closed G s l
  does Delete = deleted G s l
  does Create = created G s l
  does Rename = renamed G s l
  does Read = read G s l asked.number
  does Write = written G s l asked.number

  unfoldable pub effect : Outcome
  effect = does (kind_of asked.number)

  abbrev pub carried_out : Option Code → Outcome
  carried_out None = effect
  carried_out (Some code) = refused code s l

  -- and the stamps that it makes: a refusal stamps nothing
  abbrev pub stamps_made : Option Code → List Stamp
  stamps_made None = stamps G asked l s (kind_of asked.number)
  stamps_made (Some code) = []

  unfoldable pub step : Outcome
  step = stamped_outcome G (stamps_made (verdict G asked l s)) (carried_out (verdict G asked l s))

  -- what an accepted call leaves
  unfoldable pub stamped : Outcome
  stamped = stamped_outcome G (stamps G asked l s (kind_of asked.number)) effect
