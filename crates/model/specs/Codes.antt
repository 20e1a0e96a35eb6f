-- Document 01's A and H for each way in which a call ends, and whether a search is over with it.
use Rattle.std.specs.Prelude.{Bool, true, false, ℕ}
use Rattle.model.specs.declared.Code.{Code}

pub record Says : Type 0 where
  pub a : ℕ
  pub h : ℕ
  pub over : Bool

abbrev pub says : ℕ → ℕ → Says
says a h = record { a = a; h = h; over = false }

abbrev pub says_of : Code → Says
says_of (Code.Accepted n) = says n 0
says_of Code.NotListed = says 255 255
says_of Code.BadParameter = says 255 4
says_of Code.BadDisk = says 255 1
says_of Code.Protected = says 255 2
says_of Code.BadRecord = says 6 0
says_of Code.NotCurrent = says 9 0
says_of Code.Failed = says 255 0
says_of Code.BadName = says 255 9
says_of Code.SearchOver = record { a = 255; h = 0; over = true }
says_of Code.ReadOnly = says 255 3
says_of Code.Exists = says 255 8
says_of Code.NoExtent = says 4 0
says_of Code.NoRecord = says 1 0
says_of Code.NoEntry = says 5 0
says_of Code.DiskFull = says 2 0

abbrev pub a_of : Code → ℕ
a_of c = (says_of c).a

abbrev pub h_of : Code → ℕ
h_of c = (says_of c).h
