-- What hosts are told of how a run of the picker ended: a number, and A and H of the refusal where the trouble has no name of its own.
use Rattle.std.specs.Prelude.{ℕ}
use Rattle.picking.specs.declared.Pick.{Pick}

pub record Says : Type 0 where
  pub number : ℕ
  pub a : ℕ
  pub h : ℕ

abbrev pub named : ℕ → Says
named n = record { number = n; a = 0; h = 0 }

abbrev pub says_of : Pick → Says
says_of Pick.Logged = named 0
says_of Pick.Again = named 1
says_of Pick.DayOver = named 2
says_of Pick.NoBook = named 3
says_of Pick.NoWord = named 4
says_of Pick.OneFile = named 5
says_of Pick.NoFirst = named 6
says_of Pick.LogFull = named 7
says_of Pick.LogReadOnly = named 8
says_of Pick.DirectoryFull = named 9
says_of Pick.DiskFull = named 10
says_of (Pick.Other a h) = record { number = 11; a = a; h = h }
