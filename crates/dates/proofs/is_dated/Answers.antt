-- Byte 0 of the row is the entry's.
use Rattle.format.specs.Dates.{is_dates}
use Rattle.dates.proofs.is_dated.Goals as goal

pub returns : goal.returns
unfolding is_dates
returns c = rw c.row.ensures.0
