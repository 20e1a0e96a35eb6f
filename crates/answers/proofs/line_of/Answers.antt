-- Each arm is its code's own line.
use mathlib.Core.Path.{◌≡◌, sym, ap}
use Rattle.model.specs.declared.Code.{Code}
use Rattle.model.specs.Codes.{says_of}
use Rattle.answers.proofs.line_of.Goals as goal

line : {code d : Code} → code ≡ d → ((says_of d).a ≡ (says_of code).a) × ((says_of d).h ≡ (says_of code).h) × ((says_of d).over ≡ (says_of code).over)
line q = (sym (ap (λ (c : Code). (says_of c).a) q), sym (ap (λ (c : Code). (says_of c).h) q), sym (ap (λ (c : Code). (says_of c).over) q))

pub returns-in-Accepted : goal.returns-in-Accepted
returns-in-Accepted c = line c.in-Accepted.is

pub returns-in-NotListed : goal.returns-in-NotListed
returns-in-NotListed c = line c.in-NotListed.is

pub returns-in-BadParameter : goal.returns-in-BadParameter
returns-in-BadParameter c = line c.in-BadParameter.is

pub returns-in-BadDisk : goal.returns-in-BadDisk
returns-in-BadDisk c = line c.in-BadDisk.is

pub returns-in-Protected : goal.returns-in-Protected
returns-in-Protected c = line c.in-Protected.is

pub returns-in-BadRecord : goal.returns-in-BadRecord
returns-in-BadRecord c = line c.in-BadRecord.is

pub returns-in-NotCurrent : goal.returns-in-NotCurrent
returns-in-NotCurrent c = line c.in-NotCurrent.is

pub returns-in-Failed : goal.returns-in-Failed
returns-in-Failed c = line c.in-Failed.is

pub returns-in-BadName : goal.returns-in-BadName
returns-in-BadName c = line c.in-BadName.is

pub returns-in-SearchOver : goal.returns-in-SearchOver
returns-in-SearchOver c = line c.in-SearchOver.is

pub returns-in-ReadOnly : goal.returns-in-ReadOnly
returns-in-ReadOnly c = line c.in-ReadOnly.is

pub returns-in-Exists : goal.returns-in-Exists
returns-in-Exists c = line c.in-Exists.is

pub returns-in-NoExtent : goal.returns-in-NoExtent
returns-in-NoExtent c = line c.in-NoExtent.is

pub returns-in-NoRecord : goal.returns-in-NoRecord
returns-in-NoRecord c = line c.in-NoRecord.is

pub returns-in-NoEntry : goal.returns-in-NoEntry
returns-in-NoEntry c = line c.in-NoEntry.is

pub returns-in-DiskFull : goal.returns-in-DiskFull
returns-in-DiskFull c = line c.in-DiskFull.is
