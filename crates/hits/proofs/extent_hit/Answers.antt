-- 3FH first, then ex, then s2: each way out is one case of the definition.
use Rattle.std.proofs.Common.{rules}
use borrow.Author.Tests.{tests}
use Rattle.lists.specs.Tests.{◌and◌, ◌or◌}
use Rattle.hits.specs.Hits.{extent_by_bytes}
use Rattle.hits.proofs.extent_hit.Goals as goal

pub returns-then-x-eq63 : goal.returns-then-x-eq63
unfolding ◌or◌
returns-then-x-eq63 c = rw extent_by_bytes (search (rules, tests))

pub returns-then-row-x : goal.returns-then-row-x
unfolding ◌or◌ ◌and◌
returns-then-row-x c = rw extent_by_bytes (search (rules, tests))

pub returns-else-row-x : goal.returns-else-row-x
unfolding ◌or◌ ◌and◌
returns-else-row-x c = rw extent_by_bytes (search (rules, tests))
