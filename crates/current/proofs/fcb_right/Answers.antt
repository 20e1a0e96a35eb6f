-- The name and the numbers come first; where they are right, cr decides.
use Rattle.std.proofs.Common.{rules}
use borrow.Author.Tests.{tests}
use Rattle.lists.specs.Tests.{◌and◌}
use Rattle.current.specs.Current.{fcb_fields}
use Rattle.current.proofs.fcb_right.Goals as goal

pub returns-then-fields_right : goal.returns-then-fields_right
unfolding ◌and◌
returns-then-fields_right c = rw fcb_fields (search (rules, tests))

pub returns-else-fields_right : goal.returns-else-fields_right
unfolding ◌and◌
returns-else-fields_right c = rw fcb_fields (search (rules, tests))
