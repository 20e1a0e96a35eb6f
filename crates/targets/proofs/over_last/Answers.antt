-- The number decides first, by the test of random calls; of a random call the extent does.
use Rattle.std.proofs.Common.{rules}
use borrow.Author.Tests.{tests}
use Rattle.lists.specs.Tests.{◌and◌}
use Rattle.targets.specs.Target.{over_last_rule}
use Rattle.targets.proofs.over_last.Goals as goal

pub returns-then-is_random : goal.returns-then-is_random
unfolding over_last_rule ◌and◌
returns-then-is_random c = search (rules, tests)

pub returns-else-is_random : goal.returns-else-is_random
unfolding over_last_rule ◌and◌
returns-else-is_random c = search (rules, tests)
