-- User, extent, name: the first that fails decides, and where the first two hold the name does.
use Rattle.std.proofs.Common.{rules}
use borrow.Author.Tests.{tests}
use Rattle.lists.specs.Tests.{◌and◌}
use Rattle.format.specs.Entries.{named}
use Rattle.model.specs.Search.{hit}
use Rattle.hits.proofs.hit.Goals.{then-row-user, else-row-user}
use Rattle.hits.proofs.hit.Goals as goal

pub returns-then-extent_hit : goal.returns-then-extent_hit
unfolding hit named ◌and◌
returns-then-extent_hit c = elim c.if-row-user.branch [ then-row-user w ↦ search (rules, tests) | else-row-user w ↦ search (rules, tests) ]

pub returns-else-extent_hit : goal.returns-else-extent_hit
unfolding hit named ◌and◌
returns-else-extent_hit c = elim c.if-row-user.branch [ then-row-user w ↦ search (rules, tests) | else-row-user w ↦ search (rules, tests) ]
