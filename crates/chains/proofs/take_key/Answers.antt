-- The key of the row leads to the last entry that has it, which becomes the link of this one.
use borrow.Author.Rules.{rules}
use Rattle.chains.specs.Chain.{chained_more}
use Rattle.chains.proofs.take_key.Goals as goal

pub is_alone-requires : goal.is_alone-requires
is_alone-requires c = search (rules, chained_more)

pub returns : goal.returns
returns c = search (rules, chained_more)
