-- `extending::search_and_add` meets its contract: by what was found, and by the size of the log.
use mathlib.Core.Path.{◌∙◌}
use Rattle.format.specs.Diskette.{eight_inch}
use Rattle.logging.specs.Held.{held}
use Rattle.extending.specs.Laws.{added_again, added_full, added_writes}
use Rattle.extending.proofs.search_and_add.Goals as goal

pub returns-then-search-clause-comes_to : goal.returns-then-search-clause-comes_to
returns-then-search-clause-comes_to c = let a = c.args in added_again eight_inch a.time a.wanted _ _ a.fcb a.n c.if-search.ensures.comes_to

pub returns-then-n-ge-FULL_LOG-clause-comes_to : goal.returns-then-n-ge-FULL_LOG-clause-comes_to
returns-then-n-ge-FULL_LOG-clause-comes_to c =
    let a = c.args in added_full eight_inch a.time a.wanted _ _ a.fcb a.n c.if-search.ensures.comes_to c.if-n-ge-FULL_LOG.true

pub returns-clause-comes_to : goal.returns-clause-comes_to
returns-clause-comes_to c =
    let a = c.args in
    c.write_log.ensures.comes_to
    ∙ added_writes eight_inch a.time a.wanted (held c.search.new.disk) _ a.fcb a.n c.if-search.ensures.comes_to c.if-n-ge-FULL_LOG.false
