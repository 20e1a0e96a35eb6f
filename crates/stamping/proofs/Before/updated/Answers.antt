-- The label decides first, then the close.
use mathlib.Core.Path.{◌≡◌, refl, sym, ◌∙◌}
use Rattle.lists.specs.Tests.{and_then, and_fails_left}
use Rattle.format.specs.Diskette.{eight_inch}
use Rattle.format.specs.Dates.{asks_update}
use Rattle.format.specs.Entries.{entry_at}
use Rattle.model.specs.Closing.{close_changes_rule}
use Rattle.stamping.specs.Due.{some_if, updated_if}
use Rattle.stamping.proofs.Before.updated.Goals as goal

pub row-requires : goal.row-requires
row-requires c = (c.args.self.now.findable.image_long, c.requires)

pub returns-then-not-label_asks : goal.returns-then-not-label_asks
unfolding updated_if asks_update
returns-then-not-label_asks c = sym (rw (and_fails_left _ _ (sym c.label_asks.ensures ∙ c.if-not-label_asks.true)))

pub returns : goal.returns
unfolding updated_if asks_update
returns c =
    let b = c.args.self.now in
    let changes : c.close_changes.result ≡ close_changes_rule eight_inch (entry_at eight_inch b.image.now c.args.e) b.fcb.now = rw c.row.ensures.0 at c.close_changes.ensures in
    c.then_some.ensures ∙ some_if _ c.args.e ∙ rw (and_then _ _ (sym c.label_asks.ensures ∙ c.if-not-label_asks.false), changes) refl
