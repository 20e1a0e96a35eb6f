-- The protection decides, then the label, and then the entry that is asked for.
use mathlib.Core.Path.{refl, sym, ◌∙◌}
use mathlib.Core.List.{[]}
use Rattle.format.specs.Diskette.{eight_inch}
use Rattle.format.specs.Dates.{asks_access}
use Rattle.model.specs.Kinds.{kind_of}
use Rattle.model.specs.Table.{asked_entry}
use Rattle.table.specs.Own.{calling}
use Rattle.stamping.specs.Dated.{nothing_beside, file_beside}
use Rattle.stamping.specs.Due.{none_put, none_due, open_protected, open_unasked, open_due_law}
use Rattle.stamping.proofs.Before.open_due.Goals as goal

pub returns-then-is_protected : goal.returns-then-is_protected
unfolding kind_of
returns-then-is_protected c = (
  none_put refl,
  λ asked map buffer. none_due eight_inch (calling 15 asked) _ _ refl (open_protected eight_inch asked _ _ (sym c.is_protected.ensures ∙ c.if-is_protected.true)),
)

pub returns-then-not-label_asks : goal.returns-then-not-label_asks
unfolding kind_of asks_access
returns-then-not-label_asks c = (
  none_put refl,
  λ asked map buffer. none_due eight_inch (calling 15 asked) _ _ refl (open_unasked eight_inch asked _ _ (sym c.label_asks.ensures ∙ c.if-not-label_asks.true)),
)

pub returns : goal.returns
unfolding asked_entry asks_access
returns c =
    let b = c.args.self.now in
    let d = b.dated in (
      record {
        update = nothing_beside eight_inch;
        new = nothing_beside eight_inch;
        first = rw (c.find_asked-first.ensures [] []) (file_beside b.image.now d.right d.dates b.session.user _ 1 _ b.findable.user_low);
      },
      λ asked map buffer. open_due_law eight_inch asked _ _ (sym c.is_protected.ensures ∙ c.if-is_protected.false) (sym c.label_asks.ensures ∙ c.if-not-label_asks.false) _
          (c.find_asked-first.ensures map buffer),
    )
