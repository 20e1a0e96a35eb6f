-- `daybook::stamp_of` meets its contract: each digit is the definition's.
use Rattle.picking.specs.Picker.{stamp_of_rule}
use Rattle.daybook.proofs.stamp_of.Goals as goal

pub returns : goal.returns
unfolding stamp_of_rule
returns c =
    rw (
      c.digit_at.ensures,
      c.digit_at-2.ensures,
      c.digit_at-3.ensures,
      c.digit_at-4.ensures,
      c.digit_at-5.ensures,
      c.digit_at-6.ensures,
      c.digit_at-7.ensures,
      c.digit_at-8.ensures,
    )
