-- `merging::merge` meets its contract: the closure tells the merged slots one by one.
use mathlib.Core.Path.{sym, ◌∙◌}
use native.Mathlib.Omega.{arith}
use borrow.Author.Tests.{tests}
use Rattle.std.proofs.Common.{rules}
use Rattle.format.specs.Diskette.{eight_inch, slot_bytes}
use Rattle.model.specs.Closing.{merged_byte_rule, merged_slots}
use Rattle.merging.specs.Made.{made_by}
use Rattle.merging.specs.Merging.{same_none}
use Rattle.fields.specs.Closing.{merged_none}
use Rattle.merging.proofs.merge.Goals as goal

pub returns-then-slots_same : goal.returns-then-slots_same
returns-then-slots_same c = let a = c.args in sym (merged_none eight_inch a.es a.fs
    (same_none eight_inch a.es a.fs (omega arith) (omega arith) (sym c.slots_same.ensures ∙ c.if-slots_same.true)) (omega arith))

pub returns : goal.returns
unfolding merged_slots
returns c =
    made_by (merged_byte_rule eight_inch c.args.es c.args.fs) _ c.from_fn.result slot_bytes c.from_fn.ensures.items (λ x y q k. search (rules, tests))
