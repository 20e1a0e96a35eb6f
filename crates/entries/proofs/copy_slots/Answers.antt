-- `entries::copy_slots` meets its contract: the copy from byte 16 on, as long as there are slots, is the definition.
use mathlib.Core.Path.{ap, ◌∙◌}
use Rattle.lists.specs.Splice.{part}
use Rattle.format.specs.Entries.{slots_of}
use Rattle.entries.proofs.copy_slots.Goals as goal

pub returns : goal.returns
unfolding slots_of
returns c = let s = c in c.get.ensures ∙ ap (part s.args.r.now 16) s.requires.1
