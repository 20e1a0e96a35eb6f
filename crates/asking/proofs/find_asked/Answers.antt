-- The look-up with byte 12 is the definition.
use Rattle.model.specs.Table.{asked_entry}
use Rattle.asking.proofs.find_asked.Goals as goal

pub returns : goal.returns
unfolding asked_entry
returns c = λ map buffer. rw (c.find_file.ensures, c.from.ensures)
