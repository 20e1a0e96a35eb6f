-- `put` splices the part.
use Rattle.lists.specs.Splice.{part}
use Rattle.model.specs.Entering.{copied}
use Rattle.entering.proofs.copy_fields.Goals as goal

pub returns : goal.returns
unfolding copied part
returns c = c.put.ensures
