-- The tables are those of the definitions.
use Rattle.faults.specs.Bytes.{byte_fault, counted, lowest, highest, barred}
use Rattle.heads.specs.Head.{head_fault}
use Rattle.heads.proofs.head_faults.Goals as goal

pub returns : goal.returns
unfolding head_fault byte_fault counted lowest highest barred
returns c = c.find_faults.ensures
