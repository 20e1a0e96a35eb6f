-- `daybook::at_record` meets its contract: the three bytes are put.
use Rattle.demands.specs.Reading.{at_record_rule}
use Rattle.daybook.proofs.at_record.Goals as goal

pub returns : goal.returns
unfolding at_record_rule
returns c = c.put_three.ensures
