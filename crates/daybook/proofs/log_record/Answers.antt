-- `daybook::log_record` meets its contract: the stamp is put into bytes 1AH, then CR and LF.
use Rattle.lists.specs.Splice.{copies}
use Rattle.daybook.specs.Bytes.{log_bytes}
use Rattle.daybook.proofs.log_record.Goals as goal

pub returns : goal.returns
unfolding copies
returns c =
    let a = c.args in
    log_bytes a.year a.day _ c.stamp_of-stamp.ensures _ c.put.ensures
