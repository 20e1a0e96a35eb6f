-- The three steps, one after the other.
use Rattle.format.specs.Diskette.{eight_inch}
use Rattle.stamps.specs.Due.{due_put}
use Rattle.stamps.proofs.put_due.Goals as goal

pub returns : goal.returns
returns c =
    let a = c.args in
    due_put eight_inch a.asked a.due c.time_stamp-time.result a.image.now _ _ _
    c.time_stamp-time.ensures c.put_at.ensures c.put_blank.ensures c.put_at-2.ensures
