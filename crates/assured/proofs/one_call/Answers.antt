-- `assured::one_call` meets its contract: what is the step of the model is one or the other, and keeps the frame.
use Rattle.assured.specs.Demands.{told, framed}
use Rattle.assured.proofs.one_call.Goals as goal

pub returns : goal.returns
returns c =
    let meets = c.benzo_call.ensures in
    (told _ _ _ _ meets, framed _ _ _ _ meets)
