-- `script::make_act` meets its contract: the two numbers that are no call's first, and then the call.
use Rattle.script.specs.Script.{act_lifts, act_protects, act_calls}
use Rattle.script.proofs.make_act.Goals as goal

pub returns-then-number-eq-LIFTS : goal.returns-then-number-eq-LIFTS
returns-then-number-eq-LIFTS c = let a = c.args in act_lifts a.image.now a.map.now a.session a.number a.asked a.fcb.now a.buffer.now c.if-number-eq-LIFTS.true _ c.lift.ensures

pub returns-then-number-eq-PROTECTS : goal.returns-then-number-eq-PROTECTS
returns-then-number-eq-PROTECTS c =
    let a = c.args in
    act_protects a.image.now a.map.now a.session a.number a.asked a.fcb.now a.buffer.now c.if-number-eq-LIFTS.false c.if-number-eq-PROTECTS.true _ c.protect.ensures

pub returns : goal.returns
returns c =
    let a = c.args in
    act_calls a.image.now a.map.now a.session a.number a.asked a.fcb.now a.buffer.now c.if-number-eq-LIFTS.false c.if-number-eq-PROTECTS.false _ c.call.ensures
