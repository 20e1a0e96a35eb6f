-- A refusal is the ruling's or the protection's, with nothing touched; a plan that is not stopped is followed within the disk's bounds.
use mathlib.Core.Path.{sym}
use Rattle.format.specs.Diskette.{eight_inch}
use Rattle.table.specs.Protection.{record_reads}
use Rattle.records.specs.Held.{held}
use Rattle.records.specs.Carry.{plan_sure, record_refused, record_stopped, record_carried}
use Rattle.records.proofs.record_call.Goals as goal

pub stops-requires : goal.stops-requires
stops-requires c =
    let p = c.requires in
    let sure = plan_sure c.args.asked.number (held c.args.lent.now) c.args.session p.0 p.2 p.5 c.in-Ok.plan (c.in-Ok.ensures _) in
    (p.5.image_long, p.5.fcb_long, sure.on_disk)

pub follow-requires : goal.follow-requires
follow-requires c =
    let p = c.requires in
    let t = c.target_of-target.ensures in
    let sure = plan_sure c.args.asked.number (held c.args.lent.now) c.args.session p.0 p.2 p.5 c.in-Ok.plan (c.in-Ok.ensures _) in (
      rw t.extent sure.extent,
      rw t.at sure.at,
      rw t.after sure.after,
      sure.on_disk,
      rw (← t.extent) at sure.own,
      (p.5.image_long, p.0, p.5.fcb_long, p.1),
    )

-- the protection stops it
pub returns-then-stops-clause-comes_to : goal.returns-then-stops-clause-comes_to
returns-then-stops-clause-comes_to c =
    let a = c.args in
    let p = c.requires in
    record_stopped eight_inch a.asked (held a.lent.now) a.session _ p.3 (λ t. record_reads a.asked.number p.3 (p.4 t))
    c.in-Ok.plan (sym (c.in-Ok.ensures _)) (sym (c.if-stops.ensures a.lent.now.map.now a.lent.now.buffer.now))
    c.refuse-then-stops.ensures

-- its ruling refuses it
pub returns-in-Err-clause-comes_to : goal.returns-in-Err-clause-comes_to
returns-in-Err-clause-comes_to c =
    let a = c.args in
    let p = c.requires in
    record_refused eight_inch a.asked (held a.lent.now) a.session _ p.3 (λ t. record_reads a.asked.number p.3 (p.4 t))
    c.in-Err.code (sym (c.in-Err.ensures _)) c.refuse.ensures

pub returns-else-stops-clause-comes_to : goal.returns-else-stops-clause-comes_to
returns-else-stops-clause-comes_to c =
    let a = c.args in
    let p = c.requires in
    record_carried eight_inch a.asked (held a.lent.now) a.session _ p.3 (λ t. record_reads a.asked.number p.3 (p.4 t))
    c.in-Ok.plan c.target_of-target.result (held c.follow.new.lent) (sym (c.in-Ok.ensures _))
    (sym (c.if-stops.ensures a.lent.now.map.now a.lent.now.buffer.now)) c.target_of-target.ensures c.done.ensures c.follow.ensures.comes_to
