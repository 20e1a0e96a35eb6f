-- `assured::write_and_read` meets its contract: what the answer says of the write is so; where it was accepted, its target is in range, and
-- the record is read on the disk that the calls leave.
use mathlib.Core.Path.{◌≡◌, refl, ap, ◌∙◌}
use mathlib.Core.Bool.{true, false}
use Rattle.model.specs.Lent.{Outcome}
use Rattle.demands.specs.Runs.{disk_of}
use Rattle.script.specs.Script.{request}
use Rattle.assured.specs.Demands.{writes_answer, writes_to, met, met_says, met_run, not_written, write_read, fcb_long, extent_low, record_low, read_last, reads_again}
use Rattle.assured.proofs.write_and_read.Goals as goal

pub returns-then-not-wrote : goal.returns-then-not-wrote
returns-then-not-wrote c =
    let meets = c.call-write.ensures in
    not_written refl (met_says _ _ _ _ _ meets refl refl writes_answer _ false c.wrote.ensures c.if-not-wrote.true) (met _ _ _ _ _ meets refl refl) refl

pub read_again-requires : goal.read_again-requires
read_again-requires c =
    let a = c.args in
    let d = disk_of a.image.now a.map.now a.session in
    let w = request a.asked a.fcb.now a.written.now in
    let t : writes_to d w ≡ true = met_says d w _ _ _ c.call-write.ensures refl refl writes_answer _ true c.wrote.ensures c.if-not-wrote.false in
    let long = fcb_long d w t in
    let o = c.target_of-target.ensures long in
    (c.call-write.auto.fcb ∙ long, rw o.extent (extent_low d w t), rw o.at (record_low d w t))

pub returns : goal.returns
returns c =
    let a = c.args in
    let d = disk_of a.image.now a.map.now a.session in
    let w = request a.asked a.fcb.now a.written.now in
    let meets = c.call-write.ensures in
    let t : writes_to d w ≡ true = met_says d w _ _ _ meets refl refl writes_answer _ true c.wrote.ensures c.if-not-wrote.false in
    let o = c.target_of-target.ensures (fcb_long d w t) in
    let same = met d w _ _ _ meets refl refl in
    let made = met_run d w _ _ _ meets refl refl _ _ c.run_script-s.ensures in
    let last = c.read_again.ensures in
    write_read refl t (ap (λ (x : Outcome). x.lent.buffer) same) (read_last d w t _ same _ _ made _ o _ _ _ last)
    (λ long time alone. reads_again d w t _ same _ _ made _ o _ _ _ last long time alone)
