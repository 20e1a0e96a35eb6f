-- `assured::log_in_and_run` meets its contract: the log-in's answer says whether it was accepted, and the calls are made on what it left.
use mathlib.Core.Path.{refl, ap}
use mathlib.Core.Bool.{true, false}
use Rattle.model.specs.Lent.{Outcome}
use Rattle.table.specs.Accepted.{accepted_answer}
use Rattle.demands.specs.Runs.{disk_of}
use Rattle.assured.specs.Demands.{log_in, met, met_after, met_says, met_run, login_refused, logged_in_law}
use Rattle.assured.proofs.log_in_and_run.Goals as goal

pub returns-then-not-accepted : goal.returns-then-not-accepted
returns-then-not-accepted c =
    let meets = c.call-answer.ensures in
    let same = met _ _ _ _ _ meets refl refl in
    login_refused refl (met_says _ _ _ _ _ meets refl refl accepted_answer _ false c.accepted.ensures c.if-not-accepted.true)
    (met_after _ _ _ _ _ meets refl refl) (ap (λ (x : Outcome). x.lent.fcb) same) (ap (λ (x : Outcome). x.lent.buffer) same)

pub returns : goal.returns
returns c =
    let a = c.args in
    let d = disk_of a.image.now a.map.now a.session in
    let q = log_in a.asked a.fcb.now a.buffer.now in
    let meets = c.call-answer.ensures in
    logged_in_law d q refl _ _ (met_says d q _ _ _ meets refl refl accepted_answer _ true c.accepted.ensures c.if-not-accepted.false)
    (met_run d q _ _ _ meets refl refl _ _ c.run_script.ensures) _ (met d q _ _ _ meets refl refl)
