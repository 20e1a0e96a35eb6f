-- The answer decides.
use mathlib.Core.Path.{sym, ◌∙◌}
use Rattle.stamps.proofs.put_accepted.Goals as goal

pub returns-then-accepted : goal.returns-then-accepted
returns-then-accepted c =
    let t = sym c.accepted.ensures ∙ c.if-accepted.true in
    c.put_due.ensures ∙ rw t

pub returns-else-accepted : goal.returns-else-accepted
returns-else-accepted c = let t = sym c.accepted.ensures ∙ c.if-accepted.false in rw t
