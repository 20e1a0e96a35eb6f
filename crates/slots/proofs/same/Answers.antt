-- `slots::same` meets its contract. The invariant: no bit differs exactly where the first j slots are the same.
use mathlib.Core.Path.{◌≡◌, sym}
use native.Mathlib.Omega.{arith}
use Rattle.lists.specs.Below.{all_none}
use Rattle.format.specs.Diskette.{slot_count}
use Rattle.slots.specs.Slots.{slots_same_rule, same_more}
use Rattle.slots.proofs.same.Goals as goal

pub loop-j-init : goal.loop-j-init
loop-j-init c = sym (all_none _)

pub loop-j-preserved : goal.loop-j-preserved
loop-j-preserved c = let l = c.loop-j in let a = c.args in same_more a.es.now a.fs.now l.differ l.j l.invariant

pub returns : goal.returns
unfolding slots_same_rule
returns c = let l = c.loop-j in let q : l.j ≡ slot_count = omega arith in rw q at l.invariant
