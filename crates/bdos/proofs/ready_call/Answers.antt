-- `bdos::ready_call` meets its contract: where a protected session refuses the kind, the row of the protection decides; else the call goes on with
-- that known.
use mathlib.Core.Path.{sym, ◌∙◌}
use Rattle.lists.specs.Tests.{and_left, and_right, second_fails}
use Rattle.format.specs.Diskette.{eight_inch}
use Rattle.table.proofs.Early.{stopped_step}
use Rattle.table.specs.Protection.{changer_stopped}
use Rattle.bdos.proofs.ready_call.Goals as goal

pub returns-then-refuses-clause-comes_to : goal.returns-then-refuses-clause-comes_to
returns-then-refuses-clause-comes_to c =
    let s = c in
    let held = sym (c.refuses.ensures s.args.asked.number (sym s.requires.0)) ∙ c.if-refuses.true in
    stopped_step eight_inch s.args.asked _ s.args.session _ s.requires.1 s.requires.3
    (changer_stopped eight_inch s.args.asked _ s.args.session (and_left _ _ held) (and_right _ _ held)) c.refuse.ensures

pub passed_call-requires : goal.passed_call-requires
passed_call-requires c =
    let s = c in
    let p = s.requires in
    let free = sym (c.refuses.ensures s.args.asked.number (sym p.0)) ∙ c.if-refuses.false in
    (p.0, p.1, p.2, p.3, λ t. second_fails _ _ free t, p.4, p.5)
