-- Each way out is one case of the definition: asked for, refused, set.
use mathlib.Core.Path.{◌≡◌, refl, ap, ◌∙◌}
use mathlib.Core.Bool.{true, false, not}
use lib.Dec.{eqb}
use native.Mathlib.Omega.{arith}
use borrow.Author.Tests.{eq-eqb, ne_eqb, le-leb, lt-leb}
use Rattle.lists.specs.Tests.{or_left, or_right, or_then}
use Rattle.format.specs.Diskette.{eight_inch}
use Rattle.model.specs.Calls.{user_set}
use Rattle.model.specs.Kinds.{kind_of}
use Rattle.model.specs.Step.{effect}
use Rattle.model.specs.declared.Code.TheVariants.{Failed}
use Rattle.table.specs.First.{here}
use Rattle.table.specs.Own.{calling}
use Rattle.table.specs.OwnStep.{refuses_own, carries_own}
use Rattle.plain.proofs.user_number.Goals as goal

pub returns-then-argument : goal.returns-then-argument
unfolding user_set effect kind_of
returns-then-argument c = λ image map fcb buffer.
    let a = c.args.asked in
    let t : eqb a.argument 255 ≡ true = eq-eqb _ _ c.if-argument.true in
    carries_own eight_inch (calling 32 a) _ _ _ (ap not (or_left _ _ t), tt) (rw (c.done.ensures, t))

pub returns-then-argument-gt15 : goal.returns-then-argument-gt15
returns-then-argument-gt15 c = λ image map fcb buffer.
    let a = c.args.asked in
    refuses_own eight_inch (calling 32 a) _ _ Failed _
    (here (ap not (or_then _ _ (ne_eqb _ _ c.if-argument.false) ∙ lt-leb a.argument 15 (omega arith))) refl) c.refuse.ensures

pub returns : goal.returns
unfolding user_set effect kind_of
returns c = λ image map fcb buffer.
    let a = c.args.asked in
    let f : eqb a.argument 255 ≡ false = ne_eqb _ _ c.if-argument.false in
    carries_own eight_inch (calling 32 a) _ _ _ (ap not (or_right _ _ (le-leb a.argument 15 (omega arith))), tt)
    (rw (c.done-2.ensures, c.set_user.ensures, f))
