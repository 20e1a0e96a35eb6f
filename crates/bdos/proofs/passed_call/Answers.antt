-- `bdos::passed_call` meets its contract: what is due is what an accepted call makes, and it is put on what the call's own function left.
use mathlib.Core.Path.{sym, ◌∙◌}
use Rattle.format.specs.Diskette.{eight_inch}
use Rattle.stamping.specs.Made.{made_undated, step_stamped, step_plain}
use Rattle.bdos.proofs.passed_call.Goals as goal

pub due-due-requires : goal.due-due-requires
due-due-requires c =
    let p = c.requires in
    let f = p.3.fits in (
      p.0,
      record { image_long = f.image_long; fcb_long = f.fcb_long; user_low = f.user_low; indexed = p.5 },
      λ t. record { right = p.3.image_right; dates = sym c.is_dated-dated.ensures ∙ t; labelled = p.6 },
    )

pub returns-then-not-dated-clause-comes_to : goal.returns-then-not-dated-clause-comes_to
returns-then-not-dated-clause-comes_to c =
    let s = c in
    step_plain eight_inch s.args.asked _ s.args.session s.requires.1 s.requires.3 _ _ _ _ _ c.own_call-answer.ensures.comes_to
    (made_undated eight_inch s.args.asked _ s.args.session (sym c.is_dated-dated.ensures ∙ c.if-not-dated.true))

pub put_accepted-requires : goal.put_accepted-requires
put_accepted-requires c = (c.own_call-answer.ensures.still_lent.image_kept ∙ c.requires.3.fits.image_long, c.due-due.ensures.0)

pub returns-clause-comes_to : goal.returns-clause-comes_to
returns-clause-comes_to c =
    let s = c in
    let t = c.if-not-dated.false in
    step_stamped eight_inch s.args.asked _ s.args.session s.requires.1 s.requires.3 _ _ _ _ _ c.own_call-answer.ensures.comes_to
    (sym c.is_dated-dated.ensures ∙ t) _ (c.due-due.ensures.1 s.args.lent.now.buffer.now t) _ c.put_accepted.ensures
