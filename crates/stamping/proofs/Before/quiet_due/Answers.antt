-- Of the quiet calls only 15 makes a stamp.
use mathlib.Core.Path.{refl, sym, subst}
use Prim.Native.Nat.{ℕ}
use Rattle.format.specs.Diskette.{eight_inch}
use Rattle.model.specs.Lent.{lend}
use Rattle.table.specs.Own.{calling}
use Rattle.stamping.specs.Made.{Dues}
use Rattle.stamping.specs.Due.{none_put, none_due, quiet_none}
use Rattle.stamping.proofs.Before.quiet_due.Goals as goal

pub returns-then-self-eq15 : goal.returns-then-self-eq15
returns-then-self-eq15 c =
    let b = c.args.self.now in (
      c.open_due.ensures.0,
      λ map buffer. subst (λ (n : ℕ). Dues eight_inch (calling n b.asked) (lend b.image.now map b.fcb.now buffer) b.session c.open_due.result)
          (sym c.if-self-eq15.true) (c.open_due.ensures.1 b.asked map buffer),
    )

pub returns : goal.returns
returns c =
    let b = c.args.self.now in (
      none_put refl,
      λ map buffer. none_due eight_inch b.asked (lend b.image.now map b.fcb.now buffer) b.session refl
          (rw c.requires (quiet_none eight_inch b.asked (lend b.image.now map b.fcb.now buffer) b.session c.if-self-eq15.false)),
    )
