-- The difference is the definition's test whether the note is pending, and the entry is held against the last one as it does.
use mathlib.Core.Path.{◌≡◌, sym, ◌∙◌}
use native.Mathlib.Omega.{arith}
use borrow.Author.Tests.{le-leb, lt-leb}
use Rattle.format.specs.Diskette.{eight_inch}
use Rattle.format.specs.Found.{found_below}
use Rattle.format.specs.Notes.{is_pending, pending_entry}
use Prim.Native.Nat.{◌-◌, ◌/◌}
use Rattle.notes.specs.Holder.{holder_of}
use Rattle.notes.specs.Held.{holder_settled, holder_pending, then_found}
use Rattle.notes.proofs.holder.Goals as goal

pub returns-in_err-e : goal.returns-in_err-e
unfolding is_pending
returns-in_err-e c =
    c.from_residual.ensures
    ∙ sym (holder_settled eight_inch c.args.n (lt-leb 16 c.args.n (omega (arith, c.from.ensures, c.in_err-e.ensures))))

pub returns : goal.returns
unfolding is_pending pending_entry
returns c =
    let past = c.in_ok-e.ensures in
    let is : holder_of eight_inch c.args.n ≡ found_below eight_inch.entries ((c.args.n - 16) / 16) =
    holder_pending eight_inch c.args.n (le-leb 16 c.args.n (omega (arith, c.from.ensures, past.0))) in
    c.then_some.ensures ∙ then_found eight_inch.entries _ ∙ rw (past.1, c.from.ensures) (sym is)
