-- An entry past the last has no mark, and is not picked; of another its mark decides.
use mathlib.Core.Bool.{not, false}
use mathlib.Core.Path.{◌≡◌, sym, ap, ◌∙◌}
use Prim.Native.Nat.{ℕ, ◌≤◌}
use native.Mathlib.Omega.{arith}
use lib.Dec.{eqb}
use lib.ListN.{length, get_or-eq_default}
use Rattle.format.specs.Diskette.{Bytes, eight_inch}
use Rattle.notes.specs.Held.{holder_low, held_at, held_none}
use Rattle.freeing.specs.Freeing.{marks_pick}
use Rattle.freeing.proofs.held_for.Goals as goal

none-past : (marks : Bytes) → length marks ≡ eight_inch.entries → (e : ℕ) → eight_inch.entries ≤ e → marks_pick marks e ≡ false
unfolding marks_pick
none-past marks l e h = ap (λ (x : ℕ). not (eqb x 0)) (get_or-eq_default marks 0 (omega arith))

pub returns-in_default : goal.returns-in_default
returns-in_default c =
    let s = c in
    sym (held_none eight_inch s.args.n (marks_pick s.args.marks.now) (none-past s.args.marks.now s.requires)
    (sym c.holder.ensures ∙ c.in_default.is))

pub bounds-marks-e : goal.bounds-marks-e
bounds-marks-e c =
    let s = c in let f = c in
    omega (arith, s.requires, holder_low eight_inch s.args.n f.in-Some.e (sym f.holder.ensures ∙ f.in-Some.is))

pub returns : goal.returns
unfolding marks_pick
returns c =
    let s = c in let f = c in
    sym (held_at eight_inch s.args.n (marks_pick s.args.marks.now) f.in-Some.e (sym f.holder.ensures ∙ f.in-Some.is))
