-- At the end the count of the date entries is left to be tested, and the rest is what is promised.
use Rattle.consistent.specs.Pass.{Passed, passed_none, passed_all, passed_undated, passed_dated}
use Rattle.consistent.specs.declared.Seen.{Seen}
use Rattle.facts.specs.Marks.{Marked}
use Rattle.chains.specs.Chain.{Indexed}
use Rattle.dates.specs.Label.{Labelled}
use Rattle.blocks.specs.BlockMarks.{marks_start, marks_end}
use Rattle.disk.specs.Eight.{eight_sound}
use Rattle.format.specs.Consistent.{consistent}
use Rattle.format.specs.Entries.{Rows, entry_at}
use Rattle.format.specs.Diskette.{eight_inch, entries_per_record}
use Rattle.lists.specs.Cases.{clash}
use borrow.Author.Tests.{eq-eqb}
use borrow.Author.Rules.{rules}
use Prim.Native.Nat.{◌*◌}
use mathlib.Core.Path.{◌≡◌, refl, sym, ◌∙◌}
use native.Mathlib.Omega.{arith}
use Rattle.consistent.proofs.is_consistent.Goals as goal

known : (d : Rows) (s : Seen) → Passed eight_inch d eight_inch.entries s → Marked eight_inch d s.marks.now × Indexed eight_inch d s.chain.now × Labelled d eight_inch.entries s.label
known d s p = (marks_end eight_inch d s.marks.now (omega arith) (omega arith) p.blocks, passed_all eight_inch d s p, p.labelled)

pub loop-d-init : goal.loop-d-init
loop-d-init c =
    let d = entry_at eight_inch c.args.image.now in let m = c.start_marks in
    let marks = marks_start eight_inch d c.args.seen.now.marks.now (search rules) (omega arith) (omega arith) (omega arith) in
    (passed_none eight_inch d _ (rw m.ensures marks) (c.start.ensures d) refl refl, search rules)

pub returns-then-not-take_record-clause-tells : goal.returns-then-not-take_record-clause-tells
unfolding consistent
returns-then-not-take_record-clause-tells c = (sym (c.take_record.ensures.takes.1 c.if-not-take_record.true), λ t. clash (sym t))

pub returns-then-seen-eq0-clause-tells : goal.returns-then-seen-eq0-clause-tells
unfolding consistent
returns-then-seen-eq0-clause-tells c =
    let d = entry_at eight_inch c.args.image.now in let s = c.loop-d.seen in
    let q : entries_per_record * c.loop-d.d ≡ 64 = omega arith in
    let passed : Passed eight_inch d 64 s = rw q at c.loop-d.invariant.0 in
    let none = c.if-seen-eq0.true in
    (eq-eqb _ _ none ∙ sym (passed_undated eight_inch d eight_sound s passed none), λ t. known d s passed)

pub returns-else-seen-eq0-clause-tells : goal.returns-else-seen-eq0-clause-tells
unfolding consistent
returns-else-seen-eq0-clause-tells c =
    let d = entry_at eight_inch c.args.image.now in let s = c.loop-d.seen in
    let q : entries_per_record * c.loop-d.d ≡ 64 = omega arith in
    let passed : Passed eight_inch d 64 s = rw q at c.loop-d.invariant.0 in
    (sym (passed_dated eight_inch d eight_sound s passed c.if-seen-eq0.false), λ t. known d s passed)
