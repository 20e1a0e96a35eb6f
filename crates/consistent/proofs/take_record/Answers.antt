-- The rows that are passed over are empty; each of the others is an entry.
use Rattle.consistent.specs.Pass.{passed_rows}
use Rattle.rows.specs.Entries.{row_of, row_in_record}
use Rattle.disk.specs.Eight.{eight_sound}
use Rattle.lists.specs.Cases.{clash}
use Rattle.format.specs.Diskette.{Bytes, entries_per_record}
use Prim.Native.Nat.{◌+◌, ◌*◌}
use mathlib.Core.Path.{◌≡◌, sym, ap, ◌∙◌}
use native.Mathlib.Omega.{arith}
use Rattle.std.proofs.Common.{rules}
use Rattle.consistent.proofs.take_record.Goals as goal

pub returns-then-all_empty-clause-takes : goal.returns-then-all_empty-clause-takes
returns-then-all_empty-clause-takes c =
    let a = c.args in let f = c.four_rows-four in (
      λ t. passed_rows eight_sound a.image.now c.requires.0 a.d c.requires.1 entries_per_record (omega arith) f.result.now f.ensures.0
          (sym c.all_empty.ensures ∙ c.if-all_empty.true) a.seen.now c.requires.2,
      λ t. clash t,
    )

pub loop-i-init : goal.loop-i-init
loop-i-init c =
    let a = c.args in let f = c.four_rows-four in let t = c.first_tested-i in
    (passed_rows eight_sound a.image.now c.requires.0 a.d c.requires.1 t.result t.ensures.1 f.result.now f.ensures.0 t.ensures.0 a.seen.now c.requires.2, search rules)

pub take_entry-requires : goal.take_entry-requires
take_entry-requires c =
    let a = c.args in let f = c.four_rows-four in let r = c.row_at-r in let i = c.loop-i.i in
    let same = r.ensures.0 ∙ ap (λ (l : Bytes). row_of l i) f.ensures.0 ∙ row_in_record eight_sound a.image.now c.requires.0 a.d i (omega arith) (omega arith) in
    (c.requires.0, omega arith, omega arith, same, c.loop-i.invariant.0)

pub loop-i-preserved : goal.loop-i-preserved
loop-i-preserved c =
    let a = c.args in let i = c.loop-i.i in
    let q : entries_per_record * a.d + i + 1 ≡ entries_per_record * a.d + (i + 1) = omega arith in
    (rw q at (c.take_entry.ensures.takes.0 c.if-not-take_entry.false), search rules)

pub returns-clause-takes : goal.returns-clause-takes
returns-clause-takes c = let q : c.loop-i.i ≡ entries_per_record = omega arith in (λ t. rw q at c.loop-i.invariant.0, λ t. clash t)
