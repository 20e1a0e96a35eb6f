-- Each return is one of the laws of an entry: it is empty, it is no file's and passes aside or not, a slot is wrong, or being alone decides.
use Rattle.heads.specs.Head.{row_right_rule}
use Rattle.consistent.specs.Pass.{entry_fails, slots_low, slots_fail, alone_decides, passed_empty, aside_passed, aside_fails, passed_used, row_used}
use Rattle.facts.specs.Slots.{slot_byte}
use Rattle.disk.specs.Eight.{eight_sound}
use Rattle.format.specs.Entries.{entry_at, empty}
use Rattle.format.specs.Diskette.{eight_inch}
use Rattle.lists.specs.Cases.{clash}
use borrow.Author.Tests.{eq-eqb, ne_eqb}
use mathlib.Core.Bool.{true, false}
use mathlib.Core.Path.{◌≡◌, refl, sym, ◌∙◌}
use native.Mathlib.Omega.{arith}
use Rattle.consistent.proofs.take_entry.Goals as goal

pub returns-then-r-clause-takes : goal.returns-then-r-clause-takes
unfolding empty
returns-then-r-clause-takes c =
    let a = c.args in
    let none : empty (entry_at eight_inch a.image.now a.e) ≡ true = rw c.requires.3 at (eq-eqb _ _ c.if-r.true) in
    (λ t. passed_empty eight_inch (entry_at eight_inch a.image.now) a.e a.seen.now c.requires.4 none, λ t. clash t)

pub take_aside-requires : goal.take_aside-requires
take_aside-requires c = (c.requires.1, c.requires.2, c.requires.4.dating.low)

pub returns-then-not-row_right-clause-takes : goal.returns-then-not-row_right-clause-takes
unfolding empty
returns-then-not-row_right-clause-takes c =
    let a = c.args in let is = c.requires.3 in let passed = c.requires.4 in
    let d = entry_at eight_inch a.image.now in
    let t = c.take_aside in
    let full : empty (d a.e) ≡ false = rw is at (ne_eqb _ _ c.if-r.false) in
    let wrong : row_right_rule (d a.e) ≡ false = rw is at (sym c.row_right.ensures ∙ c.if-not-row_right.true) in
    let told = rw is at t.ensures.takes.0 in (
      λ q. let after = rw is at (t.ensures.takes.1 q) in rw after (aside_passed eight_inch d a.e a.seen.now passed (sym told ∙ q)),
      λ q. aside_fails eight_inch d a.e a.seen.now passed eight_sound c.requires.1 full wrong (sym told ∙ q),
    )

pub returns-then-not-take_slots-clause-takes : goal.returns-then-not-take_slots-clause-takes
returns-then-not-take_slots-clause-takes c =
    let a = c.args in let is = c.requires.3 in
    let d = entry_at eight_inch a.image.now in
    let right : row_right_rule (d a.e) ≡ true = rw is at (sym c.row_right.ensures ∙ c.if-not-row_right.false) in
    let low = slots_low d a.e a.r.now is (λ i. omega (arith, c.type_inv.r i)) in
    let wrong = sym c.take_slots.ensures.0 ∙ c.if-not-take_slots.true in (
      λ t. clash (sym t),
      λ t. entry_fails eight_inch d a.e c.requires.1 (slots_fail eight_inch d a.e slot_byte a.seen.now.marks.now low right c.requires.4.blocks (rw is at wrong)),
    )

pub take_key-requires : goal.take_key-requires
take_key-requires c =
    let used = row_used c.args.r.now (sym c.row_right.ensures ∙ c.if-not-row_right.false) in
    (c.requires.0, c.requires.1, c.requires.2, c.requires.3, used, c.requires.4.chained)

pub returns-clause-takes : goal.returns-clause-takes
returns-clause-takes c =
    let a = c.args in let is = c.requires.3 in let passed = c.requires.4 in
    let d = entry_at eight_inch a.image.now in
    let right : row_right_rule (d a.e) ≡ true = rw is at (sym c.row_right.ensures ∙ c.if-not-row_right.false) in
    let low = slots_low d a.e a.r.now is (λ i. omega (arith, c.type_inv.r i)) in
    let m = c.take_slots in let t = c.take_key in
    let free : m.result ≡ true = c.if-not-take_slots.false in
    let told = alone_decides eight_inch d a.e slot_byte a.seen.now.marks.now low right passed.blocks (rw is at (sym m.ensures.0 ∙ free)) ∙ sym t.ensures.0 in (
      λ q. passed_used eight_inch d a.e a.seen.now passed slot_byte _ right low (told ∙ q) (rw is at m.ensures.1) t.ensures.1 refl refl,
      λ q. entry_fails eight_inch d a.e c.requires.1 (told ∙ q),
    )
