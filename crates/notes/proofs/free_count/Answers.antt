-- The closure tells 1 where the definition counts the block, and the sum is at most the number of blocks.
use mathlib.Core.Path.{◌≡◌, ◌∙◌}
use mathlib.Core.Bool.{cond}
use Prim.Native.Nat.{ℕ}
use native.Mathlib.Omega.{arith}
use lib.Dec.{eqb}
use borrow.Author.Tests.{tests}
use Rattle.std.proofs.Common.{rules}
use Rattle.std.proofs.lemmas.Iterator.{YieldsList-from_slice, YieldsList-from_map}
use Rattle.std.proofs.lemmas.Iterator.Consumers.{sum_by_from_yields_List, fits_by_from_yields_list}
use Rattle.lists.specs.Count.{count_high}
use Rattle.format.specs.Diskette.{eight_inch}
use Rattle.format.specs.Notes.{free_note, is_free, free_count_rule}
use Rattle.notes.specs.Sums.{count_elements}
use Rattle.notes.proofs.free_count.Goals as goal

-- what the closure tells of a note
free_one : ℕ → ℕ
free_one n = cond (eqb n free_note) 1 0

pub sum-free-requires-clause-fits : goal.sum-free-requires-clause-fits
unfolding is_free free_one
sum-free-requires-clause-fits c =
    let map = c.args.map.now in
    let counted = rw c.requires at (count_elements (λ (n : ℕ). eqb n free_note) map) in
    fits_by_from_yields_list free_one map c.map.result _
    (YieldsList-from_map _ free_one (YieldsList-from_slice map cc) c.map.ensures.closure (λ x r q k. search (rules, tests)))
    (omega (arith, counted, count_high (is_free map) eight_inch.blocks))

pub returns : goal.returns
unfolding free_count_rule is_free free_one
returns c =
    let map = c.args.map.now in
    let total = c.from.ensures ∙ sum_by_from_yields_List free_one map c.map.result _ c.sum-free.ensures.ran
    (YieldsList-from_map _ free_one (YieldsList-from_slice map cc) c.map.ensures.closure (λ x r q k. search (rules, tests)))
    ∙ count_elements (λ (n : ℕ). eqb n free_note) map in
    let counted : c.from.result ≡ free_count_rule eight_inch map = rw c.requires at total in
    (counted, omega (arith, count_high (is_free map) eight_inch.blocks))
