-- The closure tells 1 where the definition counts a difference, and there are at most as many as blocks.
use mathlib.Core.Path.{refl, ◌∙◌}
use mathlib.Core.Bool.{cond}
use Prim.Native.Nat.{ℕ, ◌^◌, ◌<◌}
use native.Mathlib.Omega.{arith}
use borrow.Author.Tests.{tests}
use Rattle.std.specs.List.{count_by, range_with_len}
use Rattle.std.proofs.Common.{rules}
use Rattle.std.proofs.lemmas.Iterator.{YieldsList-from_range, YieldsList-from_map}
use Rattle.std.proofs.lemmas.Iterator.Consumers.{sum_by_from_yields_List, fits_by_from_yields_list}
use Rattle.lists.specs.Count.{count_high}
use Rattle.format.specs.Diskette.{Bytes, eight_inch}
use Rattle.maps.specs.Told.{differs, difference_count, untold, untold_counted}
use Rattle.maps.proofs.differences.Goals as goal

-- what the closure tells of a block
difference_of : Bytes → Bytes → ℕ → ℕ
difference_of map marks b = cond (untold eight_inch map marks b) 1 0

few : (map marks : Bytes) → count_by (untold eight_inch map marks) (range_with_len 2 241) < 2 ^ 16
unfolding difference_count
few map marks = omega (arith, untold_counted eight_inch map marks 241 refl, count_high (differs eight_inch map marks) eight_inch.blocks)

pub sum-requires-clause-fits : goal.sum-requires-clause-fits
unfolding difference_of
sum-requires-clause-fits c =
    let a = c.args in
    let one = difference_of a.map.now a.marks.now in
    fits_by_from_yields_list one (range_with_len 2 241) c.map.result _
    (YieldsList-from_map _ one (YieldsList-from_range 2 243 241 c.map.ensures.source refl) c.map.ensures.closure (λ x r q k. search (rules, tests)))
    (few a.map.now a.marks.now)

pub returns : goal.returns
unfolding difference_of
returns c =
    let a = c.args in
    let one = difference_of a.map.now a.marks.now in
    sum_by_from_yields_List one (range_with_len 2 241) c.map.result _ c.sum.ensures.ran
    (YieldsList-from_map _ one (YieldsList-from_range 2 243 241 c.map.ensures.source refl) c.map.ensures.closure (λ x r q k. search (rules, tests)))
    ∙ untold_counted eight_inch a.map.now a.marks.now 241 refl
