-- The closure tells whether a byte is what is asked for.
use mathlib.Core.Path.{refl, ◌∙◌}
use mathlib.Core.Bool.{Bool}
use Prim.Native.Nat.{ℕ, ◌+◌}
use lib.ListN.{get_or}
use borrow.Author.Tests.{tests}
use Rattle.std.proofs.Common.{rules}
use Rattle.std.proofs.lemmas.Iterator.{YieldsList-from_range}
use Rattle.std.proofs.lemmas.Iterator.Search.{all_from_yields_List}
use Rattle.lists.specs.Ranges.{all_range}
use Rattle.format.specs.Names.{name_bytes, byte_like_rule, name_like_rule}
use Rattle.matching.proofs.name_like.Goals as goal

pub returns : goal.returns
unfolding name_like_rule
returns c =
    let a = c.args in
    let like : ℕ → Bool = λ (i : ℕ). byte_like_rule a.wild (get_or a.s.now (a.q + i) 0) (get_or a.r.now (a.p + i) 0) in
    all_from_yields_List like _ _ c.all.result c.all.ensures.ran (YieldsList-from_range 0 name_bytes name_bytes refl refl) (λ x b q k. search (rules, tests))
    ∙ all_range like name_bytes
