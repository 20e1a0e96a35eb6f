-- The words decide the first eight bytes, and the closure tells whether one of the last three is what is asked for.
use mathlib.Core.Path.{refl, sym, ◌∙◌}
use mathlib.Core.Bool.{Bool, false}
use Prim.Native.Nat.{ℕ, ◌+◌}
use lib.ListN.{get_or}
use borrow.Author.Tests.{tests, ne_eqb}
use Rattle.std.proofs.Common.{rules}
use Rattle.std.proofs.lemmas.Iterator.{YieldsList-from_range}
use Rattle.std.proofs.lemmas.Iterator.Search.{all_from_yields_List}
use Rattle.lists.specs.Below.{all_join}
use Rattle.lists.specs.Ranges.{all_from}
use Rattle.lists.specs.Tests.{and_then}
use Rattle.format.specs.Names.{name_bytes, byte_like_rule, name_like_rule}
use Rattle.matching.specs.Words.{eight, words_like, words_differ}
use Rattle.matching.proofs.name_same.Goals as goal

pub returns-then-word : goal.returns-then-word
unfolding name_like_rule
returns-then-word c =
    let a = c.args in
    let like : ℕ → Bool = λ (i : ℕ). byte_like_rule false (get_or a.s.now (a.q + i) 0) (get_or a.r.now (a.p + i) 0) in
    let first = words_like a.s.now a.q a.r.now a.p c.word.ensures.1 c.word-2.ensures.1 (rw (c.word.ensures.0, c.word-2.ensures.0) at c.if-word.true) in
    all_from_yields_List like _ _ c.all.result c.all.ensures.ran (YieldsList-from_range eight name_bytes 3 refl refl) (λ x b q k. search (rules, tests))
    ∙ all_from like eight 3 ∙ sym (all_join like eight 3 ∙ and_then _ _ first)

pub returns-else-word : goal.returns-else-word
returns-else-word c =
    let a = c.args in
    ne_eqb _ _ c.if-word.false
    ∙ words_differ a.s.now a.q a.r.now a.p c.word.ensures.1 c.word-2.ensures.1 (rw (c.word.ensures.0, c.word-2.ensures.0) at c.if-word.false)
