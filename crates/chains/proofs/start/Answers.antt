-- Each key's number is 0, so that no key has an entry.
use mathlib.Core.Path.{◌∙◌}
use native.Mathlib.Omega.{arith}
use Rattle.lists.specs.Splice.{length_fill, get_d_fill_in}
use Rattle.format.specs.Diskette.{eight_inch}
use Rattle.keys.specs.Key.{key_count}
use Rattle.chains.specs.Chain.{chained_none}
use Rattle.chains.proofs.start.Goals as goal

pub returns : goal.returns
returns c =
    let a = c in let l = a.args.chain.now in
    λ d. rw c.fill.ensures
    (chained_none eight_inch d _ (length_fill l 0 key_count 0 (omega arith) ∙ a.requires) (λ k h. get_d_fill_in l 0 key_count 0 (omega arith) k (omega arith) (omega arith)))
