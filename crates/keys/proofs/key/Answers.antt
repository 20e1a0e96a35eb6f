-- The two words, masked, are the parts of which the key is made.
use mathlib.Core.Path.{refl}
use native.Mathlib.Nat.{zero-add}
use lib.Bits.{and_le_r}
use Rattle.keys.specs.Key.{key_of, low_part_law, high_part_law}
use native.Mathlib.Omega.{arith}
use Rattle.keys.proofs.key.Goals as goal

pub fold-requires : goal.fold-requires
fold-requires c = omega (arith, and_le_r c.word-2.result 135283048319)

pub returns : goal.returns
unfolding key_of
returns c =
    let r = c.args.r.now in
    let w = c.word.ensures in let v = c.word-2.ensures in
    let p = low_part_law r (λ i h. rw zero-add at (w.1 i h)) v.1 in
    let q = high_part_law r (λ i h. rw zero-add at (w.1 i h)) v.1 in
    (rw (c.fold.ensures.0, w.0, v.0, p, q) refl, c.fold.ensures.1)
