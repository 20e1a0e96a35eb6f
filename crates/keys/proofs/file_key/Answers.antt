-- The words of the name, masked, are the parts of what is asked for.
use mathlib.Core.Path.{◌≡◌, refl, ◌∙◌}
use lib.Bits.{bit_and, and_mask, and_le_r}
use Rattle.keys.specs.Key.{file_key_rule, low_asked, high_asked, seven_part, four_part}
use native.Mathlib.Omega.{arith}
use Rattle.keys.proofs.file_key.Goals as goal

pub overflow_mul-low : goal.overflow_mul-low
overflow_mul-low c = omega (arith, and_le_r c.word.result 35887507618889599)

pub overflow_add-low : goal.overflow_add-low
overflow_add-low c = omega (arith, and_le_r c.word.result 35887507618889599)

pub overflow_add-high : goal.overflow_add-high
overflow_add-high c = omega (arith, and_le_r c.half.result 2139062143)

pub fold-requires : goal.fold-requires
fold-requires c = omega (arith, and_le_r c.half.result 2139062143)

pub returns : goal.returns
unfolding file_key_rule low_asked high_asked
returns c =
    let w = c.word.ensures in let h = c.half.ensures in let a = c.args in
    let u : bit_and a.user 255 ≡ a.user = and_mask a.user 8 ∙ omega arith in
    let p = seven_part a.s.now a.q w.1 in
    let q = four_part a.s.now _ h.2 in
    (rw (c.fold.ensures.0, w.0, h.0, p, q, u, c.from.ensures) refl, c.fold.ensures.1)
