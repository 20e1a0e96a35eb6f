-- Example i: eleven 3FH match any name.
use Rattle.std.specs.Prelude.{◌≡◌, true, ℕ, ◌+◌, ◌<◌, length, get_or}
use Rattle.std.proofs.Common.{ap, ◌∙◌, zero-add, arith, eq-eqb}
use Rattle.lists.specs.Tests.{and_both, and_then}
use Rattle.lists.specs.Splice.{get_d_part}
use Rattle.format.specs.Diskette.{Bytes, Geometry}
use Rattle.format.specs.Names.{name_bytes, seven_bits}
use Rattle.format.specs.Entries.{user_of, ex_of, named}
use Rattle.facts.specs.Names.{like_any}
use Rattle.model.specs.Search.{pattern_bytes, pattern_of, extent_hit_rule, hit}

-- the bytes from q on are eleven 3FH
abbrev pub AllAny : Bytes → ℕ → Type 0
AllAny s q = (i : ℕ) → i < name_bytes → get_or s (q + i) 0 ≡ 63

-- the name test of 17, 18 and 19: every row of the user passes
pub any_named_law : (s : Bytes) (q : ℕ) → AllAny s q → (user : ℕ) (row : Bytes) → user_of row ≡ user → named true user s q row ≡ true
unfolding named
any_named_law s q any user row mine = and_both _ _ (eq-eqb _ _ mine) (like_any s q row 1 (λ i h. ap seven_bits (any i h)))

-- the pattern that 17 takes from such an FCB: byte 12 alone decides
pub any_hit : (G : Geometry) (fcb : Bytes) → length fcb ≡ 36 → AllAny fcb 1 → (user : ℕ) (row : Bytes) → user_of row ≡ user
    → hit G user (pattern_of fcb) row ≡ extent_hit_rule G (ex_of fcb) row
unfolding hit pattern_of
any_hit G fcb long any user row mine =
    let any' : AllAny (pattern_of fcb) 0 = λ i h. get_d_part fcb 1 pattern_bytes (omega arith) (0 + i) (omega arith) ∙ rw zero-add (any i h) in
    and_then _ _ (any_named_law (pattern_of fcb) 0 any' user row mine) ∙ ap (λ (x : ℕ). extent_hit_rule G x row) (get_d_part fcb 1 pattern_bytes (omega arith) 11 (omega arith))
