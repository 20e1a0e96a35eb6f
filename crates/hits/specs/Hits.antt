-- A row against a search pattern: the name decides last, and byte 12 asks for two bytes of a row. And the first entry that a pattern hits.
use Rattle.std.specs.Prelude.{◌≡◌, Bool, true, ℕ, ◌+◌, ◌*◌, ◌<◌, eqb, get_or, Some}
use Rattle.std.proofs.Common.{sym, ◌∙◌, arith, eqb-true, eq-eqb}
use Rattle.lists.specs.Cases.{bool_ext}
use Rattle.lists.specs.Tests.{◌and◌, ◌or◌, and_then, and_first, and_left, and_right, and_both}
use Rattle.format.specs.Diskette.{Bytes, Geometry, eight_inch}
use Rattle.format.specs.Names.{name_like_rule}
use Rattle.format.specs.Entries.{Rows, user_of, ex_of, s2_of, extent_of, covers, named}
use Rattle.facts.specs.Naming.{covers_own}
use Rattle.facts.specs.Found.{FirstAt, first_says}
use Rattle.model.specs.Search.{extent_hit_rule, hit, find_hit_rule}

-- among the user's rows whose extent is asked for, the name decides
pub hit_by_name : (G : Geometry) (user : ℕ) (pattern row : Bytes) → user_of row ≡ user → extent_hit_rule G (get_or pattern 11 0) row ≡ true
    → hit G user pattern row ≡ name_like_rule true pattern 0 row 1
unfolding hit named
hit_by_name G user pattern row h t = and_first _ _ t ∙ and_then _ _ (eq-eqb _ _ h)

-- on the 8-inch disk an entry covers one extent, so byte 12 asks for its ex, with s2 0
pub extent_by_bytes : (x : ℕ) (row : Bytes) → extent_hit_rule eight_inch x row ≡ (eqb x 63 or (eqb (ex_of row) x and eqb (s2_of row) 0))
unfolding extent_hit_rule extent_of
extent_by_bytes x row =
    let same : (covers eight_inch row x and eqb (s2_of row) 0) ≡ (eqb (ex_of row) x and eqb (s2_of row) 0) =
    bool_ext _ _
    (λ t. let a : 32 * s2_of row + ex_of row ≡ x = eqb-true (extent_of row) x (sym (covers_own row x) ∙ and_left _ _ t) in
    let b : s2_of row ≡ 0 = eqb-true _ _ (and_right _ _ t) in and_both _ _ (eq-eqb (ex_of row) x (omega arith)) (and_right _ _ t))
    (λ t. let a : ex_of row ≡ x = eqb-true _ _ (and_left _ _ t) in
    let b : s2_of row ≡ 0 = eqb-true _ _ (and_right _ _ t) in and_both _ _ (covers_own row x ∙ eq-eqb (extent_of row) x (omega arith)) (and_right _ _ t)) in
    rw same

-- the test of the look-up, at an entry
abbrev pub hit_test : Geometry → Rows → ℕ → Bytes → ℕ → Bool
hit_test G d user pattern e = hit G user pattern (d e)

-- what the look-up answers is the first entry from i on that the pattern hits
pub hit_says : (G : Geometry) (d : Rows) (user : ℕ) (pattern : Bytes) (i e : ℕ) → find_hit_rule G d user pattern i ≡ Some e
    → FirstAt (hit_test G d user pattern) i G.entries e
unfolding find_hit_rule
hit_says G d user pattern i e q = first_says (hit_test G d user pattern) i G.entries e q

-- and it is one of the directory's
pub hit_low : (G : Geometry) (d : Rows) (user : ℕ) (pattern : Bytes) (i e : ℕ) → Some e ≡ find_hit_rule G d user pattern i → e < G.entries
hit_low G d user pattern i e q = (hit_says G d user pattern i e (sym q)).below
