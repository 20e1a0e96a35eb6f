-- A `match` with an arm for each of some numbers, against the list of the calls: what an arm and the rest say of a number's line.
use Rattle.std.specs.Prelude.{◌≡◌, refl, Bool, true, false, cond, List, [], ◌∷◌, ℕ, eqb}
use Rattle.std.proofs.Common.{sym, ap, ◌∙◌, ne_eqb, eqb-true}
use Rattle.lists.specs.Cases.{split, bool_cases, cond_both}
use Rattle.model.specs.declared.Kind.TheVariants.{Unlisted}
use Rattle.model.specs.Kinds.{Listed, no_fcb, calls, line_in, one_of}

-- ---- an arm
pub at : {A : Type 0} (says : Listed → A) {n k : ℕ} → n ≡ k → says (line_in k calls) ≡ says (line_in n calls)
at says {n} {k} q = sym (ap (λ (m : ℕ). says (line_in m calls)) q)

-- ---- the rest: n is none of the numbers; said is what was known before, of the arms in front
abbrev pub None : Type 0 → ℕ → List ℕ → Type 0
None said n [] = said
None said n (c ∷ cs) = None (said × (n ≡ c → ⊥)) n cs

front : (said : Type 0) (n : ℕ) (ns : List ℕ) → None said n ns → said
front said n [] x = x
front said n (c ∷ cs) x = (front (said × (n ≡ c → ⊥)) n cs x).0

none_of : (said : Type 0) (n : ℕ) (ns : List ℕ) → None said n ns → one_of n ns ≡ false
none_of said n [] x = refl
none_of said n (c ∷ cs) x = rw (ne_eqb n c (front (said × (n ≡ c → ⊥)) n cs x).1) (none_of (said × (n ≡ c → ⊥)) n cs x)

-- every line passes the test, or has its number among these
abbrev pub passes : (Listed → Bool) → List ℕ → List Listed → Bool
passes t ns [] = true
passes t ns (c ∷ cs) = cond (cond (one_of c.number ns) true (t c)) (passes t ns cs) false

rest_in : (t : Listed → Bool) (n : ℕ) (ns : List ℕ) (cs : List Listed) → passes t ns cs ≡ true → one_of n ns ≡ false → t (no_fcb n Unlisted) ≡ true
    → t (line_in n cs) ≡ true
rest_in t n ns [] p o d = d
rest_in t n ns (c ∷ cs) p o d =
    let here = cond_both (cond (one_of c.number ns) true (t c)) (passes t ns cs) p in
    split (bool_cases (eqb n c.number))
    (λ e. let out : one_of c.number ns ≡ false = sym (ap (λ (m : ℕ). one_of m ns) (eqb-true n c.number e)) ∙ o in
    rw e (rw out at here.0))
    (λ e. rw e (rest_in t n ns cs here.1 o d))

pub rest : (t : Listed → Bool) (said : Type 0) (n : ℕ) (ns : List ℕ) → passes t ns calls ≡ true → t (no_fcb n Unlisted) ≡ true → None said n ns
    → t (line_in n calls) ≡ true
rest t said n ns p d x = rest_in t n ns calls p (none_of said n ns x) d
