-- A table's rule, proved at all of its entries by one test that the checker computes.
use Rattle.std.specs.Prelude.{◌≡◌, Bool, true, List, [], ◌∷◌, ℕ, zero, suc, ◌+◌, ◌<◌, length, get_or}
use Rattle.std.proofs.Common.{subst, zero-add, le_of_suc-le-suc, not-suc-le-zero, arith}
use Rattle.lists.specs.Tests.{◌and◌, and_left, and_right}

-- the test f passes at each entry of the list and its place, counted from i
unfoldable pub every_from : (ℕ → ℕ → Bool) → ℕ → List ℕ → Bool
every_from f i [] = true
every_from f i (x ∷ xs) = f i x and every_from f (suc i) xs

every_at : (f : ℕ → ℕ → Bool) (xs : List ℕ) (i : ℕ) → every_from f i xs ≡ true → (k : ℕ) → k < length xs → f (i + k) (get_or xs k 0) ≡ true
unfolding every_from
every_at f [] i t k h = absurd (not-suc-le-zero h)
every_at f (x ∷ xs) i t zero h = let q : i + 0 ≡ i = omega arith in rw q (and_left _ _ t)
every_at f (x ∷ xs) i t (suc k) h =
    let q : i + suc k ≡ suc i + k = omega arith in rw q (every_at f xs (suc i) (and_right _ _ t) k (le_of_suc-le-suc h))

pub table_at : (f : ℕ → ℕ → Bool) (xs : List ℕ) → every_from f 0 xs ≡ true → (k : ℕ) → k < length xs → f k (get_or xs k 0) ≡ true
table_at f xs t k h = subst (λ (m : ℕ). f m (get_or xs k 0) ≡ true) (zero-add k) (every_at f xs 0 t k h)
