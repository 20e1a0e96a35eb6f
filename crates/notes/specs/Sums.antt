-- How many elements of a list, or numbers of a range, pass a test: in the library's words, and in those of the definitions.
use Rattle.std.specs.Prelude.{◌≡◌, refl, Bool, cond, ℕ, zero, suc, ◌+◌, ◌<◌, List, [], ◌∷◌, length, get_or}
use Rattle.std.proofs.Common.{ap, sym, ◌∙◌, add-suc, arith}
use Rattle.std.proofs.Math.Nat.{add-zero}
use Rattle.std.proofs.lemmas.List.Sums.{sum_by-cons}
use Rattle.std.specs.List.{count_by, range_with_len}
use Rattle.lists.specs.Count.{count_below, count_none}

count_cong : (p q : ℕ → Bool) (n : ℕ) → ((k : ℕ) → k < n → p k ≡ q k) → count_below p n ≡ count_below q n
unfolding count_below
count_cong p q zero f = refl
count_cong p q (suc n) f = rw (count_cong p q n (λ k h. f k (omega arith)), f n (omega arith))

-- the numbers below a, and then those from a on
count_join : (p : ℕ → Bool) (a n : ℕ) → count_below p (a + n) ≡ count_below p a + count_below (λ (k : ℕ). p (a + k)) n
unfolding count_below
count_join p a zero = rw add-zero (omega arith)
count_join p a (suc n) = rw (add-suc, count_join p a n) (omega arith)

-- the first number, and then the others
module _ (p : ℕ → Bool) where
  count_first : (n : ℕ) → cond (p 0) 1 0 + count_below (λ (k : ℕ). p (suc k)) n ≡ count_below p (suc n)
  unfolding count_below
  count_first zero = omega arith
  count_first (suc n) = let e = count_first n in omega arith

module _ (p : ℕ → Bool) where
  pub count_elements : (xs : List ℕ) → count_by p xs ≡ count_below (λ (k : ℕ). p (get_or xs k 0)) (length xs)
  count_elements [] = sym (count_none _)
  count_elements (x ∷ xs) =
      sum_by-cons (λ (y : ℕ). cond (p y) 1 0) x xs ∙ ap (λ (m : ℕ). cond (p x) 1 0 + m) (count_elements xs)
      ∙ count_first (λ (k : ℕ). p (get_or (x ∷ xs) k 0)) (length xs)

  count_numbers : (a n : ℕ) → count_by p (range_with_len a n) ≡ count_below (λ (k : ℕ). p (a + k)) n
  count_numbers a zero = sym (count_none _)
  count_numbers a (suc n) =
      sum_by-cons (λ (y : ℕ). cond (p y) 1 0) a (range_with_len (a + 1) n)
      ∙ ap (λ (m : ℕ). cond (p a) 1 0 + m) (count_numbers (a + 1) n ∙ count_cong _ _ n (λ k h. ap p (omega arith)))
      ∙ ap (λ (m : ℕ). cond (p m) 1 0 + count_below (λ (k : ℕ). p (a + suc k)) n) (omega arith)
      ∙ count_first (λ (k : ℕ). p (a + k)) n

-- the numbers from a on, where none below a is counted, and those from a on pass one test exactly where they pass the other
pub count_range : (p q : ℕ → Bool) (a n : ℕ) → ((k : ℕ) → p (a + k) ≡ q (a + k)) → count_below q a ≡ 0
    → count_by p (range_with_len a n) ≡ count_below q (a + n)
count_range p q a n same none =
    count_numbers p a n ∙ count_cong _ _ n (λ k h. same k) ∙ omega (arith, count_join q a n)
