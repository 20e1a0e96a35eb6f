-- What a chain over the numbers below a bound, or over the elements of a list or of two, comes to in the words of the definitions: whether all or
-- any pass a test, how many do, and a value carried through them.
use Rattle.std.specs.Prelude.{◌≡◌, refl, Bool, true, ℕ, zero, suc, ◌+◌, ◌-◌, List, [], ◌∷◌, length, get_or}
use Rattle.std.proofs.Common.{ap, sym, ◌∙◌, arith, zero-add}
use Rattle.std.specs.List.{list_all, list_any, fold, range_with_len, zip}
use Rattle.lists.specs.Cases.{split, eq_or_ne, bool_ext}
use Rattle.lists.specs.Tests.{◌and◌, ◌or◌, and_left, and_right, and_both, or_left, or_right, or_cases}
use Rattle.lists.specs.Below.{all_below, any_below, all_at, all_intro, all_none, all_cong, any_at, any_some, any_none, any_cong}
use Rattle.lists.specs.Fold.{fold_below, fold_cong, fold_none}

-- the first number, and then the others
module _ (p : ℕ → Bool) (n : ℕ) where
  next : ℕ → Bool
  next k = p (suc k)

  all_first : (p 0 and all_below next n) ≡ all_below p (suc n)
  unfolding next
  all_first =
      bool_ext _ _
      (λ t. all_intro p (suc n) (λ k h. split (eq_or_ne k 0)
      (λ z. rw (sym z) at (and_left (p 0) (all_below next n) t))
      (λ z. let q : suc (k - 1) ≡ k = omega arith in
      let l : p (suc (k - 1)) ≡ true = all_at next n (and_right (p 0) (all_below next n) t) (k - 1) (omega arith) in rw q at l)))
      (λ t. and_both _ _ (all_at p (suc n) t 0 (omega arith)) (all_intro next n (λ k h. all_at p (suc n) t (suc k) (omega arith))))

  any_first : (p 0 or any_below next n) ≡ any_below p (suc n)
  unfolding next
  any_first =
      bool_ext _ _
      (λ t. split (or_cases (p 0) (any_below next n) t)
      (λ l. any_at p (suc n) 0 (omega arith) l)
      (λ l. let s = any_some next n l in let b = s.below in any_at p (suc n) (suc s.place) (omega arith) s.holds))
      (λ t. let s = any_some p (suc n) t in let b = s.below in let w : p s.place ≡ true = s.holds in split (eq_or_ne s.place 0)
      (λ z. or_left _ _ (rw z at w))
      (λ z. or_right (p 0) _ (any_at next n (s.place - 1) (omega arith) (let q : s.place ≡ suc (s.place - 1) = omega arith in rw q at w))))

module _ {A : Type 0} (f : A → ℕ → A) (x : A) where
  fold_first : (n : ℕ) → fold_below (λ (y : A) (k : ℕ). f y (suc k)) (f x 0) n ≡ fold_below f x (suc n)
  unfolding fold_below
  fold_first zero = refl
  fold_first (suc n) = ap (λ (y : A). f y (suc n)) (fold_first n)

-- ---- the numbers below n
module _ (p : ℕ → Bool) where
  pub all_from : (a n : ℕ) → list_all p (range_with_len a n) ≡ all_below (λ (k : ℕ). p (a + k)) n
  unfolding ◌and◌ next
  all_from a zero = sym (all_none _)
  all_from a (suc n) =
      ap (λ (b : Bool). p a and b) (all_from (a + 1) n ∙ all_cong _ _ n (λ k h. ap p (omega arith)))
      ∙ ap (λ (m : ℕ). p m and all_below (λ (k : ℕ). p (a + suc k)) n) (omega arith) ∙ all_first (λ (k : ℕ). p (a + k)) n

  pub any_from : (a n : ℕ) → list_any p (range_with_len a n) ≡ any_below (λ (k : ℕ). p (a + k)) n
  unfolding ◌or◌ next
  any_from a zero = sym (any_none _)
  any_from a (suc n) =
      ap (λ (b : Bool). p a or b) (any_from (a + 1) n ∙ any_cong _ _ n (λ k h. ap p (omega arith)))
      ∙ ap (λ (m : ℕ). p m or any_below (λ (k : ℕ). p (a + suc k)) n) (omega arith) ∙ any_first (λ (k : ℕ). p (a + k)) n

  pub all_range : (n : ℕ) → list_all p (range_with_len 0 n) ≡ all_below p n
  all_range n = all_from 0 n ∙ all_cong _ p n (λ k h. ap p (zero-add k))

  pub any_range : (n : ℕ) → list_any p (range_with_len 0 n) ≡ any_below p n
  any_range n = any_from 0 n ∙ any_cong _ p n (λ k h. ap p (zero-add k))

module _ {A : Type 0} (f : A → ℕ → A) where
  fold_from : (x : A) (a n : ℕ) → fold f x (range_with_len a n) ≡ fold_below (λ (y : A) (k : ℕ). f y (a + k)) x n
  fold_from x a zero = sym (fold_none _ x)
  fold_from x a (suc n) =
      fold_from (f x a) (a + 1) n ∙ fold_cong _ _ (f x a) n (λ y k h. ap (λ (m : ℕ). f y m) (omega arith))
      ∙ ap (λ (m : ℕ). fold_below (λ (y : A) (k : ℕ). f y (a + suc k)) (f x m) n) (omega arith)
      ∙ fold_first (λ (y : A) (k : ℕ). f y (a + k)) x n

  pub fold_range : (x : A) (n : ℕ) → fold f x (range_with_len 0 n) ≡ fold_below f x n
  fold_range x n = fold_from x 0 n ∙ fold_cong _ f x n (λ y k h. ap (λ (m : ℕ). f y m) (zero-add k))

-- ---- the elements of a list, and of two side by side
module _ (p : ℕ → Bool) where
  pub all_elements : (xs : List ℕ) → list_all p xs ≡ all_below (λ (k : ℕ). p (get_or xs k 0)) (length xs)
  unfolding ◌and◌ next
  all_elements [] = sym (all_none _)
  all_elements (x ∷ xs) = ap (λ (b : Bool). p x and b) (all_elements xs) ∙ all_first (λ (k : ℕ). p (get_or (x ∷ xs) k 0)) (length xs)

  pub any_elements : (xs : List ℕ) → list_any p xs ≡ any_below (λ (k : ℕ). p (get_or xs k 0)) (length xs)
  unfolding ◌or◌ next
  any_elements [] = sym (any_none _)
  any_elements (x ∷ xs) = ap (λ (b : Bool). p x or b) (any_elements xs) ∙ any_first (λ (k : ℕ). p (get_or (x ∷ xs) k 0)) (length xs)

module _ (p : ℕ → ℕ → Bool) where
  pub all_pairs : (xs ys : List ℕ) (n : ℕ) → length xs ≡ n → length ys ≡ n
      → list_all (λ (z : ℕ × ℕ). p z.0 z.1) (zip xs ys) ≡ all_below (λ (k : ℕ). p (get_or xs k 0) (get_or ys k 0)) n
  unfolding ◌and◌ next
  all_pairs [] ys n a b = rw (← a) (sym (all_none _))
  all_pairs (x ∷ xs) [] n a b = absurd (omega arith)
  all_pairs (x ∷ xs) (y ∷ ys) zero a b = absurd (omega arith)
  all_pairs (x ∷ xs) (y ∷ ys) (suc n) a b =
      ap (λ (b : Bool). p x y and b) (all_pairs xs ys n (omega arith) (omega arith))
      ∙ all_first (λ (k : ℕ). p (get_or (x ∷ xs) k 0) (get_or (y ∷ ys) k 0)) n
