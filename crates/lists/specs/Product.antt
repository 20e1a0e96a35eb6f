-- Numbers made of two digits, n * a + i with i < n: the bounds and the digits that a disk of any size needs. `omega` takes a product
-- of two variables as one unknown, so these are the only steps that multiply.
use Rattle.std.specs.Prelude.{◌≡◌, ℕ, ◌+◌, ◌*◌, ◌/◌, ◌%◌, ◌<◌}
use Rattle.std.proofs.Common.{ap, mul-le-mul_left, mul-suc, arith}
use Rattle.std.proofs.Math.Nat.{mul-div-le, div-add-mod}
use Rattle.lists.specs.Cases.{split, lt_or_le}

pub digits_below : (n a m i : ℕ) → a < m → i < n → n * a + i < n * m
digits_below n a m i h l = omega (arith, mul-le-mul_left n h, mul-suc n a)

pub digits_first : (n a b i j : ℕ) → i < n → j < n → n * a + i ≡ n * b + j → a ≡ b
digits_first n a b i j l m q =
    split (lt_or_le a b) (λ h. absurd (omega (arith, digits_below n a b i h l)))
    (λ h. split (lt_or_le b a) (λ k. absurd (omega (arith, digits_below n b a j k m))) (λ k. omega arith))

pub digits_last : (n a b i j : ℕ) → i < n → j < n → n * a + i ≡ n * b + j → i ≡ j
digits_last n a b i j l m q = let e : n * a ≡ n * b = ap (λ (x : ℕ). n * x) (digits_first n a b i j l m q) in omega arith

-- ---- a number by its digits to the base n, x / n and x % n
pub factor_below : (n a m : ℕ) → n * a < n * m → a < m
factor_below n a m h = split (lt_or_le a m) (λ l. l) (λ l. absurd (omega (arith, mul-le-mul_left n l)))

pub first_below : (n x m : ℕ) → x < n * m → x / n < m
first_below n x m h = factor_below n (x / n) m (omega (arith, mul-div-le x n))

pub same_digits : (n x y : ℕ) → x / n ≡ y / n → x % n ≡ y % n → x ≡ y
same_digits n x y p q = let e : n * (x / n) ≡ n * (y / n) = ap (λ (k : ℕ). n * k) p in omega (arith, div-add-mod x n, div-add-mod y n)
