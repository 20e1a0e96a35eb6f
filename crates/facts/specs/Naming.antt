-- The rows that a name gives: the parts of `named` and `is_file_rule`.
use Rattle.std.specs.Prelude.{◌≡◌, refl, Bool, true, false, ℕ, ◌/◌, eqb}
use Rattle.std.proofs.Common.{arith}
use borrow.Author.Tests.{eqb-true, eq-eqb}
use Rattle.lists.specs.Tests.{and_left, and_right, and_both}
use Rattle.format.specs.Diskette.{Bytes, Geometry, eight_inch}
use Rattle.format.specs.Names.{name_like_rule}
use Rattle.format.specs.Entries.{user_of, extent_of, run_of, covers, named, is_file_rule}

-- ---- a row of a name
module _ (wild : Bool) (user : ℕ) (s : Bytes) (q : ℕ) (r : Bytes) (h : named wild user s q r ≡ true) where
  pub named_user : user_of r ≡ user
  unfolding named
  named_user = eqb-true _ _ (and_left _ _ h)

  pub named_like : name_like_rule wild s q r 1 ≡ true
  unfolding named
  named_like = and_right _ _ h

pub named_intro : (wild : Bool) (user : ℕ) (s : Bytes) (q : ℕ) (r : Bytes) → user_of r ≡ user → name_like_rule wild s q r 1 ≡ true → named wild user s q r ≡ true
unfolding named
named_intro wild user s q r a b = and_both _ _ (eq-eqb _ _ a) b

-- ---- runs of extents
-- extents of one run are of one s2
pub run_s2 : (G : Geometry) (x y : ℕ) → run_of G x ≡ run_of G y → x / 32 ≡ y / 32
unfolding run_of
run_s2 G x y q = omega arith

-- on the 8-inch disk each extent is a run by itself
pub run_own : (x : ℕ) → run_of eight_inch x ≡ x
unfolding run_of
run_own x = refl

-- so a row covers the extent that 32 × s2 + ex gives, and no other
pub covers_own : (r : Bytes) (ext : ℕ) → covers eight_inch r ext ≡ eqb (extent_of r) ext
unfolding covers
covers_own r ext = rw (run_own (extent_of r), run_own ext)

-- ---- a row of a name and an extent
module _ (G : Geometry) (user : ℕ) (s : Bytes) (q ext : ℕ) (r : Bytes) (h : is_file_rule G user s q ext r ≡ true) where
  pub file_named : named false user s q r ≡ true
  unfolding is_file_rule
  file_named = and_left _ _ h

  pub file_run : run_of G (extent_of r) ≡ run_of G ext
  unfolding is_file_rule covers
  file_run = eqb-true _ _ (and_right _ _ h)

  pub file_user : user_of r ≡ user
  file_user = named_user false user s q r file_named

  pub file_like : name_like_rule false s q r 1 ≡ true
  file_like = named_like false user s q r file_named

pub file_intro : (G : Geometry) (user : ℕ) (s : Bytes) (q ext : ℕ) (r : Bytes) → named false user s q r ≡ true → run_of G (extent_of r) ≡ run_of G ext
    → is_file_rule G user s q ext r ≡ true
unfolding is_file_rule covers
file_intro G user s q ext r a b = and_both _ _ a (eq-eqb _ _ b)
