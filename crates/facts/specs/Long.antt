-- An image of the disk's length: the test and what it says.
use Rattle.std.specs.Prelude.{◌≡◌, true, ℕ}
use Rattle.std.proofs.Common.{◌∙◌}
use borrow.Author.Tests.{eqb-true, eq-eqb}
use Rattle.format.specs.Diskette.{Bytes, Geometry, is_long, LongBy, Long}

module _ (G : Geometry) where
  pub long_says : (img : Bytes) → is_long G img ≡ true → Long G img
  unfolding is_long
  long_says img t = eqb-true _ _ t

  pub long_is : (img : Bytes) → Long G img → is_long G img ≡ true
  unfolding is_long
  long_is img h = eq-eqb _ _ h

  -- what is as long as an image of the disk's length
  pub long_on : {m n : ℕ} → n ≡ m → LongBy G m → LongBy G n
  long_on q l = q ∙ l
