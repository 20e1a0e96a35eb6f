-- What it says that an FCB is current: its fields are in range, its entry is found, and its slots fit.
use Rattle.std.specs.Prelude.{◌≡◌, true, false, cond, ℕ, None, Some}
use Rattle.std.proofs.Common.{sym, ◌∙◌}
use Rattle.lists.specs.Cases.{split, bool_cases}
use Rattle.format.specs.Diskette.{Bytes, Geometry}
use Rattle.format.specs.Entries.{Rows, slots_of, extent_of, find_file_rule}
use Rattle.format.specs.Fcb.{fcb_right_rule, slots_fit_rule, current}
use Rattle.facts.specs.Found.{at_not_nothing, at_once, found_cases}

-- the FCB is current, and e is its entry
pub record Current (G : Geometry) (d : Rows) (map : Bytes) (user : ℕ) (fcb : Bytes) (e : ℕ) : Type 0 where
  pub right : fcb_right_rule fcb ≡ true
  pub found : find_file_rule G d user fcb 1 (extent_of fcb) ≡ Some e
  pub fits : slots_fit_rule G map e (slots_of (d e)) (slots_of fcb) ≡ true

module _ (G : Geometry) (d : Rows) (map : Bytes) (user : ℕ) (fcb : Bytes) where
  -- the ways to be current or not, in the order in which they are tested
  pub current_wrong : fcb_right_rule fcb ≡ false → current G d map user fcb ≡ None
  unfolding current
  current_wrong f = rw f

  pub current_missing : fcb_right_rule fcb ≡ true → find_file_rule G d user fcb 1 (extent_of fcb) ≡ None → current G d map user fcb ≡ None
  unfolding current
  current_missing t q = rw (t, q)

  pub current_fitting : (e : ℕ) → fcb_right_rule fcb ≡ true → find_file_rule G d user fcb 1 (extent_of fcb) ≡ Some e
      → current G d map user fcb ≡ cond (slots_fit_rule G map e (slots_of (d e)) (slots_of fcb)) (Some e) None
  unfolding current
  current_fitting e t q = rw (t, q)

  pub current_is : (e : ℕ) → Current G d map user fcb e → current G d map user fcb ≡ Some e
  current_is e c = current_fitting e c.right c.found ∙ rw c.fits

  pub current_says : (e : ℕ) → current G d map user fcb ≡ Some e → Current G d map user fcb e
  current_says e q =
      split (bool_cases (fcb_right_rule fcb))
      (λ t. found_cases (find_file_rule G d user fcb 1 (extent_of fcb))
      (λ k w. split (bool_cases (slots_fit_rule G map k (slots_of (d k)) (slots_of fcb)))
      (λ f. let z : k ≡ e = at_once k e (sym (current_fitting k t w ∙ rw f) ∙ q) in rw (← z) record { right = t; found = w; fits = f })
      (λ f. absurd (at_not_nothing e (sym q ∙ current_fitting k t w ∙ rw f))))
      (λ w. absurd (at_not_nothing e (sym q ∙ current_missing t w))))
      (λ f. absurd (at_not_nothing e (sym q ∙ current_wrong f)))
