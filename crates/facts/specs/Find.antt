-- What the look-ups say: the entry found passes the test and is the first that does; where nothing is found, no entry passes.
use Rattle.std.specs.Prelude.{◌≡◌, Bool, false, ℕ, ◌<◌, None, Some}
use Rattle.std.proofs.Common.{sym, ◌∙◌, arith}
use Rattle.format.specs.Diskette.{Bytes, Geometry}
use Rattle.format.specs.Entries.{Rows, empty, named, extent_of, run_of, covers, is_file_rule, find_file_rule, find_empty_rule}
use Rattle.facts.specs.Naming.{file_run}
use Rattle.facts.specs.Found.{FirstAt, first_says, first_is_at, none_says, none_is}

-- the test of each look-up, at an entry
abbrev pub file_test : Geometry → Rows → ℕ → Bytes → ℕ → ℕ → ℕ → Bool
file_test G d user s q ext e = is_file_rule G user s q ext (d e)

abbrev pub named_test : Rows → Bool → ℕ → Bytes → ℕ → ℕ → Bool
named_test d wild user s q e = named wild user s q (d e)

abbrev pub empty_test : Rows → ℕ → Bool
empty_test d e = empty (d e)

module _ (G : Geometry) (d : Rows) (user : ℕ) (s : Bytes) (q ext : ℕ) where
  pub file_says : (e : ℕ) → find_file_rule G d user s q ext ≡ Some e → FirstAt (file_test G d user s q ext) 0 G.entries e
  unfolding find_file_rule
  file_says e h = first_says (file_test G d user s q ext) 0 G.entries e h

  pub file_is : (e : ℕ) → FirstAt (file_test G d user s q ext) 0 G.entries e → find_file_rule G d user s q ext ≡ Some e
  unfolding find_file_rule
  file_is e f = first_is_at (file_test G d user s q ext) 0 G.entries e f

  -- where an entry covers one extent, the one that was found has the extent that it was asked for by
  pub found_own : ((x : ℕ) → run_of G x ≡ x) → (e : ℕ) → find_file_rule G d user s q ext ≡ Some e → extent_of (d e) ≡ ext
  found_own single e h = sym (single (extent_of (d e))) ∙ file_run G user s q ext (d e) (file_says e h).holds ∙ single ext

  -- extents of one run have the same entry
  pub find_run : (other : ℕ) → run_of G ext ≡ run_of G other → find_file_rule G d user s q ext ≡ find_file_rule G d user s q other
  unfolding find_file_rule is_file_rule covers
  find_run other h = rw h

  pub no_file_says : find_file_rule G d user s q ext ≡ None → (e : ℕ) → e < G.entries → is_file_rule G user s q ext (d e) ≡ false
  unfolding find_file_rule
  no_file_says h e l = none_says (file_test G d user s q ext) 0 G.entries h e (omega arith) l

  pub no_file_is : ((e : ℕ) → e < G.entries → is_file_rule G user s q ext (d e) ≡ false) → find_file_rule G d user s q ext ≡ None
  unfolding find_file_rule
  no_file_is f = none_is (file_test G d user s q ext) 0 G.entries (λ e a l. f e l)

module _ (G : Geometry) (d : Rows) where
  pub empty_says : (e : ℕ) → find_empty_rule G d ≡ Some e → FirstAt (empty_test d) 0 G.entries e
  unfolding find_empty_rule
  empty_says e h = first_says (empty_test d) 0 G.entries e h

  pub none_empty_says : find_empty_rule G d ≡ None → (e : ℕ) → e < G.entries → empty (d e) ≡ false
  unfolding find_empty_rule
  none_empty_says h e l = none_says (empty_test d) 0 G.entries h e (omega arith) l
