-- The rows that a name gives are used, and rows of one name and extent are one entry: the one that is found.
use Rattle.std.specs.Prelude.{◌≡◌, Bool, true, false, ℕ, ◌≤◌, ◌<◌, Some}
use Rattle.std.proofs.Common.{sym, ◌∙◌, arith}
use Rattle.lists.specs.Cases.{refute}
use Rattle.format.specs.Diskette.{Bytes, Geometry}
use Rattle.format.specs.Entries.{Rows, used, named, is_file_rule, find_file_rule}
use Rattle.format.specs.Consistent.{alone}
use Rattle.facts.specs.Find.{file_is}
use Rattle.facts.specs.Naming.{named_user, file_named, file_user, file_like, file_run}
use Rattle.facts.specs.Names.{like_sym, like_trans}
use Rattle.consistency.specs.Facts.{SameFile, Consistent}
use Rattle.consistency.specs.Reflect.{low_used, same_intro, alone_elim, facts_alone}

pub named_used : (wild : Bool) (user : ℕ) (s : Bytes) (q : ℕ) (r : Bytes) → named wild user s q r ≡ true → user ≤ 15 → used r ≡ true
named_used wild user s q r h hu = low_used r (omega (arith, named_user wild user s q r h))

pub file_used : (G : Geometry) (user : ℕ) (s : Bytes) (q ext : ℕ) (r : Bytes) → is_file_rule G user s q ext r ≡ true → user ≤ 15 → used r ≡ true
file_used G user s q ext r h hu = named_used false user s q r (file_named G user s q ext r h) hu

-- two rows of one name and extent
file_same : (G : Geometry) (user : ℕ) (s : Bytes) (q ext : ℕ) (r t : Bytes) → is_file_rule G user s q ext r ≡ true → is_file_rule G user s q ext t ≡ true → SameFile G r t
file_same G user s q ext r t h k = record {
  user = file_user G user s q ext r h ∙ sym (file_user G user s q ext t k);
  name = like_trans t 1 s q r 1 (like_sym s q t 1 (file_like G user s q ext t k)) (file_like G user s q ext r h);
  run = file_run G user s q ext r h ∙ sym (file_run G user s q ext t k);
}

-- the entry of a user, name and extent is the one that is found, if none before it is of the same file
module _ (G : Geometry) (d : Rows) (user : ℕ) (hu : user ≤ 15) (s : Bytes) (q ext e : ℕ) (l : e < G.entries) (h : is_file_rule G user s q ext (d e) ≡ true) where
  pub alone_found : alone G d e ≡ true → find_file_rule G d user s q ext ≡ Some e
  alone_found a =
      file_is G d user s q ext e record {
        low = omega arith;
        below = l;
        holds = h;
        before = λ k z b. sym (refute _ (λ t. alone_elim G d e k a b
            (same_intro G (d e) (d k) (file_used G user s q ext (d e) h hu) (file_used G user s q ext (d k) t hu) (file_same G user s q ext (d e) (d k) h t))));
      }

  pub file_found : Consistent G d → find_file_rule G d user s q ext ≡ Some e
  file_found c = alone_found (facts_alone G d c e l)
