-- An erased disk, on which every entry begins with E5H: it is consistent, and nothing is listed on it.
use Rattle.std.specs.Prelude.{◌≡◌, true, false, ℕ, ◌<◌, replicate}
use Rattle.std.proofs.Common.{arith}
use Rattle.std.proofs.lemmas.List.{length-replicate}
use borrow.Author.Tests.{eq-eqb}
use Rattle.lists.specs.Cases.{split, bool_cases, not_both}
use Rattle.format.specs.Diskette.{Bytes, Geometry, Sound, LongBy, Long}
use Rattle.format.specs.Entries.{entry_at, user_of, empty, used}
use Rattle.format.specs.Consistent.{consistent}
use Rattle.format.specs.Notes.{is_listed}
use Rattle.rows.specs.Entries.{entry_of_same}
use Rattle.consistency.specs.Listed.{listed_somewhere}
use Rattle.consistency.specs.Reflect.{empty_unused, all_empty, facts_image}

pub record ErasedDisk (G : Geometry) (img : Bytes) : Type 0 where
  pub long : Long G img
  pub void : (e : ℕ) → e < G.entries → user_of (entry_at G img e) ≡ 229

-- there are such disks: every byte E5H. size is a number of its own, so that the image is never written out
pub all_erased : {G : Geometry} (S : Sound G) (size : ℕ) → LongBy G size → ErasedDisk G (replicate size 229)
all_erased S size is = record { long = rw length-replicate is; void = entry_of_same S size 229 (omega arith) }

module _ (G : Geometry) (img : Bytes) (erased : ErasedDisk G img) where
  pub erased_empty : (e : ℕ) → e < G.entries → empty (entry_at G img e) ≡ true
  unfolding empty
  erased_empty e h = eq-eqb _ _ (erased.void e h)

  pub erased_unused : (e : ℕ) → e < G.entries → used (entry_at G img e) ≡ false
  erased_unused e h = empty_unused (entry_at G img e) (erased_empty e h)

  pub erased_consistent : Sound G → consistent G img ≡ true
  erased_consistent S = facts_image G img (all_empty G (entry_at G img) S erased_empty)

  pub erased_unlisted : (b : ℕ) → (b ≡ 0 → ⊥) → is_listed G (entry_at G img) b ≡ false
  erased_unlisted b real =
      split (bool_cases (is_listed G (entry_at G img) b))
      (λ t. let s = listed_somewhere G (entry_at G img) b real t in not_both _ s.stands.uses (erased_unused s.e s.stands.entry))
      (λ f. f)
