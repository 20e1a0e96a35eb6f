-- The stamps of a call, by whether the disk has date entries; of a record call by its plan; and which calls make none.
use Rattle.std.specs.Prelude.{◌≡◌, refl, Bool, true, false, List, [], ◌∷◌, ℕ, eqb}
use Rattle.std.proofs.Common.{sym}
use Rattle.lists.specs.Cases.{split, bool_cases, clash}
use Rattle.format.specs.Diskette.{Geometry}
use Rattle.model.specs.declared.Asked.{Asked}
use Rattle.model.specs.declared.Session.{Session}
use Rattle.model.specs.declared.Kind.{Kind}
use Rattle.model.specs.declared.Kind.TheVariants.{Unlisted, Quiet, Search, User, Settle, Close, Delete, Create, Rename, Read, Write}
use Rattle.model.specs.Kinds.{Listed, calls, kind_of, same, of_record, numbers_in, one_of}
use Rattle.model.specs.Lent.{Lent}
use Rattle.model.specs.Target.{plan}
use Rattle.model.specs.Stamps.{Stamp, where_dated, move_stamps, stamps_by}
use Rattle.table.specs.First.{◌&◌}
use Rattle.table.specs.Own.{AtEach, at_kind}

pub where_dated_law : (b : Bool) (xs : List Stamp) → b ≡ true → where_dated b xs ≡ xs
where_dated_law b [] t = refl
where_dated_law b (x ∷ xs) t = rw t

pub where_undated : (b : Bool) (xs : List Stamp) → b ≡ false → where_dated b xs ≡ []
where_undated b [] t = refl
where_undated b (x ∷ xs) t = rw t

pub record_stamps : (G : Geometry) (asked : Asked) (l : Lent) (s : Session) (k : Kind) → of_record k ≡ true
    → stamps_by G asked l s k ≡ move_stamps G asked l s (plan G asked.number s.user l)
record_stamps G asked l s Unlisted h = clash (sym h)
record_stamps G asked l s Quiet h = clash (sym h)
record_stamps G asked l s Search h = clash (sym h)
record_stamps G asked l s User h = clash (sym h)
record_stamps G asked l s Settle h = clash (sym h)
record_stamps G asked l s Close h = clash (sym h)
record_stamps G asked l s Delete h = clash (sym h)
record_stamps G asked l s Create h = clash (sym h)
record_stamps G asked l s Rename h = clash (sym h)
record_stamps G asked l s Read h = refl
record_stamps G asked l s Write h = refl

-- ---- the calls that may stamp, and that no other does
abbrev pub stamp_calls : List ℕ
stamp_calls = 15 ∷ 16 ∷ 20 ∷ 21 ∷ 22 ∷ 33 ∷ 34 ∷ []

module _ (G : Geometry) (asked : Asked) (l : Lent) (s : Session) (h : one_of asked.number stamp_calls ≡ false) where
  among : (k : Kind) → same Unlisted k ≡ false → AtEach (λ (n : ℕ). one_of n stamp_calls ≡ false → stamps_by G asked l s k ≡ []) (numbers_in (λ (c : Listed). same c.kind k) calls)
      → kind_of asked.number ≡ k → stamps_by G asked l s k ≡ []
  among k u x q = at_kind (λ (n : ℕ). one_of n stamp_calls ≡ false → stamps_by G asked l s k ≡ []) k asked.number u x q h

  pub other_stamps : (k : Kind) → kind_of asked.number ≡ k → stamps_by G asked l s k ≡ []
  other_stamps Unlisted q = refl
  other_stamps Quiet q = split (bool_cases (eqb asked.number 15)) (λ t. let z : true ≡ false = rw t at h in clash z) (λ f. rw f)
  other_stamps Search q = refl
  other_stamps User q = refl
  other_stamps Settle q = refl
  other_stamps Close q = among Close refl ((λ z. clash z) & tt) q
  other_stamps Delete q = refl
  other_stamps Create q = among Create refl ((λ z. clash z) & tt) q
  other_stamps Rename q = refl
  other_stamps Read q = among Read refl ((λ z. clash z) & (λ z. clash z) & tt) q
  other_stamps Write q = among Write refl ((λ z. clash z) & (λ z. clash z) & tt) q
