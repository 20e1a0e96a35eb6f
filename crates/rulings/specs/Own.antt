-- A record call's own step goes by its ruling: the rows of the four calls decide as the one chain does.
use Rattle.std.specs.Prelude.{◌≡◌, Bool, true, false, not, cond, ltb, None, Option, Some, Err, Ok, Result}
use Rattle.std.proofs.Math.Path.{refl, sym}
use Rattle.std.proofs.Common.{◌∙◌, arith}
use mathlib.Core.List.{List, [], ◌∷◌, ◌++◌}
use Prim.Native.Nat.{ℕ, ◌/◌}
use borrow.Author.Tests.{le-leb, lt-leb, lt-ltb, le-ltb, not-false}
use Rattle.lists.specs.Cases.{split, bool_cases, lt_or_le, clash}
use Rattle.lists.specs.Tests.{and_fails_left, and_then}
use Rattle.format.specs.Diskette.{Bytes, Geometry, extent_records, extents, last_record}
use Rattle.format.specs.Fcb.{random_of_rule}
use Rattle.facts.specs.Found.{is_found_law, found_so}
use Rattle.model.specs.declared.Asked.{Asked}
use Rattle.model.specs.declared.Session.{Session}
use Rattle.model.specs.declared.Code.{Code}
use Rattle.model.specs.declared.Code.TheVariants.{BadRecord, NoRecord}
use Rattle.model.specs.declared.Plan.{Plan}
use Rattle.model.specs.Lent.{Lent, Outcome}
use Rattle.model.specs.Target.{target_extent, plan}
use Rattle.model.specs.Kinds.{kind_of, is_random_rule, same, of_record}
use Rattle.model.specs.declared.Kind.TheVariants.{Read, Write}
use Rattle.model.specs.Table.{Row, when, first_row, own_rows}
use Rattle.model.specs.Calls.{reading, read, writing, written}
use Rattle.model.specs.Step.{refused, carried_out, effect}
use Rattle.table.specs.First.{◌&◌, NoneHolds}
use Rattle.table.specs.Own.{calling, same_is, at_kind}
use Rattle.table.specs.OwnStep.{own_step}
use Rattle.fields.specs.Target.{extent_random}
use Rattle.table.specs.Accept.{random_below}
use Rattle.table.specs.Present.{there_target}
use Rattle.targets.specs.Target.{over_last_rule, missing_code}
use Rattle.rulings.specs.Ruling.{ruling_of, read_rows, write_rows, ruling_rows, ruling}

-- a record over 262,143 is of an extent over 2,047
over_random : (n : ℕ) (fcb : Bytes) → is_random_rule n ≡ true → over_last_rule n (target_extent n fcb) ≡ ltb last_record (random_of_rule fcb)
unfolding over_last_rule
over_random n fcb r =
    let ext : target_extent n fcb ≡ random_of_rule fcb / extent_records = extent_random n fcb r in
    and_then _ _ r ∙ split (lt_or_le last_record (random_of_rule fcb))
    (λ h. le-leb extents (target_extent n fcb) (omega arith) ∙ sym (lt-ltb _ _ h))
    (λ h. lt-leb extents (target_extent n fcb) (omega arith) ∙ sym (le-ltb _ _ h))

over_sequential : (n ext : ℕ) → is_random_rule n ≡ false → over_last_rule n ext ≡ false
unfolding over_last_rule
over_sequential n ext s = and_fails_left _ _ s

-- what follows a row matters only where the row does not hold
past_row : (b : Bool) (x v w : Option Code) → (b ≡ false → v ≡ w) → cond b x v ≡ cond b x w
past_row true x v w h = refl
past_row false x v w h = h refl

-- a row that cannot hold where those in front of it have failed may go
gone : (front rs : List Row) (test : Bool) (code : Code) → (NoneHolds front → test ≡ false)
    → first_row (front ++ (when test code ∷ rs)) ≡ first_row (front ++ rs)
unfolding first_row
gone [] rs test code h = rw (h tt)
gone (r ∷ front) rs test code h = past_row r.holds _ _ _ (λ f. gone front rs test code (λ k. h (f & k)))

-- one may come in front of another of its code that holds wherever it does
same_code : (front rs : List Row) (t r : Bool) (code : Code) → (NoneHolds front → r ≡ true → t ≡ true)
    → first_row (front ++ (when (not r) code ∷ rs)) ≡ first_row (front ++ (when (not t) code ∷ when (not r) code ∷ rs))
unfolding first_row
same_code [] rs true r code h = refl
same_code [] rs false false code h = refl
same_code [] rs false true code h = clash (sym (h tt refl))
same_code (x ∷ front) rs t r code h = past_row x.holds _ _ _ (λ f. same_code front rs t r code (λ k. h (f & k)))

module _ (G : Geometry) (asked : Asked) (l : Lent) (s : Session) where
  -- ---- the rows: a record that is there has an entry
  pub rows_20 : first_row (own_rows G (calling 20 asked) l s) ≡ first_row (ruling_rows G 20 s.user l)
  unfolding ruling_rows read_rows missing_code kind_of is_random_rule
  rows_20 =
      same_code (_ ∷ []) _ _ _ NoRecord (λ h r. found_so _ (there_target G 20 s.user l (is_found_law _ (not-false _ h.0)) r))
      ∙ sym (gone [] _ _ BadRecord (λ h. over_sequential 20 _ refl))

  pub rows_33 : first_row (own_rows G (calling 33 asked) l s) ≡ first_row (ruling_rows G 33 s.user l)
  unfolding ruling_rows read_rows missing_code kind_of is_random_rule
  rows_33 = rw (over_random 33 l.fcb refl)

  rows_21 : first_row (own_rows G (calling 21 asked) l s) ≡ first_row (ruling_rows G 21 s.user l)
  unfolding ruling_rows write_rows missing_code kind_of is_random_rule
  rows_21 = sym (gone [] _ _ BadRecord (λ h. over_sequential 21 _ refl))

  rows_34 : first_row (own_rows G (calling 34 asked) l s) ≡ first_row (ruling_rows G 34 s.user l)
  unfolding ruling_rows write_rows missing_code kind_of is_random_rule
  rows_34 =
      rw (over_random 34 l.fcb refl)
      (sym (gone (_ ∷ _ ∷ _ ∷ []) _ _ NoRecord (λ h. lt-leb _ _ (random_below 34 l.fcb refl h.0))))

  -- ---- what a ruling has a call do, by what a plan has it do
  abbrev pub ruled : (Plan → Outcome) → Result Plan Code → Outcome
  ruled follow (Err code) = refused code s l
  ruled follow (Ok p) = follow p

  -- a step by its verdict is the same by its ruling
  by_verdict : (n : ℕ) (v : Option Code) (follow : Plan → Outcome) → effect G (calling n asked) l s ≡ follow (plan G n s.user l)
      → carried_out G (calling n asked) l s v ≡ ruled follow (ruling_of v (plan G n s.user l))
  by_verdict n None follow h = h
  by_verdict n (Some code) follow h = refl

  -- what a plan has a record call do
  abbrev pub following : ℕ → Plan → Outcome
  following n p = cond (same (kind_of n) Write) (writing G s l n p) (reading G s l n p)

  -- rows that decide as the call's own do give its ruling
  by_rows : (n : ℕ) → first_row (own_rows G (calling n asked) l s) ≡ first_row (ruling_rows G n s.user l)
      → effect G (calling n asked) l s ≡ following n (plan G n s.user l)
      → own_step G (calling n asked) l s ≡ ruled (following n) (ruling G n s.user l)
  unfolding own_step ruling
  by_rows n r e = rw r (by_verdict n (first_row (ruling_rows G n s.user l)) (following n) e)

  pub own_record : of_record (kind_of asked.number) ≡ true
      → own_step G asked l s ≡ ruled (following asked.number) (ruling G asked.number s.user l)
  unfolding read written effect kind_of
  own_record h =
      let P : ℕ → Type 0 = λ (m : ℕ). own_step G (calling m asked) l s ≡ ruled (following m) (ruling G m s.user l) in
      split (bool_cases (same (kind_of asked.number) Read))
      (λ t. at_kind P Read asked.number refl (by_rows 20 rows_20 refl & by_rows 33 rows_33 refl & tt) (same_is _ _ t))
      (λ f. at_kind P Write asked.number refl (by_rows 21 rows_21 refl & by_rows 34 rows_34 refl & tt) (same_is (kind_of asked.number) Write (rw f at h)))
