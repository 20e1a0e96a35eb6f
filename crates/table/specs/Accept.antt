-- What it says of a call that none of its own rows holds: its facts, by its kind; and back: such facts leave no row that holds.
use Rattle.std.specs.Prelude.{◌≡◌, ◌⊎◌, true, false, ℕ, ◌/◌, ◌≤◌, ◌<◌, eqb, ltb, None, is_some}
use Rattle.std.proofs.Math.Path.{refl, ap}
use Rattle.std.proofs.Common.{sym, subst, ◌∙◌, arith}
use Rattle.std.proofs.Math.Bool.{not}
use borrow.Author.Tests.{leb-false, lt-leb, ltb-false, le-ltb, ne_eqb, eq-eqb, not-false}
use Rattle.lists.specs.Cases.{split, bool_cases, eq_or_ne}
use Rattle.lists.specs.Tests.{◌and◌, ◌or◌, and_fails_left, and_fails_right, second_fails}
use Rattle.format.specs.Diskette.{Bytes, Geometry, extent_records, extents, last_record}
use Rattle.format.specs.Entries.{find_empty_rule}
use Rattle.format.specs.Consistent.{consistent}
use Rattle.format.specs.Notes.{find_free}
use Rattle.format.specs.Fcb.{random_of_rule}
use Rattle.facts.specs.Found.{FoundAt, not_found}
use Rattle.model.specs.declared.Session.{Session}
use Rattle.model.specs.declared.Code.TheVariants.{NotListed}
use Rattle.model.specs.Lent.{Lent, rows_of}
use Rattle.model.specs.Target.{target_extent, present_entry, target_entry, record_there, block_there, read_only_there}
use Rattle.model.specs.declared.Asked.{Asked}
use Rattle.model.specs.declared.Kind.{Kind}
use Rattle.model.specs.declared.Kind.TheVariants.{Unlisted, Quiet, Search, User, Settle, Close, Delete, Create, Rename, Read, Write}
use Rattle.model.specs.Kinds.{Listed, calls, kind_of, same, numbers_in, is_call, is_random_rule}
use Rattle.model.specs.Search.{find_hit_rule}
use Rattle.model.specs.Step.{pattern, place}
use Rattle.model.specs.Table.{own_rows, verdict}
use Rattle.table.specs.First.{◌&◌, NoneHolds, passed_refused}
use Rattle.table.specs.Own.{calling, AtEach, at_kind, not_unlisted, verdict_unlisted}
use Rattle.table.specs.Present.{there_target, file_extent_below}
use Rattle.table.specs.Facts.{Opens, Closes, Deletes, Makes, Renames, Sizes, Positions, Reads, Writes, Own, Ready, AcceptedCall}
use Rattle.table.specs.Reflect.{found, missed, either_found, either_missed, pattern_of_law, argument_of, some_of, some_right, none_of, writable_of, positions_of, positions_right}

-- the target's extent of 33 and 34 is below 2,048 exactly where the random record is at most 262,143
pub random_below : (n : ℕ) (fcb : Bytes) → is_random_rule n ≡ true → ltb last_record (random_of_rule fcb) ≡ false → target_extent n fcb < extents
unfolding target_extent
random_below n fcb r h = rw r (omega (arith, ltb-false last_record (random_of_rule fcb) h))

pub random_most : (n : ℕ) (fcb : Bytes) → is_random_rule n ≡ true → target_extent n fcb < extents → random_of_rule fcb ≤ last_record
unfolding target_extent
random_most n fcb r h = let below : random_of_rule fcb / extent_records < extents = rw r at h in omega arith

pub random_low : (n : ℕ) (fcb : Bytes) → is_random_rule n ≡ true → target_extent n fcb < extents → ltb last_record (random_of_rule fcb) ≡ false
random_low n fcb r h = le-ltb last_record (random_of_rule fcb) (random_most n fcb r h)

module _ (G : Geometry) (l : Lent) (s : Session) where
  -- ---- from the rows to the facts
  read_of : (n : ℕ) → consistent G l.drive.image ≡ true → s.user ≤ 15
      → not (is_some (present_entry G s.user l)) ≡ false → not (record_there G n s.user l) ≡ false → Reads G l s n
  unfolding target_entry
  read_of n right low p t =
      let entry = found _ p in
      let there = not-false _ t in
      let target = there_target G n s.user l entry there in
      record {
        entry = entry;
        target = target;
        extent = file_extent_below G l.drive.image s.user l.fcb 1 (target_extent n l.fcb) target.place right low target.is;
        there = there;
      }

  writes_of : (n : ℕ) → not (is_some (present_entry G s.user l)) ≡ false → read_only_there G n s.user l ≡ false → target_extent n l.fcb < extents
      → (not (is_some (target_entry G n s.user l)) and not (is_some (find_empty_rule G (rows_of G l)))) ≡ false
      → (eqb (block_there G n s.user l) 0 and not (is_some (find_free G l.drive.map))) ≡ false → Writes G l s n
  writes_of n p w x r b =
      record {
        entry = found _ p;
        writable = w;
        extent = x;
        room = either_found _ _ r;
        block = λ z. found _ (second_fails _ _ b (eq-eqb _ _ z));
      }

  block_right : (n : ℕ) → (block_there G n s.user l ≡ 0 → FoundAt (find_free G l.drive.map))
      → (eqb (block_there G n s.user l) 0 and not (is_some (find_free G l.drive.map))) ≡ false
  block_right n f =
      split (eq_or_ne (block_there G n s.user l) 0) (λ z. and_fails_right _ _ (missed _ (f z))) (λ z. and_fails_left _ _ (ne_eqb _ _ z))

pub opens_of : (G : Geometry) (asked : Asked) (l : Lent) (s : Session) → NoneHolds (own_rows G (calling 15 asked) l s) → Opens G l s
opens_of G asked l s h = record { name = not-false _ h.0; ex = ltb-false _ _ h.1.0; entry = found _ h.1.1.0 }

-- ---- a call's own facts, by its kind
module _ (G : Geometry) (asked : Asked) (l : Lent) (s : Session) (none : NoneHolds (own_rows G asked l s)) where
  -- from what holds at each number of the kind
  by_rows : (F : ℕ → Type 0) (k : Kind) → same Unlisted k ≡ false
      → AtEach (λ (n : ℕ). NoneHolds (own_rows G (calling n asked) l s) → F n) (numbers_in (λ (c : Listed). same c.kind k) calls)
      → kind_of asked.number ≡ k → F asked.number
  by_rows F k u x q = at_kind (λ (n : ℕ). NoneHolds (own_rows G (calling n asked) l s) → F n) k asked.number u x q none

  pub closes_of : kind_of asked.number ≡ Close → Closes G l s
  closes_of = by_rows (λ (n : ℕ). Closes G l s) Close refl ((λ h. record { entry = found _ h.0 }) & tt)

  pub makes_of : kind_of asked.number ≡ Create → Makes G l s
  makes_of =
      by_rows (λ (n : ℕ). Makes G l s) Create refl
      ((λ (name, (ex, (new, (entry, none)))). record { name = not-false _ name; ex = ltb-false _ _ ex; new = not_found _ new; entry = found _ entry }) & tt)

  pub renames_of : kind_of asked.number ≡ Rename → Renames G l s
  renames_of =
      by_rows (λ (n : ℕ). Renames G l s) Rename refl
      ((λ h. record {
        name = not-false _ h.0;
        new_name = not-false _ h.1.0;
        files = record { some = some_of G l s false 1 h.1.1.0; writable = writable_of G l s false h.1.1.1.0 };
        new = none_of G l s 17 h.1.1.1.1.0;
      }) & tt)

  sets_of : kind_of asked.number ≡ User → (asked.argument ≡ 255) ⊎ (asked.argument ≤ 15)
  unfolding ◌or◌
  sets_of = by_rows (λ (n : ℕ). (asked.argument ≡ 255) ⊎ (asked.argument ≤ 15)) User refl ((λ h. argument_of asked.argument h.0) & tt)

  pub hits_of : kind_of asked.number ≡ Search → FoundAt (find_hit_rule G (rows_of G l) s.user (pattern G asked l s) (place G asked l s))
  unfolding pattern place
  hits_of =
      by_rows (λ (n : ℕ). FoundAt (find_hit_rule G (rows_of G l) s.user (pattern G (calling n asked) l s) (place G (calling n asked) l s))) Search refl
      ((λ h. found _ h.1.1.0) & (λ h. found _ h.1.0) & tt)

  pub reads_of : consistent G l.drive.image ≡ true → s.user ≤ 15 → kind_of asked.number ≡ Read → Reads G l s asked.number
  reads_of right low =
      by_rows (Reads G l s) Read refl
      ((λ h. read_of G l s 20 right low h.0 h.1.0) & (λ h. read_of G l s 33 right low h.1.0 h.1.1.1.0) & tt)

  pub writes_by : kind_of asked.number ≡ Write → Writes G l s asked.number
  unfolding is_random_rule
  writes_by =
      by_rows (Writes G l s) Write refl
      ((λ h. writes_of G l s 21 h.0 h.1.0 (leb-false _ _ h.1.1.0) h.1.1.1.0 h.1.1.1.1.0)
      & (λ h. writes_of G l s 34 h.1.0 h.1.1.0 (random_below 34 l.fcb refl h.0) h.1.1.1.0 h.1.1.1.1.0) & tt)

  -- its rows are those of its number
  at_number : (n : ℕ) → asked.number ≡ n → NoneHolds (own_rows G (calling n asked) l s)
  at_number n q = subst (λ (m : ℕ). NoneHolds (own_rows G (calling m asked) l s)) q none

  deletes_of : kind_of asked.number ≡ Delete → Deletes G l s
  deletes_of =
      by_rows (λ (n : ℕ). Deletes G l s) Delete refl
      ((λ h. record { name = not-false _ h.0; files = record { some = some_of G l s true 1 h.1.0; writable = writable_of G l s true h.1.1.0 } }) & tt)

  pub own_of : is_call asked.number ≡ true → Ready G asked l s → (k : Kind) → kind_of asked.number ≡ k → Own G asked l s k
  own_of t r Unlisted q = not_unlisted asked.number t q
  own_of t r Quiet q = (
    λ n. opens_of G asked l s (at_number 15 n),
    λ n. let h = at_number 35 n in record { name = not-false _ h.0; some = some_of G l s false 1 h.1.0 },
    λ n. positions_of G l s (at_number 36 n).0,
  )
  own_of t r Search q = (
    λ n. let h = at_number 17 n in record { name = not-false _ h.0; ex = pattern_of_law _ h.1.0; entry = found _ h.1.1.0 },
    λ n. let h = at_number 18 n in record { on = not-false _ h.0; entry = found _ h.1.0 },
  )
  own_of t r User q = sets_of q
  own_of t r Settle q = tt
  own_of t r Close q = closes_of q
  own_of t r Delete q = deletes_of q
  own_of t r Create q = makes_of q
  own_of t r Rename q = renames_of q
  own_of t r Read q = reads_of r.image_right r.fits.user_low q
  own_of t r Write q = writes_by q

-- ---- and back: facts that hold leave no row of the call that does
module _ (G : Geometry) (asked : Asked) (l : Lent) (s : Session) where
  pub opens_right : Opens G l s → NoneHolds (own_rows G (calling 15 asked) l s)
  opens_right o = ap not o.name & le-ltb _ _ o.ex & missed _ o.entry & tt

  pub sizes_right : Sizes G l s → NoneHolds (own_rows G (calling 35 asked) l s)
  sizes_right o = ap not o.name & some_right G l s false 1 o.some & tt

  pub positions_none : Positions G l s → NoneHolds (own_rows G (calling 36 asked) l s)
  positions_none o = positions_right G l s o & tt

  pub makes_right : Makes G l s → NoneHolds (own_rows G (calling 22 asked) l s)
  makes_right o = ap not o.name & le-ltb _ _ o.ex & ap is_some o.new & missed _ o.entry & tt

  pub reads_right : Reads G l s 33 → NoneHolds (own_rows G (calling 33 asked) l s)
  unfolding is_random_rule
  reads_right o =
      random_low 33 l.fcb refl o.extent & missed _ o.entry & missed _ o.target & ap not o.there & tt

  pub writes_right : Writes G l s 21 → NoneHolds (own_rows G (calling 21 asked) l s)
  writes_right o =
      missed _ o.entry & o.writable & lt-leb _ _ o.extent & either_missed _ _ o.room & block_right G l s 21 o.block & tt

  pub writes_random : Writes G l s 34 → NoneHolds (own_rows G (calling 34 asked) l s)
  unfolding is_random_rule
  writes_random o =
      random_low 34 l.fcb refl o.extent & missed _ o.entry & o.writable & either_missed _ _ o.room & block_right G l s 34 o.block & tt

-- ---- the table
module _ (G : Geometry) (asked : Asked) (l : Lent) (s : Session) where
  pub passed_call : verdict G asked l s ≡ None → is_call asked.number ≡ true
  passed_call q =
      split (bool_cases (is_call asked.number)) (λ t. t) (λ f. passed_refused NotListed (sym q ∙ verdict_unlisted G asked l s f))

  -- its own facts, where its kind is known
  pub own_at : {k : Kind} → AcceptedCall G asked l s → kind_of asked.number ≡ k → Own G asked l s k
  own_at c q = subst (Own G asked l s) q c.own
