-- A new disk with dates: a date entry in every fourth position, and no other entry. It is consistent and, since date entries list no blocks,
-- has the space of an erased one; and there are such disks.
use Rattle.std.specs.Prelude.{◌≡◌, true, false, [], ◌∷◌, replicate, Some}
use Rattle.std.proofs.Math.Path.{refl}
use Rattle.std.proofs.Common.{ap, ◌∙◌, subst, arith, eqb-true}
use Prim.Native.Nat.{ℕ, zero, suc, ◌+◌, ◌-◌, ◌*◌, ◌/◌, ◌%◌, ◌≤◌, ◌<◌}
use Rattle.std.proofs.lemmas.Bool.{eqb-false}
use Rattle.lists.specs.Cases.{split, bool_cases, not_both, eq_or_ne}
use Rattle.lists.specs.Tests.{and_fails_left, and_fails_right}
use Rattle.format.specs.Diskette.{Bytes, Geometry, Sound, eight_inch, entries_per_record, image_bytes, LongBy, Long}
use Rattle.format.specs.Entries.{entry_at, with_entry, empty, used}
use Rattle.format.specs.Dates.{is_fourth, dates_right_rule}
use Rattle.format.specs.Consistent.{consistent}
use Rattle.format.specs.Notes.{is_listed, fresh_map, free_count_rule}
use Rattle.facts.specs.Long.{long_on}
use Rattle.disk.specs.Eight.{eight_sound}
use Rattle.rows.specs.Entries.{length_with_entry, entry_stored, entry_left}
use Rattle.consistency.specs.Listed.{listed_somewhere}
use Rattle.consistency.specs.Reflect.{dates_is, dates_unused, empty_unused, all_dated, facts_image}
use Rattle.fields.specs.Erased.{ErasedDisk, all_erased, erased_empty}
use Rattle.model.specs.declared.Asked.{Asked}
use Rattle.model.specs.declared.Session.{Session}
use Rattle.model.specs.declared.Code.TheVariants.{BadParameter}
use Rattle.model.specs.Kinds.{is_call}
use Rattle.model.specs.Lent.{Lent}
use Rattle.model.specs.Entering.{three_bytes}
use Rattle.model.specs.Table.{time_right_rule, parameters_right_rule, first_row, verdict}
use Rattle.model.specs.Step.{step}
use Rattle.table.specs.Own.{verdict_rows}
use Rattle.table.specs.Total.{RefusedBy}
use Rattle.table.proofs.Total.{total_refused}
use Rattle.examples.specs.Erased.{Fitting, fresh_count, SpaceIs, space_is}
use Rattle.examples.specs.Dates.{new_dates, dates}

pub record NewDisk (G : Geometry) (img : Bytes) : Type 0 where
  pub long : Long G img
  pub fourth : (e : ℕ) → e < G.entries → is_fourth e ≡ true → dates_right_rule (entry_at G img e) ≡ true
  pub rest : (e : ℕ) → e < G.entries → is_fourth e ≡ false → empty (entry_at G img e) ≡ true

module _ {G : Geometry} (S : Sound G) (img : Bytes) (new : NewDisk G img) where
  pub new_consistent : consistent G img ≡ true
  new_consistent = facts_image G img (all_dated G (entry_at G img) S new.fourth new.rest)

  new_unused : (e : ℕ) → e < G.entries → used (entry_at G img e) ≡ false
  new_unused e h =
      split (bool_cases (is_fourth e)) (λ t. dates_unused (entry_at G img e) (dates_is (entry_at G img e) (new.fourth e h t)))
      (λ t. empty_unused (entry_at G img e) (new.rest e h t))

  new_unlisted : (b : ℕ) → (b ≡ 0 → ⊥) → is_listed G (entry_at G img) b ≡ false
  new_unlisted b real =
      split (bool_cases (is_listed G (entry_at G img) b))
      (λ t. let s = listed_somewhere G (entry_at G img) b real t in not_both _ s.stands.uses (new_unused s.e s.stands.entry))
      (λ f. f)

  new_count : free_count_rule G (fresh_map G (entry_at G img)) ≡ G.blocks - G.area
  new_count =
      let some = S.area_some in
      let room = S.area_below in
      fresh_count G (entry_at G img) G.area (omega arith) (omega arith) (λ b h l. absurd (omega arith)) (λ b h. new_unlisted b (λ z. omega arith))

-- 88H 07H 00H
pub new_space : (img : Bytes) → NewDisk eight_inch img
    → (map fcb buffer : Bytes) (s : Session) → Fitting eight_inch map fcb buffer s → (x y : Asked) → time_right_rule x ≡ true → time_right_rule y ≡ true
    → SpaceIs eight_inch img (136 ∷ 7 ∷ 0 ∷ []) map fcb buffer s x y
new_space img new map fcb buffer s fit x y tx ty =
    let n : free_count_rule eight_inch (fresh_map eight_inch (entry_at eight_inch img)) ≡ 241 = new_count eight_sound img new in
    subst (λ (k : ℕ). SpaceIs eight_inch img (three_bytes (8 * k)) map fcb buffer s x y) n
    (space_is eight_inch img new.long (new_consistent eight_sound img new) map fcb buffer s fit x y tx ty)

-- ---- date entries put down on an erased disk, in the first k records of its directory
unfoldable pub with_dates : Geometry → Bytes → ℕ → Bytes
with_dates G img zero = img
with_dates G img (suc k) = with_entry G (with_dates G img k) (4 * k + 3) new_dates

module _ {G : Geometry} (S : Sound G) (img : Bytes) (erased : ErasedDisk G img) where
  record Put (k : ℕ) (now : Bytes) : Type 0 where
    long : Long G now
    put : (e : ℕ) → e < 4 * k → e % 4 ≡ 3 → entry_at G now e ≡ new_dates
    left : (e : ℕ) → e < G.entries → (e % 4 ≡ 3 → ⊥) → entry_at G now e ≡ entry_at G img e

  put_dates : (k : ℕ) → 4 * k ≤ G.entries → Put k (with_dates G img k)
  unfolding with_dates
  put_dates zero h = record { long = erased.long; put = λ e l. absurd (omega arith); left = λ e l n. refl }
  put_dates (suc k) h =
      let was = put_dates k (omega arith) in
      let stored = entry_stored S (with_dates G img k) was.long (4 * k + 3) (omega arith) new_dates refl in
      let other = entry_left S (with_dates G img k) was.long (4 * k + 3) (omega arith) new_dates refl in
      record {
        long = long_on G (length_with_entry S (with_dates G img k) was.long (4 * k + 3) (omega arith) new_dates refl) was.long;
        put = λ e l r. split (eq_or_ne (4 * k + 3) e) (λ q. rw (← q) stored) (λ n. other e (omega arith) n ∙ was.put e (omega arith) r);
        left = λ e l n. other e l (λ q. n (omega arith)) ∙ was.left e l n;
      }

  pub new_dated : NewDisk G (with_dates G img (G.entries / 4))
  new_dated =
      let p = put_dates (G.entries / 4) (omega arith) in
      record {
        long = p.long;
        fourth = λ e h t. ap dates_right_rule (p.put e (omega (arith, S.fours)) (eqb-true (e % entries_per_record) 3 t)) ∙ dates.new;
        rest = λ e h t. ap empty (p.left e h (eqb-false (e % entries_per_record) 3 t)) ∙ erased_empty G img erased e h;
      }

-- ---- a time that is none: the call is refused with 255, 4, whether it would stamp or not
module _ (G : Geometry) (asked : Asked) (l : Lent) (s : Session) (listed : is_call asked.number ≡ true) (bad : time_right_rule asked ≡ false) where
  bad_parameters : parameters_right_rule G l asked s ≡ false
  unfolding parameters_right_rule
  bad_parameters = and_fails_right _ _ (and_fails_right _ _ (and_fails_right _ _ (and_fails_left _ _ bad)))

  refuses : verdict G asked l s ≡ Some BadParameter
  unfolding first_row
  refuses = verdict_rows G asked l s listed ∙ rw bad_parameters

  pub bad_time : RefusedBy G asked l s BadParameter
  bad_time = total_refused G asked l s BadParameter refuses

-- ---- the 8-inch disk. size is a number of its own, so that the image is never written out
pub record Dated : Type 0 where
  pub is_consistent : (img : Bytes) → NewDisk eight_inch img → consistent eight_inch img ≡ true
  pub space : (img : Bytes) → NewDisk eight_inch img → (map fcb buffer : Bytes) (s : Session) → Fitting eight_inch map fcb buffer s
      → (x y : Asked) → time_right_rule x ≡ true → time_right_rule y ≡ true → SpaceIs eight_inch img (136 ∷ 7 ∷ 0 ∷ []) map fcb buffer s x y
  pub met : (img : Bytes) × NewDisk eight_inch img
  pub time_a : (asked : Asked) (l : Lent) (s : Session) → is_call asked.number ≡ true → time_right_rule asked ≡ false → (step eight_inch asked l s).answer.a ≡ 255
  pub time_h : (asked : Asked) (l : Lent) (s : Session) → is_call asked.number ≡ true → time_right_rule asked ≡ false → (step eight_inch asked l s).answer.h ≡ 4

dated_on : (size : ℕ) → LongBy eight_inch size → Dated
dated_on size is = record {
  is_consistent = new_consistent eight_sound;
  space = new_space;
  met = (with_dates eight_inch (replicate size 229) 16, new_dated eight_sound (replicate size 229) (all_erased eight_sound size is));
  time_a = λ asked l s c b. (bad_time eight_inch asked l s c b).is_a;
  time_h = λ asked l s c b. (bad_time eight_inch asked l s c b).is_h;
}

pub dated_eight : Dated
dated_eight = dated_on (image_bytes eight_inch) refl
