-- Example f: the random record of 33 and 34.
use Rattle.std.specs.Prelude.{◌≡◌, refl, [], ◌∷◌, true, false, ℕ, ◌+◌, ◌*◌, get_or, Some}
use Rattle.std.proofs.Common.{◌∙◌, arith, lt-ltb}
use Rattle.format.specs.Diskette.{Bytes, Geometry, last_record}
use Rattle.format.specs.Fcb.{random_of_rule}
use Rattle.model.specs.declared.Asked.{Asked}
use Rattle.model.specs.declared.Session.{Session}
use Rattle.model.specs.declared.Code.TheVariants.{BadRecord}
use Rattle.model.specs.Lent.{Lent, protected}
use Rattle.model.specs.Kinds.{is_call, is_random_rule, kind_of, one_of}
use Rattle.model.specs.Target.{target_extent, target_record}
use Rattle.model.specs.Table.{verdict}
use Rattle.model.specs.Step.{refused, step}
use Rattle.table.specs.First.{◌&◌, here}
use Rattle.table.specs.Own.{calling, at_one}
use Rattle.table.specs.Protection.{lifted_spared, failing_spared}
use Rattle.table.specs.Facts.{Ready}
use Rattle.fields.specs.Target.{extent_random, record_random}
use Rattle.table.proofs.Refuse.{random_over}
use Rattle.table.proofs.Total.{step_refused}

-- the FCB's r0, r1 and r2 are these
pub record RandomIs (fcb : Bytes) (r0 r1 r2 : ℕ) : Type 0 where
  pub low : get_or fcb 33 0 ≡ r0
  pub middle : get_or fcb 34 0 ≡ r1
  pub high : get_or fcb 35 0 ≡ r2

random_is : (fcb : Bytes) (r0 r1 r2 : ℕ) → RandomIs fcb r0 r1 r2 → random_of_rule fcb ≡ r0 + 256 * r1 + 65536 * r2
unfolding random_of_rule
random_is fcb r0 r1 r2 r = rw (r.low, r.middle, r.high)

-- a call that the rows before its random record pass is refused with 6 and changes nothing
pub record Six (G : Geometry) (asked : Asked) (l : Lent) (s : Session) : Type 0 where
  pub is_number : random_of_rule l.fcb ≡ 262144
  pub refuses : step G asked l s ≡ refused BadRecord s l
  pub is_a : (step G asked l s).answer.a ≡ 6
  pub is_h : (step G asked l s).answer.h ≡ 0

six : (G : Geometry) (asked : Asked) (l : Lent) (s : Session) → random_of_rule l.fcb ≡ 262144 → step G asked l s ≡ refused BadRecord s l → Six G asked l s
six G asked l s is q = record { is_number = is; refuses = q; is_a = rw q; is_h = rw q }

-- 33 on any session; 34 where the protection is lifted
pub random_six : (G : Geometry) (asked : Asked) (l : Lent) (s : Session) → one_of asked.number (33 ∷ 34 ∷ []) ≡ true → Ready G asked l s
    → (asked.number ≡ 34 → protected s ≡ false) → RandomIs l.fcb 0 0 4 → Six G asked l s
unfolding is_call kind_of
random_six G asked l s which ready writable r =
    let over = lt-ltb last_record (random_of_rule l.fcb) (omega (arith, random_is l.fcb 0 0 4 r)) in
    six G asked l s (random_is l.fcb 0 0 4 r)
    (at_one (λ (m : ℕ). Ready G (calling m asked) l s → (m ≡ 34 → protected s ≡ false) → step G (calling m asked) l s ≡ refused BadRecord s l) asked.number (33 ∷ 34 ∷ []) which
    ((λ p w. step_refused G (calling 33 asked) l s BadRecord refl p (failing_spared G (calling 33 asked) l s refl BadRecord (here over refl)) (here over refl))
    & (λ p w. step_refused G (calling 34 asked) l s BadRecord refl p (lifted_spared G (calling 34 asked) l s (w refl)) (here over refl)) & tt) ready writable)

-- 262,143 is the last that is taken: record 127 of extent 2,047
pub record Last (G : Geometry) (asked : Asked) (l : Lent) (s : Session) : Type 0 where
  pub is_number : random_of_rule l.fcb ≡ 262143
  pub extent : target_extent asked.number l.fcb ≡ 2047
  pub is_record : target_record asked.number l.fcb ≡ 127
  pub not_six : verdict G asked l s ≡ Some BadRecord → ⊥

pub random_last : (G : Geometry) (asked : Asked) (l : Lent) (s : Session) → one_of asked.number (33 ∷ 34 ∷ []) ≡ true → RandomIs l.fcb 255 255 3
    → Last G asked l s
unfolding is_random_rule
random_last G asked l s which r =
    let is : random_of_rule l.fcb ≡ last_record = random_is l.fcb 255 255 3 r in
    let random = at_one (λ (m : ℕ). is_random_rule m ≡ true) asked.number (33 ∷ 34 ∷ []) which (refl & refl & tt) in
    record {
      is_number = is;
      extent = extent_random asked.number l.fcb random ∙ rw is;
      is_record = record_random asked.number l.fcb random ∙ rw is;
      not_six = λ q. omega (arith, random_over G asked l s q);
    }
