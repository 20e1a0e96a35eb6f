-- The slots of all entries, counted through, against entry and slot; and what it means that a block is listed.
use Rattle.std.specs.Prelude.{◌≡◌, true, false, cond, ℕ, ◌+◌, ◌*◌, ◌/◌, ◌%◌, ◌<◌}
use Rattle.std.proofs.Common.{ap, sym, ◌∙◌, arith, eqb-true, eq-eqb}
use Rattle.std.proofs.Math.Dec.{eqb}
use Rattle.lists.specs.Cases.{split, bool_cases}
use Rattle.lists.specs.Below.{SomeBelow, any_some, any_at}
use Rattle.lists.specs.Seen.{taken}
use Rattle.format.specs.Diskette.{Geometry, slot_count}
use Rattle.format.specs.Entries.{Rows, slot_of, used}
use Rattle.format.specs.Consistent.{listed, slots_in_all}
use Rattle.format.specs.Notes.{is_listed}
use Rattle.consistency.specs.Facts.{Stands}

-- slot j of entry e, among all slots
pub listed_at : (G : Geometry) (d : Rows) (e j : ℕ) → j < slot_count → listed G d (slot_count * e + j) ≡ cond (used (d e)) (slot_of G (d e) j) 0
unfolding listed
listed_at G d e j h =
    let q : (slot_count * e + j) / slot_count ≡ e = omega arith in
    let m : (slot_count * e + j) % slot_count ≡ j = omega arith in
    rw (q, m)

pub listed_used : (G : Geometry) (d : Rows) (e j : ℕ) → j < slot_count → used (d e) ≡ true → listed G d (slot_count * e + j) ≡ slot_of G (d e) j
listed_used G d e j h u = listed_at G d e j h ∙ rw u

pub listed_unused : (G : Geometry) (d : Rows) (e j : ℕ) → j < slot_count → used (d e) ≡ false → listed G d (slot_count * e + j) ≡ 0
listed_unused G d e j h u = listed_at G d e j h ∙ rw u

module _ (G : Geometry) (d : Rows) where
  -- a slot that lists a block, as the place at which the block stands
  pub stands_at : (x b : ℕ) → x < slots_in_all G → listed G d x ≡ b → (b ≡ 0 → ⊥) → Stands G d b (x / slot_count) (x % slot_count)
  stands_at x b h q r =
      let split-x : x ≡ slot_count * (x / slot_count) + x % slot_count = omega arith in
      let at : listed G d (slot_count * (x / slot_count) + x % slot_count) ≡ b = ap (listed G d) (sym split-x) ∙ q in
      split (bool_cases (used (d (x / slot_count))))
      (λ u. record {
        entry = omega arith;
        place = omega arith;
        uses = u;
        is = sym (listed_used G d (x / slot_count) (x % slot_count) (omega arith) u) ∙ at;
        real = r;
      })
      (λ u. absurd (r (sym at ∙ listed_unused G d (x / slot_count) (x % slot_count) (omega arith) u)))

  pub stands_place : (b e j : ℕ) → Stands G d b e j → slot_count * e + j < slots_in_all G
  stands_place b e j s = let h = s.entry in let l = s.place in omega arith

  pub stands_listed : (b e j : ℕ) → Stands G d b e j → listed G d (slot_count * e + j) ≡ b
  stands_listed b e j s = listed_used G d e j s.place s.uses ∙ s.is

  -- some used entry lists block b
  pub record Somewhere (b : ℕ) : Type 0 where
    pub e : ℕ
    pub j : ℕ
    pub stands : Stands G d b e j

  pub listed_somewhere : (b : ℕ) → (b ≡ 0 → ⊥) → is_listed G d b ≡ true → Somewhere b
  unfolding is_listed taken
  listed_somewhere b r t =
      let s : SomeBelow (λ (x : ℕ). eqb (listed G d x) b) (slots_in_all G) = any_some _ (slots_in_all G) t in
      record {
        e = s.place / slot_count;
        j = s.place % slot_count;
        stands = stands_at s.place b s.below (eqb-true _ _ s.holds) r;
      }

  pub somewhere_listed : (b e j : ℕ) → Stands G d b e j → is_listed G d b ≡ true
  unfolding is_listed taken
  somewhere_listed b e j s = any_at _ (slots_in_all G) (slot_count * e + j) (stands_place b e j s) (eq-eqb _ _ (stands_listed b e j s))
