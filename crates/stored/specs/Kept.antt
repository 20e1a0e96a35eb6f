-- Closed records of a file: they go by its name alone, and a call that names other files leaves them.
use Rattle.std.specs.Prelude.{◌≡◌, refl, true, false}
use Rattle.std.proofs.Math.Path.{ap, subst}
use Rattle.std.proofs.Common.{sym, ◌∙◌, arith, mod-lt}
use Prim.Native.Nat.{ℕ, ◌/◌, ◌%◌, ◌≤◌, ◌<◌}
use Rattle.format.specs.Diskette.{Bytes, Geometry, Sound, extent_records}
use Rattle.format.specs.Entries.{slot_of, slot_for_rule, extent_of, is_file_rule, named, count_in}
use Rattle.facts.specs.Naming.{run_s2, file_named, file_run}
use Rattle.facts.specs.Slots.{slot_for_low}
use Rattle.consistency.specs.Naming.{file_used}
use Rattle.consistency.specs.Reflect.{numbers_intro}
use Rattle.model.specs.Target.{place_in}
use Rattle.fields.specs.Agree.{SameName, is_file_asked}
use Rattle.table.specs.Present.{numbers_extent}
use Rattle.effects.specs.View.{View, Right, Names, listed}
use Rattle.effects.specs.Effect.{Effect, Foreign}
use Rattle.stored.specs.Closed.{First, Stored}

-- an FCB of the same name tells the same
module _ (G : Geometry) (s : View) (user : ℕ) (f g : Bytes) (same : SameName g 1 f 1) where
  pub stored_name : (r : ℕ) (v : Bytes) → Stored G s user f r v → Stored G s user g r v
  stored_name r v h = record {
    entry = h.entry;
    low = h.low;
    file = is_file_asked g 1 f 1 same G user (r / extent_records) (s.rows h.entry) ∙ h.file;
    counted = h.counted;
    real = h.real;
    dat = h.dat;
  }

-- a closed record is at most the last of the last extent
pub stored_small : (G : Geometry) (s : View) → Right G s → (user : ℕ) → user ≤ 15 → (f : Bytes) (r : ℕ) (v : Bytes) → Stored G s user f r v → r < 262144
stored_small G s right user hu f r v h =
    let row : Bytes = s.rows h.entry in
    let run = run_s2 G (extent_of row) (r / extent_records) (file_run G user f 1 (r / extent_records) row h.file) in
    let fine = right.dir.fine h.entry h.low (file_used G user f 1 (r / extent_records) row h.file hu) in
    omega (arith, numbers_extent row (numbers_intro row fine.numbers))

-- ---- a call that does not name the file
module _ {G : Geometry} (S : Sound G) (s t : View) (N : Names) (user : ℕ) (hu : user ≤ 15) (f : Bytes) (w : Effect G s t N)
    (other : (r : Bytes) → named false user f 1 r ≡ true → N r ≡ false) where
  file_foreign : (e ext : ℕ) → e < G.entries → is_file_rule G user f 1 ext (s.rows e) ≡ true → Foreign G s N e
  file_foreign e ext low file = record {
    low = low;
    uses = file_used G user f 1 ext (s.rows e) file hu;
    other = other (s.rows e) (file_named G user f 1 ext (s.rows e) file);
  }

  pub file_kept : (e ext : ℕ) → e < G.entries → is_file_rule G user f 1 ext (s.rows e) ≡ true → is_file_rule G user f 1 ext (t.rows e) ≡ true
  file_kept e ext low file = ap (is_file_rule G user f 1 ext) (w.row e (file_foreign e ext low file)) ∙ file

  pub first_kept : First G s user f → First G t user f
  first_kept h = record { entry = h.entry; low = h.low; file = file_kept h.entry 0 h.low h.file }

  pub stored_kept : (r : ℕ) (v : Bytes) → Stored G s user f r v → Stored G t user f r v
  unfolding place_in
  stored_kept r v h =
      let o = file_foreign h.entry (r / extent_records) h.low h.file in
      let row : t.rows h.entry ≡ s.rows h.entry = w.row h.entry o in
      let j : ℕ = slot_for_rule G (r / extent_records) (r % extent_records) in
      let b : ℕ = slot_of G (s.rows h.entry) j in
      record {
        entry = h.entry;
        low = h.low;
        file = file_kept h.entry (r / extent_records) h.low h.file;
        counted = subst (λ (x : Bytes). r % extent_records < count_in x (r / extent_records)) (sym row) h.counted;
        real = subst (λ (x : Bytes). slot_of G x (slot_for_rule G (r / extent_records) (r % extent_records)) ≡ 0 → ⊥) (sym row) h.real;
        dat = ap (λ (x : Bytes). t.recs (place_in G (slot_of G x (slot_for_rule G (r / extent_records) (r % extent_records))) (r % extent_records))) row
            ∙ w.dat b (r % extent_records % G.per_block) h.entry (mod-lt (r % extent_records) S.some_record)
            (listed j record {
              entry = h.low;
              place = slot_for_low S (r / extent_records) (r % extent_records) (omega arith);
              uses = o.uses;
              is = refl;
              real = h.real;
            }) o
            ∙ h.dat;
      }
