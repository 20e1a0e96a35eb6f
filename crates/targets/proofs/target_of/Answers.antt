-- The three cases of the definition, each with the numbers that the callees read out of the FCB.
use mathlib.Core.Path.{◌≡◌, sym, ap, ◌∙◌}
use Prim.Native.Nat.{ℕ, ◌+◌, ◌/◌, ◌%◌}
use Rattle.fields.specs.Target.{extent_random, record_random, cr_after_random, extent_past, record_past, extent_within, record_within, cr_after_sequential}
use Rattle.format.specs.Fcb.{cr_of}
use Rattle.targets.proofs.target_of.Goals as goal

pub returns-then-is_random : goal.returns-then-is_random
returns-then-is_random c =
    let n = c.args.number in
    let fcb = c.args.fcb.now in
    let random = sym c.if-is_random.ensures in
    let at = ap (λ (r : ℕ). r % 128) c.random_of-r.ensures.0 ∙ sym (record_random n fcb random) in
    record {
      extent = ap (λ (r : ℕ). r / 128) c.random_of-r.ensures.0 ∙ sym (extent_random n fcb random);
      at = at;
      after = at ∙ sym (cr_after_random n fcb random);
    }

pub returns-then-cr-eq-EXTENT_RECORDS : goal.returns-then-cr-eq-EXTENT_RECORDS
returns-then-cr-eq-EXTENT_RECORDS c =
    let n = c.args.number in
    let fcb = c.args.fcb.now in
    let s = sym c.if-is_random.ensures in
    let past : cr_of fcb ≡ 128 = sym c.from-cr.ensures ∙ c.if-cr-eq-EXTENT_RECORDS.true in
    record {
      extent = ap (λ (x : ℕ). x + 1) c.extent-extent.ensures.0 ∙ sym (extent_past n fcb s past);
      at = sym (record_past n fcb s past);
      after = sym (cr_after_sequential n fcb s ∙ ap (λ (x : ℕ). x + 1) (record_past n fcb s past));
    }

pub returns : goal.returns
returns c =
    let n = c.args.number in
    let fcb = c.args.fcb.now in
    let s = sym c.if-is_random.ensures in
    let cr = c.from-cr.ensures in
    let within : cr_of fcb ≡ 128 → ⊥ = λ q. c.if-cr-eq-EXTENT_RECORDS.false (cr ∙ q) in
    record {
      extent = c.extent-extent.ensures.0 ∙ sym (extent_within n fcb s within);
      at = cr ∙ sym (record_within n fcb s within);
      after = ap (λ (x : ℕ). x + 1) (cr ∙ sym (record_within n fcb s within)) ∙ sym (cr_after_sequential n fcb s);
    }
