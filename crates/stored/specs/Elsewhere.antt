-- A file that gained a record: to every other file it is the effect of a call that names the file, so their closed records stay.
use Rattle.std.specs.Prelude.{◌≡◌, ℕ, ◌/◌, ◌%◌, ◌≤◌}
use Rattle.std.proofs.Common.{ap, ◌∙◌, arith, mod-lt}
use Rattle.std.proofs.Math.Path.{sym}
use Rattle.std.proofs.Math.Logic.{inl, inr}
use Rattle.lists.specs.Cases.{split, eq_or_ne, not_both}
use Rattle.format.specs.Diskette.{Bytes, Geometry, Sound, disk_record, extent_records}
use Rattle.format.specs.Entries.{slot_of, empty, used}
use Rattle.facts.specs.Naming.{file_named}
use Rattle.facts.specs.Slots.{slot_for_low}
use Rattle.disk.specs.Places.{block_once, block_record}
use Rattle.rows.specs.Entries.{block_past}
use Rattle.consistency.specs.Naming.{file_used}
use Rattle.consistency.specs.Reflect.{used_full, used_no_dates, empty_no_dates}
use Rattle.model.specs.Target.{place_in}
use Rattle.effects.specs.View.{View, Right, NewRow, Mine, listed, mine_one, mine_low, mine_high, mine_not_free}
use Rattle.effects.specs.Effect.{Effect, Foreign}
use Rattle.effects.specs.Closed.{by_name}
use Rattle.stored.specs.Grown.{Grown, slot_at_record}

module _ {G : Geometry} (S : Sound G) (s t : View) (right : Right G s) (user : ℕ) (hu : user ≤ 15) (f : Bytes) (n : ℕ) (v : Bytes) (g : Grown G s t user f n v) where
  -- an entry of another file is not the one that changed
  elsewhere : (e : ℕ) → Foreign G s (by_name user f) e → e ≡ g.entry → ⊥
  elsewhere e x q =
      split g.was
      (λ w. not_both (by_name user f (s.rows e)) (ap (λ (k : ℕ). by_name user f (s.rows k)) q ∙ ap (by_name user f) w.0 ∙ file_named G user f 1 (n / extent_records) g.base w.1) x.other)
      (λ w. not_both (empty (s.rows e)) (ap (λ (k : ℕ). empty (s.rows k)) q ∙ w.0) (used_full (s.rows e) x.uses))

  changed_here : (e : ℕ) → NewRow G s.rows t.rows e → e ≡ g.entry
  changed_here e x = split (eq_or_ne e g.entry) (λ q. q) (λ q. absurd (x.changed (g.others e x.low (empty_no_dates (s.rows e) x.was) q)))

  -- a block of another file is not the record's
  other_block : (b e : ℕ) → Mine G s b e → Foreign G s (by_name user f) e → b ≡ g.block → ⊥
  other_block b e m x q =
      split g.origin (λ z. mine_not_free G s right b e m (ap s.notes q ∙ z))
      (λ z. split g.was
      (λ w. elsewhere e x (mine_one G s right b e g.entry m (listed (slot_at_record G n)
      record {
        entry = g.low;
        place = slot_for_low S (n / extent_records) (n % extent_records) (omega arith);
        uses = ap used w.0 ∙ file_used G user f 1 (n / extent_records) g.base w.1 hu;
        is = ap (λ (r : Bytes). slot_of G r (slot_at_record G n)) w.0 ∙ z ∙ sym q;
        real = λ y. let p = g.past in let b0 : g.block ≡ 0 = sym q ∙ y in omega (arith, S.area_some);
      })))
      (λ w. let p = g.past in let b0 : g.block ≡ 0 = sym z ∙ w.1 (slot_at_record G n) in omega (arith, S.area_some)))

  pub grown_effect : Effect G s t (by_name user f)
  unfolding place_in
  grown_effect = record {
    row = λ e x. g.others e x.low (used_no_dates (s.rows e) x.uses) (elsewhere e x);
    new = λ e l z. split (eq_or_ne e g.entry)
        (λ q. inr (ap (λ (k : ℕ). by_name user f (t.rows k)) q ∙ file_named G user f 1 (n / extent_records) (t.rows g.entry) g.file))
        (λ q. inl (g.others e l (empty_no_dates (s.rows e) z) q));
    one_new = λ e k x y. changed_here e x ∙ sym (changed_here k y);
    dat = λ b k e l m x. g.recs (disk_record G b k) (block_past G b k (mine_low G s right b e m)) (block_record G b k (mine_high G s right b e m) l)
        (λ q. other_block b e m x (block_once G b k g.block (n % extent_records % G.per_block) l (mod-lt (n % extent_records) S.some_record) q).0);
  }
