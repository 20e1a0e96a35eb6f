-- A file that gained one record: the records that were stored stay.
use Rattle.std.specs.Prelude.{◌≡◌, ℕ, ◌+◌, ◌≤◌, max}
use Rattle.std.proofs.Math.Path.{ap}
use Rattle.std.proofs.Common.{sym, ◌∙◌, arith}
use Rattle.lists.specs.Cases.{split, eq_or_ne, not_both}
use Rattle.format.specs.Diskette.{Bytes, Geometry, Sound}
use Rattle.format.specs.Entries.{slot_of, end_of, empty, used}
use Rattle.consistency.specs.Reflect.{used_full, used_no_dates}
use Rattle.effects.specs.View.{View, Right}
use Rattle.stored.specs.Closed.{Stored}
use Rattle.stored.specs.Grown.{slot_at_record, Grown, uses_r, below_r, stays_by}

module _ {G : Geometry} (S : Sound G) (s t : View) (right : Right G s) (user : ℕ) (hu : user ≤ 15) (f : Bytes) (n : ℕ) (v : Bytes) (g : Grown G s t user f n v) where
  -- ---- a record that was stored stays
  module _ (r : ℕ) (u : Bytes) (h : Stored G s user f r u) (other : r ≡ n → ⊥) where
    pub grown_stays : Stored G t user f r u
    grown_stays =
        split (eq_or_ne h.entry g.entry)
        (λ q. split g.was
        (λ w. let row : s.rows h.entry ≡ g.base = ap s.rows q ∙ w.0 in
        let here : t.rows h.entry ≡ t.rows g.entry = ap t.rows q in
        let at : slot_of G (s.rows h.entry) (slot_at_record G r) ≡ slot_of G g.base (slot_at_record G r) = ap (λ (x : Bytes). slot_of G x (slot_at_record G r)) row in
        let old : end_of (s.rows h.entry) ≡ end_of g.base = ap end_of row in
        let new : end_of (t.rows h.entry) ≡ max (end_of g.base) (n + 1) = ap end_of here ∙ g.end in
        stays_by S s t right user hu f n v g r u h other (ap (λ (x : Bytes). slot_of G x (slot_at_record G r)) here ∙ g.kept (slot_at_record G r) (below_r S s t right user hu f n v g r u h other) (λ z. h.real (at ∙ z)) ∙ sym at) (omega arith))
        (λ w. not_both (empty (s.rows g.entry)) w.0 (used_full (s.rows g.entry) (sym (ap (λ (x : ℕ). used (s.rows x)) q) ∙ (uses_r S s t right user hu f n v g r u h other)))))
        (λ q. let row : t.rows h.entry ≡ s.rows h.entry = g.others h.entry h.low (used_no_dates (s.rows h.entry) (uses_r S s t right user hu f n v g r u h other)) q in
        let end : end_of (t.rows h.entry) ≡ end_of (s.rows h.entry) = ap end_of row in
        stays_by S s t right user hu f n v g r u h other (ap (λ (x : Bytes). slot_of G x (slot_at_record G r)) row) (omega arith))
