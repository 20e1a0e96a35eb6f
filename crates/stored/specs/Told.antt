-- The closed records of a file as tests: whether one is there, and its bytes, by the entry of its extent.
use Rattle.std.specs.Prelude.{◌≡◌, Bool, true, ℕ, ◌/◌, ◌%◌, ◌≤◌, eqb, ltb, None, Option, Some, is_some}
use Rattle.std.proofs.Math.Path.{refl, ap}
use Rattle.std.proofs.Common.{sym, ◌∙◌}
use Rattle.std.proofs.Math.Bool.{not}
use borrow.Author.Tests.{ltb-true, lt-ltb, ne_eqb, eqb-false, not-true}
use Rattle.lists.specs.Cases.{clash}
use Rattle.lists.specs.Tests.{◌and◌, and_left, and_right, and_both}
use Rattle.format.specs.Diskette.{Bytes, Geometry, extent_records}
use Rattle.format.specs.Entries.{Rows, slot_of, slot_for_rule, count_in, is_file_rule, find_file_rule}
use Rattle.facts.specs.Found.{find_cong}
use Rattle.facts.specs.Find.{file_says}
use Rattle.consistency.specs.Facts.{Consistent}
use Rattle.consistency.specs.Naming.{file_found}
use Rattle.model.specs.Target.{place_in}
use Rattle.fields.specs.Agree.{SameName, is_file_asked}
use Rattle.effects.specs.View.{View}
use Rattle.stored.specs.Closed.{Stored}

module _ (G : Geometry) (d : Rows) (r : ℕ) where
  -- the block that the entry has for record r, 0 being none, and the records of its extent that the entry counts
  abbrev pub block_in : Option ℕ → ℕ
  block_in (Some e) = slot_of G (d e) (slot_for_rule G (r / extent_records) (r % extent_records))
  block_in None = 0

  abbrev pub counted_in : Option ℕ → ℕ
  counted_in (Some e) = count_in (d e) (r / extent_records)
  counted_in None = 0

  -- the record is there: it is counted, and has a block
  abbrev pub stored_by : Option ℕ → Bool
  stored_by x = ltb (r % extent_records) (counted_in x) and not (eqb (block_in x) 0)

module _ (G : Geometry) (s : View) (user : ℕ) (f : Bytes) (r : ℕ) where
  -- the entry of the record's extent
  unfoldable pub extent_entry : Option ℕ
  extent_entry = find_file_rule G s.rows user f 1 (r / extent_records)

  unfoldable pub is_stored : Bool
  is_stored = stored_by G s.rows r extent_entry

  abbrev bytes_by : Option ℕ → Bytes
  bytes_by x = s.recs (place_in G (block_in G s.rows r x) (r % extent_records))

  unfoldable pub bytes_stored : Bytes
  bytes_stored = bytes_by extent_entry

  -- ---- the tests and the record, both ways
  module _ (v : Bytes) (c : Consistent G s.rows) (hu : user ≤ 15) (h : Stored G s user f r v) where
    entry_is : extent_entry ≡ Some h.entry
    unfolding extent_entry
    entry_is = file_found G s.rows user hu f 1 (r / extent_records) h.entry h.low h.file c

    pub stored_is : is_stored ≡ true
    unfolding is_stored
    stored_is = ap (stored_by G s.rows r) entry_is ∙ and_both _ _ (lt-ltb _ _ h.counted) (ap not (ne_eqb _ _ h.real))

    pub stored_bytes : bytes_stored ≡ v
    unfolding bytes_stored
    stored_bytes = ap bytes_by entry_is ∙ h.dat

  pub stored_by_law : (x : Option ℕ) → extent_entry ≡ x → stored_by G s.rows r x ≡ true → Stored G s user f r (bytes_by x)
  unfolding extent_entry
  stored_by_law (Some e) q t =
      let k = file_says G s.rows user f 1 (r / extent_records) e q in
      record {
        entry = e;
        low = k.below;
        file = k.holds;
        counted = ltb-true _ _ (and_left _ _ t);
        real = eqb-false _ _ (not-true _ (and_right _ _ t));
        dat = refl;
      }
  stored_by_law None q t = clash (sym (and_right _ _ t))

  -- a record that is there has an entry for its extent
  found_by : (x : Option ℕ) → stored_by G s.rows r x ≡ true → is_some x ≡ true
  found_by (Some e) t = refl
  found_by None t = clash (sym (and_right _ _ t))

  pub stored_found : is_stored ≡ true → is_some extent_entry ≡ true
  unfolding is_stored
  stored_found t = found_by extent_entry t

-- ---- an FCB of the same name is told the same
module _ (G : Geometry) (s : View) (user : ℕ) (f g : Bytes) (same : SameName g 1 f 1) (r : ℕ) where
  pub entry_named : extent_entry G s user g r ≡ extent_entry G s user f r
  unfolding extent_entry find_file_rule
  entry_named =
      find_cong G.entries (λ (e : ℕ). is_file_rule G user g 1 (r / extent_records) (s.rows e)) (λ (e : ℕ). is_file_rule G user f 1 (r / extent_records) (s.rows e))
      (λ e b. is_file_asked g 1 f 1 same G user (r / extent_records) (s.rows e))

  pub told_named : is_stored G s user g r ≡ is_stored G s user f r
  unfolding is_stored
  told_named = ap (stored_by G s.rows r) entry_named

  pub bytes_named : bytes_stored G s user g r ≡ bytes_stored G s user f r
  unfolding bytes_stored
  bytes_named = ap (λ (x : Option ℕ). s.recs (place_in G (block_in G s.rows r x) (r % extent_records))) entry_named
