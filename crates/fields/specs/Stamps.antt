-- The image after a stamp: its rows, its records, its bytes and its stamps; and that a date entry stays right.
use Rattle.std.specs.Prelude.{◌≡◌, ◌⊎◌, true}
use Rattle.std.proofs.Common.{sym, ◌∙◌}
use Rattle.std.proofs.Math.Path.{ap}
use Rattle.std.proofs.Math.Logic.{inl, inr}
use Prim.Native.Nat.{ℕ, ◌+◌, ◌-◌, ◌%◌, ◌≤◌, ◌<◌}
use native.Mathlib.Omega.{arith}
use Rattle.std.proofs.Math.ListN.{length, get_or}
use Rattle.lists.specs.Cases.{split, lt_or_le, eq_or_ne}
use Rattle.lists.specs.Tests.{and_left, and_right, and_both}
use Rattle.lists.specs.Below.{all_at, all_intro}
use Rattle.lists.specs.Splice.{part, splice, length_part, length_splice, get_d_part, get_d_splice_in, get_d_splice_at, get_d_splice_out, part_splice_same, part_splice_other}
use Rattle.format.specs.Diskette.{Bytes, Geometry, Sound, record_at, entry_bytes, entries_per_record, Long}
use Rattle.format.specs.Entries.{entry_place_rule, entry_at, with_entry, user_of}
use Rattle.format.specs.Dates.{is_dates, stamp_bytes, bcd, stamp_right, stamp_place, dates_right_rule, fourth_of, stamp_at, with_stamp}
use Rattle.facts.specs.Beside.{fourth_below}
use Rattle.disk.specs.Places.{block_records}
use Rattle.rows.specs.Entries.{area_records, entry_fits_law, length_entry_at, length_with_entry, entry_stored, entry_left, record_kept}

-- four bytes, hour and minute in BCD
pub record StampOk (stamp : Bytes) : Type 0 where
  pub long : length stamp ≡ stamp_bytes
  pub right : stamp_right stamp 0 ≡ true

-- ---- a date entry with a stamp replaced
module _ (r : Bytes) (long : length r ≡ entry_bytes) (k : ℕ) (hk : k < 3) (which : ℕ) (hw : which < 2) (stamp : Bytes) (ok : StampOk stamp) where
  pub stamp_room : stamp_place k which + length stamp ≤ length r
  stamp_room = let q : length stamp ≡ 4 = ok.long in omega arith

  pub length_stamped : length (splice r (stamp_place k which) stamp) ≡ entry_bytes
  length_stamped = length_splice r (stamp_place k which) stamp stamp_room ∙ long

  pub user_stamped : user_of (splice r (stamp_place k which) stamp) ≡ user_of r
  user_stamped = get_d_splice_out r (stamp_place k which) stamp stamp_room 0 (inl (omega arith))

  stamped_in : (i : ℕ) → i < 4 → get_or (splice r (stamp_place k which) stamp) (stamp_place k which + i) 0 ≡ get_or stamp i 0
  stamped_in i h = let q : length stamp ≡ 4 = ok.long in get_d_splice_in r (stamp_place k which) stamp stamp_room i (omega arith)

  -- the places of two stamps
  apart : (j v : ℕ) → j < 3 → v < 2 → ((j ≡ k) × (v ≡ which) → ⊥) → (stamp_place j v + 4 ≤ stamp_place k which) ⊎ (stamp_place k which + 4 ≤ stamp_place j v)
  apart j v hj hv n =
      split (lt_or_le j k) (λ w. inl (omega arith))
      (λ w. split (lt_or_le k j) (λ z. inr (omega arith))
      (λ z. split (lt_or_le v which) (λ y. inl (omega arith))
      (λ y. split (lt_or_le which v) (λ x. inr (omega arith)) (λ x. absurd (n (omega arith, omega arith))))))

  pub stamped_same : part (splice r (stamp_place k which) stamp) (stamp_place k which) stamp_bytes ≡ stamp
  stamped_same =
      ap (part (splice r (stamp_place k which) stamp) (stamp_place k which)) (sym ok.long) ∙ part_splice_same r (stamp_place k which) stamp stamp_room

  pub stamped_other : (j v : ℕ) → j < 3 → v < 2 → ((j ≡ k) × (v ≡ which) → ⊥)
      → part (splice r (stamp_place k which) stamp) (stamp_place j v) stamp_bytes ≡ part r (stamp_place j v) stamp_bytes
  stamped_other j v hj hv n =
      let q : length stamp ≡ 4 = ok.long in
      part_splice_other r (stamp_place k which) stamp stamp_room (stamp_place j v) stamp_bytes (omega arith)
      (split (apart j v hj hv n) (λ w. inl w) (λ w. inr (omega arith)))

  stamped_right : (j v : ℕ) → j < 3 → v < 2 → stamp_right r (stamp_place j v) ≡ true → stamp_right (splice r (stamp_place k which) stamp) (stamp_place j v) ≡ true
  unfolding stamp_right
  stamped_right j v hj hv h =
      split (eq_or_ne (stamp_place j v) (stamp_place k which))
      (λ q. let a : get_or (splice r (stamp_place k which) stamp) (stamp_place j v + 2) 0 ≡ get_or stamp 2 0 =
      ap (λ (x : ℕ). get_or (splice r (stamp_place k which) stamp) (x + 2) 0) q ∙ stamped_in 2 (omega arith) in
      let b : get_or (splice r (stamp_place k which) stamp) (stamp_place j v + 3) 0 ≡ get_or stamp 3 0 =
      ap (λ (x : ℕ). get_or (splice r (stamp_place k which) stamp) (x + 3) 0) q ∙ stamped_in 3 (omega arith) in
      and_both _ _ (ap bcd a ∙ and_left _ _ ok.right) (ap bcd b ∙ and_right _ _ ok.right))
      (λ q. let l : length stamp ≡ 4 = ok.long in
      let out : (i : ℕ) → i < 4 → (stamp_place j v + i < stamp_place k which) ⊎ (stamp_place k which + length stamp ≤ stamp_place j v + i) =
      λ i hi. split (apart j v hj hv (λ p. q (let a : j ≡ k = p.0 in let b : v ≡ which = p.1 in omega arith))) (λ w. inl (omega arith)) (λ w. inr (omega arith)) in
      and_both _ _
      (ap bcd (get_d_splice_out r (stamp_place k which) stamp stamp_room (stamp_place j v + 2) (out 2 (omega arith))) ∙ and_left _ _ h)
      (ap bcd (get_d_splice_out r (stamp_place k which) stamp stamp_room (stamp_place j v + 3) (out 3 (omega arith))) ∙ and_right _ _ h))

  -- it stays right
  pub dates_stamped : dates_right_rule r ≡ true → dates_right_rule (splice r (stamp_place k which) stamp) ≡ true
  unfolding dates_right_rule is_dates
  dates_stamped h =
      let each = all_at _ 3 (and_right _ _ h) in
      and_both _ _ (rw user_stamped (and_left _ _ h))
      (all_intro _ 3 (λ j l. and_both _ _ (stamped_right j 0 l (omega arith) (and_left _ _ (each j l))) (stamped_right j 1 l (omega arith) (and_right _ _ (each j l)))))

-- ---- the image
-- byte i lies in one of the two stamps beside entry e
pub record InStamp (G : Geometry) (e which i : ℕ) : Type 0 where
  pub low : e < G.entries
  pub beside : e % entries_per_record < 3
  pub two : which < 2
  pub from : entry_place_rule G (fourth_of e) + stamp_place (e % entries_per_record) which ≤ i
  pub upto : i < entry_place_rule G (fourth_of e) + stamp_place (e % entries_per_record) which + stamp_bytes

module _ {G : Geometry} (S : Sound G) (img : Bytes) (long : Long G img) (e : ℕ) (below : e < G.entries) (beside : e % entries_per_record < 3)
    (which : ℕ) (two : which < 2) (stamp : Bytes) (ok : StampOk stamp) where
  k : ℕ
  k = e % entries_per_record

  fourth : fourth_of e < G.entries
  fourth = fourth_below S e below

  row_long : length (entry_at G img (fourth_of e)) ≡ entry_bytes
  row_long = length_entry_at S img long (fourth_of e) fourth

  whole : length (splice (entry_at G img (fourth_of e)) (stamp_place k which) stamp) ≡ entry_bytes
  unfolding k
  whole = length_stamped (entry_at G img (fourth_of e)) row_long (e % entries_per_record) beside which two stamp ok

  pub length_with_stamp : length (with_stamp G img e which stamp) ≡ length img
  unfolding with_stamp k
  length_with_stamp = length_with_entry S img long (fourth_of e) fourth _ whole

  pub row_with_stamp : entry_at G (with_stamp G img e which stamp) (fourth_of e) ≡ splice (entry_at G img (fourth_of e)) (stamp_place (e % entries_per_record) which) stamp
  unfolding with_stamp k
  row_with_stamp = entry_stored S img long (fourth_of e) fourth _ whole

  pub row_with_stamp_other : (f : ℕ) → f < G.entries → (fourth_of e ≡ f → ⊥) → entry_at G (with_stamp G img e which stamp) f ≡ entry_at G img f
  unfolding with_stamp k
  row_with_stamp_other f h n = entry_left S img long (fourth_of e) fourth _ whole f h n

  pub record_with_stamp : (d : ℕ) → area_records G ≤ d → d < block_records G → record_at G (with_stamp G img e which stamp) d ≡ record_at G img d
  unfolding with_stamp k
  record_with_stamp d a b = record_kept S img long (fourth_of e) fourth _ whole d a b

  -- the stamp itself, and every other stamp
  pub stamp_same : stamp_at G (with_stamp G img e which stamp) e which ≡ stamp
  unfolding stamp_at
  stamp_same =
      ap (λ (r : Bytes). part r (stamp_place (e % entries_per_record) which) stamp_bytes) row_with_stamp
      ∙ stamped_same (entry_at G img (fourth_of e)) row_long (e % entries_per_record) beside which two stamp ok

  pub stamp_other : (f v : ℕ) → f < G.entries → f % entries_per_record < 3 → v < 2 → ((f ≡ e) × (v ≡ which) → ⊥)
      → stamp_at G (with_stamp G img e which stamp) f v ≡ stamp_at G img f v
  unfolding stamp_at
  stamp_other f v hf hk hv n =
      split (eq_or_ne (fourth_of e) (fourth_of f))
      (λ q. let there : entry_at G (with_stamp G img e which stamp) (fourth_of f) ≡ splice (entry_at G img (fourth_of f)) (stamp_place (e % entries_per_record) which) stamp =
      ap (entry_at G (with_stamp G img e which stamp)) (sym q) ∙ row_with_stamp ∙ ap (λ (x : ℕ). splice (entry_at G img x) (stamp_place (e % entries_per_record) which) stamp) q in
      ap (λ (r : Bytes). part r (stamp_place (f % entries_per_record) v) stamp_bytes) there
      ∙ stamped_other (entry_at G img (fourth_of f)) (length_entry_at S img long (fourth_of f) (fourth_below S f hf)) (e % entries_per_record) beside which two stamp ok
      (f % entries_per_record) v hk hv (λ p. n (let a : f % entries_per_record ≡ e % entries_per_record = p.0 in (omega arith, p.1))))
      (λ q. ap (λ (r : Bytes). part r (stamp_place (f % entries_per_record) v) stamp_bytes) (row_with_stamp_other (fourth_of f) (fourth_below S f hf) q))

  -- no byte outside the stamp changes
  pub stamp_or_same : (i : ℕ) → (get_or (with_stamp G img e which stamp) i 0 ≡ get_or img i 0) ⊎ InStamp G e which i
  unfolding with_stamp k entry_at with_entry
  stamp_or_same i =
      let at : ℕ = entry_place_rule G (fourth_of e) in
      let fits : at + entry_bytes ≤ length img = omega (arith, entry_fits_law S (fourth_of e) fourth) in
      let row : Bytes = splice (part img at entry_bytes) (stamp_place k which) stamp in
      let q : length stamp ≡ 4 = ok.long in
      let w : length row ≡ entry_bytes = whole in
      split (lt_or_le i (at + stamp_place k which))
      (λ h. inl (split (lt_or_le i at) (λ b. get_d_splice_out img at row (omega arith) i (inl b)) (λ b. inner at fits w i b (omega arith) (inl (omega arith)))))
      (λ h. split (lt_or_le i (at + stamp_place k which + stamp_bytes))
      (λ b. inr record { low = below; beside = beside; two = two; from = h; upto = b })
      (λ b. inl (split (lt_or_le i (at + entry_bytes)) (λ c. inner at fits w i (omega arith) c (inr (omega arith)))
      (λ c. get_d_splice_out img at row (omega arith) i (inr (omega arith))))))
    where
      inner : (at : ℕ) → at + entry_bytes ≤ length img → length (splice (part img at entry_bytes) (stamp_place (e % entries_per_record) which) stamp) ≡ entry_bytes
          → (i : ℕ) → at ≤ i → i < at + entry_bytes
          → (i - at < stamp_place (e % entries_per_record) which) ⊎ (stamp_place (e % entries_per_record) which + 4 ≤ i - at)
          → get_or (splice img at (splice (part img at entry_bytes) (stamp_place (e % entries_per_record) which) stamp)) i 0 ≡ get_or img i 0
      inner at fits w i a b o =
          let q : length stamp ≡ 4 = ok.long in
          let p : length (part img at entry_bytes) ≡ entry_bytes = length_part img at entry_bytes fits in
          let z : at + (i - at) ≡ i = omega arith in
          get_d_splice_at img at _ (omega arith) i a (omega arith)
          ∙ get_d_splice_out (part img at entry_bytes) (stamp_place (e % entries_per_record) which) stamp (omega arith) (i - at) (split o (λ x. inl x) (λ x. inr (omega arith)))
          ∙ get_d_part img at entry_bytes fits (i - at) (omega arith) ∙ ap (λ (x : ℕ). get_or img x 0) z
