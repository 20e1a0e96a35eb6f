-- A log that gained one record, seen from an earlier disk: before stamps that were put, and before the log was made.
use Rattle.std.specs.Prelude.{◌≡◌, ◌⊎◌, true, false, ℕ, ◌/◌, ◌≤◌, ◌<◌}
use Rattle.std.proofs.Common.{ap, sym, ◌∙◌, inl, inr, arith}
use Rattle.lists.specs.Cases.{split, eq_or_ne, not_both}
use Rattle.format.specs.Diskette.{Bytes, Geometry, Sound, extent_records}
use Rattle.format.specs.Entries.{entry_at, slot_of, is_file_rule, named, empty, end_of}
use Rattle.format.specs.Dates.{is_dates}
use Rattle.format.specs.Notes.{note_at_rule}
use Rattle.facts.specs.Naming.{file_named}
use Rattle.consistency.specs.Naming.{file_used, file_found}
use Rattle.consistency.specs.Reflect.{used_full, used_no_dates}
use Rattle.model.specs.Stamps.{Stamp}
use Rattle.demands.specs.Runs.{Request, Disk, outcome_of, left}
use Rattle.stored.specs.Closed.{Sane, seen_on, Restamped}
use Rattle.stored.specs.Restamped.{row_restamped, recs_restamped, dates_restamped, empty_restamped}
use Rattle.stored.specs.Accepting.{MadeAt}
use Rattle.stored.specs.Grown.{Grown, grown_before, grown_file}

-- ---- before stamps that were put
module _ {G : Geometry} (S : Sound G) (P : Stamp → Type 0) (d m : Disk) (sane : Sane G d) (w : Restamped G P d m) (t : Disk)
    (f : Bytes) (r : ℕ) (v : Bytes) (g : Grown G (seen_on G m) (seen_on G t) d.session.user f r v) where
  abbrev rows : ℕ → Bytes
  rows = entry_at G d.drive.image

  plain_row : (e : ℕ) → e < G.entries → is_dates (entry_at G m.drive.image e) ≡ false → entry_at G m.drive.image e ≡ rows e
  plain_row e low h = row_restamped S P d m sane w e low (sym (dates_restamped S P d m sane w e low) ∙ h)

  was : ((rows g.entry ≡ g.base) × (is_file_rule G d.session.user f 1 (r / extent_records) g.base ≡ true))
      ⊎ ((empty (rows g.entry) ≡ true) × ((j : ℕ) → slot_of G g.base j ≡ 0) × (end_of g.base ≤ r))
  was =
      split g.was
      (λ x. inl (
        sym (plain_row g.entry g.low (ap is_dates x.0
            ∙ used_no_dates g.base (file_used G d.session.user f 1 (r / extent_records) g.base x.1 sane.range.user))) ∙ x.0,
        x.1,
      ))
      (λ x. inr (sym (empty_restamped S P d m sane w g.entry g.low) ∙ x.0, x.1, x.2))

  pub grown_restamped : Grown G (seen_on G d) (seen_on G t) d.session.user f r v
  grown_restamped =
      grown_before g was (λ e low h q. plain_row e low h) (dates_restamped S P d m sane w) (λ y. ap (λ (n : Bytes). note_at_rule n y) w.map)
      (recs_restamped S P d m sane w)

-- ---- before the log was made: its only entry is the new one
module _ {G : Geometry} (S : Sound G) (d : Disk) (q : Request) (made : MadeAt G d q) (sane : Sane G d)
    (none : (e : ℕ) → e < G.entries → named false d.session.user q.fcb 1 (entry_at G d.drive.image e) ≡ false)
    (t : Disk) (sane_t : Sane G t) (v : Bytes)
    (g : Grown G (seen_on G (left (outcome_of G d q))) (seen_on G t) d.session.user q.fcb 0 v) where
  abbrev m : Disk
  m = left (outcome_of G d q)

  abbrev user : ℕ
  user = d.session.user

  row_before : (e : ℕ) → e < G.entries → is_dates (entry_at G m.drive.image e) ≡ false → (e ≡ made.entry → ⊥)
      → entry_at G m.drive.image e ≡ entry_at G d.drive.image e
  row_before e low h other = made.others e low (sym (made.dates e low) ∙ h) other

  -- the entry that gained the record is the one that was made
  only_made : g.entry ≡ made.entry
  only_made =
      split (eq_or_ne g.entry made.entry) (λ z. z)
      (λ z. split g.was
      (λ x. let h : named false user q.fcb 1 (entry_at G m.drive.image g.entry) ≡ true =
      ap (named false user q.fcb 1) x.0 ∙ file_named G user q.fcb 1 0 g.base x.1 in
      not_both _ (ap (named false user q.fcb 1) (sym (row_before g.entry g.low (ap is_dates x.0 ∙ used_no_dates g.base
      (file_used G user q.fcb 1 0 g.base x.1 sane.range.user)) z)) ∙ h) (none g.entry g.low))
      (λ x. absurd (z same_entry)))
    where
      -- two entries of one extent are one
      same_entry : g.entry ≡ made.entry
      same_entry =
          let a = file_found G (entry_at G t.drive.image) user sane.range.user q.fcb 1 0 g.entry g.low g.file sane_t.good.inv.dir in
          let b = file_found G (entry_at G t.drive.image) user sane.range.user q.fcb 1 0 made.entry made.low
          (grown_file S (seen_on G m) (seen_on G t) made.fresh.sane.good.inv user sane.range.user q.fcb 0 v g made.entry 0 made.low made.file)
          sane_t.good.inv.dir in
          cc

  base_is : g.base ≡ entry_at G m.drive.image made.entry
  base_is =
      split g.was (λ x. sym x.0 ∙ ap (entry_at G m.drive.image) only_made)
      (λ x. not_both (empty (entry_at G m.drive.image made.entry)) (ap (λ (e : ℕ). empty (entry_at G m.drive.image e)) (sym only_made) ∙ x.0)
      (used_full (entry_at G m.drive.image made.entry)
      (file_used G user q.fcb 1 0 (entry_at G m.drive.image made.entry) made.file sane.range.user)))

  pub grown_made : Grown G (seen_on G d) (seen_on G t) d.session.user q.fcb 0 v
  grown_made =
      grown_before g
      (inr (
        ap (λ (e : ℕ). empty (entry_at G d.drive.image e)) only_made ∙ made.void,
        (λ j. ap (λ (x : Bytes). slot_of G x j) base_is ∙ made.slots j),
        (let z : end_of g.base ≡ 0 = ap end_of base_is ∙ made.end in omega arith),
      ))
      (λ e low h z. row_before e low h (λ y. z (y ∙ sym only_made))) made.dates (λ y. ap (λ (n : Bytes). note_at_rule n y) made.map) made.recs
