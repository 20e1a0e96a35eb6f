-- What it says that the word can be read.
use Rattle.std.specs.Prelude.{◌≡◌, ◌≤◌, length, is_some}
use Rattle.std.proofs.Math.Path.{ap}
use Rattle.std.proofs.Math.Bool.{true, not}
use borrow.Author.Tests.{eqb-true, eq-eqb, ltb-false, le-ltb, not-true}
use Rattle.lists.specs.Tests.{and_left, and_right, and_both}
use Rattle.format.specs.Diskette.{Bytes, Geometry, record_bytes}
use Rattle.format.specs.Entries.{entry_at}
use Rattle.facts.specs.Found.{is_found_law}
use Rattle.facts.specs.Naming.{file_named}
use Rattle.consistency.specs.Naming.{file_found}
use Rattle.demands.specs.Runs.{Disk}
use Rattle.stored.specs.Closed.{Sane, seen_on, First, Stored}
use Rattle.stored.specs.Looking.{entry_name}
use Rattle.stored.specs.Told.{stored_is, stored_bytes}
use Rattle.stored.proofs.Told.{is_stored_law}
use Rattle.picking.specs.declared.Wanted.{Wanted}
use Rattle.picking.specs.declared.Time.{Time}
use Rattle.picking.specs.Picker.{fcb_of_rule, last_day}
use Rattle.once.specs.Calls.{Timed}
use Rattle.once.specs.Logs.{first_at_law}
use Rattle.once.specs.Picks.{has_word}
use Rattle.once.specs.Right.{timed_of, sane_of, parameters_of, disk_of_law}
use Rattle.once.specs.Table.{name_is, extent_at, bytes_are}

-- ---- a file whose extent 0 is there, as facts and as tests
module _ (G : Geometry) (d : Disk) (sane : Sane G d) (name : Bytes) (first : First G (seen_on G d) d.session.user (fcb_of_rule name)) where
  pub first_named : name_is name ≡ true
  first_named =
      entry_name G d sane (fcb_of_rule name) first.entry first.low (file_named G d.session.user (fcb_of_rule name) 1 0 (entry_at G d.drive.image first.entry) first.file)

  pub first_found : is_some (extent_at G d name 0) ≡ true
  unfolding extent_at
  first_found =
      ap is_some (file_found G (entry_at G d.drive.image) d.session.user sane.range.user (fcb_of_rule name) 1 0 first.entry first.low first.file
      sane.good.inv.dir)

-- ---- what it says that the word can be read
pub record CanRead (G : Geometry) (t : Time) (w : Wanted) (d : Disk) (buffer : Bytes) : Type 0 where
  pub day : w.day ≤ last_day
  pub timed : Timed t
  pub sane : Sane G d
  pub first : First G (seen_on G d) d.session.user (fcb_of_rule w.book)
  pub long : length buffer ≡ record_bytes
  pub stored : Stored G (seen_on G d) d.session.user (fcb_of_rule w.book) w.day (bytes_are G d w.book w.day)

module _ {G : Geometry} (t : Time) (w : Wanted) (d : Disk) (buffer : Bytes) where
  pub can_read : has_word G t w d buffer ≡ true → CanRead G t w d buffer
  unfolding has_word
  can_read h =
      let a = and_right _ _ h in
      let b = and_right _ _ a in
      let c = and_right _ _ b in
      let e = and_right _ _ c in
      let f = and_right _ _ e in
      let at = is_found_law (extent_at G d w.book 0) (and_left _ _ e) in
      record {
        day = ltb-false last_day w.day (not-true _ (and_left _ _ h));
        timed = timed_of G d t (and_left _ _ a);
        sane = sane_of G d t (and_left _ _ a) (and_left _ _ b);
        first = first_at_law G d w.book at.place at.is;
        long = eqb-true _ _ (and_left _ _ f);
        stored = is_stored_law G (seen_on G d) d.session.user (fcb_of_rule w.book) w.day (and_right _ _ f);
      }

  pub read_can : (v : Bytes) → w.day ≤ last_day → Timed t → Sane G d → First G (seen_on G d) d.session.user (fcb_of_rule w.book) → length buffer ≡ record_bytes
      → Stored G (seen_on G d) d.session.user (fcb_of_rule w.book) w.day v → (has_word G t w d buffer ≡ true) × (bytes_are G d w.book w.day ≡ v)
  unfolding has_word
  read_can v day timed sane first long k = (
    and_both _ _ (ap not (le-ltb last_day w.day day)) (and_both _ _ (parameters_of G d t sane timed) (and_both _ _ (disk_of_law G d t sane)
        (and_both _ _ (first_named G d sane w.book first) (and_both _ _ (first_found G d sane w.book first) (and_both _ _ (eq-eqb _ _ long)
        (stored_is G (seen_on G d) d.session.user (fcb_of_rule w.book) w.day v sane.good.inv.dir sane.range.user k)))))),
    stored_bytes G (seen_on G d) d.session.user (fcb_of_rule w.book) w.day v sane.good.inv.dir sane.range.user k,
  )
