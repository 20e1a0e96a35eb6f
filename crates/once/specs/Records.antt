-- The picker's record calls, 33 and 34 through an FCB that has nothing to close: what they answer, in words of the directory.
use Rattle.std.specs.Prelude.{◌≡◌, false, cond, not, ℕ, ◌≤◌, ◌<◌, eqb, ltb, length, Some, is_some}
use Rattle.std.proofs.Math.Path.{refl}
use Rattle.std.proofs.Common.{◌∙◌, arith, le-ltb}
use Rattle.lists.specs.Tests.{◌and◌, ◌or◌}
use Rattle.format.specs.Diskette.{Bytes, Geometry, Sound, record_bytes, last_record}
use Rattle.format.specs.Entries.{entry_at}
use Rattle.format.specs.Fcb.{random_of_rule}
use Rattle.model.specs.Kinds.{kind_of, is_call, is_random_rule}
use Rattle.model.specs.Lent.{protected}
use Rattle.model.specs.Table.{time_right_rule}
use Rattle.model.specs.Target.{read_only_in}
use Rattle.table.specs.Protection.{lifted_spared, unchanged_spared}
use Rattle.demands.specs.Runs.{Disk}
use Rattle.demands.specs.Reading.{at_record_rule, random_at_record}
use Rattle.stored.specs.Closed.{Fresh, seen_on}
use Rattle.stored.specs.Quiet.{fresh_record, fresh_ready, fresh_unmoved}
use Rattle.stored.specs.Told.{block_in, extent_entry, is_stored}
use Rattle.stored.specs.Meeting.{met_present, met_entry, met_block, met_there, met_locked}
use Rattle.picking.specs.declared.Time.{Time}
use Rattle.picking.specs.Picker.{asking, reading}
use Rattle.once.specs.Calls.{Timed}
use Rattle.once.specs.Deciding.{answered, answered_own}
use Rattle.once.specs.Table.{some_empty, some_free}

module _ {A : Type 0} (went : A) (not_so : ℕ → ℕ → A) {G : Geometry} (S : Sound G) (d : Disk) (f : Bytes) (e : ℕ) (k : Fresh G d f e) (t : Time) (timed : Timed t)
    (r : ℕ) (low : r ≤ last_record) (buffer : Bytes) (hb : length buffer ≡ record_bytes) where
  small : r < 16777216
  small = omega arith

  not_past : ltb last_record (random_of_rule (at_record_rule f r)) ≡ false
  not_past = rw (random_at_record f r k.long small) (le-ltb last_record r low)

  -- 33
  pub read_by : answered went not_so G d (reading t f r buffer)
      ≡ cond (not (is_some (extent_entry G (seen_on G d) d.session.user f r))) (not_so 4 0)
      (cond (not (is_stored G (seen_on G d) d.session.user f r)) (not_so 1 0) went)
  unfolding is_call kind_of is_random_rule time_right_rule
  read_by =
      answered_own went not_so G d (reading t f r buffer) refl
      (fresh_ready G d (at_record_rule f r) e (fresh_record G d f e k r) (reading t f r buffer).asked timed buffer hb)
      (unchanged_spared G _ _ _ refl (fresh_unmoved G d (at_record_rule f r) e (fresh_record G d f e k r) (reading t f r buffer).asked buffer))
      ∙ rw (
        not_past,
        met_present S 33 refl d f e k r small buffer,
        met_entry S 33 refl d f e k r small buffer,
        met_there S 33 refl d f e k r small buffer,
      )

  -- 34, on a session that is not protected
  pub write_by : protected d.session ≡ false → answered went not_so G d (asking t 34 (at_record_rule f r) buffer)
      ≡ cond (read_only_in (entry_at G d.drive.image) (Some e)
      or read_only_in (entry_at G d.drive.image) (extent_entry G (seen_on G d) d.session.user f r)) (not_so 255 3)
      (cond (not (is_some (extent_entry G (seen_on G d) d.session.user f r)) and not (some_empty G d)) (not_so 5 0)
      (cond (eqb (block_in G (entry_at G d.drive.image) r (extent_entry G (seen_on G d) d.session.user f r)) 0 and not (some_free G d)) (not_so 2 0) went))
  unfolding is_call kind_of is_random_rule time_right_rule
  write_by p =
      answered_own went not_so G d (asking t 34 (at_record_rule f r) buffer) refl
      (fresh_ready G d (at_record_rule f r) e (fresh_record G d f e k r) (asking t 34 (at_record_rule f r) buffer).asked timed buffer hb)
      (lifted_spared G _ _ _ p)
      ∙ rw (
        not_past,
        met_present S 34 refl d f e k r small buffer,
        met_locked S 34 refl d f e k r small buffer,
        met_entry S 34 refl d f e k r small buffer,
        met_block S 34 refl d f e k r small buffer,
      )
