-- Call 33 through a fresh FCB: it is accepted exactly where the record is stored, and gives the bytes that are stored.
use Rattle.std.specs.Prelude.{◌≡◌, true, ℕ, ◌<◌, length, is_some}
use Rattle.std.proofs.Math.Path.{refl, ap, sym}
use Rattle.std.proofs.Common.{◌∙◌, subst, arith}
use Rattle.lists.specs.Cases.{bool_ext}
use Rattle.format.specs.Diskette.{Bytes, Geometry, Sound, record_bytes, record_at}
use Rattle.format.specs.Entries.{entry_at}
use Rattle.facts.specs.Found.{at_once, is_found_law}
use Rattle.model.specs.declared.Asked.{Asked}
use Rattle.model.specs.declared.Plan.{Plan}
use Rattle.model.specs.declared.Kind.TheVariants.{Read}
use Rattle.model.specs.Kinds.{kind_of, is_call, is_random_rule}
use Rattle.model.specs.Lent.{Lent, Outcome}
use Rattle.model.specs.Closing.{closed_image}
use Rattle.model.specs.Target.{target_record, block_there, plan, place_in, moved, have_read}
use Rattle.model.specs.Calls.{read_at, reading, read}
use Rattle.model.specs.Table.{time_right_rule}
use Rattle.table.specs.Own.{calling}
use Rattle.table.specs.Facts.{Reads}
use Rattle.table.specs.Accept.{own_at, reads_right}
use Rattle.table.specs.Present.{make_block}
use Rattle.table.specs.Plans.{There, Planned, stay, move, make, planned_read}
use Rattle.table.specs.Protection.{unchanged_spared}
use Rattle.demands.specs.Runs.{Request, Disk, outcome_of, accepts}
use Rattle.demands.specs.Reading.{at_record_rule}
use Rattle.stored.specs.Closed.{asks, seen_on, Stored, Fresh}
use Rattle.stored.specs.Kept.{stored_small}
use Rattle.stored.specs.Told.{block_in, extent_entry, is_stored, bytes_stored, stored_is, stored_bytes, stored_found}
use Rattle.stored.proofs.Told.{is_stored_law}
use Rattle.stored.specs.Meeting.{met_extent, met_record, met_present, met_entry, met_block, met_there}
use Rattle.stored.specs.Quiet.{passed_accepts, carried, carried_is, fresh_record, fresh_ready, fresh_unmoved}

module _ {G : Geometry} (S : Sound G) (a : Asked) (d : Disk) (f : Bytes) (e : ℕ) (k : Fresh G d f e) (r : ℕ) (buffer : Bytes) where
  abbrev user : ℕ
  user = d.session.user

  abbrev q : Request
  q = asks a 33 (at_record_rule f r) buffer

  abbrev l : Lent
  l = record { drive = d.drive; fcb = at_record_rule f r; buffer = buffer }

  is_read : kind_of 33 ≡ Read
  unfolding kind_of
  is_read = refl

  -- ---- an accepted read
  module _ (small : r < 16777216) where
    -- the block that is met is the stored record's
    met_place : (b : ℕ) → block_there G 33 user l ≡ b → record_at G d.drive.image (place_in G b (target_record 33 l.fcb)) ≡ bytes_stored G (seen_on G d) user f r
    unfolding bytes_stored is_random_rule
    met_place b h =
        ap (λ (x : ℕ). record_at G d.drive.image (place_in G x (target_record 33 l.fcb))) (sym h ∙ met_block S 33 refl d f e k r small buffer)
        ∙ ap (λ (x : ℕ). record_at G d.drive.image (place_in G (block_in G (entry_at G d.drive.image) r (extent_entry G (seen_on G d) user f r)) x))
        (met_record S 33 refl d f e k r small buffer)

    got_plan : (p : Plan) → Planned G 33 user l (There G 33 user l) p → (reading G d.session l 33 p).lent.buffer ≡ bytes_stored G (seen_on G d) user f r
    unfolding read_at have_read moved closed_image is_random_rule
    got_plan p (stay x b at y z w) = met_place b w.is
    got_plan p (move x t b at y z w) =
        rw (at_once x e (sym at ∙ met_present S 33 refl d f e k r small buffer), (fresh_record G d f e k r).same) (met_place b w.is)
    got_plan p (make x t b at y none room w) = absurd (w.real (sym w.is ∙ make_block G 33 user l x at none))

    module _ (accepted : accepts G d q ≡ true) where
      reads : Reads G l d.session 33
      reads = own_at G (calling 33 a) l d.session (carried G d q accepted).facts is_read

      accepted_is : is_stored G (seen_on G d) user f r ≡ true
      unfolding is_random_rule
      accepted_is = sym (met_there S 33 refl d f e k r small buffer) ∙ reads.there

      pub accepted_bytes : (outcome_of G d (asks a 33 (at_record_rule f r) buffer)).lent.buffer ≡ bytes_stored G (seen_on G d) d.session.user f r
      unfolding read
      accepted_bytes =
          ap (λ (o : Outcome). o.lent.buffer) (carried_is G d q accepted Read is_read) ∙ got_plan (plan G 33 user l) (planned_read G 33 l d.session reads)

  -- ---- a record that is stored
  module _ (there : is_stored G (seen_on G d) user f r ≡ true) (time : time_right_rule a ≡ true) (hb : length buffer ≡ record_bytes) where
    below : r < 262144
    below = stored_small G (seen_on G d) k.sane.good.inv user k.sane.range.user f r _ (is_stored_law G (seen_on G d) user f r there)

    small : r < 16777216
    small = omega (arith, below)

    can_read : Reads G l d.session 33
    unfolding is_random_rule
    can_read = record {
      entry = record { place = e; is = met_present S 33 refl d f e k r small buffer };
      target = is_found_law _ (ap is_some (met_entry S 33 refl d f e k r small buffer) ∙ stored_found G (seen_on G d) user f r there);
      extent = rw (met_extent S 33 refl d f e k r small buffer) (omega (arith, below));
      there = met_there S 33 refl d f e k r small buffer ∙ there;
    }

    stored_passes : accepts G d q ≡ true
    unfolding is_call kind_of time_right_rule
    stored_passes =
        passed_accepts G d q refl (fresh_ready G d (at_record_rule f r) e (fresh_record G d f e k r) (calling 33 a) time buffer hb)
        (unchanged_spared G (calling 33 a) l d.session refl (fresh_unmoved G d (at_record_rule f r) e (fresh_record G d f e k r) (calling 33 a) buffer))
        (reads_right G a l d.session can_read)

  -- ---- both, as tests
  module _ (small : r < 16777216) (time : time_right_rule a ≡ true) (hb : length buffer ≡ record_bytes) where
    pub read_accepted : accepts G d (asks a 33 (at_record_rule f r) buffer) ≡ is_stored G (seen_on G d) d.session.user f r
    read_accepted = bool_ext _ _ (λ x. accepted_is small x) (λ t. stored_passes t time hb)

    pub read_gives : is_stored G (seen_on G d) d.session.user f r ≡ true
        → (outcome_of G d (asks a 33 (at_record_rule f r) buffer)).lent.buffer ≡ bytes_stored G (seen_on G d) d.session.user f r
    read_gives t = accepted_bytes small (stored_passes t time hb)

  -- ---- and as facts: a closed record is read
  module _ (v : Bytes) (h : Stored G (seen_on G d) user f r v) (time : time_right_rule a ≡ true) (hb : length buffer ≡ record_bytes) where
    there_is : is_stored G (seen_on G d) user f r ≡ true
    there_is = stored_is G (seen_on G d) user f r v k.sane.good.inv.dir k.sane.range.user h

    pub stored_accepted : accepts G d (asks a 33 (at_record_rule f r) buffer) ≡ true
    stored_accepted = stored_passes there_is time hb

    pub stored_read : (outcome_of G d (asks a 33 (at_record_rule f r) buffer)).lent.buffer ≡ v
    stored_read =
        accepted_bytes (small there_is time hb) stored_accepted ∙ stored_bytes G (seen_on G d) user f r v k.sane.good.inv.dir k.sane.range.user h

  -- and an accepted read gives a closed record
  pub accepted_stored : r < 16777216 → accepts G d (asks a 33 (at_record_rule f r) buffer) ≡ true
      → Stored G (seen_on G d) d.session.user f r (outcome_of G d (asks a 33 (at_record_rule f r) buffer)).lent.buffer
  accepted_stored small x =
      subst (Stored G (seen_on G d) user f r) (sym (accepted_bytes small x)) (is_stored_law G (seen_on G d) user f r (accepted_is small x))
