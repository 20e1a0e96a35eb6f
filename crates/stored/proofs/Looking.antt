-- Opening a file and reading a record of it, by the calls, tell what its entries say.
use Rattle.std.specs.Prelude.{◌≡◌, true, ℕ, ◌<◌, length}
use Rattle.std.proofs.Common.{sym, subst}
use Rattle.lists.specs.Splice.{length_copies}
use Rattle.format.specs.Diskette.{Bytes, Geometry, Sound, record_bytes}
use Rattle.model.specs.declared.Asked.{Asked}
use Rattle.model.specs.Table.{time_right_rule}
use Rattle.demands.specs.Runs.{Disk, outcome_of, accepts}
use Rattle.demands.specs.Reading.{at_record_rule}
use Rattle.stored.specs.Closed.{asks, Sane, seen_on, Begins, First, Stored, Access, Restamped}
use Rattle.stored.specs.Kept.{stored_name}
use Rattle.stored.proofs.Restamped.{stored_restamped, stored_before}
use Rattle.stored.proofs.Reading.{stored_accepted, stored_read, accepted_stored}
use Rattle.stored.specs.Looking.{open_accepted, Opening, opening_of, opened_disk, opened_fcb, opened_restamped, blank_buffer, ReadsAs}

-- ---- 33 after the open
module _ {G : Geometry} (S : Sound G) (a : Asked) (d : Disk) (f : Bytes) (begins : Begins f) (b : Bytes) (x : accepts G d (asks a 15 f b) ≡ true) where
  o : Opening G a d f b
  o = opening_of S a d f begins b x

  abbrev user : ℕ
  user = d.session.user

  abbrev t : Disk
  t = opened_disk G a d f b

  abbrev g : Bytes
  g = opened_fcb G a d f b

  restamped : Restamped G (Access G a d f) d t
  restamped = opened_restamped S a d f b

  to_opened : (r : ℕ) (v : Bytes) → Stored G (seen_on G d) user f r v → Stored G (seen_on G t) t.session.user g r v
  to_opened r v k =
      subst (λ (u : ℕ). Stored G (seen_on G t) u g r v) (sym restamped.user)
      (stored_name G (seen_on G t) user f g o.same r v (stored_restamped S _ d t o.sane restamped user o.sane.range.user f r v k))

  from_opened : (r : ℕ) (v : Bytes) → Stored G (seen_on G t) t.session.user g r v → Stored G (seen_on G d) user f r v
  from_opened r v k =
      stored_before S _ d t o.sane restamped user o.sane.range.user f r v
      (stored_name G (seen_on G t) user g f (λ i l. sym (o.same i l)) r v (subst (λ (u : ℕ). Stored G (seen_on G t) u g r v) restamped.user k))

  module _ (r : ℕ) (buffer : Bytes) where
    -- a closed record is read, and is what was stored
    module _ (v : Bytes) (k : Stored G (seen_on G d) user f r v) (hb : length buffer ≡ record_bytes) where
      pub look_accepted : accepts G t (asks a 33 (at_record_rule g r) buffer) ≡ true
      look_accepted = stored_accepted S a t g o.at.entry o.at.fresh r buffer v (to_opened r v k) o.time hb

      pub look_gives : (outcome_of G t (asks a 33 (at_record_rule g r) buffer)).lent.buffer ≡ v
      look_gives = stored_read S a t g o.at.entry o.at.fresh r buffer v (to_opened r v k) o.time hb

    -- what is read was stored
    pub look_stored : r < 16777216 → accepts G t (asks a 33 (at_record_rule g r) buffer) ≡ true
        → Stored G (seen_on G d) user f r (outcome_of G t (asks a 33 (at_record_rule g r) buffer)).lent.buffer
    look_stored small y =
        from_opened r (outcome_of G t (asks a 33 (at_record_rule g r) buffer)).lent.buffer
        (accepted_stored S a t g o.at.entry o.at.fresh r buffer small y)

-- ---- both ways, as one: record r of the file that f names, through a fresh open of extent 0, is v
module _ {G : Geometry} (S : Sound G) (a : Asked) (d : Disk) (f : Bytes) (begins : Begins f) (r : ℕ) (v : Bytes) where
  pub reads_as : Sane G d → time_right_rule a ≡ true → First G (seen_on G d) d.session.user f → Stored G (seen_on G d) d.session.user f r v → ReadsAs G a d f r v
  reads_as sane time first k =
      let hb = length_copies record_bytes 0 in
      let x = open_accepted G d sane f begins a time blank_buffer hb first in
      record {
        opens = x;
        reads = look_accepted S a d f begins blank_buffer x r blank_buffer v k hb;
        gives = look_gives S a d f begins blank_buffer x r blank_buffer v k hb;
      }

  pub as_stored : r < 16777216 → ReadsAs G a d f r v → Stored G (seen_on G d) d.session.user f r v
  as_stored small k =
      subst (Stored G (seen_on G d) d.session.user f r) k.gives (look_stored S a d f begins blank_buffer k.opens r blank_buffer small k.reads)
