-- The demands speak of something: an erased disk is accepted by the log-in, with any map, FCB, buffer and session that fit.
use Rattle.std.specs.Prelude.{◌≡◌, refl, true, ℕ, length}
use Rattle.std.proofs.Common.{ap, ◌∙◌}
use Rattle.format.specs.Diskette.{Geometry, Sound, record_bytes}
use Rattle.format.specs.Fcb.{fcb_bytes}
use Rattle.model.specs.Table.{time_right_rule, verdict}
use Rattle.fields.specs.Erased.{ErasedDisk, erased_consistent}
use Rattle.table.specs.Own.{calling}
use Rattle.model.specs.Kinds.{kind_of, is_call}
use Rattle.table.specs.Protection.{other_spared}
use Rattle.table.specs.Facts.{Fits}
use Rattle.table.specs.Reflect.{login_ready}
use Rattle.table.proofs.Accept.{passes}
use Rattle.table.specs.Total.{InRange}
use Rattle.table.proofs.Total.{total_accepted}
use Rattle.table.proofs.Accepted.{carried_says}
use Rattle.demands.specs.Runs.{Request, Disk, lent_to, outcome_of, accepts}

pub erased_accepted : {G : Geometry} (S : Sound G) (d : Disk) (q : Request) → ErasedDisk G d.drive.image → length d.drive.map ≡ G.blocks → InRange G d.session
    → q.asked.number ≡ 13 → time_right_rule q.asked ≡ true → length q.fcb ≡ fcb_bytes → length q.buffer ≡ record_bytes → accepts G d q ≡ true
unfolding outcome_of is_call kind_of
erased_accepted {G} S d q erased map range n time fcb buffer =
    carried_says G q.asked (lent_to d q) d.session
    (total_accepted G q.asked (lent_to d q) d.session
    (ap (λ (k : ℕ). verdict G (calling k q.asked) (lent_to d q) d.session) n
    ∙ passes G (calling 13 q.asked) (lent_to d q) d.session refl
    (login_ready G q.asked (lent_to d q) d.session fits time (erased_consistent G d.drive.image erased S))
    (other_spared G (calling 13 q.asked) (lent_to d q) d.session refl) tt))
  where
    fits : Fits G (lent_to d q) d.session
    fits = record {
      image_long = erased.long;
      map_long = map;
      fcb_long = fcb;
      buffer_long = buffer;
      user_low = range.user;
      place_low = range.place;
    }
