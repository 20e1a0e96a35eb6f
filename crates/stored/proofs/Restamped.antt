-- A disk that is restamped has the closed records of the one before.
use Rattle.std.specs.Prelude.{refl, ℕ, ◌≤◌}
use Rattle.std.proofs.Common.{sym}
use Rattle.std.proofs.Math.Path.{subst}
use Rattle.format.specs.Diskette.{Bytes, Geometry, Sound}
use Rattle.model.specs.Stamps.{Stamp}
use Rattle.effects.specs.View.{View, view_of}
use Rattle.effects.specs.Effect.{Effect}
use Rattle.effects.specs.Alike.{alike_back}
use Rattle.effects.proofs.Alike.{alike_effect}
use Rattle.demands.specs.Runs.{Disk}
use Rattle.stored.specs.Closed.{Sane, seen_on, Stored, Restamped}
use Rattle.stored.specs.Kept.{stored_kept}
use Rattle.stored.specs.Restamped.{stamped_good, restamped_alike, nobody, on, view_same}

-- ---- a disk and the same disk restamped: closed records, both ways
module _ {G : Geometry} (S : Sound G) (P : Stamp → Type 0) (d t : Disk) (sane : Sane G d) (w : Restamped G P d t) where
  module _ (user : ℕ) (hu : user ≤ 15) (f : Bytes) where
    back : Effect G (view_of G t.drive.image d.drive.map) (seen_on G d) (nobody S P d t sane w user hu f)
    back = alike_effect G t.drive.image d.drive.image (alike_back G d.drive.image t.drive.image (restamped_alike S P d t sane w)) d.drive.map (stamped_good S P d t sane w) (nobody S P d t sane w user hu f)

    module _ (r : ℕ) (v : Bytes) where
      pub stored_restamped : Stored G (seen_on G d) user f r v → Stored G (seen_on G t) user f r v
      unfolding nobody
      stored_restamped h =
          subst (λ (s : View). Stored G s user f r v) (sym (view_same S P d t sane w user hu f))
          (stored_kept S (seen_on G d) (view_of G t.drive.image d.drive.map) (nobody S P d t sane w user hu f) user hu f (on S P d t sane w user hu f) (λ r m. refl) r v h)

      pub stored_before : Stored G (seen_on G t) user f r v → Stored G (seen_on G d) user f r v
      unfolding nobody
      stored_before h =
          stored_kept S (view_of G t.drive.image d.drive.map) (seen_on G d) (nobody S P d t sane w user hu f) user hu f back (λ r m. refl) r v
          (subst (λ (s : View). Stored G s user f r v) (view_same S P d t sane w user hu f) h)
