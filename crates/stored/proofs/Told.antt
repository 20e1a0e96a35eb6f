-- A record that is told to be there is a closed record.
use Rattle.std.specs.Prelude.{◌≡◌, true, ℕ}
use Rattle.std.proofs.Math.Path.{refl}
use Rattle.format.specs.Diskette.{Bytes, Geometry}
use Rattle.effects.specs.View.{View}
use Rattle.stored.specs.Closed.{Stored}
use Rattle.stored.specs.Told.{extent_entry, is_stored, bytes_stored, stored_by_law}

module _ (G : Geometry) (s : View) (user : ℕ) (f : Bytes) (r : ℕ) where
  pub is_stored_law : is_stored G s user f r ≡ true → Stored G s user f r (bytes_stored G s user f r)
  unfolding is_stored bytes_stored
  is_stored_law t = stored_by_law G s user f r (extent_entry G s user f r) refl t
