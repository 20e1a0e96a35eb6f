-- The entry for which a note is pending.
use Rattle.std.specs.Prelude.{cond, ℕ, None, Option}
use Rattle.format.specs.Diskette.{Geometry}
use Rattle.format.specs.Found.{found_below}
use Rattle.format.specs.Notes.{is_pending, pending_entry}

unfoldable pub holder_of : Geometry → ℕ → Option ℕ
holder_of G n = cond (is_pending n) (found_below G.entries (pending_entry n)) None
