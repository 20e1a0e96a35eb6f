-- Document 01: "A call names the session user's files that its FCB's name gives or matches, 23 by both names; calls that don't use
-- the FCB name none." A call with an FCB of a wrong length names nothing.
use Rattle.std.specs.Prelude.{Bool, false, ℕ, eqb, length}
use Rattle.lists.specs.Tests.{◌and◌, ◌or◌}
use Rattle.format.specs.Diskette.{Bytes}
use Rattle.format.specs.Entries.{named}
use Rattle.format.specs.Fcb.{fcb_bytes}
use Rattle.model.specs.declared.Kind.TheVariants.{Rename}
use Rattle.model.specs.Kinds.{uses_fcb_rule, wild, kind_of, same}

-- the row is of a file that call n names, with this FCB, for this user
unfoldable pub names : ℕ → ℕ → Bytes → Bytes → Bool
names n user fcb row =
    eqb (length fcb) fcb_bytes and uses_fcb_rule n and (named (wild n) user fcb 1 row or (same (kind_of n) Rename and named false user fcb 17 row))
