-- The part from the record's place on is the definition; its length is the law's.
use mathlib.Core.Path.{◌≡◌, refl, ap, ◌∙◌}
use Prim.Native.Nat.{ℕ, ◌+◌}
use native.Mathlib.Omega.{arith}
use lib.ListN.{length}
use Rattle.lists.specs.Splice.{part, take_part}
use Rattle.format.specs.Diskette.{eight_inch, record_bytes, offset_of, record_at}
use Rattle.disk.specs.Eight.{eight_sound}
use Rattle.disk.specs.Records.{length_record_at}
use Rattle.rows.proofs.four_rows.Goals as goal

pub returns : goal.returns
unfolding record_at
returns c =
    let a = c in
    let at = c.offset-at.result in
    let q : at ≡ offset_of eight_inch a.args.d = c.offset-at.ensures.0 in
    let t = take_part a.args.image.now at (at + record_bytes) record_bytes refl ∙ ap (λ (k : ℕ). part a.args.image.now k record_bytes) q in
    (t, ap length t ∙ length_record_at eight_sound a.args.image.now a.requires.0 a.args.d (omega arith))
