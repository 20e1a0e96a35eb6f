-- The part from the entry's place on is the definition; its length is the law's.
use mathlib.Core.Path.{◌≡◌, refl, ap, ◌∙◌}
use Prim.Native.Nat.{ℕ, ◌+◌}
use lib.ListN.{length}
use Rattle.lists.specs.Splice.{part, take_part}
use Rattle.disk.specs.Eight.{eight_sound}
use Rattle.format.specs.Diskette.{eight_inch, entry_bytes}
use Rattle.format.specs.Entries.{entry_at, entry_place_rule}
use Rattle.rows.specs.Entries.{length_entry_at}
use Rattle.rows.proofs.row.Goals as goal

pub returns : goal.returns
unfolding entry_at
returns c =
    let a = c in
    let at = c.entry_place-at.result in
    let q : at ≡ entry_place_rule eight_inch a.args.e = c.entry_place-at.ensures.0 in
    let t = take_part a.args.image.now at (at + entry_bytes) entry_bytes refl ∙ ap (λ (k : ℕ). part a.args.image.now k entry_bytes) q in
    (t, ap length t ∙ length_entry_at eight_sound a.args.image.now a.requires.0 a.args.e a.requires.1)
