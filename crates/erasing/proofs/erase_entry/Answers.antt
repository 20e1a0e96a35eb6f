-- The row decides. One byte of it changes, in its place in the image.
use mathlib.Core.Path.{◌≡◌, sym, ap, ◌∙◌}
use mathlib.Core.Bool.{true, false}
use Prim.Native.Nat.{ℕ}
use lib.ListN.{set}
use Rattle.format.specs.Diskette.{eight_inch}
use Rattle.format.specs.Entries.{entry_at, named}
use Rattle.model.specs.Calls.{changed_row}
use Rattle.disk.specs.Eight.{eight_sound}
use Rattle.fields.specs.Changing.{erased_in_place}
use Rattle.erasing.proofs.erase_entry.Goals as goal

pub returns-then-not-is_named : goal.returns-then-not-is_named
unfolding changed_row
returns-then-not-is_named c =
    let s = c in
    let z : c.is_named.result ≡ false = c.if-not-is_named.true in
    let f : named true s.args.user s.args.fcb.now 1 (entry_at eight_inch s.args.image.now s.args.e) ≡ false = rw (c.is_named.ensures, c.row-r.ensures.0) at z in
    record { image = rw f; notes = rw f; told = rw f }

pub returns : goal.returns
unfolding changed_row
returns c =
    let u = c in
    let s = u in
    let z : u.is_named.result ≡ true = u.if-not-is_named.false in
    let t : named true s.args.user s.args.fcb.now 1 (entry_at eight_inch s.args.image.now s.args.e) ≡ true = rw (u.is_named.ensures, u.row-r.ensures.0) at z in
    let m = s.args.image.now in
    record {
      image = rw t (ap (λ (k : ℕ). set m k 229) c.entry_place-at.ensures.0
          ∙ sym (erased_in_place eight_sound m s.requires.0 s.args.e s.requires.2));
      notes = rw (t, ← u.row-r.ensures.0, ← c.slots.ensures) c.free_slots.ensures;
      told = rw t;
    }
