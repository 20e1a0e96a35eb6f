-- An entry past the last is not used; of another, byte 0 of its row tells its user.
use Rattle.std.specs.Prelude.{Some}
use mathlib.Core.Bool.{Bool, true}
use mathlib.Core.Path.{◌≡◌, sym, ap, ◌∙◌}
use Prim.Native.Nat.{ℕ, ◌%◌}
use native.Mathlib.Omega.{arith}
use lib.Dec.{ltb}
use borrow.Author.Tests.{lt-ltb, le-ltb}
use Rattle.lists.specs.Tests.{◌and◌, and_then, and_first, and_fails_left}
use Rattle.format.specs.Diskette.{Bytes, eight_inch, slots_on}
use Rattle.format.specs.Entries.{entry_at, used}
use Rattle.format.specs.Notes.{held_for_rule, held_by_used_rule, pending_slot}
use Rattle.notes.specs.Holder.{holder_of}
use Rattle.notes.specs.Held.{holder_low, held_at, held_none}
use Rattle.maps.proofs.held_by_used.Goals as goal

-- the test of the entry; every slot number that a note can hold is one of the sixteen
abbrev usedIn : Bytes → ℕ → ℕ → Bool
usedIn image n e = ltb e eight_inch.entries and used (entry_at eight_inch image e) and ltb (pending_slot n) (slots_on eight_inch)

slot_low : (n : ℕ) → ltb (pending_slot n) (slots_on eight_inch) ≡ true
unfolding pending_slot slots_on
slot_low n = lt-ltb (n % 16) 16 (omega arith)

pub returns-in_default : goal.returns-in_default
unfolding held_by_used_rule held_for_rule
returns-in_default c =
    let s = c in
    sym (held_none eight_inch s.args.n (usedIn s.args.image.now s.args.n) (λ e h. and_fails_left _ _ (le-ltb _ _ h))
    (sym c.holder.ensures ∙ c.in_default.is))

pub returns : goal.returns
unfolding held_by_used_rule held_for_rule used
returns c =
    let e = c.in-Some.e in
    let n = c.args.n in
    let known : holder_of eight_inch n ≡ Some e = sym c.holder.ensures ∙ c.in-Some.is in
    let within = lt-ltb _ _ (holder_low eight_inch n e known) in
    ap used c.row.ensures.0
    ∙ sym (held_at eight_inch n (usedIn c.args.image.now n) e known ∙ and_then _ _ within ∙ and_first _ _ (slot_low n))
