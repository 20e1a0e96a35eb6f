-- The numbers of notes: a pending note tells its entry and slot, and is no other kind of note.
use Rattle.std.specs.Prelude.{◌≡◌, true, false, ℕ, ◌≤◌, ◌<◌, length}
use Rattle.std.proofs.Common.{sym, ◌∙◌, arith, le-leb, leb-true}
use Rattle.std.proofs.Math.ListN.{get_or-eq_default}
use Rattle.std.proofs.lemmas.Bool.{lt-leb}
use Rattle.lists.specs.Cases.{split, lt_or_le}
use Rattle.format.specs.Diskette.{Bytes}
use Rattle.format.specs.Notes.{free_note, pending_for, is_pending, pending_entry, pending_slot, note_at_rule}

pub pending_low : (e j : ℕ) → 16 ≤ pending_for e j
unfolding pending_for
pending_low e j = omega arith

pub pending_is : (e j : ℕ) → is_pending (pending_for e j) ≡ true
unfolding is_pending
pending_is e j = le-leb 16 (pending_for e j) (pending_low e j)

pub pending_entry_law : (e j : ℕ) → j < 16 → pending_entry (pending_for e j) ≡ e
unfolding pending_for pending_entry
pending_entry_law e j h = omega arith

pub pending_once : (e j f k : ℕ) → j < 16 → k < 16 → pending_for e j ≡ pending_for f k → (e ≡ f) × (j ≡ k)
unfolding pending_for
pending_once e j f k h l q = (omega arith, omega arith)

pub pending_slot_law : (e j : ℕ) → j < 16 → pending_slot (pending_for e j) ≡ j
unfolding pending_for pending_slot
pending_slot_law e j h = omega arith

-- a pending note is that of its entry and slot
pub pending_back : (n : ℕ) → is_pending n ≡ true → n ≡ pending_for (pending_entry n) (pending_slot n)
unfolding pending_for pending_entry pending_slot is_pending
pending_back n t = omega (arith, leb-true 16 n t)

-- the other notes are not pending, and differ from those that are
pub settled_not : (n : ℕ) → n < 16 → is_pending n ≡ false
unfolding is_pending
settled_not n h = lt-leb 16 n h

pub pending_not : (n : ℕ) → n < 16 → (e j : ℕ) → pending_for e j ≡ n → ⊥
pending_not n h e j q = omega (arith, pending_low e j)

-- only blocks have pending notes
pub pending_block : (map : Bytes) (b e j : ℕ) → note_at_rule map b ≡ pending_for e j → b < length map
pending_block map b e j q =
    split (lt_or_le b (length map)) (λ h. h) (λ h. absurd (pending_not free_note (omega arith) e j (sym q ∙ get_or-eq_default map 0 h)))
