-- A map after one change, note by note.
use Rattle.std.specs.Prelude.{◌≡◌, ℕ, ◌+◌, ◌≤◌, ◌<◌, length}
use Rattle.std.proofs.Common.{length-set, get_or-set_same, get_or-set_other}
use Rattle.std.proofs.Math.Seq.{set_out}
use Rattle.lists.specs.Tab.{Filled, filled_more, filled_changed}
use Rattle.format.specs.Diskette.{Bytes}
use Rattle.format.specs.Notes.{note_at_rule, with_note}

pub length_note : (map : Bytes) (b n : ℕ) → length (with_note map b n) ≡ length map
unfolding with_note
length_note map b n = length-set map b n

pub note_same : (map : Bytes) (b n : ℕ) → b < length map → note_at_rule (with_note map b n) b ≡ n
unfolding with_note
note_same map b n h = get_or-set_same map b n 0 h

pub note_other : (map : Bytes) (b n c : ℕ) → (c ≡ b → ⊥) → note_at_rule (with_note map b n) c ≡ note_at_rule map c
unfolding with_note
note_other map b n c h = get_or-set_other map b c n 0 h

-- a change past the last block is none
pub note_out : (map : Bytes) (b n : ℕ) → length map ≤ b → with_note map b n ≡ map
unfolding with_note
note_out map b n h = set_out map b n h

-- ---- a loop that changes every note: a turn, where the new note goes by the block, or by the block and the old note
pub filled_note : (f : ℕ → ℕ) (old : Bytes) (b : ℕ) (map after : Bytes) (v : ℕ) → after ≡ with_note map b v → b < length map → v ≡ f b
    → Filled f old b map → Filled f old (b + 1) after
unfolding with_note
filled_note f old b map after v q h e u = rw q (filled_more f old b map v h e u)

pub changed_note : (g : ℕ → ℕ → ℕ) (old : Bytes) (b : ℕ) (map after : Bytes) (v : ℕ) → after ≡ with_note map b v → b < length map → v ≡ g b (note_at_rule map b)
    → Filled (λ (k : ℕ). g k (note_at_rule old k)) old b map → Filled (λ (k : ℕ). g k (note_at_rule old k)) old (b + 1) after
unfolding with_note
changed_note g old b map after v q h e u = rw q (filled_changed g old b map v h e u)
