-- The effects of a change, by what it does to rows, notes and records: named entries change, an empty entry becomes theirs, a record is
-- written; and when what is pending for others stays so.
use Rattle.std.specs.Prelude.{◌≡◌, ◌⊎◌, true, false, ℕ, ◌<◌}
use Rattle.std.proofs.Common.{ap, sym, ◌∙◌, inl, inr, arith}
use Rattle.lists.specs.Cases.{split, bool_cases, eq_or_ne, not_both}
use Rattle.format.specs.Diskette.{Geometry, slot_count}
use Rattle.format.specs.Entries.{empty, used}
use Rattle.format.specs.Notes.{free_note, pending_for}
use Rattle.consistency.specs.Reflect.{used_full, empty_elsewhere}
use Rattle.notes.specs.Numbers.{pending_once, pending_not}
use Rattle.effects.specs.View.{View, Right, Names, NewRow}
use Rattle.effects.specs.Effect.{Effect, Keeps, NoneNew, NamesStay, AsideStay, RecsStay, recs_on}

-- ---- rows
-- no empty entry is named
abbrev pub NamesUsed : Geometry → View → Names → Type 0
NamesUsed G s N = (e : ℕ) → e < G.entries → N (s.rows e) ≡ true → used (s.rows e) ≡ true

-- named entries change: those of a close, a delete, a rename
pub named_none : (G : Geometry) (s t : View) (N : Names) → NamesUsed G s N → ((e : ℕ) → e < G.entries → N (s.rows e) ≡ false → t.rows e ≡ s.rows e) → NoneNew G s t
named_none G s t N sure kept e l z =
    kept e l (split (bool_cases (N (s.rows e))) (λ y. not_both (empty (s.rows e)) z (used_full (s.rows e) (sure e l y))) (λ y. y))

pub named_aside : (G : Geometry) (s t : View) (N : Names) → NamesUsed G s N → ((e : ℕ) → e < G.entries → N (s.rows e) ≡ false → t.rows e ≡ s.rows e) → AsideStay G s t
named_aside G s t N sure kept e l u z =
    kept e l (split (bool_cases (N (s.rows e))) (λ y. not_both (used (s.rows e)) (sure e l y) u) (λ y. y))

-- an empty entry changes
pub made_aside : (G : Geometry) (s t : View) (e : ℕ) → empty (s.rows e) ≡ true → ((k : ℕ) → k < G.entries → (k ≡ e → ⊥) → t.rows k ≡ s.rows k) → AsideStay G s t
made_aside G s t e void there k l u z = there k l (λ q. not_both (empty (s.rows k)) (ap (λ (x : ℕ). empty (s.rows x)) q ∙ void) z)

module _ (G : Geometry) (s t : View) (N : Names) (v : Right G s) (recs : RecsStay G s t) where
  -- one entry
  module _ (e : ℕ) (there : (k : ℕ) → k < G.entries → (k ≡ e → ⊥) → t.rows k ≡ s.rows k) where
    -- an empty entry becomes a row that is named
    module _ (void : empty (s.rows e) ≡ true) (nm : N (t.rows e) ≡ true) where
      pub made_effect : Effect G s t N
      made_effect = record {
        row = λ k f. there k f.low (λ q. empty_elsewhere s.rows e k void f.uses (sym q));
        new = λ k l z. split (eq_or_ne k e) (λ q. inr (ap (λ (x : ℕ). N (t.rows x)) q ∙ nm)) (λ q. inl (there k l q));
        one_new = λ k f a b. made_here k a ∙ sym (made_here f b);
        dat = λ b k f l m g. recs_on G s v b k f l m t recs;
      }
        where
          made_here : (k : ℕ) → NewRow G s.rows t.rows k → k ≡ e
          made_here k a = split (eq_or_ne k e) (λ q. q) (λ q. absurd (a.changed (there k a.low q)))

      pub made_stay : NamesStay G s t N
      made_stay k l h = split (eq_or_ne k e) (λ q. ap (λ (x : ℕ). N (t.rows x)) q ∙ nm) (λ q. ap N (there k l q) ∙ h)

-- ---- records
-- every row stays
abbrev pub RowsStay : Geometry → View → View → Type 0
RowsStay G s t = (e : ℕ) → e < G.entries → t.rows e ≡ s.rows e

pub rows_names_stay : (G : Geometry) (s t : View) (N : Names) → RowsStay G s t → NamesStay G s t N
rows_names_stay G s t N rows e l h = ap N (rows e l) ∙ h

-- ---- notes
-- a note that changes was not pending for an entry of others
pub keeps_by : (G : Geometry) (s t : View) (N : Names)
    → ((b : ℕ) → b < G.blocks → (t.notes b ≡ s.notes b) ⊎ ((e j : ℕ) → j < slot_count → s.notes b ≡ pending_for e j → N (s.rows e) ≡ true))
    → Keeps G s t N
unfolding Keeps
keeps_by G s t N h b e j l i f q =
    split (h b l) (λ y. y ∙ q) (λ y. not_both (N (s.rows e)) (y e j i q) f.other)

-- it was pending for the one entry e, which is named
pub held_named : (s : View) (N : Names) (b e j : ℕ) → j < slot_count → N (s.rows e) ≡ true → s.notes b ≡ pending_for e j
    → (f k : ℕ) → k < slot_count → s.notes b ≡ pending_for f k → N (s.rows f) ≡ true
held_named s N b e j l nm q f k m p = rw (pending_once f k e j m l (sym p ∙ q)).0 nm

-- a free block is taken
pub take_keeps : (G : Geometry) (s t : View) (N : Names) (b : ℕ) → s.notes b ≡ free_note
    → ((c : ℕ) → c < G.blocks → (c ≡ b → ⊥) → t.notes c ≡ s.notes c) → Keeps G s t N
take_keeps G s t N b z q =
    keeps_by G s t N
    (λ c l. split (eq_or_ne c b)
    (λ y. inr (λ e j i p. absurd (pending_not free_note (omega arith) e j (sym p ∙ ap s.notes y ∙ z)))) (λ y. inl (q c l y)))
