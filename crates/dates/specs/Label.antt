-- The label, found in a pass over the directory: its entry, where there is one.
use Rattle.std.specs.Prelude.{◌≡◌, Bool, true, false, ℕ, ◌+◌, ◌/◌, ◌%◌, ◌<◌, eqb, get_or, None, Option, Some}
use Rattle.std.proofs.Math.Path.{refl, ap, sym}
use Rattle.std.proofs.Math.Bool.{not}
use native.Mathlib.Omega.{arith}
use Rattle.std.proofs.lemmas.Bool.{not-true}
use Rattle.lists.specs.Cases.{split, bool_ext, lt_or_le, not_both}
use Rattle.lists.specs.Tests.{and_left, and_right, and_both, and_fails_left, and_fails_right, second_fails}
use Rattle.lists.specs.Below.{any_below, any_none, any_at, any_some, any_never, any_empty, any_more}
use Rattle.format.specs.Diskette.{Bytes, Geometry}
use Rattle.format.specs.Entries.{Rows}
use Rattle.format.specs.Dates.{is_label, asks}
use Rattle.format.specs.Consistent.{label_once}

-- what it says of the first n entries
pub record Labelled (d : Rows) (n : ℕ) (b : Option ℕ) : Type 0 where
  pub none : b ≡ None → any_below (λ (f : ℕ). is_label (d f)) n ≡ false
  pub some : (e : ℕ) → b ≡ Some e → (e < n) × (is_label (d e) ≡ true)

no_label : (e : ℕ) → Some e ≡ None → ⊥
no_label e q = let z : ◌≡◌ {A = ℕ} 0 1 = cc in omega arith

module _ (d : Rows) where
  -- ---- from entry to entry
  pub labelled_start : Labelled d 0 None
  labelled_start = record { none = λ q. any_none _; some = λ e q. absurd (no_label e (sym q)) }

  pub labelled_skip : (n : ℕ) (b : Option ℕ) → is_label (d n) ≡ false → Labelled d n b → Labelled d (n + 1) b
  labelled_skip n b h l = record {
    none = λ q. any_more (λ (f : ℕ). is_label (d f)) n (l.none q) h;
    some = λ e q. let s = l.some e q in let w = s.0 in (omega arith, s.1);
  }

  pub labelled_take : (n : ℕ) → is_label (d n) ≡ true → Labelled d (n + 1) (Some n)
  labelled_take n h = record { none = λ q. absurd (no_label n q); some = λ e q. let z : n ≡ e = cc in (omega arith, rw z at h) }

  -- ---- whether a label is the only one so far
  pub plain_once : (e : ℕ) → is_label (d e) ≡ false → label_once d e ≡ true
  unfolding label_once
  plain_once e h = ap not (and_fails_left _ _ h)

  pub first_once : (e : ℕ) → Labelled d e None → label_once d e ≡ true
  unfolding label_once
  first_once e l = ap not (and_fails_right _ _ (l.none refl))

  pub again_fails : (e b : ℕ) → Labelled d e (Some b) → is_label (d e) ≡ true → label_once d e ≡ false
  unfolding label_once
  again_fails e b l h = let s = l.some b refl in ap not (and_both _ _ h (any_at (λ (f : ℕ). is_label (d f)) e b s.0 s.1))

-- ---- what the label asks: for create stamps by bit 4, for update by bit 5, for access by bit 6
abbrev pub asks_bit : ℕ → Bytes → Bool
asks_bit what r = eqb (get_or r 12 0 / what % 2) 1

module _ (G : Geometry) (d : Rows) (what : Bytes → Bool) where
  pub asks_none : Labelled d G.entries None → asks G d what ≡ false
  unfolding asks
  asks_none l = any_empty _ G.entries (λ e h. and_fails_left _ _ (any_never (λ (f : ℕ). is_label (d f)) G.entries (l.none refl) e h))

  module _ (once : (f : ℕ) → f < G.entries → label_once d f ≡ true) where
    -- no label stands before another
    no_two : (e f : ℕ) → f < G.entries → e < f → is_label (d e) ≡ true → is_label (d f) ≡ true → ⊥
    unfolding label_once
    no_two e f h w p q = not_both (is_label (d e)) p (any_never _ f (second_fails _ _ (not-true _ (once f h)) q) e w)

    pub asks_at : (e : ℕ) → Labelled d G.entries (Some e) → asks G d what ≡ what (d e)
    unfolding asks
    asks_at e l =
        let s = l.some e refl in
        bool_ext _ _
        (λ t. let a = any_some _ G.entries t in let p = and_left _ _ a.holds in
        split (lt_or_le e a.place) (λ w. absurd (no_two e a.place a.below w s.1 p))
        (λ w. split (lt_or_le a.place e) (λ v. absurd (no_two a.place e s.0 v p s.1))
        (λ v. let q : a.place ≡ e = omega arith in rw q at (and_right _ _ a.holds))))
        (λ t. any_at _ G.entries e s.0 (and_both _ _ s.1 t))
