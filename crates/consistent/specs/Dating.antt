-- The date entries, met in a pass over the directory: so far those of the first k records, each in the fourth position, and no other. So the
-- next one has to stand in record k; and at the end either none was met, or one in each record.
use Rattle.std.specs.Prelude.{◌≡◌, refl, Bool, true, false, ℕ, ◌+◌, ◌*◌, ◌/◌, ◌%◌, ◌≤◌, ◌<◌, eqb, ltb}
use Rattle.std.proofs.Common.{ap, sym, ◌∙◌, arith, below_more, eqb-true, eq-eqb, ne_eqb, lt-ltb, le-ltb}
use Rattle.lists.specs.Cases.{split, lt_or_le, eq_or_ne, refute, not_both}
use Rattle.lists.specs.Tests.{◌and◌, and_left, and_right, and_both, and_fails_left, and_fails_right}
use Rattle.lists.specs.Below.{all_below, all_at, all_intro}
use Rattle.format.specs.Diskette.{Geometry, Sound, entries_per_record}
use Rattle.format.specs.Entries.{Rows}
use Rattle.format.specs.Dates.{is_dates, is_fourth, dated}
use Rattle.format.specs.Consistent.{dates_placed}
use Rattle.consistency.specs.Reflect.{placed_elim, placed_intro}

-- of the first n entries
pub record Dating (d : Rows) (n k : ℕ) : Type 0 where
  pub places : (e : ℕ) → e < n → is_dates (d e) ≡ (is_fourth e and ltb (e / entries_per_record) k)
  pub low : entries_per_record * k ≤ n

-- the entry at which the next date entry has to stand
abbrev pub next_dates : ℕ → ℕ
next_dates k = entries_per_record * k + 3

next_fourth : (k : ℕ) → is_fourth (next_dates k) ≡ true
next_fourth k = eq-eqb (next_dates k % entries_per_record) 3 (omega arith)

module _ (d : Rows) where
  -- ---- from entry to entry
  pub dating_start : Dating d 0 0
  dating_start = record { places = λ e h. absurd (omega arith); low = omega arith }

  pub dating_skip : (n k : ℕ) → is_dates (d n) ≡ false → Dating d n k → Dating d (n + 1) k
  dating_skip n k h t =
      let l = t.low in
      record {
        places = below_more _ n t.places (h ∙ sym (and_fails_right _ _ (le-ltb (n / entries_per_record) k (omega arith))));
        low = omega arith;
      }

  pub dating_take : (n k : ℕ) → is_dates (d n) ≡ true → n ≡ next_dates k → Dating d n k → Dating d (n + 1) (k + 1)
  dating_take n k h q t = record {
    places = below_more _ n (λ e l. t.places e l ∙ split (lt_or_le (e / entries_per_record) k)
        (λ w. ap (λ (b : Bool). is_fourth e and b) (lt-ltb _ _ w ∙ sym (lt-ltb (e / entries_per_record) (k + 1) (omega arith))))
        (λ w. let no = ne_eqb (e % entries_per_record) 3 (λ z. omega arith) in and_fails_left _ _ no ∙ sym (and_fails_left _ _ no)))
        (h ∙ sym (and_both _ _ (eq-eqb (n % entries_per_record) 3 (omega arith)) (lt-ltb (n / entries_per_record) (k + 1) (omega arith))));
    low = omega arith;
  }

-- ---- whether all date entries stand where they have to
module _ {G : Geometry} (S : Sound G) (d : Rows) where
  -- where there are any, none may be left out
  no_gap : (n k : ℕ) → all_below (dates_placed d) G.entries ≡ true → dated d ≡ true → Dating d n k → next_dates k < n → next_dates k < G.entries → ⊥
  no_gap n k a y t l h =
      not_both (is_dates (d (next_dates k))) (placed_elim d (next_dates k) (all_at _ G.entries a (next_dates k) h) ∙ and_both _ _ (next_fourth k) y)
      (t.places (next_dates k) l ∙ and_fails_right _ _ (le-ltb (next_dates k / entries_per_record) k (omega arith)))

  pub dating_wrong : (n k : ℕ) → n < G.entries → is_dates (d n) ≡ true → (n ≡ next_dates k → ⊥) → Dating d n k → all_below (dates_placed d) G.entries ≡ false
  dating_wrong n k h i q t =
      sym (refute _ (λ a.
      let both = sym (placed_elim d n (all_at _ G.entries a n h)) ∙ i in
      let f : n % entries_per_record ≡ 3 = eqb-true _ _ (and_left _ _ both) in
      let l = t.low in
      split (lt_or_le (next_dates k) n) (λ w. no_gap n k a (and_right _ _ both) t w (omega arith)) (λ w. q (omega arith))))

  pub dating_none : Dating d G.entries 0 → all_below (dates_placed d) G.entries ≡ true
  dating_none t =
      let no : (e : ℕ) → e < G.entries → is_dates (d e) ≡ false = λ e h. t.places e h ∙ and_fails_right _ _ (le-ltb (e / entries_per_record) 0 (omega arith)) in
      all_intro _ G.entries (λ e h. placed_intro d e (no e h ∙ sym (and_fails_right _ _ (no 3 (omega (arith, S.fours, S.some_entry))))))

  -- some were met: there have to be as many as records
  pub dating_end : (k : ℕ) → (k ≡ 0 → ⊥) → Dating d G.entries k → all_below (dates_placed d) G.entries ≡ eqb k (G.entries / entries_per_record)
  dating_end k some t =
      let l = t.low in let fours = S.fours in let entries = S.some_entry in
      let y : dated d ≡ true = t.places 3 (omega arith) ∙ and_both _ _ refl (lt-ltb 0 k (omega arith)) in
      split (eq_or_ne k (G.entries / entries_per_record))
      (λ q. all_intro _ G.entries (λ e h. placed_intro d e (t.places e h ∙ ap (λ (b : Bool). is_fourth e and b) (lt-ltb (e / entries_per_record) k (omega arith) ∙ sym y))) ∙ sym (eq-eqb _ _ q))
      (λ q. sym (refute _ (λ a. no_gap G.entries k a y t (omega arith) (omega arith))) ∙ sym (ne_eqb _ _ q))
