-- Marks, one a number: which numbers were marked from the start, or have been taken by a function so far. A mark is any number but 0:
-- the taken number itself serves, and then 0, which stands for no number, marks nothing.
use Rattle.std.specs.Prelude.{◌≡◌, refl, Bool, true, false, not, List, ℕ, ◌+◌, ◌<◌, eqb, length, get_or, set}
use Rattle.std.proofs.Common.{ap, sym, ◌∙◌, arith, length-set, get_or-set_same, get_or-set_other, eq-eqb, ne_eqb}
use Rattle.std.proofs.lemmas.List.{set-get_or}
use Rattle.lists.specs.Cases.{eq_or_ne, split}
use Rattle.lists.specs.Tests.{◌or◌, or_left, or_right, or_first, or_then}
use Rattle.lists.specs.Below.{any_below, any_next, any_none}

abbrev pub bit : Bool → ℕ
bit true = 1
bit false = 0

pub bit_set : (b : Bool) → not (eqb (bit b) 0) ≡ b
bit_set true = refl
bit_set false = refl

-- f takes the value b below x
unfoldable pub taken : (ℕ → ℕ) → ℕ → ℕ → Bool
taken f x b = any_below (λ (y : ℕ). eqb (f y) b) x

module _ (f : ℕ → ℕ) where
  taken_none : (b : ℕ) → taken f 0 b ≡ false
  unfolding taken
  taken_none b = any_none _

  taken_hit : (x b : ℕ) → f x ≡ b → taken f (x + 1) b ≡ true
  unfolding taken
  taken_hit x b q = any_next _ x ∙ or_right _ _ (eq-eqb (f x) b q)

  taken_miss : (x b : ℕ) → (f x ≡ b → ⊥) → taken f (x + 1) b ≡ taken f x b
  unfolding taken
  taken_miss x b q = any_next _ x ∙ or_first _ _ (ne_eqb (f x) b q)

-- 0 marked as itself is no mark: it changes nothing
pub set_none : (l : List ℕ) (v : ℕ) → v ≡ 0 → get_or l 0 0 ≡ 0 → set l v v ≡ l
set_none l v z h = let w : v ≡ get_or l v 0 = z ∙ sym h ∙ ap (λ (k : ℕ). get_or l k 0) (sym z) in ap (set l v) w ∙ set-get_or l v 0

pub set_keeps_none : (l : List ℕ) (v : ℕ) → get_or l 0 0 ≡ 0 → get_or (set l v v) 0 0 ≡ 0
set_keeps_none l v h =
    split (eq_or_ne v 0) (λ z. ap (λ (m : List ℕ). get_or m 0 0) (set_none l v z h) ∙ h)
    (λ z. get_or-set_other l v 0 v 0 (λ q. z (sym q)) ∙ h)

-- the marks after x turns: not 0 at what `start` marks and at what f takes below x
pub record Seen (start : ℕ → Bool) (f : ℕ → ℕ) (x : ℕ) (l : List ℕ) : Type 0 where
  pub none : get_or l 0 0 ≡ 0
  pub mark : (b : ℕ) → 0 < b → b < length l → eqb (get_or l b 0) 0 ≡ not (taken f x b or start b)

module _ (start : ℕ → Bool) (f : ℕ → ℕ) (l : List ℕ) where
  pub seen_start : get_or l 0 0 ≡ 0 → ((b : ℕ) → 0 < b → b < length l → eqb (get_or l b 0) 0 ≡ not (start b)) → Seen start f 0 l
  seen_start z h = record {
    none = z;
    mark = λ b p k. h b p k ∙ ap not (sym (or_then _ _ (taken_none f b)));
  }

  module _ (x : ℕ) (s : Seen start f x l) where
    -- a turn: f's value is marked
    pub seen_more : (v : ℕ) → v ≡ f x → v < length l → Seen start f (x + 1) (set l v v)
    seen_more v e h = record {
      none = set_keeps_none l v s.none;
      mark = λ b p k. let k' : b < length l = omega (arith, length-set l v v) in
          split (eq_or_ne b v)
          (λ q. let w : 0 < v = omega arith in
          ap (λ (i : ℕ). eqb (get_or (set l v v) i 0) 0) q ∙ ap (λ (i : ℕ). eqb i 0) (get_or-set_same l v v 0 h)
          ∙ ne_eqb v 0 (λ z. omega arith) ∙ ap not (sym (or_left _ _ (taken_hit f x b (sym e ∙ sym q)))))
          (λ q. ap (λ (i : ℕ). eqb i 0) (get_or-set_other l v b v 0 q) ∙ s.mark b p k'
          ∙ ap (λ (t : Bool). not (t or start b)) (sym (taken_miss f x b (λ z. q (sym (e ∙ z))))));
    }

    -- a turn whose value is 0 leaves the marks as they are
    pub seen_kept : f x ≡ 0 → Seen start f (x + 1) l
    seen_kept z = record {
      none = s.none;
      mark = λ b p k. s.mark b p k ∙ ap (λ (t : Bool). not (t or start b)) (sym (taken_miss f x b (λ q. omega arith)));
    }
