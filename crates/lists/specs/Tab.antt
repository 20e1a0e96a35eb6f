-- A list by its elements, the loop that fills one, and the loop that changes every element in its place.
use Rattle.std.specs.Prelude.{◌≡◌, refl, List, [], ◌∷◌, ◌++◌, ℕ, zero, suc, ◌+◌, ◌-◌, ◌≤◌, ◌<◌, get_or, set, length, replicate}
use Rattle.std.proofs.Common.{ap, sym, ◌∙◌, inl, inr, arith, length-append, length-set, get_or-set_same, get_or-set_other, ext_get_or}
use Rattle.std.proofs.Math.ListN.{get_or-append}
use Rattle.std.proofs.lemmas.List.{get_or_at}
use Rattle.lists.specs.Cases.{lt_or_le, split}
use Rattle.lists.specs.Splice.{splice, length_splice, get_d_splice_at, get_d_splice_out}

-- f 0, f 1, .., f (n - 1)
unfoldable pub tab : ℕ → (ℕ → ℕ) → List ℕ
tab zero f = []
tab (suc n) f = tab n f ++ (f n ∷ [])

pub length_tab : (n : ℕ) (f : ℕ → ℕ) → length (tab n f) ≡ n
unfolding tab
length_tab zero f = refl
length_tab (suc n) f = length-append (tab n f) (f n ∷ []) ∙ omega (arith, length_tab n f)

pub get_d_tab : (n : ℕ) (f : ℕ → ℕ) (k : ℕ) → k < n → get_or (tab n f) k 0 ≡ f k
unfolding tab
get_d_tab zero f k h = absurd (omega arith)
get_d_tab (suc n) f k h =
    split (lt_or_le k n)
    (λ l. get_or-append (tab n f) (f n ∷ []) 0 k (omega (arith, length_tab n f)) ∙ get_d_tab n f k l)
    (λ l. let q : n ≡ k = omega arith in get_or_at (tab n f) (f n) [] 0 k (length_tab n f ∙ q) ∙ ap f q)

pub tab_cong : (n : ℕ) (f g : ℕ → ℕ) → ((k : ℕ) → k < n → f k ≡ g k) → tab n f ≡ tab n g
unfolding tab
tab_cong zero f g h = refl
tab_cong (suc n) f g h = rw (tab_cong n f g (λ k l. h k (omega arith)), h n (omega arith))

-- a list is the table of its elements
pub tab_get_d : (l : List ℕ) (n : ℕ) → length l ≡ n → tab n (λ (k : ℕ). get_or l k 0) ≡ l
tab_get_d l n e =
    let t : length (tab n (λ (k : ℕ). get_or l k 0)) ≡ n = length_tab n _ in
    ext_get_or 0 (tab n (λ (k : ℕ). get_or l k 0)) l (t ∙ sym e) (λ k h. get_d_tab n (λ (k : ℕ). get_or l k 0) k (omega arith))

-- zeros are 0 at every place, also past their end
pub get_d_zeros : (n k : ℕ) → get_or {A = ℕ} (replicate n 0) k 0 ≡ 0
get_d_zeros zero k = refl
get_d_zeros (suc n) zero = refl
get_d_zeros (suc n) (suc k) = get_d_zeros n k

-- ---- a loop that fills a list: the elements below i are f's, the others are as they were
pub record Filled (f : ℕ → ℕ) (old : List ℕ) (i : ℕ) (l : List ℕ) : Type 0 where
  pub long : length l ≡ length old
  pub done : (k : ℕ) → k < i → get_or l k 0 ≡ f k
  pub left : (k : ℕ) → i ≤ k → get_or l k 0 ≡ get_or old k 0

pub filled_none : (f : ℕ → ℕ) (old : List ℕ) → Filled f old 0 old
filled_none f old = record { long = refl; done = λ k h. absurd (omega arith); left = λ k h. refl }

pub filled_more : (f : ℕ → ℕ) (old : List ℕ) (i : ℕ) (l : List ℕ) (v : ℕ) → i < length l → v ≡ f i → Filled f old i l → Filled f old (i + 1) (set l i v)
filled_more f old i l v h e g = record {
  long = length-set l i v ∙ g.long;
  done = λ k hk. split (lt_or_le k i)
      (λ w. get_or-set_other l i k v 0 (λ z. omega arith) ∙ g.done k w)
      (λ w. let q : k ≡ i = omega arith in ap (λ (m : ℕ). get_or (set l i v) m 0) q ∙ get_or-set_same l i v 0 h ∙ e ∙ ap f (sym q));
  left = λ k hk. get_or-set_other l i k v 0 (λ z. omega arith) ∙ g.left k (omega arith);
}

-- a turn of a loop that changes each element in its place, by its number and what it was
pub filled_changed : (g : ℕ → ℕ → ℕ) (old : List ℕ) (i : ℕ) (l : List ℕ) (v : ℕ) → i < length l → v ≡ g i (get_or l i 0)
    → Filled (λ (k : ℕ). g k (get_or old k 0)) old i l → Filled (λ (k : ℕ). g k (get_or old k 0)) old (i + 1) (set l i v)
filled_changed g old i l v h e u = filled_more (λ (k : ℕ). g k (get_or old k 0)) old i l v h (e ∙ ap (g i) (u.left i (omega arith))) u

-- elements that are right as they are, up to j
pub filled_up : (f : ℕ → ℕ) (old : List ℕ) (i j : ℕ) (l : List ℕ) → i ≤ j → ((k : ℕ) → i ≤ k → k < j → get_or old k 0 ≡ f k)
    → Filled f old i l → Filled f old j l
filled_up f old i j l h same g = record {
  long = g.long;
  done = λ k hk. split (lt_or_le k i) (λ w. g.done k w) (λ w. g.left k w ∙ same k w hk);
  left = λ k hk. g.left k (omega arith);
}

-- a turn that changes nothing, since the element is right as it is
pub filled_kept : (f : ℕ → ℕ) (old : List ℕ) (i : ℕ) (l : List ℕ) → get_or old i 0 ≡ f i → Filled f old i l → Filled f old (i + 1) l
filled_kept f old i l e g = filled_up f old i (i + 1) l (omega arith) (λ k a b. let q : k ≡ i = omega arith in rw q e) g

-- several elements at once
pub filled_splice : (f : ℕ → ℕ) (old : List ℕ) (i : ℕ) (l ys : List ℕ) → i + length ys ≤ length l
    → ((k : ℕ) → k < length ys → get_or ys k 0 ≡ f (i + k)) → Filled f old i l → Filled f old (i + length ys) (splice l i ys)
filled_splice f old i l ys fits same g = record {
  long = length_splice l i ys fits ∙ g.long;
  done = λ k hk. split (lt_or_le k i)
      (λ w. get_d_splice_out l i ys fits k (inl w) ∙ g.done k w)
      (λ w. let q : i + (k - i) ≡ k = omega arith in get_d_splice_at l i ys fits k w hk ∙ same (k - i) (omega arith) ∙ ap f q);
  left = λ k hk. get_d_splice_out l i ys fits k (inr hk) ∙ g.left k (omega arith);
}

pub filled_all : (f : ℕ → ℕ) (old : List ℕ) (n i : ℕ) (l : List ℕ) → length old ≡ n → n ≤ i → Filled f old i l → l ≡ tab n f
filled_all f old n i l e h g =
    let ll : length l ≡ n = g.long ∙ e in
    ext_get_or 0 l (tab n f) (ll ∙ sym (length_tab n f)) (λ k b. g.done k (omega arith) ∙ sym (get_d_tab n f k (omega arith)))

-- a list filled with the elements of t is t
pub filled_list : (t old : List ℕ) (i : ℕ) (l : List ℕ) → length t ≡ length old → length t ≤ i → Filled (λ (k : ℕ). get_or t k 0) old i l → l ≡ t
filled_list t old i l e h g =
    let ll : length l ≡ length t = g.long ∙ sym e in ext_get_or 0 l t ll (λ k b. g.done k (omega arith))

-- the turns of a loop that fills a list, and its end
pub ruleset fills = (filled_none, filled_more, filled_all)
