-- A part of a list, and a list with a part replaced.
use Rattle.std.specs.Prelude.{◌≡◌, refl, ◌⊎◌, List, ◌++◌, set, take, replicate}
use Rattle.std.proofs.Math.Path.{ap}
use Rattle.std.proofs.Common.{sym, ◌∙◌, inl, inr, append_assoc, append-nil, zero-add, add-one, length-set, length-append, length-drop, get_or-set_same, get_or-set_other, length-take-le, get_or-take, drop_at, ext_get_or}
use Prim.Native.Nat.{ℕ, ◌+◌, ◌-◌, ◌≤◌, ◌<◌}
use native.Mathlib.Omega.{arith}
use Rattle.std.proofs.Math.ListN.{length, drop, get_or, length-take, get_or-append}
use Rattle.std.proofs.lemmas.List.{length-replicate, get_or-replicate}
use Rattle.std.proofs.Math.Seq.{drop-length, paste, paste-suc, take-length, get_or-drop, get_or-append-add, take_at}
use Rattle.lists.specs.Cases.{split, lt_or_le, eq_or_ne}

-- the n elements of xs from `at` on
unfoldable pub part : List ℕ → ℕ → ℕ → List ℕ
part xs at n = take n (drop at xs)

-- xs with ys in place of its elements from `at` on
unfoldable pub splice : List ℕ → ℕ → List ℕ → List ℕ
splice xs at ys = take at xs ++ (ys ++ drop (at + length ys) xs)

-- what stands past a first list
pub get_d_append_past : (xs ys : List ℕ) (n : ℕ) → length xs ≡ n → (k : ℕ) → get_or (xs ++ ys) (n + k) 0 ≡ get_or ys k 0
get_d_append_past xs ys n e k = ap (λ (m : ℕ). get_or (xs ++ ys) (m + k) 0) (sym e) ∙ get_or-append-add xs ys k 0

module _ (xs : List ℕ) (at n : ℕ) (fits : at + n ≤ length xs) where
  pub length_part : length (part xs at n) ≡ n
  unfolding part
  length_part = simp (length-take, length-drop) (omega arith)

  pub get_d_part : (i : ℕ) → i < n → get_or (part xs at n) i 0 ≡ get_or xs (at + i) 0
  unfolding part
  get_d_part i h = rw (get_or-take, get_or-drop)

-- a part from a start to an end, as code takes it
pub take_part : (xs : List ℕ) (at e n : ℕ) → e ≡ at + n → take (e - at) (drop at xs) ≡ part xs at n
unfolding part
take_part xs at e n h = let q : e - at ≡ n = omega arith in rw q

-- a part of a part
pub part_part : (xs : List ℕ) (at n b m : ℕ) → at + n ≤ length xs → b + m ≤ n → part (part xs at n) b m ≡ part xs (at + b) m
part_part xs at n b m fits inner =
    let l : length (part xs at n) ≡ n = length_part xs at n fits in
    let li : length (part (part xs at n) b m) ≡ m = length_part (part xs at n) b m (omega arith) in
    let lo : length (part xs (at + b) m) ≡ m = length_part xs (at + b) m (omega arith) in
    ext_get_or 0 (part (part xs at n) b m) (part xs (at + b) m) (li ∙ sym lo)
    (λ i h. get_d_part (part xs at n) b m (omega arith) i (omega arith) ∙ get_d_part xs at n fits (b + i) (omega arith)
    ∙ (let q : at + (b + i) ≡ (at + b) + i = omega arith in ap (λ (k : ℕ). get_or xs k 0) q)
    ∙ sym (get_d_part xs (at + b) m (omega arith) i (omega arith)))

module _ (xs : List ℕ) (at : ℕ) (ys : List ℕ) (fits : at + length ys ≤ length xs) where
  pub length_splice : length (splice xs at ys) ≡ length xs
  unfolding splice
  length_splice = simp (length-append, length-take, length-drop) (omega arith)

  head_long : length (take at xs) ≡ at
  head_long = length-take-le at xs (omega arith)

  pub part_splice_same : part (splice xs at ys) at (length ys) ≡ ys
  unfolding part splice
  part_splice_same = rw (drop_at (take at xs) _ at head_long, take_at ys _ (length ys) refl)

  pub get_d_splice_in : (i : ℕ) → i < length ys → get_or (splice xs at ys) (at + i) 0 ≡ get_or ys i 0
  unfolding splice
  get_d_splice_in i h =
      rw (ap (λ (k : ℕ). get_or (take at xs ++ (ys ++ drop (at + length ys) xs)) (k + i) 0) (sym head_long), get_or-append-add, get_or-append)

  -- the same, by the place in the whole
  pub get_d_splice_at : (k : ℕ) → at ≤ k → k < at + length ys → get_or (splice xs at ys) k 0 ≡ get_or ys (k - at) 0
  get_d_splice_at k a b =
      let q : k ≡ at + (k - at) = omega arith in
      ap (λ (i : ℕ). get_or (splice xs at ys) i 0) q ∙ get_d_splice_in (k - at) (omega arith)

  get_d_splice_below : (i : ℕ) → i < at → get_or (splice xs at ys) i 0 ≡ get_or xs i 0
  unfolding splice
  get_d_splice_below i h =
      let l : i < length (take at xs) = omega (arith, head_long) in rw (get_or-append (take at xs) _ 0 i l, get_or-take)

  get_d_splice_above : (i : ℕ) → at + length ys ≤ i → get_or (splice xs at ys) i 0 ≡ get_or xs i 0
  unfolding splice
  get_d_splice_above i h =
      let m : ℕ = i - (at + length ys) in
      let hl : length (take at xs ++ ys) ≡ at + length ys = simp (length-append, head_long) in
      let e : i ≡ length (take at xs ++ ys) + m = omega (arith, hl) in
      let f : i ≡ (at + length ys) + m = omega arith in
      rw (← append_assoc) (ap (λ (k : ℕ). get_or ((take at xs ++ ys) ++ drop (at + length ys) xs) k 0) e
      ∙ get_or-append-add (take at xs ++ ys) (drop (at + length ys) xs) m 0 ∙ get_or-drop (at + length ys) xs m 0
      ∙ ap (λ (k : ℕ). get_or xs k 0) (sym f))

  -- no element outside the part changes
  pub get_d_splice_out : (i : ℕ) → (i < at) ⊎ (at + length ys ≤ i) → get_or (splice xs at ys) i 0 ≡ get_or xs i 0
  get_d_splice_out i (inl h) = get_d_splice_below i h
  get_d_splice_out i (inr h) = get_d_splice_above i h

  -- nor does a part apart from it
  pub part_splice_other : (b n : ℕ) → b + n ≤ length xs → (b + n ≤ at) ⊎ (at + length ys ≤ b) → part (splice xs at ys) b n ≡ part xs b n
  part_splice_other b n room apart =
      let room' : b + n ≤ length (splice xs at ys) = rw length_splice room in
      let l : length (part (splice xs at ys) b n) ≡ n = length_part (splice xs at ys) b n room' in
      ext_get_or 0 (part (splice xs at ys) b n) (part xs b n) (l ∙ sym (length_part xs b n room))
      (λ i h. let h' : i < n = omega (arith, l) in
      get_d_part (splice xs at ys) b n room' i h' ∙ get_d_splice_out (b + i) (split apart (λ w. inl (omega arith)) (λ w. inr (omega arith)))
      ∙ sym (get_d_part xs b n room i h'))

-- an element set to what it was
pub set_own : (xs : List ℕ) (i v : ℕ) → i < length xs → get_or xs i 0 ≡ v → set xs i v ≡ xs
set_own xs i v h q =
    ext_get_or 0 (set xs i v) xs (length-set xs i v)
    (λ k b. split (eq_or_ne k i) (λ e. rw e (get_or-set_same xs i v 0 h ∙ sym q)) (λ n. get_or-set_other xs i k v 0 n))

-- a part put back where it stood
pub splice_own : (xs : List ℕ) (at n : ℕ) → at + n ≤ length xs → splice xs at (part xs at n) ≡ xs
splice_own xs at n h =
    let room : at + length (part xs at n) ≤ length xs = rw (length_part xs at n h) h in
    let long = length_part xs at n h in
    ext_get_or 0 (splice xs at (part xs at n)) xs (length_splice xs at (part xs at n) room)
    (λ k b. split (lt_or_le k at) (λ l. get_d_splice_out xs at (part xs at n) room k (inl l))
    (λ l. split (lt_or_le k (at + n))
    (λ m. get_d_splice_at xs at (part xs at n) room k l (omega arith) ∙ get_d_part xs at n h (k - at) (omega arith)
    ∙ (let q : at + (k - at) ≡ k = omega arith in ap (λ (i : ℕ). get_or xs i 0) q))
    (λ m. get_d_splice_out xs at (part xs at n) room k (inr (omega arith)))))

-- a part put back with one element changed
pub splice_set : (xs : List ℕ) (at n i v : ℕ) → at + n ≤ length xs → i < n → splice xs at (set (part xs at n) i v) ≡ set xs (at + i) v
splice_set xs at n i v fits below =
    let p : List ℕ = set (part xs at n) i v in
    let w : length (part xs at n) ≡ n = length_part xs at n fits in
    let m : length p ≡ n = length-set (part xs at n) i v ∙ w in
    let room : at + length p ≤ length xs = omega arith in
    let l : length (splice xs at p) ≡ length xs = length_splice xs at p room in
    ext_get_or 0 (splice xs at p) (set xs (at + i) v) (l ∙ sym (length-set xs (at + i) v))
    (λ k h. split (eq_or_ne k (at + i))
    (λ q. rw q (get_d_splice_in xs at p room i (omega arith) ∙ get_or-set_same (part xs at n) i v 0 (omega arith)
    ∙ sym (get_or-set_same xs (at + i) v 0 (omega arith))))
    (λ q. split (lt_or_le k at) (λ b. get_d_splice_out xs at p room k (inl b))
    (λ b. split (lt_or_le k (at + n))
    (λ c. let z : at + (k - at) ≡ k = omega arith in
    get_d_splice_at xs at p room k b (omega arith) ∙ get_or-set_other (part xs at n) i (k - at) v 0 (λ y. q (omega arith))
    ∙ get_d_part xs at n fits (k - at) (omega arith) ∙ ap (λ (j : ℕ). get_or xs j 0) z)
    (λ c. get_d_splice_out xs at p room k (inr (omega arith))))
    ∙ sym (get_or-set_other xs (at + i) k v 0 q)))

-- a splice over the whole of a list
pub splice_whole : (xs ys : List ℕ) → length xs ≡ length ys → splice xs 0 ys ≡ ys
unfolding splice
splice_whole xs ys e = rw zero-add (rw (← e, drop-length xs) (append-nil ys))

-- ---- a loop that copies ys into xs from `at` on: its turn and its end
pub paste_more : (d l s : List ℕ) (at i : ℕ) → at + length s ≤ length d → i < length s → l ≡ paste d at s i → set l (at + i) (get_or s i 0) ≡ paste d at s (i + 1)
paste_more d l s at i fits h e = rw (e, add-one, paste-suc d at s i 0 (omega arith) h)

pub paste_all : (d l s : List ℕ) (at i : ℕ) → i ≡ length s → l ≡ paste d at s i → l ≡ splice d at s
unfolding splice
paste_all d l s at i h e = rw (e, h, take-length, append_assoc)

-- a copy out of src, written as a copy over the whole of dst
pub splice_part : (src dst out : List ℕ) (at e : ℕ) → at + length dst ≤ length src → e ≡ at + length dst → out ≡ splice dst 0 (take (e - at) (drop at src)) → out ≡ part src at (length dst)
unfolding part
splice_part src dst out at e room he h =
    let n : e - at ≡ length dst = omega arith in
    let l : length dst ≡ length (take (length dst) (drop at src)) = simp (length-take, length-drop) (omega arith) in
    h ∙ ap (λ (k : ℕ). splice dst 0 (take k (drop at src))) n ∙ splice_whole dst (take (length dst) (drop at src)) l

-- ---- n copies of one value, and the loop that writes them into xs from `at` on
unfoldable pub copies : ℕ → ℕ → List ℕ
copies n v = replicate n v

pub length_copies : (n v : ℕ) → length (copies n v) ≡ n
unfolding copies
length_copies n v = length-replicate n v

pub get_d_copies : (n v i : ℕ) → i < n → get_or (copies n v) i 0 ≡ v
unfolding copies
get_d_copies n v i h = get_or-replicate n i v 0 h

pub fill_more : (d l : List ℕ) (at n v i : ℕ) → at + n ≤ length d → i < n → l ≡ paste d at (copies n v) i → set l (at + i) v ≡ paste d at (copies n v) (i + 1)
fill_more d l at n v i fits h e =
    let k : length (copies n v) ≡ n = length_copies n v in
    ap (λ (x : ℕ). set l (at + i) x) (sym (get_d_copies n v i h)) ∙ paste_more d l (copies n v) at i (omega arith) (omega arith) e

-- what stands where after it
module _ (xs : List ℕ) (at n v : ℕ) (fits : at + n ≤ length xs) where
  room : at + length (copies n v) ≤ length xs
  room = let k : length (copies n v) ≡ n = length_copies n v in omega arith

  pub length_fill : length (splice xs at (copies n v)) ≡ length xs
  length_fill = length_splice xs at (copies n v) room

  pub get_d_fill_in : (k : ℕ) → at ≤ k → k < at + n → get_or (splice xs at (copies n v)) k 0 ≡ v
  get_d_fill_in k l h =
      let q : k ≡ at + (k - at) = omega arith in
      let m : length (copies n v) ≡ n = length_copies n v in
      ap (λ (i : ℕ). get_or (splice xs at (copies n v)) i 0) q ∙ get_d_splice_in xs at (copies n v) room (k - at) (omega arith)
      ∙ get_d_copies n v (k - at) (omega arith)

  pub get_d_fill_out : (k : ℕ) → (k < at) ⊎ (at + n ≤ k) → get_or (splice xs at (copies n v)) k 0 ≡ get_or xs k 0
  get_d_fill_out k w =
      let m : length (copies n v) ≡ n = length_copies n v in
      get_d_splice_out xs at (copies n v) room k (split w (λ a. inl a) (λ b. inr (omega arith)))
