-- Entries by their keys: for each key the last entry that has it, and for each entry the last one before it that has the same. Numbers
-- are one past the entry's; 0 is none. So a walk back along the chain of a key meets every entry that has it.
use Rattle.std.specs.Prelude.{◌≡◌, Bool, true, false, cond, ℕ, ◌+◌, ◌≤◌, ◌<◌, eqb, get_or, length, set}
use Rattle.std.proofs.Common.{ap, sym, ◌∙◌, arith, length-set, get_or-set_same, get_or-set_other, eq-eqb, ne_eqb}
use Rattle.lists.specs.Cases.{split, bool_cases, lt_or_le, eq_or_ne, not_both}
use Rattle.lists.specs.Below.{last_below, last_none, last_hit, last_miss}
use Rattle.format.specs.Diskette.{Bytes, Geometry, Long}
use Rattle.format.specs.Entries.{Rows, entry_at, used}
use Rattle.format.specs.Consistent.{alone}
use Rattle.format.specs.Fcb.{fcb_bytes}
use Rattle.keys.specs.Key.{key_count, key_of}

-- the key of entry f; key_count, which is no key, where it is not used
unfoldable pub key_in : Rows → ℕ → ℕ
key_in d f = cond (used (d f)) (key_of (d f)) key_count

-- entry f has the key k
abbrev pub has_key : Rows → ℕ → ℕ → Bool
has_key d k f = eqb (key_in d f) k

-- a number for each key, and then one for each entry
abbrev pub chain_bytes : Geometry → ℕ
chain_bytes G = key_count + G.entries

-- of the entries below n: the last with each key, and of each that is used the last before it with its key
pub record Chained (G : Geometry) (d : Rows) (n : ℕ) (chain : Bytes) : Type 0 where
  pub long : length chain ≡ chain_bytes G
  pub last : (k : ℕ) → k < key_count → get_or chain k 0 ≡ last_below (has_key d k) n
  pub link : (f : ℕ) → f < n → used (d f) ≡ true → get_or chain (key_count + f) 0 ≡ last_below (has_key d (key_of (d f))) f

-- what a look-up goes by: all entries are chained, and no two are of one file
pub record Indexed (G : Geometry) (d : Rows) (chain : Bytes) : Type 0 where
  pub chained : Chained G d G.entries chain
  pub single : (e : ℕ) → e < G.entries → alone G d e ≡ true

-- what a look-up of an FCB's file is handed: an image and an FCB of their lengths, a user of at most 15, the entries by their keys
pub record Findable (G : Geometry) (image chain : Bytes) (user : ℕ) (fcb : Bytes) : Type 0 where
  pub image_long : Long G image
  pub fcb_long : length fcb ≡ fcb_bytes
  pub user_low : user ≤ 15
  pub indexed : Indexed G (entry_at G image) chain

module _ (d : Rows) where
  pub key_used : (f : ℕ) → used (d f) ≡ true → key_in d f ≡ key_of (d f)
  unfolding key_in
  key_used f u = rw u

  key_unused : (f : ℕ) → used (d f) ≡ false → key_in d f ≡ key_count
  unfolding key_in
  key_unused f u = rw u

  -- what has a key is used
  pub key_tells : (f k : ℕ) → k < key_count → key_in d f ≡ k → used (d f) ≡ true
  key_tells f k h q =
      split (bool_cases (used (d f))) (λ u. u) (λ u. let z : key_count ≡ k = sym (key_unused f u) ∙ q in absurd (omega arith))

module _ (G : Geometry) (d : Rows) where
  -- ---- the start: no key has an entry
  pub chained_none : (c : Bytes) → length c ≡ chain_bytes G → ((k : ℕ) → k < key_count → get_or c k 0 ≡ 0) → Chained G d 0 c
  chained_none c l z = record {
    long = l;
    last = λ k h. z k h ∙ sym (last_none (has_key d k));
    link = λ f h u. absurd (omega arith);
  }

  -- ---- an entry that is not used
  pub chained_skip : (e : ℕ) (c : Bytes) → used (d e) ≡ false → Chained G d e c → Chained G d (e + 1) c
  chained_skip e c u s = record {
    long = s.long;
    last = λ k h. s.last k h ∙ sym (last_miss (has_key d k) e (ne_eqb (key_in d e) k (λ q. let z : key_count ≡ k = sym (key_unused d e u) ∙ q in omega arith)));
    link = λ f h v. split (lt_or_le f e) (λ w. s.link f w v)
        (λ w. let q : f ≡ e = omega arith in not_both (used (d e)) (ap (λ (k : ℕ). used (d k)) (sym q) ∙ v) u);
  }

  -- ---- a used entry, of key k: the last entry of its key is its link, and it becomes the last
  module _ (e k v : ℕ) (r c : Bytes) (p : r ≡ d e) (ur : used r ≡ true) (qr : k ≡ key_of r) (h : k < key_count) (low : e < G.entries)
      (w : v ≡ e + 1) (s : Chained G d e c) where
    u : used (d e) ≡ true
    u = rw p at ur

    q : k ≡ key_of (d e)
    q = qr ∙ ap key_of p

    abbrev linked : Bytes
    linked = set c (key_count + e) (get_or c k 0)

    linked_long : length linked ≡ chain_bytes G
    linked_long = length-set c (key_count + e) (get_or c k 0) ∙ s.long

    last_more : (i : ℕ) → i < key_count → get_or (set linked k v) i 0 ≡ last_below (has_key d i) (e + 1)
    last_more i hi =
        split (eq_or_ne i k)
        (λ z. ap (λ (n : ℕ). get_or (set linked k v) n 0) z ∙ get_or-set_same linked k v 0 (omega (arith, linked_long)) ∙ w
        ∙ sym (last_hit (has_key d i) e (eq-eqb _ _ (key_used d e u ∙ sym q ∙ sym z))))
        (λ z. get_or-set_other linked k i v 0 z ∙ get_or-set_other c (key_count + e) i (get_or c k 0) 0 (λ y. omega arith) ∙ s.last i hi
        ∙ sym (last_miss (has_key d i) e (ne_eqb (key_in d e) i (λ y. z (sym y ∙ key_used d e u ∙ sym q)))))

    link_more : (f : ℕ) → f < e + 1 → used (d f) ≡ true → get_or (set linked k v) (key_count + f) 0 ≡ last_below (has_key d (key_of (d f))) f
    link_more f l t =
        get_or-set_other linked k (key_count + f) v 0 (λ y. omega arith)
        ∙ split (lt_or_le f e) (λ b. get_or-set_other c (key_count + e) (key_count + f) (get_or c k 0) 0 (λ y. omega arith) ∙ s.link f b t)
        (λ b. let z : e ≡ f = omega arith in
        ap (λ (n : ℕ). get_or linked (key_count + n) 0) (sym z) ∙ get_or-set_same c (key_count + e) (get_or c k 0) 0 (omega (arith, s.long))
        ∙ s.last k h ∙ ap (λ (x : ℕ). last_below (has_key d x) e) q ∙ ap (λ (n : ℕ). last_below (has_key d (key_of (d n))) n) z)

    pub chained_more : Chained G d (e + 1) (set linked k v)
    chained_more = record { long = length-set linked k v ∙ linked_long; last = last_more; link = link_more }
