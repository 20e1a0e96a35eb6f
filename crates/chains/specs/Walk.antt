-- The walk back along the chain of a key, for entries that pass a test and so have that key: what was passed over does not pass it.
use Rattle.std.specs.Prelude.{◌≡◌, Bool, true, false, ℕ, ◌+◌, ◌-◌, ◌≤◌, ◌<◌, get_or, None, Option, Some}
use Rattle.std.proofs.Math.Path.{refl, ap}
use Rattle.std.proofs.Common.{sym, ◌∙◌, arith, eqb-true}
use Rattle.std.proofs.Math.Bool.{not}
use Rattle.std.proofs.lemmas.Bool.{eqb-false}
use Rattle.lists.specs.Cases.{split, lt_or_le, refute}
use Rattle.lists.specs.Tests.{and_then}
use Rattle.lists.specs.Below.{any_at, any_empty, last_below, last_high, last_holds, last_after}
use Rattle.format.specs.Diskette.{Bytes, Geometry}
use Rattle.format.specs.Entries.{Rows, user_of, used, is_file_rule, extent_of, find_file_rule, run_of}
use Rattle.format.specs.Consistent.{same_file_rule, alone}
use Rattle.facts.specs.Find.{file_test, no_file_is}
use Rattle.facts.specs.Naming.{file_user, file_like, file_run}
use Rattle.consistency.specs.Naming.{file_used, alone_found}
use Rattle.consistency.specs.Reflect.{same_elim, same_used_right}
use Rattle.keys.specs.Key.{key_count, key_of, key_below, file_key_rule, key_same, key_asked, asked_below}
use Rattle.chains.specs.Chain.{key_in, has_key, Chained, Indexed, key_used, key_tells}

-- the number of an entry in the chains, and of none
abbrev pub past : Option ℕ → ℕ
past None = 0
past (Some e) = e + 1

-- the walk over the entries below n has come to the number f: none from there on passes, and the entry there has the key
pub record Walk (d : Rows) (test : ℕ → Bool) (k n f : ℕ) : Type 0 where
  pub high : f ≤ n
  pub passed : (g : ℕ) → f ≤ g → g < n → test g ≡ false
  pub key : (e : ℕ) → f ≡ e + 1 → key_in d e ≡ k

module _ (G : Geometry) (d : Rows) (test : ℕ → Bool) (k n : ℕ) (low : k < key_count) (only : (g : ℕ) → test g ≡ true → key_in d g ≡ k) where
  -- a step to the last entry below m that has the key, from which on all were passed
  walk_to : (m f : ℕ) → m ≤ n → f ≡ last_below (has_key d k) m → ((g : ℕ) → m ≤ g → g < n → test g ≡ false) → Walk d test k n f
  walk_to m f h q p =
      let l : f ≤ m = rw q (last_high (has_key d k) m) in
      record {
        high = omega arith;
        passed = λ g a r. split (lt_or_le g m)
            (λ w. let a' : last_below (has_key d k) m ≤ g = rw q at a in
            sym (refute _ (λ t. eqb-false _ _ (last_after (has_key d k) m g a' w) (only g t))))
            (λ w. p g w r);
        key = λ e a.
            let a' : last_below (has_key d k) m ≡ e + 1 = rw q at a in
            let z : last_below (has_key d k) m - 1 ≡ e = omega arith in
            rw z at (eqb-true _ _ (last_holds (has_key d k) m (omega arith)));
      }

  pub walk_used : (e : ℕ) → Walk d test k n (e + 1) → used (d e) ≡ true
  walk_used e w = key_tells d e k low (w.key e refl)

  module _ (m : ℕ) (chain : Bytes) (s : Chained G d m chain) where
    -- it begins at the last entry of the key, or at the link of the entry before which it ends
    pub walk_all : m ≡ n → Walk d test k n (get_or chain k 0)
    walk_all q = walk_to m (get_or chain k 0) (omega arith) (s.last k low) (λ g a r. absurd (omega arith))

    pub walk_before : n < m → used (d n) ≡ true → key_of (d n) ≡ k → Walk d test k n (get_or chain (key_count + n) 0)
    walk_before h u q =
        walk_to n (get_or chain (key_count + n) 0) (omega arith) (s.link n h u ∙ ap (λ (x : ℕ). last_below (has_key d x) n) q) (λ g a r. absurd (omega arith))

    module _ (h : n ≤ m) (e : ℕ) (w : Walk d test k n (e + 1)) where
      linked : get_or chain (key_count + e) 0 ≡ last_below (has_key d k) e
      linked =
          let high = w.high in
          let u : used (d e) ≡ true = walk_used e w in
          let same : key_of (d e) ≡ k = sym (key_used d e u) ∙ w.key e refl in
          s.link e (omega arith) u ∙ ap (λ (x : ℕ). last_below (has_key d x) e) same

      pub walk_more : test e ≡ false → Walk d test k n (get_or chain (key_count + e) 0)
      walk_more t =
          let high = w.high in
          walk_to e (get_or chain (key_count + e) 0) (omega arith) linked
          (λ g a r. split (lt_or_le g (e + 1)) (λ z. let q : e ≡ g = omega arith in ap test (sym q) ∙ t) (λ z. w.passed g z r))

      -- each step goes further back
      pub walk_less : get_or chain (key_count + e) 0 < e + 1
      walk_less = let b : get_or chain (key_count + e) 0 ≤ e = rw linked (last_high (has_key d k) e) in omega arith

-- ---- whether entry e is alone: the test is that of the rows before it
module _ (G : Geometry) (d : Rows) (e : ℕ) where
  abbrev pub same_as : ℕ → Bool
  same_as g = same_file_rule G (d e) (d g)

  pub same_only : (single : (x : ℕ) → run_of G x ≡ x) (g : ℕ) → same_as g ≡ true → key_in d g ≡ key_of (d e)
  same_only single g t = key_used d g (same_used_right G (d e) (d g) t) ∙ sym (key_same G single (d e) (d g) (same_elim G (d e) (d g) t))

  -- the walk from the entry's own link
  abbrev pub Before : ℕ → Type 0
  Before f = Walk d same_as (key_of (d e)) e f

  module _ (single : (x : ℕ) → run_of G x ≡ x) (chain : Bytes) (s : Chained G d (e + 1) chain) where
    pub before_start : used (d e) ≡ true → Before (get_or chain (key_count + e) 0)
    before_start u = walk_before G d same_as (key_of (d e)) e (key_below (d e)) (same_only single) (e + 1) chain s (omega arith) u refl

    module _ (f : ℕ) (w : Before (f + 1)) where
      pub before_used : used (d f) ≡ true
      before_used = walk_used G d same_as (key_of (d e)) e (key_below (d e)) (same_only single) f w

      pub before_more : same_as f ≡ false → Before (get_or chain (key_count + f) 0)
      before_more t = walk_more G d same_as (key_of (d e)) e (key_below (d e)) (same_only single) (e + 1) chain s (omega arith) f w t

      pub before_less : get_or chain (key_count + f) 0 < f + 1
      before_less = walk_less G d same_as (key_of (d e)) e (key_below (d e)) (same_only single) (e + 1) chain s (omega arith) f w

  pub alone_hit : (f : ℕ) → Before (f + 1) → same_as f ≡ true → alone G d e ≡ false
  unfolding alone
  alone_hit f w t = let high = w.high in ap not (any_at same_as e f (omega arith) t)

  pub alone_end : (f : ℕ) → Before f → f ≡ 0 → alone G d e ≡ true
  unfolding alone
  alone_end f w z = ap not (any_empty same_as e (λ g r. w.passed g (omega arith) r))

-- of used rows the look-up of one by the other decides whether they are of one file
pub asks_same : (G : Geometry) (r t : Bytes) (ext : ℕ) → used r ≡ true → used t ≡ true → ext ≡ extent_of t → is_file_rule G (user_of t) t 1 ext r ≡ same_file_rule G r t
unfolding same_file_rule
asks_same G r t ext u v q = sym (and_then _ _ u ∙ and_then _ _ v ∙ rw q)

-- ---- the look-up of a file: the test is what is asked for, and the walk begins at the last entry of its key
abbrev pub Sought : Geometry → Rows → ℕ → Bytes → ℕ → ℕ → ℕ → Type 0
Sought G d user s q ext f = Walk d (file_test G d user s q ext) (file_key_rule user s q ext) G.entries f

module _ (G : Geometry) (d : Rows) (user : ℕ) (s : Bytes) (q ext : ℕ) (real : user ≤ 15) where
  pub file_only : (single : (x : ℕ) → run_of G x ≡ x) (g : ℕ) → file_test G d user s q ext g ≡ true → key_in d g ≡ file_key_rule user s q ext
  file_only single g t =
      key_used d g (file_used G user s q ext (d g) t real)
      ∙ key_asked (d g) user s q ext (file_user G user s q ext (d g) t) (file_like G user s q ext (d g) t)
      (sym (single (extent_of (d g))) ∙ file_run G user s q ext (d g) t ∙ single ext)

  module _ (single : (x : ℕ) → run_of G x ≡ x) (chain : Bytes) (c : Chained G d G.entries chain) where
    pub sought_start : Sought G d user s q ext (get_or chain (file_key_rule user s q ext) 0)
    sought_start =
        walk_all G d (file_test G d user s q ext) (file_key_rule user s q ext) G.entries (asked_below user s q ext) (file_only single) G.entries chain c refl

    module _ (f : ℕ) (w : Sought G d user s q ext (f + 1)) where
      pub sought_more : file_test G d user s q ext f ≡ false → Sought G d user s q ext (get_or chain (key_count + f) 0)
      sought_more t =
          walk_more G d (file_test G d user s q ext) (file_key_rule user s q ext) G.entries (asked_below user s q ext) (file_only single) G.entries chain c (omega arith) f w t

      pub sought_less : get_or chain (key_count + f) 0 < f + 1
      sought_less =
          walk_less G d (file_test G d user s q ext) (file_key_rule user s q ext) G.entries (asked_below user s q ext) (file_only single) G.entries chain c (omega arith) f w

  pub find_hit_law : (chain : Bytes) (e : ℕ) → Indexed G d chain → e < G.entries → file_test G d user s q ext e ≡ true → find_file_rule G d user s q ext ≡ Some e
  find_hit_law chain e i h t = alone_found G d user real s q ext e h t (i.single e h)

  pub find_end : (k f : ℕ) → Walk d (file_test G d user s q ext) k G.entries f → f ≡ 0 → find_file_rule G d user s q ext ≡ None
  find_end k f w z = no_file_is G d user s q ext (λ g l. w.passed g (omega arith) l)
