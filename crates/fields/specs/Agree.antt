-- Rows and FCBs that agree in some of their bytes agree in the fields that lie there, and in the tests that look there.
use Rattle.std.specs.Prelude.{◌≡◌, Bool, ℕ, ◌+◌, ◌≤◌, ◌<◌, get_or}
use Rattle.std.proofs.Common.{ap, sym, arith}
use Rattle.std.proofs.Math.Bool.{false}
use Rattle.format.specs.Diskette.{Bytes, Geometry}
use Rattle.format.specs.Names.{name_bytes, seven_bits}
use Rattle.format.specs.Entries.{user_of, slot_of, empty, used, read_only, count_of, extent_of, run_of, covers, named, is_file_rule}
use Rattle.format.specs.Consistent.{extent_right_rule}
use Rattle.format.specs.Fcb.{random_of_rule, fcb_right_rule}
use Rattle.consistency.specs.Facts.{SameFile}
use Rattle.facts.specs.Slots.{slot_bytes_law}
use Rattle.facts.specs.Names.{name_bits, like_at, like_intro, like_cong_left, like_cong_right, right_cong}

-- bytes a to b - 1 of r and t are the same
abbrev pub Agree : Bytes → Bytes → ℕ → ℕ → Type 0
Agree r t a b = (i : ℕ) → a ≤ i → i < b → get_or r i 0 ≡ get_or t i 0

-- the name in s at q and that in r at p are the same in the seven bits that are compared
abbrev pub SameName : Bytes → ℕ → Bytes → ℕ → Type 0
SameName s q r p = (i : ℕ) → i < name_bytes → name_bits s q i ≡ name_bits r p i

-- ---- fields and tests of a row, by the bytes that they look at
module _ (r t : Bytes) where
  pub slot_cong : Agree r t 16 32 → (G : Geometry) (j : ℕ) → slot_of G r j ≡ slot_of G t j
  slot_cong h G j = slot_bytes_law G r t (λ i l. h (16 + i) (omega arith) (omega arith)) j

  pub extent_cong : Agree r t 12 15 → extent_of r ≡ extent_of t
  unfolding extent_of
  extent_cong h = rw (h 12 (omega arith) (omega arith), h 14 (omega arith) (omega arith))

  pub count_cong : Agree r t 15 16 → count_of r ≡ count_of t
  unfolding count_of
  count_cong h = rw (h 15 (omega arith) (omega arith))

  pub numbers_cong : Agree r t 12 15 → extent_right_rule r ≡ extent_right_rule t
  numbers_cong h = rw (h 12 (omega arith) (omega arith), h 14 (omega arith) (omega arith))

  pub name_cong : Agree r t 1 12 → SameName r 1 t 1
  name_cong h i l = ap seven_bits (h (1 + i) (omega arith) (omega arith))

  pub used_cong : user_of r ≡ user_of t → used r ≡ used t
  unfolding used
  used_cong e = rw e

  pub empty_cong : user_of r ≡ user_of t → empty r ≡ empty t
  unfolding empty
  empty_cong e = rw e

  pub read_only_cong : get_or r 9 0 ≡ get_or t 9 0 → read_only r ≡ read_only t
  unfolding read_only
  read_only_cong e = rw e

pub covers_cong : (G : Geometry) (r t : Bytes) → run_of G (extent_of r) ≡ run_of G (extent_of t) → (ext : ℕ) → covers G r ext ≡ covers G t ext
unfolding covers
covers_cong G r t e ext = rw e

-- ---- rows of one user, name and extent: no look-up tells them apart
pub same_file_law : (G : Geometry) (r t : Bytes) → Agree r t 0 15 → SameFile G r t
same_file_law G r t h = record {
  user = h 0 (omega arith) (omega arith);
  name = like_intro t 1 r 1 (λ i l. sym (name_cong r t (λ k a b. h k (omega arith) (omega arith)) i l));
  run = ap (run_of G) (extent_cong r t (λ i a b. h i (omega arith) (omega arith)));
}

-- its names, byte by byte
pub same_name : (G : Geometry) (r t : Bytes) → SameFile G r t → SameName r 1 t 1
same_name G r t s i l = sym (like_at t 1 r 1 s.name i l)

module _ (wild : Bool) (user : ℕ) (s : Bytes) (q : ℕ) (r t : Bytes) where
  pub named_cong : user_of r ≡ user_of t → SameName r 1 t 1 → named wild user s q r ≡ named wild user s q t
  unfolding named
  named_cong e n = rw (e, like_cong_right wild r 1 t 1 n s q)

pub is_file_cong : (G : Geometry) (user : ℕ) (s : Bytes) (q ext : ℕ) (r t : Bytes) → SameFile G r t → is_file_rule G user s q ext r ≡ is_file_rule G user s q ext t
unfolding is_file_rule
is_file_cong G user s q ext r t k = rw (named_cong false user s q r t k.user (same_name G r t k), covers_cong G r t k.run ext)

-- ---- names that are asked for: the same name asks for the same rows
module _ (s : Bytes) (q : ℕ) (r : Bytes) (p : ℕ) (same : SameName s q r p) where
  pub named_asked : (wild : Bool) (user : ℕ) (row : Bytes) → named wild user s q row ≡ named wild user r p row
  unfolding named
  named_asked wild user row = rw (like_cong_left wild s q r p same row 1)

  pub is_file_asked : (G : Geometry) (user ext : ℕ) (row : Bytes) → is_file_rule G user s q ext row ≡ is_file_rule G user r p ext row
  unfolding is_file_rule
  is_file_asked G user ext row = rw (named_asked false user row)

-- ---- FCBs
module _ (f g : Bytes) where
  pub random_cong : Agree f g 33 36 → random_of_rule f ≡ random_of_rule g
  unfolding random_of_rule
  random_cong h = rw (h 33 (omega arith) (omega arith), h 34 (omega arith) (omega arith), h 35 (omega arith) (omega arith))

  -- an FCB is looked at past its name by byte, in its name by seven bits
  pub fcb_right_cong : SameName f 1 g 1 → Agree f g 12 33 → fcb_right_rule f ≡ fcb_right_rule g
  unfolding fcb_right_rule
  fcb_right_cong n h =
      rw (right_cong false f 1 g 1 n, numbers_cong f g (λ i a b. h i (omega arith) (omega arith)), h 32 (omega arith) (omega arith))
