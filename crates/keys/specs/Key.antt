-- The key of a row: a number below 256 made of user, seven-bit name and extent, so that rows of one file have one key. Where two
-- rows' keys differ they need no comparison.
use Rattle.std.specs.Prelude.{◌≡◌, true, false, [], ◌∷◌}
use Rattle.std.proofs.Math.Path.{refl}
use Rattle.std.proofs.Common.{sym, ◌∙◌}
use Prim.Native.Nat.{ℕ, zero, suc, ◌+◌, ◌*◌, ◌/◌, ◌%◌, ◌<◌}
use native.Mathlib.Omega.{arith}
use Rattle.std.proofs.Math.ListN.{get_or}
use Rattle.std.specs.Int.Bits.{bit_and, bit_xor, and_mask, and_zero_r}
use Rattle.lists.specs.Tests.{◌and◌}
use Rattle.lists.specs.Below.{all_below}
use Rattle.lanes.specs.Lanes.{lanes, bytes_at, half_at, word_at, lanes_cong, lanes_and, lanes_short, five_lanes, eight_bytes}
use Rattle.format.specs.Diskette.{Bytes, Geometry}
use Rattle.format.specs.Names.{name_bytes, name_like_rule}
use Rattle.format.specs.Entries.{user_of, ex_of, extent_of, run_of}
use Rattle.facts.specs.Names.{like_at, like_refl}
use Rattle.consistency.specs.Facts.{SameFile}

abbrev pub key_count : ℕ
key_count = 256

-- what of each byte counts: the user, a name byte's low seven bits, and of ex what the extent number shares with it
unfoldable pub low_mask : ℕ → ℕ
low_mask zero = 255
low_mask (suc i) = 127

unfoldable pub high_mask : ℕ → ℕ
high_mask i = get_or (127 ∷ 127 ∷ 127 ∷ 127 ∷ 31 ∷ []) i 0

unfoldable pub low_part : Bytes → ℕ
low_part r = lanes 8 (λ (i : ℕ). bit_and (get_or r i 0) (low_mask i))

unfoldable pub high_part : Bytes → ℕ
high_part r = lanes 8 (λ (i : ℕ). bit_and (get_or r (8 + i) 0) (high_mask i))

-- Any numbers are right in this product; with these, names that are counted through, and the extents of a file, share keys about as
-- seldom as by chance.
unfoldable pub mixed : ℕ → ℕ
mixed both = both % 4294967296 * 930724223 + both / 4294967296 * 1249645923

unfoldable pub key_from : ℕ → ℕ → ℕ
key_from low high = mixed (bit_xor low (high * 8)) / 67108864 % key_count

unfoldable pub key_of : Bytes → ℕ
key_of r = key_from (low_part r) (high_part r)

-- ---- the key of what a row is asked for by: a user, the name in s at q, and an extent
unfoldable pub low_asked : ℕ → Bytes → ℕ → ℕ
low_asked user s q = lanes 7 (λ (i : ℕ). bit_and (get_or s (q + i) 0) 127) * 256 + bit_and user 255

unfoldable pub high_asked : Bytes → ℕ → ℕ → ℕ
high_asked s q ext = lanes 4 (λ (i : ℕ). bit_and (get_or s (q + 7 + i) 0) 127) + ext % 32 * 4294967296

unfoldable pub file_key_rule : ℕ → Bytes → ℕ → ℕ → ℕ
file_key_rule user s q ext = key_from (low_asked user s q) (high_asked s q ext)

-- a row has the key of what it is asked for by
module _ (r : Bytes) (user : ℕ) (s : Bytes) (q ext : ℕ) (u : user_of r ≡ user) (like : name_like_rule false s q r 1 ≡ true) (e : extent_of r ≡ ext) where
  seven_same : (i j k : ℕ) → j ≡ 1 + i → k ≡ q + i → i < name_bytes → bit_and (get_or r j 0) 127 ≡ bit_and (get_or s k 0) 127
  seven_same i j k a b h =
      rw (a, b) (and_mask (get_or r (1 + i) 0) 7 ∙ sym (like_at s q r 1 like i h) ∙ sym (and_mask (get_or s (q + i) 0) 7))

  low_asked_law : low_part r ≡ low_asked user s q
  unfolding low_part low_asked lanes low_mask
  low_asked_law = rw (lanes_cong 7 (λ (i : ℕ). bit_and (get_or r (suc i) 0) 127) (λ (i : ℕ). bit_and (get_or s (q + i) 0) 127) (λ i h. seven_same i (suc i) (q + i) (omega arith) refl (omega arith)), u)

  four_asked : (i : ℕ) → i < 4 → bit_and (get_or r (8 + i) 0) (high_mask i) ≡ bit_and (get_or s (q + 7 + i) 0) 127
  unfolding high_mask
  four_asked zero h = seven_same 7 8 (q + 7 + 0) refl (omega arith) (omega arith)
  four_asked (suc zero) h = seven_same 8 9 (q + 7 + 1) refl (omega arith) (omega arith)
  four_asked (suc (suc zero)) h = seven_same 9 10 (q + 7 + 2) refl (omega arith) (omega arith)
  four_asked (suc (suc (suc zero))) h = seven_same 10 11 (q + 7 + 3) refl (omega arith) (omega arith)
  four_asked (suc (suc (suc (suc i)))) h = absurd (omega arith)

  ex_asked : bit_and (ex_of r) 31 ≡ ext % 32
  unfolding extent_of
  ex_asked = let z : ex_of r % 32 ≡ ext % 32 = omega arith in and_mask (ex_of r) 5 ∙ z

  high_asked_law : high_part r ≡ high_asked s q ext
  unfolding high_part high_asked high_mask
  high_asked_law =
      five_lanes (λ (i : ℕ). bit_and (get_or r (8 + i) 0) (high_mask i)) (and_zero_r (get_or r 13 0)) (and_zero_r (get_or r 14 0)) (and_zero_r (get_or r 15 0))
      ∙ rw (lanes_cong 4 _ _ four_asked, ex_asked)

  pub key_asked : key_of r ≡ file_key_rule user s q ext
  unfolding key_of file_key_rule
  key_asked = rw (low_asked_law, high_asked_law)

-- so rows of one file have one key, where each extent is a run by itself
pub key_same : (G : Geometry) (single : (x : ℕ) → run_of G x ≡ x) (r t : Bytes) → SameFile G r t → key_of r ≡ key_of t
key_same G single r t s =
    key_asked r (user_of t) t 1 (extent_of t) s.user s.name (sym (single (extent_of r)) ∙ s.run ∙ single (extent_of t))
    ∙ sym (key_asked t (user_of t) t 1 (extent_of t) refl (like_refl t 1) refl)

from_below : (low high : ℕ) → key_from low high < key_count
unfolding key_from
from_below low high = omega arith

pub key_below : (r : Bytes) → key_of r < key_count
unfolding key_of
key_below r = from_below (low_part r) (high_part r)

pub asked_below : (user : ℕ) (s : Bytes) (q ext : ℕ) → file_key_rule user s q ext < key_count
unfolding file_key_rule
asked_below user s q ext = from_below (low_asked user s q) (high_asked s q ext)

-- ---- the words of a row, masked
low_masks : (i : ℕ) → i < 8 → low_mask i < 256
unfolding low_mask all_below ◌and◌
low_masks = eight_bytes low_mask refl

high_masks : (i : ℕ) → i < 8 → high_mask i < 256
unfolding high_mask all_below ◌and◌
high_masks = eight_bytes high_mask refl

module _ (r : Bytes) (in-low : (i : ℕ) → i < 8 → get_or r i 0 < 256) (in-high : (i : ℕ) → i < 8 → get_or r (8 + i) 0 < 256) where
  pub low_part_law : bit_and (word_at r 0) 9187201950435737599 ≡ low_part r
  unfolding bytes_at low_part lanes low_mask
  low_part_law = lanes_and 8 (λ (i : ℕ). get_or r i 0) low_mask in-low low_masks

  pub high_part_law : bit_and (word_at r 8) 135283048319 ≡ high_part r
  unfolding bytes_at high_part lanes high_mask
  high_part_law = lanes_and 8 (λ (i : ℕ). get_or r (8 + i) 0) high_mask in-high high_masks

-- ---- the words of a name, masked: its first seven bytes, and four from a place on
unfoldable seven_mask : ℕ → ℕ
seven_mask i = get_or (127 ∷ 127 ∷ 127 ∷ 127 ∷ 127 ∷ 127 ∷ 127 ∷ []) i 0

seven_masks : (i : ℕ) → i < 8 → seven_mask i < 256
unfolding seven_mask all_below ◌and◌
seven_masks = eight_bytes seven_mask refl

module _ (s : Bytes) (at : ℕ) where
  pub seven_part : ((i : ℕ) → i < 8 → get_or s (at + i) 0 < 256) → bit_and (word_at s at) 35887507618889599 ≡ lanes 7 (λ (i : ℕ). bit_and (get_or s (at + i) 0) 127)
  unfolding bytes_at lanes seven_mask
  seven_part bytes =
      lanes_and 8 (λ (i : ℕ). get_or s (at + i) 0) seven_mask bytes seven_masks
      ∙ lanes_short 7 (λ (i : ℕ). bit_and (get_or s (at + i) 0) (seven_mask i)) (and_zero_r (get_or s (at + 7) 0))

  pub four_part : ((i : ℕ) → i < 4 → get_or s (at + i) 0 < 256) → bit_and (half_at s at) 2139062143 ≡ lanes 4 (λ (i : ℕ). bit_and (get_or s (at + i) 0) 127)
  unfolding bytes_at lanes
  four_part bytes = lanes_and 4 (λ (i : ℕ). get_or s (at + i) 0) (λ (i : ℕ). 127) bytes (λ i h. omega arith)
