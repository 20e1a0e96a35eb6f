-- Laws of the picker's bytes.
use Rattle.std.specs.Prelude.{◌≡◌, refl, true, false, Bool, ℕ, ◌+◌, ◌%◌, ◌≤◌, List, [], ◌∷◌, length, take, set, get_or, eqb}
use Rattle.std.proofs.Common.{zero-add, sym, ap, ◌∙◌, arith, length-take-le}
use lib.Pointwise.{pointwise}
use Rattle.std.specs.List.{list_all, zip, starts_with}
use Rattle.std.proofs.lemmas.Bool.{eq-eqb, eqb-true}
use borrow.Author.Tests.{ne_eqb}
use Rattle.std.proofs.lemmas.List.{get_or-take}
use Rattle.lists.specs.Cases.{bool_ext}
use Rattle.lists.specs.Tests.{◌and◌, ◌or◌}
use Rattle.lists.specs.Below.{all_below, all_cong}
use Rattle.lists.specs.Ranges.{all_pairs}
use Rattle.lists.specs.Splice.{splice, copies}
use Rattle.format.specs.Diskette.{Bytes}
use Rattle.format.specs.Names.{name_bytes, byte_like_rule, name_like_rule}
use Rattle.picking.specs.declared.Wanted.{Wanted}
use Rattle.picking.specs.Picker.{stamp_of_rule, log_record_rule, has_stamp_rule, one_file_rule}

-- the stamp put into bytes 1AH, with CR and LF after it
pub log_bytes : (year day : ℕ) (stamp : Bytes) → stamp ≡ stamp_of_rule year day → (bytes : Bytes) → bytes ≡ splice (copies 128 26) 0 stamp
    → set (set bytes 9 13) 10 10 ≡ log_record_rule year day
unfolding stamp_of_rule log_record_rule splice copies
log_bytes year day stamp s bytes b = rw (b, s)

-- ---- a record that starts with a stamp
eqb_turned : (a b : ℕ) → eqb a b ≡ eqb b a
eqb_turned a b = bool_ext _ _ (λ t. eq-eqb b a (sym (eqb-true a b t))) (λ t. eq-eqb a b (sym (eqb-true b a t)))

-- two lists of one length, element by element
pointwise_pairs : (xs ys : List ℕ) → length xs ≡ length ys → pointwise eqb xs ys ≡ list_all (λ (z : ℕ × ℕ). eqb z.0 z.1) (zip xs ys)
pointwise_pairs [] [] e = refl
pointwise_pairs [] (y ∷ ys) e = absurd (omega arith)
pointwise_pairs (x ∷ xs) [] e = absurd (omega arith)
pointwise_pairs (x ∷ xs) (y ∷ ys) e = rw (pointwise_pairs xs ys (omega arith))

starts_below : (s xs : Bytes) (n : ℕ) → length s ≡ n → n ≤ length xs
    → starts_with eqb xs s ≡ all_below (λ (i : ℕ). eqb (get_or xs i 0) (get_or s i 0)) n
starts_below s xs n l h =
    let t : length (take (length s) xs) ≡ n = length-take-le (length s) xs (omega arith) ∙ l in
    pointwise_pairs s (take (length s) xs) (l ∙ sym t) ∙ all_pairs eqb s (take (length s) xs) n l t
    ∙ all_cong _ _ n (λ i k. ap (eqb (get_or s i 0)) (get_or-take (length s) xs i 0 (omega arith)) ∙ eqb_turned (get_or s i 0) (get_or xs i 0))

pub stamp_starts : (year day : ℕ) (bytes : Bytes) → length bytes ≡ 128 → starts_with eqb bytes (stamp_of_rule year day) ≡ has_stamp_rule year day bytes
unfolding stamp_of_rule has_stamp_rule
stamp_starts year day bytes l = starts_below (stamp_of_rule year day) bytes 9 refl (omega arith)

-- ---- two names, byte by byte
-- byte i of one name against that of another
module _ (s r : Bytes) (i : ℕ) where
  pub like_same : get_or s i 0 % 128 ≡ get_or r i 0 % 128 → byte_like_rule false (get_or s (0 + i) 0) (get_or r (0 + i) 0) ≡ true
  unfolding byte_like_rule ◌or◌
  like_same e = simp (zero-add, eq-eqb _ _ e)

  pub like_differs : (get_or s i 0 % 128 ≡ get_or r i 0 % 128 → ⊥) → byte_like_rule false (get_or s (0 + i) 0) (get_or r (0 + i) 0) ≡ false
  unfolding byte_like_rule ◌or◌ ◌and◌
  like_differs e = simp (zero-add, ne_eqb _ _ e)

abbrev pub alike : ℕ × ℕ → Bool
alike z = eqb (z.0 % 128) (z.1 % 128)

low_bits : (b c : Bool) → b ≡ (b or (false and c))
unfolding ◌or◌ ◌and◌
low_bits true c = refl
low_bits false c = refl

-- names of eleven bytes
pub names_alike : (w : Wanted) → length w.book ≡ 11 → length w.log ≡ 11 → list_all alike (zip w.book w.log) ≡ one_file_rule w
unfolding one_file_rule name_like_rule byte_like_rule
names_alike w a b =
    all_pairs (λ (x y : ℕ). eqb (x % 128) (y % 128)) w.book w.log name_bytes a b
    ∙ all_cong _ _ name_bytes (λ i k. rw (zero-add i) (low_bits _ _))
