-- Labels, date entries and the places of stamps, by computing.
use Rattle.std.specs.Prelude.{◌≡◌, refl, true, false, ◌∷◌, ◌++◌, ℕ, replicate}
use Rattle.lists.specs.Tests.{◌and◌}
use Rattle.lists.specs.Below.{all_below}
use Rattle.format.specs.Diskette.{Bytes}
use Rattle.format.specs.Dates.{is_label, is_dates, bcd, stamp_right, asks_create, asks_update, asks_access, label_right_rule, stamp_place, dates_right_rule, fourth_of}

-- a new date entry
abbrev pub new_dates : Bytes
new_dates = 33 ∷ replicate 31 0

-- a label whose byte 12 asks, with its two stamps zero
abbrev pub label_with : ℕ → Bytes
label_with asking = 32 ∷ (replicate 11 32 ++ (asking ∷ replicate 19 0))

pub record Dates : Type 0 where
  -- a new date entry; one whose last hour is no BCD
  pub new : dates_right_rule new_dates ≡ true
  pub bad : dates_right_rule (33 ∷ (replicate 26 0 ++ (10 ∷ replicate 4 0))) ≡ false
  -- create and update, access and update; create and access is refused
  pub create_update : label_right_rule (label_with 48) ≡ true
  pub access_update : label_right_rule (label_with 96) ≡ true
  pub create_access : label_right_rule (label_with 80) ≡ false
  -- 59H, 99H are BCD; 5AH, A0H are not
  pub fifty_nine : bcd 89 ≡ true
  pub ninety_nine : bcd 153 ≡ true
  pub low_nibble : bcd 90 ≡ false
  pub high_nibble : bcd 160 ≡ false
  -- the stamps beside entry 6 are bytes 21 to 28 of entry 7
  pub entry : fourth_of 6 ≡ 7
  pub first : stamp_place 2 0 ≡ 21
  pub update : stamp_place 2 1 ≡ 25

pub dates : Dates
unfolding dates_right_rule label_right_rule is_label is_dates stamp_right bcd asks_create asks_update asks_access all_below ◌and◌
dates = record {
  new = refl;
  bad = refl;
  create_update = refl;
  access_update = refl;
  create_access = refl;
  fifty_nine = refl;
  ninety_nine = refl;
  low_nibble = refl;
  high_nibble = refl;
  entry = refl;
  first = refl;
  update = refl;
}
