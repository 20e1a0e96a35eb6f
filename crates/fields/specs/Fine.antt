-- Rows that calls make are fine entries: a user, a name, ex, s2 and blocks in range.
use Rattle.std.specs.Prelude.{◌≡◌, true, false, ℕ, ◌≤◌, ◌<◌, length}
use Rattle.std.proofs.Common.{◌∙◌, arith}
use Rattle.format.specs.Diskette.{Bytes, Geometry, extents}
use Rattle.format.specs.Names.{name_right_rule}
use Rattle.format.specs.Entries.{ex_of}
use Rattle.consistency.specs.Facts.{Fine}
use Rattle.facts.specs.Names.{right_cong}
use Rattle.model.specs.Entering.{made_row_rule, next_row_rule, renamed_row_rule}
use Rattle.fields.specs.Making.{user_made, name_made, ex_made, s2_made, slot_made, user_next, name_next, ex_next, s2_next, slot_next, user_renamed, name_renamed, rest_renamed, slot_renamed}

module _ (G : Geometry) (row fcb : Bytes) (hr : length row ≡ 32) (fine : Fine G row) where
  -- a new name
  pub fine_renamed : name_right_rule false fcb 17 ≡ true → Fine G (renamed_row_rule fcb row)
  fine_renamed n = record {
    user = rw (user_renamed fcb row hr) fine.user;
    name = right_cong false (renamed_row_rule fcb row) 1 fcb 17 (name_renamed fcb row hr) ∙ n;
    numbers = record {
      ex = rw (rest_renamed fcb row hr 32 12 (omega arith) (omega arith)) fine.numbers.ex;
      s2 = rw (rest_renamed fcb row hr 32 14 (omega arith) (omega arith)) fine.numbers.s2;
    };
    low = λ j h n. rw (slot_renamed fcb row hr G j) (fine.low j h (λ z. n (slot_renamed fcb row hr G j ∙ z)));
    high = λ j h n. rw (slot_renamed fcb row hr G j) (fine.high j h (λ z. n (slot_renamed fcb row hr G j ∙ z)));
  }

-- the row of a new extent
pub fine_next : (G : Geometry) (row : Bytes) (ext : ℕ) → length row ≡ 32 → Fine G row → ext < extents → Fine G (next_row_rule row ext)
fine_next G row ext hr fine h = record {
  user = rw (user_next row ext hr) fine.user;
  name = right_cong false (next_row_rule row ext) 1 row 1 (name_next row ext hr) ∙ fine.name;
  numbers = record {
    ex = rw (ex_next row ext hr) (omega arith);
    s2 = rw (s2_next row ext hr) (omega arith);
  };
  low = λ j l n. absurd (n (slot_next row ext hr G j));
  high = λ j l n. absurd (n (slot_next row ext hr G j));
}

-- the row of a new file
pub fine_made : (G : Geometry) (user : ℕ) (fcb : Bytes) → user ≤ 15 → name_right_rule false fcb 1 ≡ true → ex_of fcb ≤ 31 → Fine G (made_row_rule user fcb)
fine_made G user fcb hu n x = record {
  user = rw (user_made user fcb) hu;
  name = right_cong false (made_row_rule user fcb) 1 fcb 1 (name_made user fcb) ∙ n;
  numbers = record {
    ex = rw (ex_made user fcb) x;
    s2 = rw (s2_made user fcb) (omega arith);
  };
  low = λ j l n. absurd (n (slot_made user fcb G j));
  high = λ j l n. absurd (n (slot_made user fcb G j));
}
