-- What document 01 says of a consistent directory, as facts: the form that other laws use. Reflect.antt shows that the test
-- `consistent_rows` says the same.
use Rattle.std.specs.Prelude.{◌≡◌, true, false, ℕ, ◌≤◌, ◌<◌}
use Rattle.format.specs.Diskette.{Bytes, Geometry, slot_count}
use Rattle.format.specs.Names.{name_right_rule, name_like_rule}
use Rattle.format.specs.Entries.{Rows, user_of, ex_of, s2_of, slot_of, empty, used, extent_of, run_of}
use Rattle.format.specs.Dates.{is_label, is_dates, is_fourth, dated}
use Rattle.format.specs.Consistent.{aside_right}
use Rattle.lists.specs.Tests.{◌and◌}

-- ex and s2 of a row or an FCB are in range
pub record Numbers (r : Bytes) : Type 0 where
  pub ex : ex_of r ≤ 31
  pub s2 : s2_of r ≤ 63

-- the fields of a used entry are in range
pub record Fine (G : Geometry) (r : Bytes) : Type 0 where
  pub user : user_of r ≤ 15
  pub name : name_right_rule false r 1 ≡ true
  pub numbers : Numbers r
  pub low : (j : ℕ) → j < slot_count → (slot_of G r j ≡ 0 → ⊥) → G.area ≤ slot_of G r j
  pub high : (j : ℕ) → j < slot_count → (slot_of G r j ≡ 0 → ⊥) → slot_of G r j < G.blocks

-- block b stands in slot j of the used entry e
pub record Stands (G : Geometry) (d : Rows) (b e j : ℕ) : Type 0 where
  pub entry : e < G.entries
  pub place : j < slot_count
  pub uses : used (d e) ≡ true
  pub is : slot_of G (d e) j ≡ b
  pub real : b ≡ 0 → ⊥

-- the rows agree in user and seven-bit name, and cover the same extents
pub record SameFile (G : Geometry) (r t : Bytes) : Type 0 where
  pub user : user_of r ≡ user_of t
  pub name : name_like_rule false t 1 r 1 ≡ true
  pub run : run_of G (extent_of r) ≡ run_of G (extent_of t)

pub record Consistent (G : Geometry) (d : Rows) : Type 0 where
  -- an entry is fine, empty, or a label or date entry
  pub fine : (e : ℕ) → e < G.entries → used (d e) ≡ true → Fine G (d e)
  pub other : (e : ℕ) → e < G.entries → used (d e) ≡ false → empty (d e) ≡ false → aside_right (d e) ≡ true
  -- date entries stand in all fourth positions or there is none
  pub dates : (e : ℕ) → e < G.entries → is_dates (d e) ≡ (is_fourth e and dated d)
  pub label : (e f : ℕ) → e < G.entries → f < G.entries → is_label (d e) ≡ true → is_label (d f) ≡ true → e ≡ f
  -- a block stands at one place
  pub once_entry : (b e j f k : ℕ) → Stands G d b e j → Stands G d b f k → e ≡ f
  pub once_slot : (b e j f k : ℕ) → Stands G d b e j → Stands G d b f k → j ≡ k
  -- one entry a user, name and extent
  pub apart : (e f : ℕ) → e < G.entries → f < G.entries → used (d e) ≡ true → used (d f) ≡ true → SameFile G (d e) (d f) → e ≡ f
