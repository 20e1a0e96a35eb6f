-- Document 01: "An image is consistent when .."; with document 02, [8], on labels and date entries.
use Rattle.std.specs.Prelude.{Bool, false, not, cond, ℕ, ◌*◌, ◌/◌, ◌%◌, eqb, leb, ltb}
use Rattle.lists.specs.Tests.{◌and◌, ◌or◌, agree}
use Rattle.lists.specs.Below.{all_below, any_below}
use Rattle.lists.specs.Seen.{taken}
use Rattle.format.specs.Diskette.{Bytes, Geometry, slot_count}
use Rattle.format.specs.Names.{name_right_rule}
use Rattle.format.specs.Entries.{Rows, entry_at, user_of, ex_of, s2_of, slot_of, empty, used, is_file_rule, extent_of}
use Rattle.format.specs.Dates.{is_label, is_dates, label_right_rule, dates_right_rule, is_fourth, dated}

-- ex 0 to 31 and s2 0 to 63, of a row or an FCB; rc may be any byte
abbrev pub extent_right_rule : Bytes → Bool
extent_right_rule r = leb (ex_of r) 31 and leb (s2_of r) 63

-- 0, or the number of a block past the directory
unfoldable pub slot_right : Geometry → ℕ → Bool
slot_right G b = eqb b 0 or (leb G.area b and ltb b G.blocks)

unfoldable pub slots_right : Geometry → Bytes → Bool
slots_right G r = all_below (λ (j : ℕ). slot_right G (slot_of G r j)) slot_count

-- a file's entry has a user, a name, ex, s2 and slots in range
unfoldable pub file_right : Geometry → Bytes → Bool
file_right G r = used r and name_right_rule false r 1 and extent_right_rule r and slots_right G r

-- a label or a date entry has what it holds in range
unfoldable pub aside_right : Bytes → Bool
aside_right r = label_right_rule r or dates_right_rule r

-- each entry is empty, a file's, a label or a date entry
unfoldable pub entry_right : Geometry → Bytes → Bool
entry_right G r = empty r or file_right G r or aside_right r

-- the slots of all entries, counted through
abbrev pub slots_in_all : Geometry → ℕ
slots_in_all G = slot_count * G.entries

-- the block that slot x of them lists: 0 is none, and only used entries list blocks
unfoldable pub listed : Geometry → Rows → ℕ → ℕ
listed G d x = cond (used (d (x / slot_count))) (slot_of G (d (x / slot_count)) (x % slot_count)) 0

-- no block number other than 0 stands twice in the used entries
unfoldable pub listed_once : Geometry → Rows → ℕ → Bool
listed_once G d x = eqb (listed G d x) 0 or not (taken (listed G d) x (listed G d x))

-- the rows are of one file, and cover the same extent
unfoldable pub same_file_rule : Geometry → Bytes → Bytes → Bool
same_file_rule G r t = used r and used t and is_file_rule G (user_of t) t 1 (extent_of t) r

-- no two used entries agree in user, seven-bit name and extent
unfoldable pub alone : Geometry → Rows → ℕ → Bool
alone G d e = not (any_below (λ (f : ℕ). same_file_rule G (d e) (d f)) e)

-- date entries stand in all fourth positions or there is none, and nowhere else
unfoldable pub dates_placed : Rows → ℕ → Bool
dates_placed d e = agree (is_dates (d e)) (is_fourth e and dated d)

-- at most one label
unfoldable pub label_once : Rows → ℕ → Bool
label_once d e = not (is_label (d e) and any_below (λ (f : ℕ). is_label (d f)) e)

unfoldable pub places_right : Geometry → Rows → Bool
places_right G d = all_below (λ (e : ℕ). dates_placed d e and label_once d e) G.entries

unfoldable pub consistent_rows : Geometry → Rows → Bool
consistent_rows G d =
    all_below (λ (e : ℕ). entry_right G (d e)) G.entries and all_below (listed_once G d) (slots_in_all G) and all_below (alone G d) G.entries
    and places_right G d

unfoldable pub consistent : Geometry → Bytes → Bool
consistent G img = consistent_rows G (entry_at G img)
