-- Document 01's checked examples, as one table: each says what the definitions give at the example's input, and its `-met` that there is such an input.
use Rattle.std.specs.Prelude.{◌≡◌, true, false, [], ◌∷◌, ℕ, ◌≤◌, length}
use Rattle.table.specs.Own.{calling}
use Rattle.format.specs.Diskette.{Bytes, eight_inch, disk_record, offset_of}
use Rattle.format.specs.Names.{name_right_rule}
use Rattle.format.specs.Entries.{entry_at, user_of, ex_of, extent_of, named}
use Rattle.format.specs.Consistent.{consistent}
use Rattle.format.specs.Notes.{is_listed}
use Rattle.format.specs.Fcb.{fcb_bytes, cr_of}
use Rattle.model.specs.declared.Asked.{Asked}
use Rattle.model.specs.declared.Session.{Session}
use Rattle.model.specs.Table.{time_right_rule}
use Rattle.model.specs.Lent.{Lent, protected}
use Rattle.model.specs.Search.{pattern_of, extent_hit_rule, hit}
use Rattle.model.specs.Kinds.{one_of}
use Rattle.model.specs.Entering.{three_bytes}
use Rattle.table.specs.Facts.{Ready}
use Rattle.fields.specs.Erased.{ErasedDisk}
use Rattle.examples.specs.Erased.{Fitting, SpaceIs}
use Rattle.examples.specs.Numbers.{Gives, HasEntry}
use Rattle.examples.specs.Random.{RandomIs, Six, Last}
use Rattle.examples.specs.Pattern.{AllAny}
use Rattle.examples.specs.Met.{LentWith, Largest, SlotOf}
use Rattle.examples.specs.Slots.{image_slot}

pub record Examples : Type 0 where
  -- block 0 record 0 at 6,656; block 0 record 1 at 7,424; block 3 record 2 at 9,984; block 242 record 7 at 254,336
  pub a : offset_of eight_inch (disk_record eight_inch 0 0) ≡ 6656
  pub b : offset_of eight_inch (disk_record eight_inch 0 1) ≡ 7424
  pub c : offset_of eight_inch (disk_record eight_inch 3 2) ≡ 9984
  pub d : offset_of eight_inch (disk_record eight_inch 242 7) ≡ 254336
  -- an empty disk, logged in: space bytes 88H 07H 00H, which is 1,928
  pub e_number : three_bytes 1928 ≡ 136 ∷ 7 ∷ 0 ∷ []
  pub e : (img : Bytes) → ErasedDisk eight_inch img → (map fcb buffer : Bytes) (s : Session) → Fitting eight_inch map fcb buffer s
      → (x y : Asked) → time_right_rule x ≡ true → time_right_rule y ≡ true
      → SpaceIs eight_inch img (136 ∷ 7 ∷ 0 ∷ []) map fcb buffer s x y
  pub e_met : (img : Bytes) × (map : Bytes) × (fcb : Bytes) × (buffer : Bytes) × (s : Session) × ErasedDisk eight_inch img × Fitting eight_inch map fcb buffer s
  -- R = 262,143 is extent 2,047, record 127; 262,144 gives 6
  pub f_last : (asked : Asked) (l : Lent) (s : Session) → one_of asked.number (33 ∷ 34 ∷ []) ≡ true → RandomIs l.fcb 255 255 3 → Last eight_inch asked l s
  pub f_over : (asked : Asked) (l : Lent) (s : Session) → one_of asked.number (33 ∷ 34 ∷ []) ≡ true → Ready eight_inch asked l s
      → (asked.number ≡ 34 → protected s ≡ false) → RandomIs l.fcb 0 0 4 → Six eight_inch asked l s
  pub f_met : (asked : Asked) → time_right_rule asked ≡ true → (r0 r1 r2 : ℕ) → LentWith asked (λ (f : Bytes). RandomIs f r0 r1 r2)
  -- an entry of extent 2,047 with rc 128, or more, which is read as 128: size bytes 00H 00H 04H; there is one with each such number
  pub g : (asked : Asked) (l : Lent) (s : Session) → Ready eight_inch (calling 35 asked) l s → name_right_rule false l.fcb 1 ≡ true → HasEntry eight_inch l s 2047 128
      → Gives eight_inch (calling 35 asked) l s (0 ∷ 0 ∷ 4 ∷ [])
  pub g_met : (rc : ℕ) → 128 ≤ rc → (asked : Asked) → time_right_rule asked ≡ true → Largest rc asked
  -- 36 at extent 1, cr 128: 256
  pub h : (asked : Asked) (l : Lent) (s : Session) → Ready eight_inch (calling 36 asked) l s → extent_of l.fcb ≡ 1 → cr_of l.fcb ≡ 128
      → Gives eight_inch (calling 36 asked) l s (three_bytes 256)
  pub h_met : (asked : Asked) → time_right_rule asked ≡ true → LentWith asked (λ (f : Bytes). (extent_of f ≡ 1) × (cr_of f ≡ 128))
  -- eleven 3FH match any name: in the name test, and in the pattern that 17 takes from an FCB, where byte 12 alone decides
  pub i_name : (s : Bytes) (q : ℕ) → AllAny s q → (user : ℕ) (row : Bytes) → user_of row ≡ user → named true user s q row ≡ true
  pub i_pattern : (fcb : Bytes) → length fcb ≡ fcb_bytes → AllAny fcb 1 → (user : ℕ) (row : Bytes) → user_of row ≡ user
      → hit eight_inch user (pattern_of fcb) row ≡ extent_hit_rule eight_inch (ex_of fcb) row
  pub i_met : (fcb : Bytes) × (length fcb ≡ fcb_bytes) × AllAny fcb 1
  -- blocks 1 and 243 in a slot: not consistent; 2 and 242 allowed, where nothing lists them
  pub j_1 : (img : Bytes) (e j : ℕ) → SlotOf img e j → consistent eight_inch (image_slot eight_inch img e j 1) ≡ false
  pub j_243 : (img : Bytes) (e j : ℕ) → SlotOf img e j → consistent eight_inch (image_slot eight_inch img e j 243) ≡ false
  pub j_2 : (img : Bytes) (e j : ℕ) → SlotOf img e j → is_listed eight_inch (entry_at eight_inch img) 2 ≡ false
      → consistent eight_inch (image_slot eight_inch img e j 2) ≡ true
  pub j_242 : (img : Bytes) (e j : ℕ) → SlotOf img e j → is_listed eight_inch (entry_at eight_inch img) 242 ≡ false
      → consistent eight_inch (image_slot eight_inch img e j 242) ≡ true
  pub j_met : (img : Bytes) × SlotOf img 0 0 × (is_listed eight_inch (entry_at eight_inch img) 2 ≡ false) × (is_listed eight_inch (entry_at eight_inch img) 242 ≡ false)
