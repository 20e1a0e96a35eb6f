-- Document 01, "The diskette". Every definition takes the disk's sizes as a parameter; the 8-inch disk is one of them.
use Rattle.std.specs.Prelude.{◌≡◌, Bool, List, [], ◌∷◌, ℕ, ◌+◌, ◌-◌, ◌*◌, ◌/◌, ◌%◌, ◌≤◌, ◌<◌, eqb, get_or, length}
use Rattle.lists.specs.Splice.{part, splice}

abbrev pub Bytes : Type 0
Bytes = List ℕ

-- the sizes of a disk
pub record Geometry : Type 0 where
  -- the records of an image, one a sector: those of the system tracks, of the blocks, and of sectors that belong to no block
  pub records : ℕ
  -- sectors a track, of one record each
  pub sectors : ℕ
  -- the system tracks, which are never touched
  pub reserved : ℕ
  -- records a block
  pub per_block : ℕ
  pub blocks : ℕ
  -- the directory is blocks 0 to area - 1
  pub area : ℕ
  pub entries : ℕ
  -- the physical sector, counted from 1, of a logical one, counted from 0
  pub physical : ℕ → ℕ

-- sizes that no disk changes: the bytes of a record, of an entry and of an entry's slots, the entries of a record, the records of an extent,
-- and one past the last extent; and the sixteen places by which slots are counted, in pending notes too, of which a disk may use only the
-- first (`slots_on`)
abbrev pub record_bytes : ℕ
record_bytes = 128

abbrev pub entry_bytes : ℕ
entry_bytes = 32

abbrev pub entries_per_record : ℕ
entries_per_record = 4

abbrev pub slot_count : ℕ
slot_count = 16

abbrev pub slot_bytes : ℕ
slot_bytes = 16

abbrev pub extent_records : ℕ
extent_records = 128

abbrev pub extents : ℕ
extents = 2048

-- the last record of the last extent: 262,143
abbrev pub last_record : ℕ
last_record = extents * extent_records - 1

-- the physical sectors of the 8-inch disk, from logical 0 on
unfoldable pub skew : List ℕ
skew = 1 ∷ 7 ∷ 13 ∷ 19 ∷ 25 ∷ 5 ∷ 11 ∷ 17 ∷ 23 ∷ 3 ∷ 9 ∷ 15 ∷ 21 ∷ 2 ∷ 8 ∷ 14 ∷ 20 ∷ 26 ∷ 6 ∷ 12 ∷ 18 ∷ 24 ∷ 4 ∷ 10 ∷ 16 ∷ 22 ∷ []

unfoldable pub skewed : ℕ → ℕ
skewed s = get_or skew s 0

abbrev pub eight_inch : Geometry
eight_inch = record { records = 77 * 26; sectors = 26; reserved = 2; per_block = 8; blocks = 243; area = 2; entries = 64; physical = skewed }

-- the slots of an entry: a block number takes one byte
unfoldable pub slots_on : Geometry → ℕ
slots_on G = slot_count

-- the image, stored track after track
abbrev pub image_bytes : Geometry → ℕ
image_bytes G = G.records * record_bytes

-- an image is as long as the disk's: the test, and what it says of a length and of an image
unfoldable pub is_long : Geometry → Bytes → Bool
is_long G img = eqb (length img) (image_bytes G)

abbrev pub LongBy : Geometry → ℕ → Type 0
LongBy G n = n ≡ image_bytes G

abbrev pub Long : Geometry → Bytes → Type 0
Long G img = LongBy G (length img)

-- record k of block b, as a disk record
abbrev pub disk_record : Geometry → ℕ → ℕ → ℕ
disk_record G b k = G.per_block * b + k

-- the sectors of the image that stand before disk record d
unfoldable pub sectors_before : Geometry → ℕ → ℕ
sectors_before G d = G.sectors * (G.reserved + d / G.sectors) + G.physical (d % G.sectors) - 1

-- What the laws ask of a disk's sizes; no definition uses it, and the 8-inch disk's are so (crate disk). The sizes that hold on every
-- disk enter here too: an entry's slots are enough for the 128 records of an extent
pub record Sound (G : Geometry) : Type 0 where
  pub some_sector : 0 < G.sectors
  pub some_record : 0 < G.per_block
  pub physical_low : (s : ℕ) → s < G.sectors → 1 ≤ G.physical s
  pub physical_high : (s : ℕ) → s < G.sectors → G.physical s ≤ G.sectors
  pub physical_once : (s t : ℕ) → s < G.sectors → t < G.sectors → G.physical s ≡ G.physical t → s ≡ t
  -- the directory lies in its blocks, from block 0 on, and leaves blocks over
  pub area_holds : G.entries ≤ entries_per_record * (G.per_block * G.area)
  pub area_some : 0 < G.area
  pub area_below : G.area < G.blocks
  -- every record of every block lies in the image
  pub image_holds : (d : ℕ) → d < G.per_block * G.blocks → sectors_before G d < G.records
  pub slots_hold : extent_records ≤ slots_on G * G.per_block
  -- the directory's records are full: entries come in fours, and there are some
  pub fours : G.entries % entries_per_record ≡ 0
  pub some_entry : 0 < G.entries

-- the byte of the image at which disk record d starts
unfoldable pub offset_of : Geometry → ℕ → ℕ
offset_of G d = sectors_before G d * record_bytes

-- the bytes of disk record d, and the image with that record replaced
unfoldable pub record_at : Geometry → Bytes → ℕ → Bytes
record_at G img d = part img (offset_of G d) record_bytes

unfoldable pub with_record : Geometry → Bytes → ℕ → Bytes → Bytes
with_record G img d bytes = splice img (offset_of G d) bytes
