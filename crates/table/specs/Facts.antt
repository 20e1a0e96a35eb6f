-- What a table that passed says of each call, as facts that later laws use.
use Rattle.std.specs.Prelude.{◌≡◌, ◌⊎◌, Bool, true, false, ℕ, ◌≤◌, ◌<◌, length, get_or, None}
use Rattle.format.specs.Diskette.{Geometry, record_bytes, extents, Long}
use Rattle.format.specs.Names.{name_right_rule}
use Rattle.format.specs.Entries.{ex_of, s2_of, named, read_only, find_named_rule, find_empty_rule}
use Rattle.format.specs.Consistent.{consistent}
use Rattle.format.specs.Notes.{map_right, find_free}
use Rattle.format.specs.Fcb.{fcb_bytes, cr_of}
use Rattle.facts.specs.Found.{FoundAt}
use Rattle.model.specs.declared.Session.{Session}
use Rattle.model.specs.Lent.{Lent, rows_of, search_on, with_lifted}
use Rattle.model.specs.Target.{target_extent, present_entry, target_entry, block_there, record_there, read_only_there}
use Rattle.model.specs.Search.{pattern_of, find_hit_rule}
use Rattle.model.specs.declared.Asked.{Asked}
use Rattle.model.specs.declared.Kind.{Kind}
use Rattle.model.specs.declared.Kind.TheVariants.{Unlisted, Quiet, Search, User, Settle, Close, Delete, Create, Rename, Read, Write}
use Rattle.model.specs.Kinds.{uses_fcb_rule, kind_of, is_call}
use Rattle.model.specs.Table.{time_right_rule, asked_entry, own_rows, protection_holds}
use Rattle.table.specs.First.{NoneHolds}

-- the lengths, the user and the search place are right
pub record Fits (G : Geometry) (l : Lent) (s : Session) : Type 0 where
  pub image_long : Long G l.drive.image
  pub map_long : length l.drive.map ≡ G.blocks
  pub fcb_long : length l.fcb ≡ fcb_bytes
  pub buffer_long : length l.buffer ≡ record_bytes
  pub user_low : s.user ≤ 15
  pub place_low : s.place ≤ G.entries

-- whatever the protection
pub fits_lifted : {G : Geometry} {l : Lent} {s : Session} (b : ℕ) → Fits G l s → Fits G l (with_lifted s b)
fits_lifted b f = record {
  image_long = f.image_long;
  map_long = f.map_long;
  fcb_long = f.fcb_long;
  buffer_long = f.buffer_long;
  user_low = f.user_low;
  place_low = f.place_low;
}

module _ (G : Geometry) (l : Lent) (s : Session) where
  -- the files that a call names, by a pattern or not: there are some, and none of them is read-only
  pub record NamedFiles (wild : Bool) : Type 0 where
    pub some : FoundAt (find_named_rule G (rows_of G l) wild s.user l.fcb 1)
    pub writable : (e : ℕ) → e < G.entries → named wild s.user l.fcb 1 (rows_of G l e) ≡ true → read_only (rows_of G l e) ≡ false

  pub record Opens : Type 0 where
    pub name : name_right_rule false l.fcb 1 ≡ true
    pub ex : ex_of l.fcb ≤ 31
    pub entry : FoundAt (asked_entry G l s.user)

  pub record Closes : Type 0 where
    pub entry : FoundAt (present_entry G s.user l)

  pub record Searches : Type 0 where
    pub name : name_right_rule true l.fcb 1 ≡ true
    pub ex : (ex_of l.fcb ≤ 31) ⊎ (ex_of l.fcb ≡ 63)
    pub entry : FoundAt (find_hit_rule G (rows_of G l) s.user (pattern_of l.fcb) 0)

  pub record SearchesOn : Type 0 where
    pub on : search_on s ≡ true
    pub entry : FoundAt (find_hit_rule G (rows_of G l) s.user s.pattern s.place)

  pub record Deletes : Type 0 where
    pub name : name_right_rule true l.fcb 1 ≡ true
    pub files : NamedFiles true

  pub record Makes : Type 0 where
    pub name : name_right_rule false l.fcb 1 ≡ true
    pub ex : ex_of l.fcb ≤ 31
    pub new : asked_entry G l s.user ≡ None
    pub entry : FoundAt (find_empty_rule G (rows_of G l))

  pub record Renames : Type 0 where
    pub name : name_right_rule false l.fcb 1 ≡ true
    pub new_name : name_right_rule false l.fcb 17 ≡ true
    pub files : NamedFiles false
    pub new : (e : ℕ) → e < G.entries → named false s.user l.fcb 17 (rows_of G l e) ≡ false

  pub record Sizes : Type 0 where
    pub name : name_right_rule false l.fcb 1 ≡ true
    pub some : FoundAt (find_named_rule G (rows_of G l) false s.user l.fcb 1)

  pub record Positions : Type 0 where
    pub ex : ex_of l.fcb ≤ 31
    pub s2 : s2_of l.fcb ≤ 63
    pub cr : cr_of l.fcb ≤ 128

  -- 20 and 33
  pub record Reads (n : ℕ) : Type 0 where
    pub entry : FoundAt (present_entry G s.user l)
    pub target : FoundAt (target_entry G n s.user l)
    pub extent : target_extent n l.fcb < extents
    pub there : record_there G n s.user l ≡ true

  -- 21 and 34: an entry for the target or an empty one, and a block or a free one
  pub record Writes (n : ℕ) : Type 0 where
    pub entry : FoundAt (present_entry G s.user l)
    pub writable : read_only_there G n s.user l ≡ false
    pub extent : target_extent n l.fcb < extents
    pub room : target_entry G n s.user l ≡ None → FoundAt (find_empty_rule G (rows_of G l))
    pub block : block_there G n s.user l ≡ 0 → FoundAt (find_free G l.drive.map)

-- what the first three rows say of every call that they pass
pub record Ready (G : Geometry) (asked : Asked) (l : Lent) (s : Session) : Type 0 where
  pub fits : Fits G l s
  pub time : time_right_rule asked ≡ true
  pub drive : uses_fcb_rule asked.number ≡ true → get_or l.fcb 0 0 ≤ 1
  pub image_right : consistent G l.drive.image ≡ true
  pub map_right_law : (asked.number ≡ 13 → ⊥) → map_right G (rows_of G l) l.drive.map ≡ true

pub ready_lifted : {G : Geometry} {asked : Asked} {l : Lent} {s : Session} (b : ℕ) → Ready G asked l s → Ready G asked l (with_lifted s b)
ready_lifted b r = record { fits = fits_lifted b r.fits; time = r.time; drive = r.drive; image_right = r.image_right; map_right_law = r.map_right_law }

-- a call's own facts, by its kind, and by its number where the calls of a kind differ
abbrev pub Own : Geometry → Asked → Lent → Session → Kind → Type 0
Own G asked l s Unlisted = ⊥
Own G asked l s Quiet = (asked.number ≡ 15 → Opens G l s) × (asked.number ≡ 35 → Sizes G l s) × (asked.number ≡ 36 → Positions G l s)
Own G asked l s Search = (asked.number ≡ 17 → Searches G l s) × (asked.number ≡ 18 → SearchesOn G l s)
Own G asked l s User = (asked.argument ≡ 255) ⊎ (asked.argument ≤ 15)
Own G asked l s Settle = Unit {0}
Own G asked l s Close = Closes G l s
Own G asked l s Delete = Deletes G l s
Own G asked l s Create = Makes G l s
Own G asked l s Rename = Renames G l s
Own G asked l s Read = Reads G l s asked.number
Own G asked l s Write = Writes G l s asked.number

-- what the whole table says: the call is listed, none of its rows holds, and so its facts do
pub record AcceptedCall (G : Geometry) (asked : Asked) (l : Lent) (s : Session) : Type 0 where
  pub listed : is_call asked.number ≡ true
  pub ready : Ready G asked l s
  -- the protection does not refuse it
  pub spared : protection_holds G asked l s ≡ false
  pub none : NoneHolds (own_rows G asked l s)
  pub own : Own G asked l s (kind_of asked.number)
