-- Where a byte of the image that a call changed lies. Each byte stays, or lies there: a sum, so that changes follow one another.
use Rattle.std.specs.Prelude.{◌≡◌, ◌⊎◌, true, ℕ, ◌+◌, ◌≤◌, ◌<◌, length, get_or}
use Rattle.std.proofs.Common.{inl, inr, arith}
use Rattle.lists.specs.Cases.{split, lt_or_le}
use Rattle.format.specs.Diskette.{Bytes, Geometry, Sound, record_bytes, offset_of, with_record, entry_bytes, Long}
use Rattle.format.specs.Entries.{entry_place_rule, entry_at, with_entry, empty}
use Rattle.format.specs.Dates.{is_dates, fourth_of}
use Rattle.format.specs.Notes.{free_note, note_at_rule}
use Rattle.disk.specs.Places.{block_records}
use Rattle.disk.specs.Records.{record_byte_left}
use Rattle.rows.specs.Entries.{entry_byte_left}
use Rattle.model.specs.Target.{place_in}
use Rattle.facts.specs.Beside.{fourth_below}
use Rattle.fields.specs.Stamps.{InStamp}
use Rattle.effects.specs.View.{view_of, Names, NewRow, Mine}

-- byte i lies in entry e, or in disk record d
pub record InEntry (G : Geometry) (e i : ℕ) : Type 0 where
  pub low : e < G.entries
  pub from : entry_place_rule G e ≤ i
  pub upto : i < entry_place_rule G e + entry_bytes

pub record InRecord (G : Geometry) (d i : ℕ) : Type 0 where
  pub from : offset_of G d ≤ i
  pub upto : i < offset_of G d + record_bytes

-- a stamp lies in the date entry of its record
pub stamp_entry : {G : Geometry} → Sound G → (e which i : ℕ) → InStamp G e which i → InEntry G (fourth_of e) i
stamp_entry S e which i p =
    let a = p.from in let b = p.upto in let c = p.beside in let w = p.two in record { low = fourth_below S e p.low; from = omega arith; upto = omega arith }

-- what a call's own rule may change: byte i lies in an entry that N names, in an empty entry that became one, or in a record that W allows
pub data Ruled (G : Geometry) (img img' : Bytes) (N : Names) (W : ℕ → Type 0) (i : ℕ) : Type 0 where
  in_entry : (e : ℕ) → InEntry G e i → N (entry_at G img e) ≡ true → Ruled G img img' N W i
  in_new : (e : ℕ) → InEntry G e i → empty (entry_at G img e) ≡ true → N (entry_at G img' e) ≡ true → Ruled G img img' N W i
  in_record : (d : ℕ) → InRecord G d i → W d → Ruled G img img' N W i

-- and what the whole call may: such a byte, or one of the two stamps beside an entry that N names before or after, in a date entry
pub data Where (G : Geometry) (img img' : Bytes) (N : Names) (W : ℕ → Type 0) (i : ℕ) : Type 0 where
  by_rule : Ruled G img img' N W i → Where G img img' N W i
  in_stamp : (e which : ℕ) → InStamp G e which i → is_dates (entry_at G img (fourth_of e)) ≡ true
      → (N (entry_at G img e) ≡ true) ⊎ (N (entry_at G img' e) ≡ true) → Where G img img' N W i

-- each byte stays, or lies there
abbrev pub RuleBytes : Geometry → Bytes → Bytes → Names → (ℕ → Type 0) → Type 0
RuleBytes G img img' N W = (i : ℕ) → (get_or img' i 0 ≡ get_or img i 0) ⊎ Ruled G img img' N W i

abbrev pub Bytewise : Geometry → Bytes → Bytes → Names → (ℕ → Type 0) → Type 0
Bytewise G img img' N W = (i : ℕ) → (get_or img' i 0 ≡ get_or img i 0) ⊎ Where G img img' N W i

pub rule_bytes : (G : Geometry) (img img' : Bytes) (N : Names) (W : ℕ → Type 0) → RuleBytes G img img' N W → Bytewise G img img' N W
rule_bytes G img img' N W f i = split (f i) (λ q. inl q) (λ p. inr (by_rule p))

-- the frame of a call: so for every byte, at most one entry that was empty has changed, and the image is as long as it was
pub record Frame (G : Geometry) (img img' : Bytes) (N : Names) (W : ℕ → Type 0) : Type 0 where
  pub byte : Bytewise G img img' N W
  pub one_new : (e k : ℕ) → NewRow G (entry_at G img) (entry_at G img') e → NewRow G (entry_at G img) (entry_at G img') k → e ≡ k
  pub image_length : length img' ≡ length img

-- an image that stays as it was
pub same_frame : (G : Geometry) (img img' : Bytes) (N : Names) (W : ℕ → Type 0) → img' ≡ img → Frame G img img' N W
same_frame G img img' N W q = record { byte = λ i. inl (rw q); one_new = λ e k a b. absurd (a.changed (rw q)); image_length = rw q }

-- no record is written
abbrev pub WritesNone : ℕ → Type 0
WritesNone d = ⊥

-- block b was free, or belonged to an entry that N names
pub data Theirs (G : Geometry) (img map : Bytes) (N : Names) (b : ℕ) : Type 0 where
  was_free : note_at_rule map b ≡ free_note → Theirs G img map N b
  was_theirs : (e : ℕ) → Mine G (view_of G img map) b e → N (entry_at G img e) ≡ true → Theirs G img map N b

-- disk record d is record rec of an extent, in block b, which was free or theirs
pub record OneRecord (G : Geometry) (img map : Bytes) (N : Names) (b rec d : ℕ) : Type 0 where
  pub is : d ≡ place_in G b rec
  pub below : b < G.blocks
  pub theirs : Theirs G img map N b

-- ---- a naming that has more, and more records allowed
module _ (G : Geometry) (img img' : Bytes) (M N : Names) (U W : ℕ → Type 0) (more : (r : Bytes) → M r ≡ true → N r ≡ true) (wide : (d : ℕ) → U d → W d) where
  ruled_more : (i : ℕ) → Ruled G img img' M U i → Ruled G img img' N W i
  ruled_more i (in_entry e p n) = in_entry e p (more (entry_at G img e) n)
  ruled_more i (in_new e p z n) = in_new e p z (more (entry_at G img' e) n)
  ruled_more i (in_record d p w) = in_record d p (wide d w)

  pub frame_more : RuleBytes G img img' M U → RuleBytes G img img' N W
  frame_more f i = split (f i) (λ q. inl q) (λ p. inr (ruled_more i p))

  where_more : (i : ℕ) → Where G img img' M U i → Where G img img' N W i
  where_more i (by_rule p) = by_rule (ruled_more i p)
  where_more i (in_stamp e which p t n) = in_stamp e which p t (split n (λ h. inl (more (entry_at G img e) h)) (λ h. inr (more (entry_at G img' e) h)))

  -- with the stamps
  pub frame_wider : Frame G img img' M U → Frame G img img' N W
  frame_wider w = record {
    byte = λ i. split (w.byte i) (λ q. inl q) (λ p. inr (where_more i p));
    one_new = w.one_new;
    image_length = w.image_length;
  }

-- ---- one entry stored, one record written
module _ {G : Geometry} (S : Sound G) (img : Bytes) (long : Long G img) where
  pub entry_or_same : (e : ℕ) → e < G.entries → (row : Bytes) → length row ≡ entry_bytes → (i : ℕ)
      → (get_or (with_entry G img e row) i 0 ≡ get_or img i 0) ⊎ InEntry G e i
  entry_or_same e he row lr i =
      split (lt_or_le i (entry_place_rule G e)) (λ l. inl (entry_byte_left S img long e he row lr i (inl l)))
      (λ l. split (lt_or_le i (entry_place_rule G e + entry_bytes)) (λ h. inr record { low = he; from = l; upto = h })
      (λ h. inl (entry_byte_left S img long e he row lr i (inr h))))

  pub record_or_same : (d : ℕ) → d < block_records G → (bytes : Bytes) → length bytes ≡ record_bytes → (i : ℕ)
      → (get_or (with_record G img d bytes) i 0 ≡ get_or img i 0) ⊎ InRecord G d i
  record_or_same d hd bytes lb i =
      split (lt_or_le i (offset_of G d)) (λ l. inl (record_byte_left S img long d hd bytes lb i (inl l)))
      (λ l. split (lt_or_le i (offset_of G d + record_bytes)) (λ h. inr record { from = l; upto = h })
      (λ h. inl (record_byte_left S img long d hd bytes lb i (inr h))))

-- what was theirs is so by a naming that has more
pub theirs_more : (G : Geometry) (img map : Bytes) (M N : Names) → ((r : Bytes) → M r ≡ true → N r ≡ true) → (b : ℕ) → Theirs G img map M b → Theirs G img map N b
theirs_more G img map M N more b (was_free z) = was_free z
theirs_more G img map M N more b (was_theirs e m n) = was_theirs e m (more (entry_at G img e) n)

pub one_more : (G : Geometry) (img map : Bytes) (M N : Names) → ((r : Bytes) → M r ≡ true → N r ≡ true) → (b rec d : ℕ)
    → OneRecord G img map M b rec d → OneRecord G img map N b rec d
one_more G img map M N more b rec d o = record { is = o.is; below = o.below; theirs = theirs_more G img map M N more b o.theirs }
