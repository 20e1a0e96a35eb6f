-- Opening a file, reading a record of it and asking for its size, by the calls, tell what its entries say.
use Rattle.std.specs.Prelude.{◌≡◌, true, ℕ, ◌/◌, ◌≤◌, ◌<◌, length}
use Rattle.std.proofs.Math.Path.{refl, ap}
use Rattle.std.proofs.Common.{sym, ◌∙◌, subst, arith}
use Rattle.std.proofs.Math.Bool.{false}
use Rattle.lists.specs.Cases.{not_both}
use Rattle.lists.specs.Splice.{copies}
use Rattle.format.specs.Diskette.{Bytes, Geometry, Sound, record_bytes, extent_records}
use Rattle.format.specs.Names.{name_right_rule}
use Rattle.format.specs.Entries.{entry_at, ex_of, is_file_rule, named, find_file_rule, find_named_rule}
use Rattle.format.specs.Fcb.{random_of_rule}
use Rattle.facts.specs.Found.{FirstAt, found_cases, none_says}
use Rattle.facts.specs.Find.{file_test, file_says}
use Rattle.facts.specs.Names.{name_bits, like_at, right_cong}
use Rattle.facts.specs.Naming.{named_like, file_named, file_like}
use Rattle.facts.specs.Counts.{count_by_end}
use Rattle.consistency.specs.Naming.{named_used, file_found}
use Rattle.consistency.specs.Reflect.{numbers_intro}
use Rattle.model.specs.declared.Asked.{Asked}
use Rattle.model.specs.declared.Kind.TheVariants.{Quiet}
use Rattle.model.specs.Kinds.{kind_of, is_call}
use Rattle.model.specs.Lent.{Lent, Outcome}
use Rattle.model.specs.Calls.{file_size_rule, sized}
use Rattle.model.specs.Stamps.{time_stamp_rule}
use Rattle.model.specs.Step.{told}
use Rattle.model.specs.Table.{time_right_rule, asked_entry}
use Rattle.fields.specs.Agree.{SameName}
use Rattle.fields.proofs.Entering.{name_entered}
use Rattle.fields.specs.Numbers.{random_three}
use Rattle.fields.specs.Size.{size_covers, size_high, end_high}
use Rattle.table.specs.Own.{calling}
use Rattle.table.specs.Accept.{opens_right, sizes_right}
use Rattle.table.specs.Protection.{other_spared}
use Rattle.demands.specs.Runs.{Disk, outcome_of, left, accepts}
use Rattle.demands.specs.Reading.{at_record_rule}
use Rattle.stored.specs.Closed.{asks, Sane, seen_on, Begins, First, Stored, Access, Restamped}
use Rattle.stored.specs.Restamped.{restamped_more}
use Rattle.stored.specs.Quiet.{passed_accepts, carried, carried_is, sane_accepted, sane_ready, OpenedAt, opened_at_law, open_same}

-- ---- asking by the name in f, on a disk that is right
module _ (G : Geometry) (d : Disk) (sane : Sane G d) (f : Bytes) where
  -- a name that an entry has is right
  pub entry_name : (e : ℕ) → e < G.entries → named false d.session.user f 1 (entry_at G d.drive.image e) ≡ true → name_right_rule false f 1 ≡ true
  entry_name e low h =
      let row : Bytes = entry_at G d.drive.image e in
      right_cong false f 1 row 1 (like_at f 1 row 1 (named_like false d.session.user f 1 row h))
      ∙ (sane.good.inv.dir.fine e low (named_used false d.session.user f 1 row h sane.range.user)).name

  module _ (begins : Begins f) (a : Asked) (time : time_right_rule a ≡ true) (buffer : Bytes) (hb : length buffer ≡ record_bytes) where
    pub open_accepted : First G (seen_on G d) d.session.user f → accepts G d (asks a 15 f buffer) ≡ true
    unfolding asked_entry is_call kind_of time_right_rule
    open_accepted e =
        let l : Lent = record { drive = d.drive; fcb = f; buffer = buffer } in
        passed_accepts G d (asks a 15 f buffer) refl (sane_ready G d sane f begins.long begins.drive (calling 15 a) time buffer hb)
        (other_spared G (calling 15 a) l d.session refl)
        (opens_right G a l d.session record {
          name = entry_name e.entry e.low (file_named G d.session.user f 1 0 (entry_at G d.drive.image e.entry) e.file);
          ex = rw begins.ex (omega arith);
          entry = record {
            place = e.entry;
            is = ap (find_file_rule G (entry_at G d.drive.image) d.session.user f 1) begins.ex
                ∙ file_found G (entry_at G d.drive.image) d.session.user sane.range.user f 1 0 e.entry e.low e.file sane.good.inv.dir;
          };
        })

    pub size_accepted : (e : ℕ) → e < G.entries → named false d.session.user f 1 (entry_at G d.drive.image e) ≡ true
        → accepts G d (asks a 35 f buffer) ≡ true
    unfolding is_call kind_of time_right_rule find_named_rule
    size_accepted e low h =
        let l : Lent = record { drive = d.drive; fcb = f; buffer = buffer } in
        passed_accepts G d (asks a 35 f buffer) refl (sane_ready G d sane f begins.long begins.drive (calling 35 a) time buffer hb)
        (other_spared G (calling 35 a) l d.session refl)
        (sizes_right G a l d.session record {
          name = entry_name e low h;
          some = found_cases (find_named_rule G (entry_at G d.drive.image) false d.session.user f 1) (λ k q. record { place = k; is = q })
              (λ q. not_both _ h (none_says (λ (k : ℕ). named false d.session.user f 1 (entry_at G d.drive.image k)) 0 G.entries q e (omega arith) low));
        })

-- the size that the entries tell
abbrev pub size_on : Geometry → Disk → Bytes → ℕ
size_on G d f = file_size_rule G (entry_at G d.drive.image) (named false d.session.user f 1)

module _ (G : Geometry) (d : Disk) (sane : Sane G d) (f : Bytes) where
  pub size_small : size_on G d f ≤ 262144
  size_small =
      size_high G (entry_at G d.drive.image) (named false d.session.user f 1) 262144
      (λ e low m. end_high (entry_at G d.drive.image e) (numbers_intro (entry_at G d.drive.image e)
      (sane.good.inv.dir.fine e low (named_used false d.session.user f 1 (entry_at G d.drive.image e) m sane.range.user)).numbers))

  -- a closed record lies below the size
  pub stored_below : (r : ℕ) (v : Bytes) → Stored G (seen_on G d) d.session.user f r v → r < size_on G d f
  stored_below r v k =
      let row : Bytes = entry_at G d.drive.image k.entry in
      let covered = size_covers G (entry_at G d.drive.image) (named false d.session.user f 1) k.entry k.low
      (file_named G d.session.user f 1 (r / extent_records) row k.file) in
      omega (arith, k.counted, count_by_end row (r / extent_records))

  -- 35 tells it, in r0 to r2
  pub size_told : length f ≡ 36 → (a : Asked) (buffer : Bytes) → accepts G d (asks a 35 f buffer) ≡ true
      → random_of_rule (outcome_of G d (asks a 35 f buffer)).lent.fcb ≡ size_on G d f
  unfolding told sized kind_of
  size_told hf a buffer x =
      ap (λ (o : Outcome). random_of_rule o.lent.fcb) (carried_is G d (asks a 35 f buffer) x Quiet refl)
      ∙ random_three f (size_on G d f) hf (omega (arith, size_small))

-- ---- what an accepted open of extent 0 tells
pub record Opening (G : Geometry) (a : Asked) (d : Disk) (f buffer : Bytes) : Type 0 where
  pub at : OpenedAt G d (asks a 15 f buffer)
  pub sane : Sane G d
  pub first : First G (seen_on G d) d.session.user f
  pub same : SameName (outcome_of G d (asks a 15 f buffer)).lent.fcb 1 f 1
  pub time : time_right_rule a ≡ true

module _ {G : Geometry} (S : Sound G) (a : Asked) (d : Disk) (f : Bytes) (begins : Begins f) (buffer : Bytes) (x : accepts G d (asks a 15 f buffer) ≡ true) where
  at_entry : OpenedAt G d (asks a 15 f buffer)
  at_entry = opened_at_law S d (asks a 15 f buffer) refl x begins

  abbrev row : Bytes
  row = entry_at G d.drive.image at_entry.entry

  found : FirstAt (file_test G (entry_at G d.drive.image) d.session.user f 1 (ex_of f)) 0 G.entries at_entry.entry
  unfolding asked_entry
  found = file_says G (entry_at G d.drive.image) d.session.user f 1 (ex_of f) at_entry.entry at_entry.asked

  right_time : time_right_rule a ≡ true
  unfolding time_right_rule
  right_time = (carried G d (asks a 15 f buffer) x).facts.ready.time

  pub opening_of : Opening G a d f buffer
  opening_of = record {
    at = at_entry;
    sane = sane_accepted G d (asks a 15 f buffer) x (λ z. omega arith);
    first = record {
      entry = at_entry.entry;
      low = found.below;
      file = subst (λ (i : ℕ). is_file_rule G d.session.user f 1 i row ≡ true) begins.ex found.holds;
    };
    same = λ i b. ap (λ (y : Bytes). name_bits y 1 i) at_entry.fcb ∙ name_entered f row (ex_of f) (omega (arith, begins.long)) i b
        ∙ sym (like_at f 1 row 1 (file_like G d.session.user f 1 (ex_of f) row found.holds) i b);
    time = right_time;
  }

-- ---- 33 after the open
abbrev pub opened_disk : Geometry → Asked → Disk → Bytes → Bytes → Disk
opened_disk G a d f buffer = left (outcome_of G d (asks a 15 f buffer))

abbrev pub opened_fcb : Geometry → Asked → Disk → Bytes → Bytes → Bytes
opened_fcb G a d f buffer = (outcome_of G d (asks a 15 f buffer)).lent.fcb

-- an open of f, accepted or refused, restamps at most; the stamp has the time that is asked with, whatever the number
pub opened_restamped : {G : Geometry} (S : Sound G) (a : Asked) (d : Disk) (f b : Bytes)
    → Restamped G (Access G a d f) d (opened_disk G a d f b)
unfolding time_stamp_rule
opened_restamped {G} S a d f b =
    restamped_more G (Access G (calling 15 a) d f) d (opened_disk G a d f b)
    (Access G a d f) (λ x h. record { first = h.first; time = h.time; low = h.low; file = h.file; asked = h.asked; dates = h.dates; lifted = h.lifted })
    (open_same S d (asks a 15 f b) refl)

-- ---- both ways, as one: record r of the file that f names, through a fresh open of extent 0, is v
abbrev pub blank_buffer : Bytes
blank_buffer = copies record_bytes 0

pub record ReadsAs (G : Geometry) (a : Asked) (d : Disk) (f : Bytes) (r : ℕ) (v : Bytes) : Type 0 where
  pub opens : accepts G d (asks a 15 f blank_buffer) ≡ true
  pub reads : accepts G (opened_disk G a d f blank_buffer) (asks a 33 (at_record_rule (opened_fcb G a d f blank_buffer) r) blank_buffer) ≡ true
  pub gives : (outcome_of G (opened_disk G a d f blank_buffer) (asks a 33 (at_record_rule (opened_fcb G a d f blank_buffer) r) blank_buffer)).lent.buffer ≡ v

module _ {G : Geometry} (S : Sound G) (a : Asked) (d : Disk) (f : Bytes) (begins : Begins f) (r : ℕ) (v : Bytes) where
  pub as_first : ReadsAs G a d f r v → First G (seen_on G d) d.session.user f
  as_first k = (opening_of S a d f begins blank_buffer k.opens).first
