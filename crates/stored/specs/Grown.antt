-- A file that gained one record, and what follows: the record is stored, those that were stored stay, its extents, and its size.
use Rattle.std.specs.Prelude.{◌≡◌, refl, ◌⊎◌, true, false, ℕ, ◌+◌, ◌/◌, ◌%◌, ◌≤◌, ◌<◌, max}
use Rattle.std.proofs.Math.Path.{ap}
use Rattle.std.proofs.Common.{sym, ◌∙◌, subst, inl, inr, arith, mod-lt}
use Rattle.lists.specs.Product.{same_digits}
use Rattle.lists.specs.Cases.{split, eq_or_ne, not_both}
use Rattle.format.specs.Diskette.{Bytes, Geometry, Sound, slot_count, extent_records}
use Rattle.format.specs.Entries.{entry_at, slot_of, slot_for_rule, extent_of, run_of, end_of, count_in, is_file_rule, named, empty, used}
use Rattle.format.specs.Dates.{is_dates}
use Rattle.format.specs.Notes.{free_note, recorded_note}
use Rattle.facts.specs.Counts.{count_by_end}
use Rattle.facts.specs.Naming.{file_named, file_run, file_intro}
use Rattle.facts.specs.Slots.{slot_for_low}
use Rattle.disk.specs.Places.{block_records, block_once}
use Rattle.rows.specs.Entries.{area_records, block_past}
use Rattle.consistency.specs.Facts.{Stands}
use Rattle.consistency.specs.Naming.{file_used, named_used}
use Rattle.consistency.specs.Reflect.{used_full, used_no_dates}
use Rattle.model.specs.Target.{place_in}
use Rattle.model.specs.Calls.{file_size_rule}
use Rattle.fields.specs.Agree.{SameName, is_file_asked}
use Rattle.fields.specs.Target.{place_below}
use Rattle.fields.specs.Size.{size_covers, size_high}
use Rattle.effects.specs.View.{View, view_of, Right, stands_low, stands_high, stands_not_spare, spare_free}
use Rattle.effects.specs.Effect.{RecsStay}
use Rattle.effects.specs.Closed.{by_name}
use Rattle.effects.specs.Alike.{Alike, dates_alike, used_row}
use Rattle.stored.specs.Closed.{Stored}
use Rattle.stored.specs.OnlyNamed.{OnlyNamed, only_one}

-- the slot of record r in an entry that covers its extent
abbrev pub slot_at_record : Geometry → ℕ → ℕ
slot_at_record G r = slot_for_rule G (r / extent_records) (r % extent_records)

-- from s to t, the user's file that f names gained record r, which is v: in an entry that it had, or in one that was empty; `base` is the
-- row on which the new one builds
pub record Grown (G : Geometry) (s t : View) (user : ℕ) (f : Bytes) (r : ℕ) (v : Bytes) : Type 0 where
  pub entry : ℕ
  pub low : entry < G.entries
  pub base : Bytes
  pub was : ((s.rows entry ≡ base) × (is_file_rule G user f 1 (r / extent_records) base ≡ true))
      ⊎ ((empty (s.rows entry) ≡ true) × ((j : ℕ) → slot_of G base j ≡ 0) × (end_of base ≤ r))
  -- the new row; the rest stays, but for stamps
  pub file : is_file_rule G user f 1 (r / extent_records) (t.rows entry) ≡ true
  pub kept : (j : ℕ) → j < slot_count → (slot_of G base j ≡ 0 → ⊥) → slot_of G (t.rows entry) j ≡ slot_of G base j
  pub end : end_of (t.rows entry) ≡ max (end_of base) (r + 1)
  pub others : (e : ℕ) → e < G.entries → is_dates (s.rows e) ≡ false → (e ≡ entry → ⊥) → t.rows e ≡ s.rows e
  pub dates : (e : ℕ) → e < G.entries → is_dates (t.rows e) ≡ is_dates (s.rows e)
  -- its block
  pub block : ℕ
  pub below : block < G.blocks
  pub past : G.area ≤ block
  pub slot : slot_of G (t.rows entry) (slot_at_record G r) ≡ block
  pub origin : (s.notes block ≡ free_note) ⊎ (slot_of G base (slot_at_record G r) ≡ block)
  -- each note stays, but that of the record's own block, which was free and is recorded now
  pub notes : (y : ℕ) → y < G.blocks → (t.notes y ≡ s.notes y) ⊎ ((y ≡ block) × (s.notes y ≡ free_note) × (t.notes y ≡ recorded_note))
  -- the records
  pub recs : (x : ℕ) → area_records G ≤ x → x < block_records G → (x ≡ place_in G block (r % extent_records) → ⊥) → t.recs x ≡ s.recs x
  pub new : t.recs (place_in G block (r % extent_records)) ≡ v

-- two records of one run of extents, in one slot and at one place of its block, are one
same_record : (G : Geometry) (r n : ℕ) → run_of G (r / extent_records) ≡ run_of G (n / extent_records) → slot_at_record G r ≡ slot_at_record G n
    → r % extent_records % G.per_block ≡ n % extent_records % G.per_block → r ≡ n
unfolding run_of slot_for_rule
same_record G r n run slot place =
    let same : r % 128 ≡ n % 128 = same_digits G.per_block (r % 128) (n % 128) slot place in omega arith

-- a record below an end is counted
counts : (row : Bytes) (r : ℕ) → r < end_of row → r % extent_records < count_in row (r / extent_records)
counts row r h = rw (count_by_end row (r / 128)) (omega arith)

counted_end : (row : Bytes) (r : ℕ) → r % extent_records < count_in row (r / extent_records) → r < end_of row
counted_end row r h = let q = count_by_end row (r / 128) in omega arith

-- ---- the same of an FCB of the same name, and of what stamps leave
pub grown_named : {G : Geometry} {s t : View} {user : ℕ} {r : ℕ} {v : Bytes} (f h : Bytes) → SameName h 1 f 1 → Grown G s t user f r v → Grown G s t user h r v
grown_named {G} {s} {t} {user} {r} {v} f h same g =
    let asked : (y : Bytes) → is_file_rule G user h 1 (r / 128) y ≡ is_file_rule G user f 1 (r / 128) y = is_file_asked h 1 f 1 same G user (r / 128) in
    record {
      entry = g.entry;
      low = g.low;
      base = g.base;
      was = split g.was (λ w. inl (w.0, asked g.base ∙ w.1)) (λ w. inr w);
      file = asked (t.rows g.entry) ∙ g.file;
      kept = g.kept;
      end = g.end;
      others = g.others;
      dates = g.dates;
      block = g.block;
      below = g.below;
      past = g.past;
      slot = g.slot;
      origin = g.origin;
      notes = g.notes;
      recs = g.recs;
      new = g.new;
    }

pub grown_stamped : {G : Geometry} (S : Sound G) {s : View} {img img' : Bytes} (map : Bytes) {user : ℕ} {f : Bytes} {r : ℕ} {v : Bytes} → user ≤ 15
    → Grown G s (view_of G img map) user f r v → Alike G img img' → Grown G s (view_of G img' map) user f r v
unfolding place_in
grown_stamped {G} S {s} {img} {img'} map {user} {f} {r} {v} hu g w =
    let row : entry_at G img' g.entry ≡ entry_at G img g.entry =
    used_row G img img' w g.entry g.low (file_used G user f 1 (r / 128) (entry_at G img g.entry) g.file hu) in
    record {
      entry = g.entry;
      low = g.low;
      base = g.base;
      was = g.was;
      file = ap (is_file_rule G user f 1 (r / 128)) row ∙ g.file;
      kept = λ j h z. ap (λ (x : Bytes). slot_of G x j) row ∙ g.kept j h z;
      end = ap end_of row ∙ g.end;
      others = λ e l n q. w.row e l (g.dates e l ∙ n) ∙ g.others e l n q;
      dates = λ e l. dates_alike G img img' w e l ∙ g.dates e l;
      block = g.block;
      below = g.below;
      past = g.past;
      slot = ap (λ (x : Bytes). slot_of G x (slot_at_record G r)) row ∙ g.slot;
      origin = g.origin;
      notes = g.notes;
      recs = λ x a b q. w.recs x a b ∙ g.recs x a b q;
      new = w.recs (place_in G g.block (r % 128)) (block_past G g.block (r % 128 % G.per_block) g.past) (place_below S g.block (r % 128) g.below)
          ∙ g.new;
    }

-- and seen from an earlier disk s', which has the same rows but for date entries and the entry itself, the same notes and the same records
pub grown_before : {G : Geometry} {s s' t : View} {user : ℕ} {f : Bytes} {r : ℕ} {v : Bytes} (g : Grown G s t user f r v)
    → ((s'.rows g.entry ≡ g.base) × (is_file_rule G user f 1 (r / extent_records) g.base ≡ true))
    ⊎ ((empty (s'.rows g.entry) ≡ true) × ((j : ℕ) → slot_of G g.base j ≡ 0) × (end_of g.base ≤ r))
    → ((e : ℕ) → e < G.entries → is_dates (s.rows e) ≡ false → (e ≡ g.entry → ⊥) → s.rows e ≡ s'.rows e)
    → ((e : ℕ) → e < G.entries → is_dates (s.rows e) ≡ is_dates (s'.rows e))
    → ((y : ℕ) → s.notes y ≡ s'.notes y) → RecsStay G s' s → Grown G s' t user f r v
grown_before g was rows dates notes recs = record {
  entry = g.entry;
  low = g.low;
  base = g.base;
  was = was;
  file = g.file;
  kept = g.kept;
  end = g.end;
  others = λ e low h q. let z = dates e low ∙ h in g.others e low z q ∙ rows e low z q;
  dates = λ e low. g.dates e low ∙ dates e low;
  block = g.block;
  below = g.below;
  past = g.past;
  slot = g.slot;
  origin = split g.origin (λ z. inl (sym (notes g.block) ∙ z)) (λ z. inr z);
  notes = λ y h. split (g.notes y h) (λ z. inl (z ∙ notes y)) (λ z. inr (z.0, sym (notes y) ∙ z.1, z.2));
  recs = λ x a b q. g.recs x a b q ∙ recs x a b;
  new = g.new;
}

-- only entries of the file change
pub grown_only : {G : Geometry} {s t : View} {user : ℕ} {r : ℕ} {v : Bytes} (f : Bytes) → Grown G s t user f r v → OnlyNamed G (by_name user f) s.rows t.rows
grown_only {G} {s} {t} {user} {r} {v} f g =
    only_one g.entry
    record {
      was = split g.was (λ w. inl (ap (by_name user f) w.0 ∙ file_named G user f 1 (r / 128) g.base w.1)) (λ w. inr w.0);
      is = file_named G user f 1 (r / 128) (t.rows g.entry) g.file;
    } g.others g.dates

module _ {G : Geometry} (S : Sound G) (s t : View) (right : Right G s) (user : ℕ) (hu : user ≤ 15) (f : Bytes) (n : ℕ) (v : Bytes) (g : Grown G s t user f n v) where
  real : g.block ≡ 0 → ⊥
  real z = let p = g.past in omega (arith, S.area_some)

  -- ---- the record is stored
  pub grown_new : Stored G t user f n v
  grown_new = record {
    entry = g.entry;
    low = g.low;
    file = g.file;
    counted = counts (t.rows g.entry) n (let q = g.end in omega arith);
    real = λ z. real (sym g.slot ∙ z);
    dat = ap (λ (b : ℕ). t.recs (place_in G b (n % 128))) g.slot ∙ g.new;
  }

  -- ---- an entry that the file had stays its, for the same extents
  pub grown_file : (e ext : ℕ) → e < G.entries → is_file_rule G user f 1 ext (s.rows e) ≡ true → is_file_rule G user f 1 ext (t.rows e) ≡ true
  grown_file e ext low h =
      let uses : used (s.rows e) ≡ true = file_used G user f 1 ext (s.rows e) h hu in
      split (eq_or_ne e g.entry)
      (λ q. split g.was
      (λ w. let at : is_file_rule G user f 1 ext g.base ≡ true = ap (is_file_rule G user f 1 ext) (sym (ap s.rows q ∙ w.0)) ∙ h in
      ap (λ (x : ℕ). is_file_rule G user f 1 ext (t.rows x)) q
      ∙ file_intro G user f 1 ext (t.rows g.entry) (file_named G user f 1 (n / 128) (t.rows g.entry) g.file)
      (file_run G user f 1 (n / 128) (t.rows g.entry) g.file ∙ sym (file_run G user f 1 (n / 128) g.base w.1) ∙ file_run G user f 1 ext g.base at))
      (λ w. not_both (empty (s.rows g.entry)) w.0 (used_full (s.rows g.entry) (sym (ap (λ (x : ℕ). used (s.rows x)) q) ∙ uses))))
      (λ q. ap (is_file_rule G user f 1 ext) (g.others e low (used_no_dates (s.rows e) uses) q) ∙ h)

  -- ---- a record that was stored stays
  module _ (r : ℕ) (u : Bytes) (h : Stored G s user f r u) (other : r ≡ n → ⊥) where
    block_r : ℕ
    block_r = slot_of G (s.rows h.entry) (slot_at_record G r)

    pub uses_r : used (s.rows h.entry) ≡ true
    uses_r = file_used G user f 1 (r / 128) (s.rows h.entry) h.file hu

    pub below_r : slot_at_record G r < slot_count
    below_r = slot_for_low S (r / 128) (r % 128) (omega arith)

    stands_r : Stands G s.rows block_r h.entry (slot_at_record G r)
    unfolding block_r
    stands_r = record { entry = h.low; place = below_r; uses = uses_r; is = refl; real = h.real }

    -- where the new record lies in a block that the file had for it
    in_own : block_r ≡ g.block → r % 128 % G.per_block ≡ n % 128 % G.per_block → slot_of G g.base (slot_at_record G n) ≡ g.block → ⊥
    in_own b p z =
        split g.was
        (λ w. let stands-n : Stands G s.rows block_r g.entry (slot_at_record G n) =
        record {
          entry = g.low;
          place = slot_for_low S (n / 128) (n % 128) (omega arith);
          uses = ap used w.0 ∙ file_used G user f 1 (n / 128) g.base w.1 hu;
          is = ap (λ (x : Bytes). slot_of G x (slot_at_record G n)) w.0 ∙ z ∙ sym b;
          real = stands_r.real;
        } in
        let same_entry : h.entry ≡ g.entry = right.dir.once_entry block_r h.entry (slot_at_record G r) g.entry (slot_at_record G n) stands_r stands-n in
        let same_slot : slot_at_record G r ≡ slot_at_record G n =
        right.dir.once_slot block_r h.entry (slot_at_record G r) g.entry (slot_at_record G n) stands_r stands-n in
        let run : run_of G (r / 128) ≡ run_of G (n / 128) =
        sym (file_run G user f 1 (r / 128) (s.rows h.entry) h.file) ∙ ap (λ (x : ℕ). run_of G (extent_of (s.rows x))) same_entry
        ∙ ap (λ (x : Bytes). run_of G (extent_of x)) w.0 ∙ file_run G user f 1 (n / 128) g.base w.1 in
        other (same_record G r n run same_slot p))
        (λ w. real (sym z ∙ w.1 (slot_at_record G n)))

    -- the new record lies elsewhere
    apart : (place_in G block_r (r % 128) ≡ place_in G g.block (n % 128)) → ⊥
    unfolding place_in
    apart q =
        let one = block_once G block_r (r % 128 % G.per_block) g.block (n % 128 % G.per_block)
        (mod-lt (r % 128) S.some_record) (mod-lt (n % 128) S.some_record) q in
        split g.origin
        (λ z. stands_not_spare G s right block_r h.entry (slot_at_record G r) stands_r
        (spare_free G s right block_r (stands_high G s right block_r h.entry (slot_at_record G r) stands_r) (ap s.notes one.0 ∙ z)))
        (λ z. in_own one.0 one.1 z)

    recs_r : t.recs (place_in G block_r (r % 128)) ≡ s.recs (place_in G block_r (r % 128))
    unfolding place_in
    recs_r =
        g.recs (place_in G block_r (r % 128)) (block_past G block_r (r % 128 % G.per_block) (stands_low G s right block_r h.entry (slot_at_record G r) stands_r))
        (place_below S block_r (r % 128) (stands_high G s right block_r h.entry (slot_at_record G r) stands_r)) apart

    -- an entry that has the slot still, and counts no fewer
    pub stays_by : slot_of G (t.rows h.entry) (slot_at_record G r) ≡ slot_of G (s.rows h.entry) (slot_at_record G r)
        → end_of (s.rows h.entry) ≤ end_of (t.rows h.entry) → Stored G t user f r u
    unfolding block_r
    stays_by slot end = record {
      entry = h.entry;
      low = h.low;
      file = grown_file h.entry (r / 128) h.low h.file;
      counted = counts (t.rows h.entry) r (let c = counted_end (s.rows h.entry) r h.counted in omega arith);
      real = λ z. h.real (sym slot ∙ z);
      dat = ap (λ (b : ℕ). t.recs (place_in G b (r % 128))) slot ∙ recs_r ∙ h.dat;
    }

  -- ---- the size: where the record is the one past the last
  module _ (q : n ≡ file_size_rule G s.rows (named false user f 1)) where
    size_here : end_of (t.rows g.entry) ≡ n + 1
    size_here =
        let c = g.end in
        split g.was
        (λ w. let m : end_of g.base ≤ file_size_rule G s.rows (named false user f 1) =
        subst (λ (y : Bytes). end_of y ≤ file_size_rule G s.rows (named false user f 1)) w.0
        (size_covers G s.rows (named false user f 1) g.entry g.low
        (ap (named false user f 1) w.0 ∙ file_named G user f 1 (n / 128) g.base w.1)) in
        omega arith)
        (λ w. let z : end_of g.base ≤ n = w.2 in omega arith)

    size_there : (e : ℕ) → e < G.entries → named false user f 1 (t.rows e) ≡ true → end_of (t.rows e) ≤ n + 1
    size_there e low h =
        split (eq_or_ne e g.entry)
        (λ z. let c = size_here in let d : end_of (t.rows e) ≡ end_of (t.rows g.entry) = ap (λ (x : ℕ). end_of (t.rows x)) z in omega arith)
        (λ z. let plain : is_dates (s.rows e) ≡ false = sym (g.dates e low) ∙ used_no_dates (t.rows e) (named_used false user f 1 (t.rows e) h hu) in
        let row : t.rows e ≡ s.rows e = g.others e low plain z in
        let m : end_of (s.rows e) ≤ file_size_rule G s.rows (named false user f 1) =
        size_covers G s.rows (named false user f 1) e low (sym (ap (named false user f 1) row) ∙ h) in
        let d : end_of (t.rows e) ≡ end_of (s.rows e) = ap end_of row in omega arith)

    pub grown_size : file_size_rule G t.rows (named false user f 1) ≡ n + 1
    grown_size =
        let up : file_size_rule G t.rows (named false user f 1) ≤ n + 1 = size_high G t.rows (named false user f 1) (n + 1) size_there in
        let down : end_of (t.rows g.entry) ≤ file_size_rule G t.rows (named false user f 1) =
        size_covers G t.rows (named false user f 1) g.entry g.low (file_named G user f 1 (n / 128) (t.rows g.entry) g.file) in
        let c = size_here in
        omega arith
