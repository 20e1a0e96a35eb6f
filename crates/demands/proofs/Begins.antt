-- Demand 2 speaks of something too: a log-in and, once the protection is lifted, a make and a write on an erased disk are accepted, one after the
-- other.
use Rattle.std.specs.Prelude.{◌≡◌, true, ℕ, ◌≤◌, ◌<◌, get_or, Option}
use Rattle.std.proofs.Math.Path.{refl, ap, subst}
use Rattle.std.proofs.Common.{sym, ◌∙◌, arith}
use Rattle.std.proofs.Math.Bool.{false}
use Rattle.std.proofs.Math.ListN.{length}
use borrow.Author.Tests.{le-ltb}
use Rattle.lists.specs.Cases.{split, bool_cases, not_both}
use Rattle.format.specs.Diskette.{Bytes, Geometry, Sound, record_bytes}
use Rattle.format.specs.Names.{name_right_rule}
use Rattle.format.specs.Entries.{entry_at, ex_of, used, read_only, empty, is_file_rule, find_empty_rule}
use Rattle.format.specs.Notes.{free_note, note_at_rule, fresh_note_rule, fresh_map, find_free}
use Rattle.format.specs.Fcb.{cr_of}
use Rattle.facts.specs.Found.{FoundAt, found_cases}
use Rattle.format.specs.Found.{number_of}
use Rattle.notes.specs.Free.{none_free}
use Rattle.notes.specs.Right.{fresh_at}
use Rattle.rows.specs.Entries.{entry_stored}
use Rattle.facts.specs.Find.{empty_says, none_empty_says, no_file_is}
use Rattle.model.specs.Lent.{Lent, rows_of, Outcome, protected}
use Rattle.model.specs.Entering.{made_row_rule}
use Rattle.model.specs.Kinds.{kind_of, is_call, uses_fcb_rule}
use Rattle.model.specs.Table.{time_right_rule, asked_entry, verdict}
use Rattle.model.specs.Calls.{logged_in, created_at, created}
use Rattle.model.specs.declared.Kind.TheVariants.{Create}
use Rattle.fields.specs.Making.{user_made, length_made_row, read_only_made}
use Rattle.fields.specs.Entering.{length_copied, first_copied, rest_copied}
use Rattle.consistency.specs.Naming.{file_used}
use Rattle.consistency.specs.Reflect.{low_used}
use Rattle.fields.specs.Erased.{ErasedDisk, erased_empty, erased_unused, erased_unlisted}
use Rattle.table.specs.Own.{calling}
use Rattle.table.specs.Protection.{lifted_spared}
use Rattle.table.specs.Facts.{Fits, Makes}
use Rattle.table.specs.Accept.{makes_of, makes_right}
use Rattle.table.proofs.Accept.{passes}
use Rattle.table.specs.Total.{InRange, range_lifted, CarriedOut}
use Rattle.table.proofs.Total.{total_accepted}
use Rattle.invariant.specs.Good.{Good, good_consistent, good_right}
use Rattle.effects.specs.View.{view_of}
use Rattle.effects.specs.Cur.{Cur}
use Rattle.table.proofs.Accepted.{carried_says, accepted_carried}
use Rattle.demands.specs.StepOk.{ready_good}
use Rattle.demands.specs.Stamped.{stamped_as, stamped_as_law}
use Rattle.demands.proofs.Stamped.{cur_on, row_on, step_accepted}
use Rattle.demands.specs.StillCurrent.{created_cur}
use Rattle.demands.specs.NothingLost.{logged_in_law}
use Rattle.demands.proofs.NothingLost.{booked_login}
use Rattle.demands.specs.Erased.{erased_accepted}
use Rattle.demands.specs.Runs.{Request, Disk, lent_to, outcome_of, left, accepts, after, lifted_disk}
use Rattle.demands.specs.Begins.{write_accepted, Asks}

-- ---- a make, and a write through the FCB that it handed back
module _ {G : Geometry} (S : Sound G) (d : Disk) (q : Request) (number : q.asked.number ≡ 22) (accepted : accepts G d q ≡ true) (cr : cr_of q.fcb < 128)
    (unprotected : protected d.session ≡ false) where
  abbrev l : Lent
  l = lent_to d q

  carried : CarriedOut G q.asked l d.session
  unfolding outcome_of
  carried = accepted_carried G q.asked (lent_to d q) d.session accepted

  drive : get_or q.fcb 0 0 ≤ 1
  unfolding uses_fcb_rule
  drive = carried.facts.ready.drive (ap uses_fcb_rule number)

  makes : Makes G l d.session
  unfolding kind_of
  makes = makes_of G q.asked l d.session carried.facts.none (ap kind_of number)

  t : ℕ
  t = makes.entry.place

  creates : kind_of q.asked.number ≡ Create
  unfolding kind_of
  creates = ap kind_of number

  made_is : outcome_of G d q ≡ stamped_as G q.asked l d.session Create
  unfolding outcome_of
  made_is = carried.is ∙ stamped_as_law G q.asked l d.session Create creates

  -- before its stamps
  own_is : created G d.session l ≡ created_at G d.session l t
  unfolding t created
  own_is = ap (λ (r : Option ℕ). created_at G d.session l (number_of G.entries r)) makes.entry.is

  fits : Fits G l d.session
  fits = carried.facts.ready.fits

  good : Good G l.drive.image l.drive.map
  good = ready_good carried.facts.ready (λ z. let a : 13 ≡ 22 = sym z ∙ number in omega arith)

  -- the entry that was made is not read-only
  own_row : entry_at G (created_at G d.session l t).lent.drive.image t ≡ made_row_rule d.session.user l.fcb
  unfolding created_at t
  own_row =
      entry_stored S l.drive.image good.image_long t (empty_says G (rows_of G l) t makes.entry.is).below (made_row_rule d.session.user l.fcb)
      (length_made_row d.session.user l.fcb)

  -- what it left
  made : Disk
  made = left (stamped_as G q.asked l d.session Create)

  new_row : entry_at G made.drive.image t ≡ made_row_rule d.session.user l.fcb
  unfolding made t
  new_row =
      let here : entry_at G (created G d.session l).lent.drive.image t ≡ made_row_rule d.session.user l.fcb =
      ap (λ (o : Outcome). entry_at G o.lent.drive.image t) own_is ∙ own_row in
      row_on S q.asked l d.session carried.facts good Create creates refl t (empty_says G (rows_of G l) t makes.entry.is).below
      (ap used here ∙ low_used (made_row_rule d.session.user l.fcb) (rw (user_made d.session.user l.fcb) fits.user_low)) ∙ here

  new_cur : Cur G (view_of G made.drive.image l.drive.map) d.session.user (created_at G d.session l t).lent.fcb t
  unfolding made created created_at t
  new_cur =
      cur_on S q.asked l d.session carried.facts good Create creates refl _ t
      (subst (λ (o : Outcome). Cur G (view_of G o.lent.drive.image l.drive.map) d.session.user (created_at G d.session l t).lent.fcb t) (sym own_is)
      (created_cur S q.asked l d.session fits good (omega arith) makes))

  made_good : Good G made.drive.image made.drive.map
  unfolding made outcome_of
  made_good =
      subst (λ (o : Outcome). Good G o.lent.drive.image o.lent.drive.map) made_is (step_accepted S q.asked (lent_to d q) d.session carried)

  some_free_law : (b : ℕ) → b < G.blocks → note_at_rule l.drive.map b ≡ free_note → FoundAt (find_free G l.drive.map)
  some_free_law b h z = found_cases (find_free G l.drive.map) (λ k e. record { place = k; is = e }) (λ e. absurd (none_free G l.drive.map e b h z))

  written_next : (b : ℕ) → b < G.blocks → note_at_rule l.drive.map b ≡ free_note
      → (w : Request) → w.asked.number ≡ 21 → w.fcb ≡ (created_at G d.session l t).lent.fcb → time_right_rule w.asked ≡ true → length w.buffer ≡ record_bytes → accepts G made w ≡ true
  unfolding made outcome_of created created_at t protected
  written_next b h z w n fcb time buffer =
      let row : Bytes = made_row_rule d.session.user l.fcb in
      let hf : 32 ≤ length l.fcb = (let k : length l.fcb ≡ 36 = fits.fcb_long in omega arith) in
      let hr : 32 ≤ length row = omega (arith, length_made_row d.session.user l.fcb) in
      carried_says G w.asked (lent_to made w) made.session
      (write_accepted S w.asked n (lent_to made w) made.session made_good
      record {
        image_long = made_good.image_long;
        map_long = made_good.map_long;
        fcb_long = ap length fcb ∙ length_copied l.fcb row hf hr ∙ fits.fcb_long;
        buffer_long = buffer;
        user_low = fits.user_low;
        place_low = omega arith;
      }
      time (rw (fcb, first_copied l.fcb row hf hr) drive) t
      (rw fcb new_cur)
      (ap read_only new_row ∙ read_only_made d.session.user l.fcb)
      (rw (fcb, rest_copied l.fcb row hf hr 36 32 (omega arith) (omega arith)) cr) (some_free_law b h z) unprotected)

  -- a write through the FCB handed back, where a block is free
  pub make_then_write : (b : ℕ) → b < G.blocks → note_at_rule d.drive.map b ≡ free_note
      → (w : Request) → w.asked.number ≡ 21 → w.fcb ≡ (outcome_of G d q).lent.fcb → time_right_rule w.asked ≡ true → length w.buffer ≡ record_bytes → accepts G (after G d q) w ≡ true
  unfolding after made
  make_then_write b h z w n fcb time buffer =
      subst (λ (o : Outcome). accepts G (left o) w ≡ true) (sym made_is)
      (written_next b h z w n (fcb ∙ ap (λ (o : Outcome). o.lent.fcb) made_is ∙ ap (λ (o : Outcome). o.lent.fcb) own_is) time buffer)

-- ---- an erased disk
module _ {G : Geometry} (S : Sound G) (some : 0 < G.entries) where
  -- nothing is listed, so that the first block past the directory is free after a log-in
  first_free : (img : Bytes) → ErasedDisk G img → note_at_rule (fresh_map G (entry_at G img)) G.area ≡ free_note
  unfolding fresh_note_rule
  first_free img erased =
      fresh_at G (entry_at G img) G.area S.area_below
      ∙ rw (le-ltb G.area G.area (omega arith), erased_unlisted G img erased G.area (λ z. omega (arith, S.area_some)))

  made_on_law : (d : Disk) → ErasedDisk G d.drive.image → Good G d.drive.image d.drive.map → InRange G d.session → protected d.session ≡ false → (q : Request) → Asks q 22
      → get_or q.fcb 0 0 ≤ 1 → name_right_rule false q.fcb 1 ≡ true → ex_of q.fcb ≤ 31 → accepts G d q ≡ true
  unfolding outcome_of asked_entry is_call kind_of time_right_rule
  made_on_law d erased good range unprotected q a drive name ex =
      carried_says G q.asked (lent_to d q) d.session
      (total_accepted G q.asked (lent_to d q) d.session
      (ap (λ (n : ℕ). verdict G (calling n q.asked) (lent_to d q) d.session) a.number
      ∙ passes G (calling 22 q.asked) (lent_to d q) d.session refl
      record {
        fits = record { image_long = good.image_long; map_long = good.map_long; fcb_long = a.fcb; buffer_long = a.buffer; user_low = range.user; place_low = range.place };
        time = a.time;
        drive = λ u. drive;
        image_right = good_consistent G d.drive.image d.drive.map good;
        map_right_law = λ z. good_right G d.drive.image d.drive.map good;
      }
      (lifted_spared G (calling 22 q.asked) (lent_to d q) d.session unprotected)
      (makes_right G q.asked (lent_to d q) d.session record {
        name = name;
        ex = ex;
        new = no_file_is G (entry_at G d.drive.image) d.session.user q.fcb 1 (ex_of q.fcb) (λ e h. none e h);
        entry = found_cases (find_empty_rule G (entry_at G d.drive.image)) (λ k e. record { place = k; is = e })
            (λ e. absurd (not_both (empty (entry_at G d.drive.image 0)) (erased_empty G d.drive.image erased 0 some) (none_empty_says G (entry_at G d.drive.image) e 0 some)));
      })))
    where
      none : (e : ℕ) → e < G.entries → is_file_rule G d.session.user q.fcb 1 (ex_of q.fcb) (entry_at G d.drive.image e) ≡ false
      none e h =
          split (bool_cases (is_file_rule G d.session.user q.fcb 1 (ex_of q.fcb) (entry_at G d.drive.image e)))
          (λ t. not_both (used (entry_at G d.drive.image e))
          (file_used G d.session.user q.fcb 1 (ex_of q.fcb) (entry_at G d.drive.image e) t range.user) (erased_unused G d.drive.image erased e h))
          (λ f. f)

  -- log in, lift the protection, make a file, write its first record
  pub erased_begins : (d : Disk) → ErasedDisk G d.drive.image → length d.drive.map ≡ G.blocks → InRange G d.session
      → (login make write : Request) → Asks login 13 → Asks make 22 → get_or make.fcb 0 0 ≤ 1 → name_right_rule false make.fcb 1 ≡ true → ex_of make.fcb ≤ 31 → cr_of make.fcb < 128
      → Asks write 21 → write.fcb ≡ (outcome_of G (lifted_disk (after G d login)) make).lent.fcb
      → (accepts G d login ≡ true) × (accepts G (lifted_disk (after G d login)) make ≡ true) × (accepts G (after G (lifted_disk (after G d login)) make) write ≡ true)
  unfolding after logged_in protected
  erased_begins d erased map range login make write a b drive name ex cr c same =
      let first = erased_accepted S d login erased map range a.number a.time a.fcb a.buffer in
      let t = booked_login S d login a.number first in
      let o = logged_in_law G d login a.number first in
      let second = made_on_law (lifted_disk (after G d login)) (subst (λ (x : Outcome). ErasedDisk G x.lent.drive.image) (sym o) erased) t.good (range_lifted 1 t.range) refl make b drive name ex in (
        first,
        second,
        make_then_write S (lifted_disk (after G d login)) make b.number second cr refl G.area S.area_below
            (ap (λ (x : Outcome). note_at_rule x.lent.drive.map G.area) o ∙ first_free d.drive.image erased)
            write c.number same c.time c.buffer,
      )
