-- What calls that meet the contract of `call` come to, as the demands speak of them.
use Rattle.std.specs.Prelude.{◌≡◌, Bool, true, false, List, ℕ, ◌+◌, ◌*◌, ◌<◌, length}
use Rattle.std.proofs.Math.Path.{refl, subst}
use Rattle.std.proofs.Common.{ap, sym, ◌∙◌}
use Rattle.lists.specs.Cases.{split}
use Rattle.lists.specs.Tests.{◌and◌, and_left, and_right}
use Rattle.lists.specs.Splice.{splice}
use Rattle.format.specs.Diskette.{Bytes, eight_inch, record_bytes, extents, extent_records}
use Rattle.format.specs.Fcb.{fcb_bytes}
use Rattle.disk.specs.Eight.{eight_sound}
use Rattle.model.specs.declared.Asked.{Asked}
use Rattle.model.specs.declared.Session.{Session}
use Rattle.model.specs.declared.Answer.{Answer}
use Rattle.model.specs.declared.Code.{Code}
use Rattle.model.specs.Lent.{Lent, lend, Outcome, outcome, protected}
use Rattle.model.specs.Naming.{names}
use Rattle.model.specs.Entering.{three_bytes}
use Rattle.model.specs.Table.{time_right_rule}
use Rattle.model.specs.Target.{target_extent, target_record}
use Rattle.model.specs.Kinds.{kind_of, same}
use Rattle.model.specs.declared.Kind.TheVariants.{Write}
use Rattle.model.specs.Step.{refused, stamped, step}
use Rattle.table.specs.Own.{calling, same_is}
use Rattle.table.specs.Total.{RefusedBy, CarriedOut}
use Rattle.table.proofs.Total.{eight_total}
use Rattle.effects.specs.Where.{Frame}
use Rattle.effects.specs.Book.{Book, nothing_held}
use Rattle.demands.specs.Runs.{Request, Disk, lent_to, outcome_of, left, accepts, after, Act, protected_disk, run, book_run}
use Rattle.demands.specs.NothingLost.{NothingLost}
use Rattle.demands.specs.StepOk.{MayWrite}
use Rattle.demands.proofs.Stamped.{step_ok}
use Rattle.demands.specs.Reading.{Gives, at_record_rule}
use Rattle.demands.specs.ReadBack.{AllLeaveAlone, read_fcb}
use Rattle.demands.proofs.ReadBack.{wrote}
use Rattle.table.specs.Accepted.{accepted_answer}
use Rattle.table.proofs.Accepted.{accepted_carried}
use Rattle.demands.specs.Protected.{NeverLifted, NeverSettled}
use Rattle.demands.proofs.Eight.{eight_nothing_lost, eight_read_back, eight_protected_image, eight_protected_map}
use Rattle.targets.specs.declared.Target.{Target}
use Rattle.targets.specs.Target.{TargetOf}
use Rattle.script.specs.Script.{request}
use Rattle.assured.specs.declared.ReadBack.{ReadBack}

-- a log-in, with whatever is asked besides its number, and whatever FCB and buffer
abbrev pub log_in : Asked → Bytes → Bytes → Request
log_in asked fcb buffer = request (calling 13 asked) fcb buffer

-- an answer to a write that says that it was accepted
unfoldable pub writes_answer : ℕ → Answer → Bool
writes_answer n a = same (kind_of n) Write and accepted_answer n a

abbrev pub writes_to : Disk → Request → Bool
writes_to d w = writes_answer w.asked.number (outcome_of eight_inch d w).answer

-- the book of the run that follows a log-in
abbrev pub book_from : Disk → Request → List Act → Book
book_from d q acts = book_run eight_inch (after eight_inch d q) acts nothing_held

-- the run that follows a write leaves its file alone
abbrev pub LeftAlone : Disk → Request → List Act → Type 0
LeftAlone d w acts = AllLeaveAlone eight_inch (outcome_of eight_inch d w).lent.fcb (after eight_inch d w) acts

-- an FCB with r0 to r2 set to record r of extent x
abbrev pub target_set : Bytes → ℕ → ℕ → Bytes
target_set fcb x r = splice fcb 33 (three_bytes (extent_records * x + r))

-- what call 33 comes to after a write and the run that follows, through the FCB that the write handed back
unfoldable pub read_after : Disk → Request → List Act → Asked → Bytes → Outcome
read_after d w acts again empty =
    outcome_of eight_inch (run eight_inch (after eight_inch d w) acts) (request (calling 33 again) (read_fcb eight_inch d w) empty)

-- ---- demand 1: an outcome is a refusal with the code of the first row of the table that holds, or the call was carried out and stamped
pub data Told (asked : Asked) (l : Lent) (s : Session) (o : Outcome) : Type 0 where
  told_refused : (c : Code) → RefusedBy eight_inch asked l s c → o ≡ refused c s l → Told asked l s o
  told_carried : CarriedOut eight_inch asked l s → o ≡ stamped eight_inch asked l s → Told asked l s o

pub told : (asked : Asked) (l : Lent) (s : Session) (o : Outcome) → o ≡ step eight_inch asked l s → Told asked l s o
told asked l s o m =
    split (eight_total asked l s) (λ r. told_refused r.0 r.1 (m ∙ r.1.is)) (λ c. told_carried c (m ∙ c.is))

-- ---- demand 3, byte by byte: each byte of the image stays, or lies in an entry of a file that the call names, in at most one empty entry,
-- which became such a file's, in one of the two stamps beside such an entry, or in the one record that the call wrote; image and map keep
-- their lengths
pub record Framed (asked : Asked) (l : Lent) (s : Session) (o : Outcome) : Type 0 where
  pub frame : Frame eight_inch l.drive.image o.lent.drive.image (names asked.number s.user l.fcb) (MayWrite eight_inch asked.number l s o)
  pub map_length : length o.lent.drive.map ≡ length l.drive.map

pub framed : (asked : Asked) (l : Lent) (s : Session) (o : Outcome) → o ≡ step eight_inch asked l s → Framed asked l s o
framed asked l s o m =
    let ok = step_ok eight_sound asked l s in subst (Framed asked l s) (sym m) record { frame = ok.frame; map_length = ok.map_length }

-- ---- an outcome that meets the contract: it is that of the request, and leaves the disk after it
module _ (d : Disk) (q : Request) (o : Outcome) (f b : Bytes) (meets : o ≡ step eight_inch q.asked (lend d.drive.image d.drive.map f b) d.session)
    (fcb : f ≡ q.fcb) (buffer : b ≡ q.buffer) where
  pub met : o ≡ outcome_of eight_inch d q
  unfolding outcome_of
  met = rw (meets, fcb, buffer)

  pub met_after : left o ≡ after eight_inch d q
  unfolding after
  met_after = rw met

  -- what its answer says is what the request's says
  pub met_says : (says : ℕ → Answer → Bool) (r v : Bool) → r ≡ says q.asked.number o.answer → r ≡ v
      → says q.asked.number (outcome_of eight_inch d q).answer ≡ v
  met_says says r v h e = ap (λ (x : Outcome). says q.asked.number x.answer) (sym met) ∙ sym h ∙ e

  -- a run on the disk that it left
  pub met_run : (acts : List Act) (e : Disk) → e ≡ run eight_inch (left o) acts → e ≡ run eight_inch (after eight_inch d q) acts
  met_run acts e h = h ∙ ap (λ (x : Disk). run eight_inch x acts) met_after

-- ---- demand 3: a log-in that was refused leaves the disk as a refusal does; after one that was accepted the run is made, and
-- nothing is lost. fcb and buffer are those of the log-in afterwards
pub data LoggedIn (d : Disk) (q : Request) (acts : List Act) (accepted : Bool) (e : Disk) (fcb buffer : Bytes) : Type 0 where
  login_refused : accepted ≡ false → accepts eight_inch d q ≡ false → e ≡ after eight_inch d q
      → fcb ≡ (outcome_of eight_inch d q).lent.fcb → buffer ≡ (outcome_of eight_inch d q).lent.buffer → LoggedIn d q acts accepted e fcb buffer
  calls_made : accepted ≡ true → accepts eight_inch d q ≡ true → e ≡ run eight_inch (after eight_inch d q) acts
      → fcb ≡ (outcome_of eight_inch d q).lent.fcb → buffer ≡ (outcome_of eight_inch d q).lent.buffer
      → NothingLost eight_inch e (book_from d q acts) → LoggedIn d q acts accepted e fcb buffer

pub logged_in_law : (d : Disk) (q : Request) → q.asked.number ≡ 13 → (acts : List Act) (e : Disk) → accepts eight_inch d q ≡ true
    → e ≡ run eight_inch (after eight_inch d q) acts → (o : Outcome) → o ≡ outcome_of eight_inch d q → LoggedIn d q acts true e o.lent.fcb o.lent.buffer
logged_in_law d q n acts e a m o same =
    calls_made refl a m (ap (λ (x : Outcome). x.lent.fcb) same) (ap (λ (x : Outcome). x.lent.buffer) same)
    (subst (λ (x : Disk). NothingLost eight_inch x (book_from d q acts)) (sym m) (eight_nothing_lost d q n a acts))

-- ---- request [12]: a run on a session whose protection is set first. Where the run never lifts it the image is as it was, and where it has no
-- accepted 13 or 98 so is the map
pub record Untouched (d : Disk) (acts : List Act) (e : Disk) : Type 0 where
  pub is : e ≡ run eight_inch (protected_disk d) acts
  pub image : NeverLifted acts → e.drive.image ≡ d.drive.image
  pub map : NeverLifted acts → NeverSettled eight_inch (protected_disk d) acts → e.drive.map ≡ d.drive.map

pub untouched : (d : Disk) (acts : List Act) (e : Disk) → e ≡ run eight_inch (protected_disk d) acts → Untouched d acts e
unfolding protected
untouched d acts e m = record {
  is = m;
  image = λ n. ap (λ (x : Disk). x.drive.image) m ∙ eight_protected_image (protected_disk d) refl acts n;
  map = λ n s. ap (λ (x : Disk). x.drive.map) m ∙ eight_protected_map (protected_disk d) refl acts n s;
}

-- ---- demand 2: a call that is no write, or was refused, leaves what it does; after a write that was accepted the run is made, and then
-- call 33 through the FCB that the write handed back, with r0 to r2 set to its record. Where the run leaves the file alone, the buffer
-- lent to 33 has 128 bytes and the time asked with it is in BCD, it gives what was written. written and back are the two buffers afterwards
pub data ReadsBack (d : Disk) (w : Request) (acts : List Act) (again : Asked) (empty : Bytes) (r : ReadBack) (image map fcb written back : Bytes) : Type 0 where
  not_written : r.accepted ≡ false → writes_to d w ≡ false → outcome r.answer image map fcb written ≡ outcome_of eight_inch d w
      → back ≡ empty → ReadsBack d w acts again empty r image map fcb written back
  write_read : r.accepted ≡ true → writes_to d w ≡ true → written ≡ (outcome_of eight_inch d w).lent.buffer
      → outcome r.answer image map fcb back ≡ read_after d w acts again empty
      → (length empty ≡ record_bytes → time_right_rule again ≡ true → LeftAlone d w acts → Gives (outcome r.answer image map fcb back) w.buffer)
      → ReadsBack d w acts again empty r image map fcb written back

module _ (d : Disk) (w : Request) (took : writes_to d w ≡ true) where
  writes : kind_of w.asked.number ≡ Write
  unfolding writes_answer
  writes = same_is (kind_of w.asked.number) Write (and_left _ _ took)

  accepted : accepts eight_inch d w ≡ true
  unfolding writes_answer
  accepted = and_right _ _ took

  pub fcb_long : length w.fcb ≡ fcb_bytes
  unfolding outcome_of
  fcb_long = (accepted_carried eight_inch w.asked (lent_to d w) d.session accepted).facts.ready.fits.fcb_long

  pub extent_low : target_extent w.asked.number w.fcb < extents
  extent_low = (wrote eight_sound d w writes accepted).extent

  pub record_low : target_record w.asked.number w.fcb < extent_records
  record_low = (wrote eight_sound d w writes accepted).holds.inside

  -- call 33 on the disk after the run
  module _ (o : Outcome) (met : o ≡ outcome_of eight_inch d w) (acts : List Act) (e : Disk) (made : e ≡ run eight_inch (after eight_inch d w) acts)
      (t : Target) (is : TargetOf w.asked.number w.fcb t) (again : Asked) (empty : Bytes) (p : Outcome)
      (last : p ≡ step eight_inch (calling 33 again) (lend e.drive.image e.drive.map (target_set o.lent.fcb t.extent t.at) empty) e.session) where
    pub read_last : p ≡ read_after d w acts again empty
    unfolding read_after read_fcb at_record_rule outcome_of
    read_last = last ∙ rw (made, is.extent, is.at, met)

    pub reads_again : length empty ≡ record_bytes → time_right_rule again ≡ true → LeftAlone d w acts → Gives p w.buffer
    unfolding read_after time_right_rule
    reads_again long time alone =
        subst (λ (y : Outcome). Gives y w.buffer) (sym read_last) (eight_read_back d w writes accepted acts alone (calling 33 again) refl time empty long)
