-- The demands on the 8-inch disk: that its sizes are sound is shown, and no longer asked.
use Rattle.std.specs.Prelude.{◌≡◌, true, false, List, [], ◌∷◌, ℕ, ◌%◌, ◌≤◌, ◌<◌, length, get_or}
use Rattle.std.proofs.Common.{arith}
use Rattle.format.specs.Diskette.{Bytes, eight_inch, record_bytes}
use Rattle.format.specs.Names.{name_right_rule}
use Rattle.format.specs.Entries.{Rows, ex_of}
use Rattle.format.specs.Dates.{dated, stamp_at}
use Rattle.format.specs.Consistent.{consistent_rows}
use Rattle.format.specs.Fcb.{cr_of}
use Rattle.facts.specs.Found.{FoundAt}
use Rattle.disk.specs.Eight.{eight_sound}
use Rattle.model.specs.declared.Asked.{Asked}
use Rattle.model.specs.declared.Session.{Session}
use Rattle.model.specs.declared.Kind.{Kind}
use Rattle.model.specs.Lent.{Lent, rows_of, protected}
use Rattle.model.specs.Stamps.{stamps_by}
use Rattle.model.specs.Step.{step}
use Rattle.model.specs.Table.{time_right_rule}
use Rattle.model.specs.Target.{present_entry}
use Rattle.model.specs.Kinds.{one_of, kind_of, of_record}
use Rattle.model.specs.declared.Kind.TheVariants.{Write}
use Rattle.fields.specs.Erased.{ErasedDisk}
use Rattle.table.specs.Total.{CarriedOut, InRange}
use Rattle.invariant.specs.Stamps.{newest}
use Rattle.effects.specs.Book.{nothing_held}
use Rattle.demands.specs.Runs.{Request, Disk, outcome_of, accepts, after, Act, lifted_disk, run, book_run}
use Rattle.demands.specs.NothingLost.{NothingLost, Stays}
use Rattle.demands.proofs.NothingLost.{nothing_lost, bytes_stay, system_stays}
use Rattle.demands.specs.Reading.{Gives}
use Rattle.demands.specs.ReadBack.{AllLeaveAlone, read_fcb}
use Rattle.demands.proofs.ReadBack.{read_back}
use Rattle.demands.specs.StillCurrent.{current_calls}
use Rattle.demands.proofs.StillCurrent.{still_current}
use Rattle.demands.specs.ClosesFirst.{PastCurrent, ClosesFirst}
use Rattle.demands.proofs.ClosesFirst.{closes_first}
use Rattle.demands.proofs.Dates.{stamp_after}
use Rattle.demands.specs.Undated.{Plain, three_tests, plain_consistent}
use Rattle.demands.specs.Protected.{NeverLifted, NeverSettled}
use Rattle.demands.proofs.Protected.{protected_image, protected_map}
use Rattle.demands.specs.Begins.{Asks}
use Rattle.demands.proofs.Begins.{erased_begins}

-- demand 2
pub eight_read_back : (d : Disk) (w : Request) → kind_of w.asked.number ≡ Write → accepts eight_inch d w ≡ true
    → (acts : List Act) → AllLeaveAlone eight_inch (outcome_of eight_inch d w).lent.fcb (after eight_inch d w) acts
    → (asked : Asked) → asked.number ≡ 33 → time_right_rule asked ≡ true → (buffer : Bytes) → length buffer ≡ record_bytes
    → Gives (outcome_of eight_inch (run eight_inch (after eight_inch d w) acts) (record { asked = asked; fcb = read_fcb eight_inch d w; buffer = buffer })) w.buffer
eight_read_back = read_back eight_sound

-- demand 3
pub eight_nothing_lost : (d : Disk) (q : Request) → q.asked.number ≡ 13 → accepts eight_inch d q ≡ true → (acts : List Act)
    → NothingLost eight_inch (run eight_inch (after eight_inch d q) acts) (book_run eight_inch (after eight_inch d q) acts nothing_held)
eight_nothing_lost = nothing_lost eight_sound

pub eight_bytes_stay : (d : Disk) (q : Request) → Stays eight_inch d q
eight_bytes_stay = bytes_stay eight_sound

pub eight_system_stays : (d : Disk) (q : Request) (i : ℕ) → i < 6656 → get_or (after eight_inch d q).drive.image i 0 ≡ get_or d.drive.image i 0
eight_system_stays = system_stays eight_sound

-- the FCB handed back is current
pub eight_still_current : (d : Disk) (q : Request) → accepts eight_inch d q ≡ true → one_of q.asked.number current_calls ≡ true
    → (one_of q.asked.number (15 ∷ 22 ∷ []) ≡ true → cr_of q.fcb ≤ 128)
    → FoundAt (present_entry eight_inch (after eight_inch d q).session.user (outcome_of eight_inch d q).lent)
eight_still_current = still_current eight_sound

-- the close that a move begins with is never refused
pub eight_closes_first : (d : Disk) (q : Request) → of_record (kind_of q.asked.number) ≡ true → PastCurrent q.asked.number (outcome_of eight_inch d q).answer
    → (b : ℕ) → (b ≡ 0 → ⊥) → ClosesFirst eight_inch d q b
eight_closes_first = closes_first eight_inch

-- request [8]: each stamp after an accepted call is the newest that the call makes there, or what it was
pub eight_stamp_after : (asked : Asked) (l : Lent) (s : Session) → CarriedOut eight_inch asked l s → dated (rows_of eight_inch l) ≡ true
    → (k : Kind) → kind_of asked.number ≡ k → (e which : ℕ) → e < 64 → e % 4 < 3 → which < 2
    → stamp_at eight_inch (step eight_inch asked l s).lent.drive.image e which ≡ newest (stamps_by eight_inch asked l s k) e which (stamp_at eight_inch l.drive.image e which)
eight_stamp_after = stamp_after eight_sound

-- and consistency is what it was where every row is a file's or empty
pub eight_plain_consistent : (d : Rows) → Plain eight_inch d → consistent_rows eight_inch d ≡ three_tests eight_inch d
eight_plain_consistent = plain_consistent eight_sound

-- request [12]: on a protected session, over any run in which the protection is never lifted, the image stays; and the map, accepted 13 and 98 aside
pub eight_protected_image : (d : Disk) → protected d.session ≡ true → (acts : List Act) → NeverLifted acts → (run eight_inch d acts).drive.image ≡ d.drive.image
eight_protected_image = protected_image eight_inch

pub eight_protected_map : (d : Disk) → protected d.session ≡ true → (acts : List Act) → NeverLifted acts → NeverSettled eight_inch d acts
    → (run eight_inch d acts).drive.map ≡ d.drive.map
eight_protected_map = protected_map eight_inch

-- and they speak of something: a log-in and, once the protection is lifted, a make and a write on an erased disk are accepted
pub eight_begins : (d : Disk) → ErasedDisk eight_inch d.drive.image → length d.drive.map ≡ 243 → InRange eight_inch d.session
    → (login make write : Request) → Asks login 13 → Asks make 22 → get_or make.fcb 0 0 ≤ 1 → name_right_rule false make.fcb 1 ≡ true → ex_of make.fcb ≤ 31 → cr_of make.fcb < 128
    → Asks write 21 → write.fcb ≡ (outcome_of eight_inch (lifted_disk (after eight_inch d login)) make).lent.fcb
    → (accepts eight_inch d login ≡ true) × (accepts eight_inch (lifted_disk (after eight_inch d login)) make ≡ true)
    × (accepts eight_inch (after eight_inch (lifted_disk (after eight_inch d login)) make) write ≡ true)
eight_begins = erased_begins eight_sound (omega arith)
