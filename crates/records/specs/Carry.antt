-- A plan carried out: the FCB comes to the target's extent, and the record is read or written there. The plan matters to the first
-- half alone, and the kind of call to the second.
use Rattle.std.specs.Prelude.{◌≡◌, refl, Bool, cond, ℕ, ◌<◌, length, Err, Ok}
use Rattle.std.proofs.Math.Path.{sym}
use Rattle.std.proofs.Common.{ap, ◌∙◌, arith}
use Rattle.std.proofs.Math.Bool.{true, false}
use Rattle.lists.specs.Tests.{◌and◌}
use Rattle.format.specs.Diskette.{Bytes, Geometry, eight_inch, Sound, Long, entry_bytes}
use Rattle.format.specs.Entries.{entry_at, extent_of, slot_for_rule}
use Rattle.format.specs.Fcb.{fcb_bytes}
use Rattle.format.specs.Consistent.{consistent}
use Rattle.disk.specs.Eight.{eight_sound}
use Rattle.facts.specs.Long.{long_on}
use Rattle.facts.specs.Naming.{run_own}
use Rattle.chains.specs.Chain.{Findable}
use Rattle.rows.specs.Entries.{entry_stored}
use Rattle.fields.specs.Images.{length_closed_image, length_row_closed}
use Rattle.fields.specs.Entering.{extent_entered}
use Rattle.fields.specs.Making.{length_next_row, extent_next}
use Rattle.model.specs.declared.Asked.{Asked}
use Rattle.model.specs.Closing.{closed_image}
use Rattle.model.specs.Entering.{next_row_rule}
use Rattle.model.specs.declared.Session.{Session}
use Rattle.model.specs.declared.Answer.{Answer}
use Rattle.model.specs.declared.Code.{Code}
use Rattle.model.specs.declared.Code.TheVariants.{Accepted, Protected}
use Rattle.model.specs.declared.Plan.{Plan}
use Rattle.model.specs.declared.Plan.TheVariants.{Stay, Move, Make}
use Rattle.model.specs.Lent.{Lent, answer_of, ended, protected}
use Rattle.model.specs.Target.{target_slot, moved, made, have_read, have_written, target_extent}
use Rattle.model.specs.Kinds.{kind_of, same, of_record}
use Rattle.model.specs.declared.Kind.TheVariants.{Read, Write}
use Rattle.model.specs.Calls.{done, read_at, reading, written_at, writing}
use Rattle.model.specs.Step.{refused_session}
use Rattle.table.specs.Protection.{plan_changes}
use Rattle.table.specs.OwnStep.{ready_step, ready_stopped, ready_own}
use Rattle.table.specs.Plans.{entry_of}
use Rattle.targets.specs.declared.Target.{Target}
use Rattle.targets.specs.Target.{TargetOf}
use Rattle.rulings.specs.Ruling.{ruling}
use Rattle.rulings.specs.Bounds.{OnDisk, OwnExtent, Sure, ruling_sure}
use Rattle.rulings.specs.Own.{own_record}
use Rattle.rulings.specs.Stopped.{refuse_spared, follow_stopped, follow_spared}

-- the buffers once the FCB has come to the target's extent, ext
abbrev pub arrived : Geometry → ℕ → Lent → Plan → Lent
arrived G ext l (Stay e b) = l
arrived G ext l (Move e t b) = moved G ext l e t
arrived G ext l (Make e t b) = made G ext l e t

-- the target's block
abbrev pub block_of : Plan → ℕ
block_of (Stay e b) = b
block_of (Move e t b) = b
block_of (Make e t b) = b

-- the record t written or read, with the FCB come there
abbrev pub transferred : Geometry → Bool → Plan → Target → Lent → Lent
transferred G true p t l = have_written G (entry_of p) (slot_for_rule G t.extent t.at) (block_of p) t.at t.after l
transferred G false p t l = have_read G (block_of p) t.at t.after l

-- the target's entry and block are the disk's
pub entry_on_disk : (G : Geometry) (p : Plan) → OnDisk G p → entry_of p < G.entries
entry_on_disk G (Stay e b) w = w.0
entry_on_disk G (Move e t b) w = w.1
entry_on_disk G (Make e t b) w = w.1

pub block_on_disk : (G : Geometry) (p : Plan) → OnDisk G p → block_of p < G.blocks
block_on_disk G (Stay e b) w = w.1
block_on_disk G (Move e t b) w = w.2
block_on_disk G (Make e t b) w = w.2

-- the FCB has the extent of the entry that it has come to
pub arrived_own : {G : Geometry} (S : Sound G) (ext : ℕ) (l : Lent) (p : Plan) → Long G l.drive.image → length l.fcb ≡ fcb_bytes → OnDisk G p
    → OwnExtent G l.drive.image l.fcb ext p → extent_of (arrived G ext l p).fcb ≡ extent_of (entry_at G (arrived G ext l p).drive.image (entry_of p))
unfolding moved made
arrived_own {G} S ext l (Stay e b) long hf w own = sym own
arrived_own {G} S ext l (Move e t b) long hf w own =
    let shut : Bytes = closed_image G l.drive.image e l.fcb in
    let whole = length_row_closed S l.drive.image long e w.0 l.fcb t w.1 in
    extent_entered l.fcb (entry_at G shut t) ext (omega arith) (omega arith) ∙ sym own
arrived_own {G} S ext l (Make e t b) long hf w own =
    let shut : Bytes = closed_image G l.drive.image e l.fcb in
    let kept : Long G shut = long_on G (length_closed_image S l.drive.image long e w.0 l.fcb) long in
    let row : Bytes = entry_at G shut e in
    let whole = length_row_closed S l.drive.image long e w.0 l.fcb e w.0 in
    let next : Bytes = next_row_rule row ext in
    let full : length next ≡ entry_bytes = length_next_row row ext whole in
    extent_entered l.fcb next ext (omega arith) (omega arith) ∙ sym (extent_next row ext whole)
    ∙ ap extent_of (sym (entry_stored S shut kept t w.1 next full))

-- and so they have in the buffers that the arrival left
pub come_own : {G : Geometry} (S : Sound G) (ext : ℕ) (l : Lent) (p : Plan) → Long G l.drive.image → length l.fcb ≡ fcb_bytes → OnDisk G p
    → OwnExtent G l.drive.image l.fcb ext p → (left : Lent) → left ≡ arrived G ext l p
    → extent_of left.fcb ≡ extent_of (entry_at G left.drive.image (entry_of p))
come_own S ext l p long hf w own left came = rw came (arrived_own S ext l p long hf w own)

-- a plan that a ruling on a right disk makes is within the disk's bounds
pub plan_sure : (n : ℕ) (l : Lent) (s : Session) {chain : Bytes} → length l.drive.map ≡ eight_inch.blocks → consistent eight_inch l.drive.image ≡ true
    → Findable eight_inch l.drive.image chain s.user l.fcb → (p : Plan) → Ok p ≡ ruling eight_inch n s.user l
    → Sure eight_inch n l.drive.image l.fcb p
plan_sure n l s long right f p ruled =
    ruling_sure eight_sound run_own n l s f.image_long long right f.user_low p (sym ruled)

-- ---- what a plan has a record call do: arrive, then read or write
module _ (G : Geometry) (s : Session) (l : Lent) (n : ℕ) where
  reading_by : (p : Plan) → reading G s l n p ≡ read_at G s l n (block_of p) (arrived G (target_extent n l.fcb) l p)
  reading_by (Stay e b) = refl
  reading_by (Move e t b) = refl
  reading_by (Make e t b) = refl

  writing_by : (p : Plan) → writing G s l n p ≡ written_at G s l n (entry_of p) (block_of p) (arrived G (target_extent n l.fcb) l p)
  writing_by (Stay e b) = refl
  writing_by (Move e t b) = refl
  writing_by (Make e t b) = refl

  following_by : (p : Plan) (t : Target) → TargetOf n l.fcb t → (w : Bool)
      → cond w (writing G s l n p) (reading G s l n p) ≡ done 0 s (transferred G w p t (arrived G t.extent l p))
  unfolding written_at read_at target_slot
  following_by p t is true = writing_by p ∙ sym (rw (is.extent, is.at, is.after))
  following_by p t is false = reading_by p ∙ sym (rw (is.extent, is.at, is.after))

-- ---- a record call: refused with nothing changed, by its ruling or by the protection, or the plan carried out
module _ (G : Geometry) (asked : Asked) (l : Lent) (s : Session) (r : Answer)
    (which : of_record (kind_of asked.number) ≡ true) (only : protected s ≡ true → kind_of asked.number ≡ Read) where
  pub record_refused : (code : Code) → ruling G asked.number s.user l ≡ Err code → r ≡ answer_of code (refused_session code s)
      → record { answer = r; lent = l } ≡ ready_step G asked l s
  record_refused code q h = rw (ready_own G asked l s (refuse_spared G asked l s only code q), own_record G asked l s which, q, h)

  pub record_stopped : (p : Plan) → ruling G asked.number s.user l ≡ Ok p → (protected s and plan_changes G l p) ≡ true
      → r ≡ answer_of Protected (refused_session Protected s) → record { answer = r; lent = l } ≡ ready_step G asked l s
  record_stopped p q held h = rw (ready_stopped G asked l s (follow_stopped G asked l s only p q held), h)

  pub record_carried : (p : Plan) (t : Target) (left : Lent) → ruling G asked.number s.user l ≡ Ok p → (protected s and plan_changes G l p) ≡ false
      → TargetOf asked.number l.fcb t
      → r ≡ answer_of (Accepted 0) (ended s) → left ≡ transferred G (same (kind_of asked.number) Write) p t (arrived G t.extent l p)
      → record { answer = r; lent = left } ≡ ready_step G asked l s
  record_carried p t left q free is h k =
      rw (ready_own G asked l s (follow_spared G asked l s only p q free), own_record G asked l s which, q, following_by G s l asked.number p t is (same (kind_of asked.number) Write), h, k)
