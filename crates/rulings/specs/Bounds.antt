-- A plan that is to be followed names entries and a block of the disk, and a record of an extent below 2,048.
use Rattle.model.specs.declared.Code.{Code}
use Rattle.std.specs.Prelude.{◌≡◌, refl, true, length, Some, None, Option, Ok}
use Rattle.std.proofs.Common.{sym, subst, ◌∙◌, arith}
use Rattle.std.proofs.Math.Path.{ap}
use Prim.Native.Nat.{ℕ, ◌≤◌, ◌<◌}
use borrow.Author.Tests.{leb-false, eq-eqb, eqb-false, not-false}
use Rattle.lists.specs.Cases.{split, bool_cases}
use Rattle.lists.specs.Tests.{second_fails}
use Rattle.format.specs.Diskette.{Bytes, Geometry, Sound, Long, slot_count, extents}
use Rattle.format.specs.Entries.{entry_at, slot_of, extent_of, run_of, find_file_rule}
use Rattle.format.specs.Consistent.{consistent}
use Rattle.format.specs.Notes.{note_at_rule}
use Rattle.facts.specs.Found.{FoundAt, found_cases}
use Rattle.model.specs.declared.Session.{Session}
use Rattle.model.specs.declared.Plan.{Plan}
use Rattle.model.specs.declared.Plan.TheVariants.{Stay, Move, Make}
use Rattle.model.specs.Lent.{Lent, rows_of}
use Rattle.model.specs.Target.{target_extent, target_record, target_slot, cr_after, present_entry, stays, within, target_entry, block_there, plan}
use Rattle.model.specs.declared.Kind.TheVariants.{Write}
use Rattle.model.specs.Kinds.{kind_of, same}
use Rattle.model.specs.Table.{first_row}
use Rattle.consistency.specs.Reflect.{image_facts}
use Rattle.notes.specs.Numbers.{pending_block}
use Rattle.notes.specs.Free.{free_is}
use Rattle.facts.specs.Find.{file_says, found_own, empty_says}
use Rattle.facts.specs.Slots.{slot_place}
use Rattle.facts.specs.Current.{Current, current_says}
use Rattle.slots.specs.Slots.{SlotOk, slot_same, slot_pending}
use Rattle.current.specs.Current.{fcb_says, current_slot, current_low}
use Rattle.consistency.specs.Naming.{file_used}
use Rattle.model.specs.Closing.{closed_image}
use Rattle.fields.specs.Images.{row_closed_image_other}
use Rattle.fields.specs.Target.{record_below, cr_after_high, target_slot_below}
use Rattle.table.specs.First.{NoneHolds, passed_none}
use Rattle.table.specs.Present.{file_extent_below}
use Rattle.table.specs.Facts.{Reads, Writes}
use Rattle.table.specs.Reflect.{found, either_found}
use Rattle.table.specs.Plans.{Block, there, free, There, Planned, stay, move, make, planned_read, planned_write}
use Rattle.rulings.specs.Ruling.{ruling_of, read_rows, write_rows, ruling_rows, ruling}

-- ---- the entries and the block of a plan
abbrev pub OnDisk : Geometry → Plan → Type 0
OnDisk G (Stay e b) = (e < G.entries) × (b < G.blocks)
OnDisk G (Move e t b) = (e < G.entries) × (t < G.entries) × (b < G.blocks)
OnDisk G (Make e t b) = (e < G.entries) × (t < G.entries) × (b < G.blocks)

-- the entry that the FCB comes to has as its own the extent that the FCB then has: the FCB's where it stays, ext where it moves. So it is where
-- an entry covers one extent; a row that is made for ext has it anyway
abbrev pub OwnExtent : Geometry → Bytes → Bytes → ℕ → Plan → Type 0
OwnExtent G img fcb ext (Stay e b) = extent_of (entry_at G img e) ≡ extent_of fcb
OwnExtent G img fcb ext (Move e t b) = extent_of (entry_at G (closed_image G img e fcb) t) ≡ ext
OwnExtent G img fcb ext (Make e t b) = Unit {0}

-- a plan to be followed, for the target of call n
pub record Sure (G : Geometry) (n : ℕ) (img fcb : Bytes) (p : Plan) : Type 0 where
  pub on_disk : OnDisk G p
  pub own : OwnExtent G img fcb (target_extent n fcb) p
  pub extent : target_extent n fcb < extents
  pub at : target_record n fcb < 128
  pub after : cr_after n fcb ≤ 128

-- ---- a ruling to follow a plan
follow_passed : (v : Option Code) (q p : Plan) → ruling_of v q ≡ Ok p → v ≡ None
follow_passed None q p h = refl
follow_passed (Some code) q p h = absurd (let z : ◌≡◌ {A = ℕ} 0 1 = cc in omega arith)

follow_plan : (v : Option Code) (q p : Plan) → ruling_of v q ≡ Ok p → q ≡ p
follow_plan None q p h = cc
follow_plan (Some code) q p h = absurd (let z : ◌≡◌ {A = ℕ} 0 1 = cc in omega arith)

module _ {G : Geometry} (S : Sound G) (single : (x : ℕ) → run_of G x ≡ x) (n : ℕ) (l : Lent) (s : Session) (image_long : Long G l.drive.image)
    (map_long : length l.drive.map ≡ G.blocks) (right : consistent G l.drive.image ≡ true) (low : s.user ≤ 15) where
  -- the entry of a file that was found: a block in a slot of it
  row_block : (name : Bytes) (q ext t j b : ℕ) → find_file_rule G (rows_of G l) s.user name q ext ≡ Some t → j < slot_count → slot_of G (rows_of G l t) j ≡ b
      → (b ≡ 0 → ⊥) → b < G.blocks
  row_block name q ext t j b found h is real =
      let first = file_says G (rows_of G l) s.user name q ext t found in
      let fine = (image_facts G l.drive.image right).fine t first.below (file_used G s.user name q ext (rows_of G l t) first.holds low) in
      subst (λ (x : ℕ). x < G.blocks) is (fine.high j h (λ z. real (sym is ∙ z)))

  module _ (e : ℕ) (at : present_entry G s.user l ≡ Some e) where
    present : Current G (rows_of G l) l.drive.map s.user l.fcb e
    unfolding present_entry
    present = current_says G (rows_of G l) l.drive.map s.user l.fcb e at

    e_below : e < G.entries
    e_below = current_low G (rows_of G l) l.drive.map s.user l.fcb e present

    record_low : target_record n l.fcb < 128
    record_low = record_below n l.fcb (fcb_says l.fcb present.right).cr

    after_low : cr_after n l.fcb ≤ 128
    after_low = cr_after_high n l.fcb (fcb_says l.fcb present.right).cr

    slot_low : target_slot G n l.fcb < slot_count
    slot_low = slot_place G (target_slot_below S n l.fcb (fcb_says l.fcb present.right).cr)

    -- a block in a slot of the FCB
    fcb_block : (j b : ℕ) → j < slot_count → slot_of G l.fcb j ≡ b → (b ≡ 0 → ⊥) → b < G.blocks
    fcb_block j b h is real = fits (current_slot G (rows_of G l) l.drive.map s.user l.fcb e present j h)
      where
        fits : SlotOk G l.drive.map e (rows_of G l e) l.fcb j → b < G.blocks
        fits (slot_same q) = row_block l.fcb 1 _ e j b present.found h (sym q ∙ is) real
        fits (slot_pending z q) =
            subst (λ (x : ℕ). b < x) map_long (pending_block l.drive.map b e j (ap (note_at_rule l.drive.map) (sym is) ∙ q))

    -- the block that is there, and the one that is used
    block_low : (b : ℕ) → block_there G n s.user l ≡ b → (b ≡ 0 → ⊥) → b < G.blocks
    unfolding block_there target_entry
    block_low b q real =
        split (bool_cases (within G n l.fcb))
        (λ y. let is : slot_of G l.fcb (target_slot G n l.fcb) ≡ b = rw y at q in fcb_block (target_slot G n l.fcb) b slot_low is real)
        (λ f. found_cases (target_entry G n s.user l)
        (λ t w. let is : slot_of G (rows_of G l t) (target_slot G n l.fcb) ≡ b = rw (f, w) at q in
        row_block l.fcb 1 (target_extent n l.fcb) t (target_slot G n l.fcb) b w slot_low is real)
        (λ w. let is : 0 ≡ b = rw (f, w) at q in absurd (real (sym is))))

  there_block : (e : ℕ) → present_entry G s.user l ≡ Some e → (b : ℕ) → There G n s.user l b → b < G.blocks
  there_block e at b t = block_low e at b t.is t.real

  some_block : (e : ℕ) → present_entry G s.user l ≡ Some e → (b : ℕ) → Block G n s.user l b → b < G.blocks
  some_block e at b (there q real) = block_low e at b q real
  some_block e at b (free z q) = (free_is G l.drive.map b q).below

  -- a plan whose block is one of the disk's
  plan_on_disk : (B : ℕ → Type 0) → ((e : ℕ) → present_entry G s.user l ≡ Some e → (b : ℕ) → B b → b < G.blocks)
      → (p : Plan) → Planned G n s.user l B p → OnDisk G p
  unfolding target_entry
  plan_on_disk B k p (stay e b at y target x) = (e_below e at, k e at b x)
  plan_on_disk B k p (move e t b at y target x) =
      (e_below e at, (file_says G (rows_of G l) s.user l.fcb 1 (target_extent n l.fcb) t target).below, k e at b x)
  plan_on_disk B k p (make e t b at y target room x) = (e_below e at, (empty_says G (rows_of G l) t room).below, k e at b x)

  -- the FCB's entry, and the target's where there is a move to another: closing the one leaves the other
  present_own : (e : ℕ) → present_entry G s.user l ≡ Some e → extent_of (rows_of G l e) ≡ extent_of l.fcb
  present_own e at = found_own G (rows_of G l) s.user l.fcb 1 (extent_of l.fcb) single e (present e at).found

  plan_own : (B : ℕ → Type 0) → (p : Plan) → Planned G n s.user l B p → OwnExtent G l.drive.image l.fcb (target_extent n l.fcb) p
  unfolding target_entry stays
  plan_own B p (stay e b at y target x) = present_own e at
  plan_own B p (move e t b at y target x) =
      let ext : ℕ = target_extent n l.fcb in
      let own = found_own G (rows_of G l) s.user l.fcb 1 ext single t target in
      let other : t ≡ e → ⊥ = λ q. eqb-false ext (extent_of l.fcb) y (sym own ∙ ap (λ (k : ℕ). extent_of (rows_of G l k)) q ∙ present_own e at) in
      ap extent_of (row_closed_image_other S l.drive.image image_long e (e_below e at) l.fcb t
      (file_says G (rows_of G l) s.user l.fcb 1 ext t target).below other) ∙ own
  plan_own B p (make e t b at y target room x) = tt

  -- ---- the ruling
  sure : (B : ℕ → Type 0) → ((e : ℕ) → present_entry G s.user l ≡ Some e → (b : ℕ) → B b → b < G.blocks)
      → Planned G n s.user l B (plan G n s.user l) → FoundAt (present_entry G s.user l) → target_extent n l.fcb < extents
      → (p : Plan) → plan G n s.user l ≡ p → Sure G n l.drive.image l.fcb p
  sure B k planned entry below p q = record {
    on_disk = rw (← q) (plan_on_disk B k (plan G n s.user l) planned);
    own = rw (← q) (plan_own B (plan G n s.user l) planned);
    extent = below;
    at = record_low entry.place entry.is;
    after = after_low entry.place entry.is;
  }

  module _ (p : Plan) (is : plan G n s.user l ≡ p) (entry : FoundAt (present_entry G s.user l)) where
    read_sure : NoneHolds (read_rows G n s.user l) → Sure G n l.drive.image l.fcb p
    unfolding read_rows target_entry
    read_sure none =
        let target = found _ none.0 in
        let below = file_extent_below G l.drive.image s.user l.fcb 1 (target_extent n l.fcb) target.place right low target.is in
        let reads : Reads G l s n = record { entry = entry; target = target; extent = below; there = not-false _ none.1.0 } in
        sure (There G n s.user l) there_block (planned_read G n l s reads) entry below p is

    write_sure : NoneHolds (write_rows G n s.user l) → Sure G n l.drive.image l.fcb p
    unfolding write_rows
    write_sure none =
        let below = leb-false _ _ none.1.0 in
        let writes : Writes G l s n = record {
          entry = entry;
          writable = none.0;
          extent = below;
          room = either_found _ _ none.1.1.0;
          block = λ z. found _ (second_fails _ _ none.1.1.1.0 (eq-eqb _ _ z));
        } in
        sure (Block G n s.user l) some_block (planned_write G n l s writes) entry below p is

  pub ruling_sure : (p : Plan) → ruling G n s.user l ≡ Ok p → Sure G n l.drive.image l.fcb p
  unfolding ruling ruling_rows
  ruling_sure p h =
      let v : Option Code = first_row (ruling_rows G n s.user l) in
      let none = passed_none (ruling_rows G n s.user l) (follow_passed v (plan G n s.user l) p h) in
      let is = follow_plan v (plan G n s.user l) p h in
      let entry = found _ none.1.0 in
      split (bool_cases (same (kind_of n) Write)) (λ w. write_sure p is entry (rw w at none.1.1)) (λ w. read_sure p is entry (rw w at none.1.1))
