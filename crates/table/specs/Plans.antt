-- The plan of a record call that the table has passed: every entry and block that it names was found.
use Rattle.std.specs.Prelude.{◌≡◌, ℕ, ◌<◌, None, Option, Some}
use Rattle.std.proofs.Math.Path.{refl}
use Rattle.std.proofs.Common.{sym, ◌∙◌}
use Rattle.std.proofs.Math.Bool.{true, false}
use Rattle.std.proofs.Math.Dec.{eqb}
use borrow.Author.Tests.{eq-eqb, ne_eqb, eqb-false, ltb-true, not-true}
use Rattle.lists.specs.Cases.{split, bool_cases, eq_or_ne}
use Rattle.lists.specs.Tests.{and_left, and_right}
use Rattle.format.specs.Diskette.{Geometry}
use Rattle.format.specs.Entries.{find_empty_rule}
use Rattle.format.specs.Notes.{find_free}
use Rattle.facts.specs.Found.{FoundAt, at_not_nothing}
use Rattle.model.specs.declared.Session.{Session}
use Rattle.model.specs.declared.Plan.{Plan}
use Rattle.model.specs.declared.Plan.TheVariants.{Stay, Move, Make}
use Rattle.model.specs.Lent.{Lent, rows_of}
use Rattle.model.specs.Target.{target_record, present_entry, stays, target_entry, block_there, count_there, record_there, target_block, plan_to, plan_from, plan}
use Rattle.table.specs.Present.{stays_within, target_present}
use Rattle.table.specs.Facts.{Reads, Writes}

-- the entry to which a plan brings the FCB
abbrev pub entry_of : Plan → ℕ
entry_of (Stay e b) = e
entry_of (Move e t b) = t
entry_of (Make e t b) = t

module _ (G : Geometry) (n user : ℕ) (l : Lent) where
  -- the target's block: the one in its slot, or the first free one
  pub data Block (b : ℕ) : Type 0 where
    there : block_there G n user l ≡ b → (b ≡ 0 → ⊥) → Block b
    free : block_there G n user l ≡ 0 → find_free G l.drive.map ≡ Some b → Block b

  -- where the target is: in the present extent, in another one, or in one to be made
  pub data Planned (B : ℕ → Type 0) : Plan → Type 0 where
    stay : (e b : ℕ) → present_entry G user l ≡ Some e → stays n l.fcb ≡ true → target_entry G n user l ≡ Some e → B b → Planned B (Stay e b)
    move : (e t b : ℕ) → present_entry G user l ≡ Some e → stays n l.fcb ≡ false → target_entry G n user l ≡ Some t → B b → Planned B (Move e t b)
    make : (e t b : ℕ) → present_entry G user l ≡ Some e → stays n l.fcb ≡ false → target_entry G n user l ≡ None
        → find_empty_rule G (rows_of G l) ≡ Some t → B b → Planned B (Make e t b)

  module _ (B : ℕ → Type 0) (block : B (target_block G n user l)) (e : ℕ) (at : present_entry G user l ≡ Some e)
      (room : target_entry G n user l ≡ None → FoundAt (find_empty_rule G (rows_of G l))) where
    planned_to : stays n l.fcb ≡ false → (r : Option ℕ) → target_entry G n user l ≡ r → Planned B (plan_to G n user l e r)
    planned_to s (Some t) q = move e t (target_block G n user l) at s q block
    planned_to s None q =
        let f = room q in
        rw f.is (make e f.place (target_block G n user l) at s q f.is block)

    planned : Planned B (plan G n user l)
    unfolding plan plan_from
    planned =
        rw at (split (bool_cases (stays n l.fcb))
        (λ t. rw t (stay e (target_block G n user l) at t (target_present G n user l e at (stays_within G n user l t)) block))
        (λ f. rw f (planned_to f (target_entry G n user l) refl)))

  pub target_block_law : (block_there G n user l ≡ 0 → FoundAt (find_free G l.drive.map)) → Block (target_block G n user l)
  unfolding target_block
  target_block_law f =
      split (eq_or_ne (block_there G n user l) 0)
      (λ z. let t : eqb (block_there G n user l) 0 ≡ true = eq-eqb _ _ z in rw (t, (f z).is) (free z (f z).is))
      (λ z. let t : eqb (block_there G n user l) 0 ≡ false = ne_eqb _ _ z in rw t (there refl z))

  -- the record of a read: below the count there, in a block that is not 0
  pub record There (b : ℕ) : Type 0 where
    pub is : block_there G n user l ≡ b
    pub real : b ≡ 0 → ⊥
    pub counted : target_record n l.fcb < count_there G n user l

  pub record_block : record_there G n user l ≡ true → There (target_block G n user l)
  unfolding record_there target_block
  record_block t =
      let z : eqb (block_there G n user l) 0 ≡ false = not-true _ (and_right _ _ t) in
      rw z record { is = refl; real = eqb-false _ _ z; counted = ltb-true _ _ (and_left _ _ t) }

pub planned_write : (G : Geometry) (n : ℕ) (l : Lent) (s : Session) → Writes G l s n → Planned G n s.user l (Block G n s.user l) (plan G n s.user l)
planned_write G n l s w =
    planned G n s.user l (Block G n s.user l) (target_block_law G n s.user l w.block) w.entry.place w.entry.is w.room

pub planned_read : (G : Geometry) (n : ℕ) (l : Lent) (s : Session) → Reads G l s n → Planned G n s.user l (There G n s.user l) (plan G n s.user l)
planned_read G n l s r =
    planned G n s.user l (There G n s.user l) (record_block G n s.user l r.there) r.entry.place r.entry.is
    (λ q. absurd (at_not_nothing r.target.place (sym r.target.is ∙ q)))
