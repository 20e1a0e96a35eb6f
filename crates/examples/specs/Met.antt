-- The examples speak of something: disks, straight after a log-in, and FCBs on which what each of them asks for holds.
use Rattle.std.specs.Prelude.{◌≡◌, true, false, [], ◌∷◌, ◌++◌, ℕ, ◌+◌, ◌≤◌, ◌<◌, eqb, length, get_or, replicate}
use Rattle.std.proofs.Math.Path.{refl}
use Rattle.std.proofs.Common.{arith, eqb-true}
use Rattle.lists.specs.Tests.{◌and◌}
use Rattle.lists.specs.Below.{all_below, all_at}
use Rattle.format.specs.Diskette.{Bytes, eight_inch, slot_count, Long}
use Rattle.format.specs.Names.{name_right_rule}
use Rattle.format.specs.Entries.{entry_at, rc_of, used, extent_of}
use Rattle.format.specs.Consistent.{consistent}
use Rattle.format.specs.Notes.{fresh_map}
use Rattle.format.specs.Fcb.{fcb_bytes, cr_of}
use Rattle.model.specs.declared.Asked.{Asked}
use Rattle.model.specs.declared.Session.{Session}
use Rattle.model.specs.Table.{time_right_rule}
use Rattle.model.specs.Lent.{Lent, lend, rows_of, ended, lift, protected}
use Rattle.fields.specs.Erased.{ErasedDisk, erased_consistent}
use Rattle.disk.specs.Eight.{eight_sound}
use Rattle.table.specs.Own.{calling}
use Rattle.table.specs.Facts.{Ready}
use Rattle.examples.specs.Erased.{start, blank, notes, fitting, fitting_lifted, logged_ready}
use Rattle.examples.specs.Numbers.{Gives, HasEntry}
use Rattle.examples.specs.Random.{RandomIs}
use Rattle.examples.specs.Pattern.{AllAny}

-- a disk of one entry, of extent 2,047 with this rc, on which 35 gives 00H 00H 04H
pub record Largest (rc : ℕ) (asked : Asked) : Type 0 where
  pub lent : Lent
  pub session : Session
  pub ready : Ready eight_inch (calling 35 asked) lent session
  pub name : name_right_rule false lent.fcb 1 ≡ true
  pub has : HasEntry eight_inch lent session 2047 128
  pub byte : (e : ℕ) → e < eight_inch.entries → used (rows_of eight_inch lent e) ≡ true → rc_of (rows_of eight_inch lent e) ≡ rc
  pub only : (e f : ℕ) → e < eight_inch.entries → f < eight_inch.entries → used (rows_of eight_inch lent e) ≡ true → used (rows_of eight_inch lent f) ≡ true → e ≡ f
  pub gives : Gives eight_inch (calling 35 asked) lent session (0 ∷ 0 ∷ 4 ∷ [])

-- an image that is consistent, and a slot of one of its used entries
pub record SlotOf (img : Bytes) (e j : ℕ) : Type 0 where
  pub long : Long eight_inch img
  pub right : consistent eight_inch img ≡ true
  pub entry : e < eight_inch.entries
  pub slot : j < slot_count
  pub uses : used (entry_at eight_inch img e) ≡ true

-- what a call can be lent so that image, map, lengths and drive are right and the protection is lifted, with an FCB of which P holds
abbrev pub LentWith : Asked → (Bytes → Type 0) → Type 0
LentWith asked P = (l : Lent) × (s : Session) × Ready eight_inch asked l s × (protected s ≡ false) × P l.fcb

-- extent 1, cr 128
abbrev at_end : Bytes
at_end = replicate 12 0 ++ (1 ∷ replicate 19 0) ++ (128 ∷ 0 ∷ 0 ∷ 0 ∷ [])

-- eleven 3FH
abbrev any_name : Bytes
any_name = 0 ∷ replicate 11 63 ++ replicate 24 0

pub any_met : (fcb : Bytes) × (length fcb ≡ fcb_bytes) × AllAny fcb 1
unfolding all_below ◌and◌
any_met = (any_name, refl, λ i h. eqb-true _ _ (all_at (λ (k : ℕ). eqb (get_or any_name (1 + k) 0) 63) 11 refl i h))

module _ (img : Bytes) (erased : ErasedDisk eight_inch img) where
  with_fcb : (P : Bytes → Type 0) (asked : Asked) → time_right_rule asked ≡ true → (fcb : Bytes) → length fcb ≡ fcb_bytes → get_or fcb 0 0 ≤ 1 → P fcb → LentWith asked P
  unfolding protected
  with_fcb P asked time fcb long drive p = (
    lend img (fresh_map eight_inch (entry_at eight_inch img)) fcb blank,
    ended (lift start),
    logged_ready eight_inch img erased.long (erased_consistent eight_inch img erased eight_sound) notes fcb blank (lift start) (fitting_lifted (fitting fcb long)) asked time (λ u. drive),
    refl,
    p,
  )

  pub random_met : (asked : Asked) → time_right_rule asked ≡ true → (r0 r1 r2 : ℕ) → LentWith asked (λ (f : Bytes). RandomIs f r0 r1 r2)
  random_met asked time r0 r1 r2 = with_fcb _ asked time (replicate 33 0 ++ (r0 ∷ r1 ∷ r2 ∷ [])) refl (omega arith) record { low = refl; middle = refl; high = refl }

  pub position_met : (asked : Asked) → time_right_rule asked ≡ true → LentWith asked (λ (f : Bytes). (extent_of f ≡ 1) × (cr_of f ≡ 128))
  unfolding extent_of
  position_met asked time = with_fcb _ asked time at_end refl (omega arith) (refl, refl)
