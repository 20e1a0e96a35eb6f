-- Demand 2, exact, and read back. After an accepted 21 or 34, with or without a move, and any run whose calls do not name that file, call 33
-- through the FCB that the write handed back, with r0 to r2 alone set to that record, gives the bytes that were written.
-- The theorem itself, `read_back`, is in proofs/ReadBack.
use Rattle.std.specs.Prelude.{◌≡◌, true, ℕ, ◌+◌, ◌%◌, ◌≤◌, ◌<◌, length, get_or, set}
use Rattle.std.proofs.Math.Path.{refl, subst}
use Rattle.std.proofs.Common.{ap, sym, ◌∙◌, arith, get_or-set_same, get_or-set_other}
use Rattle.std.proofs.Math.Bool.{false}
use mathlib.Core.List.{List, [], ◌∷◌}
use Rattle.lists.specs.Cases.{split}
use Rattle.format.specs.Diskette.{Bytes, Geometry, Sound, record_bytes, extents}
use Rattle.format.specs.Entries.{user_of, extent_of, named}
use Rattle.format.specs.Fcb.{fcb_bytes}
use Rattle.facts.specs.Names.{like_at}
use Rattle.model.specs.declared.Asked.{Asked}
use Rattle.model.specs.declared.Session.{Session}
use Rattle.model.specs.Lent.{Lent}
use Rattle.model.specs.Naming.{names}
use Rattle.model.specs.Target.{target_extent, target_record}
use Rattle.model.specs.Kinds.{kind_of, uses_fcb_rule, wild}
use Rattle.model.specs.declared.Kind.TheVariants.{User, Settle, Write}
use Rattle.model.specs.Step.{step}
use Rattle.model.specs.Table.{time_right_rule}
use Rattle.fields.specs.Agree.{SameName, named_cong}
use Rattle.facts.specs.Naming.{named_user, named_like}
use Rattle.table.specs.Own.{at_kind}
use Rattle.table.specs.First.{◌&◌}
use Rattle.table.specs.Carried.{Leaves, over, on, sets}
use Rattle.table.specs.Total.{InRange}
use Rattle.table.proofs.Total.{total}
use Rattle.invariant.specs.Good.{Good}
use Rattle.effects.specs.View.{view_of}
use Rattle.effects.specs.Cur.{Holds}
use Rattle.effects.specs.Write.{HandedBack}
use Rattle.demands.specs.Runs.{Request, Disk, lent_to, outcome_of, accepts, after, Act, one_call, lifts, protects, after_act}
use Rattle.demands.specs.Reading.{at_record_rule, record_number, Gives, reads_back, length_at_record, rest_at_record}

-- ---- runs that leave a file alone
-- a row of the file that the FCB f names for a user
abbrev pub file_row : ℕ → Bytes → Bytes
file_row user f = set f 0 user

-- the call q, on disk d, leaves the file of f alone: it does not name it, is no accepted 13 or 98, and no 32 that changes the user
pub record LeavesAlone (G : Geometry) (f : Bytes) (d : Disk) (q : Request) : Type 0 where
  pub elsewhere : names q.asked.number d.session.user q.fcb (file_row d.session.user f) ≡ false
  pub unsettled : accepts G d q ≡ true → kind_of q.asked.number ≡ Settle → ⊥
  pub same_user : kind_of q.asked.number ≡ User → (after G d q).session.user ≡ d.session.user

-- the protection names no file
abbrev pub ActLeavesAlone : Geometry → Bytes → Disk → Act → Type 0
ActLeavesAlone G f d (one_call q) = LeavesAlone G f d q
ActLeavesAlone G f d lifts = Unit {0}
ActLeavesAlone G f d protects = Unit {0}

-- so does a whole run, one act after the other
abbrev pub AllLeaveAlone : Geometry → Bytes → Disk → List Act → Type 0
AllLeaveAlone G f d [] = Unit {0}
AllLeaveAlone G f d (a ∷ acts) = ActLeavesAlone G f d a × AllLeaveAlone G f (after_act G d a) acts

-- ---- naming depends on a row's user and name alone
names_cong : (n user : ℕ) (fcb r t : Bytes) → user_of r ≡ user_of t → SameName r 1 t 1 → names n user fcb r ≡ names n user fcb t
unfolding names
names_cong n user fcb r t e m =
    rw (named_cong (wild n) user fcb 1 r t e m, named_cong false user fcb 17 r t e m)

pub names_apart : (n user : ℕ) (fcb f : Bytes) → length f ≡ fcb_bytes → names n user fcb (file_row user f) ≡ false
    → (r : Bytes) → named false user f 1 r ≡ true → names n user fcb r ≡ false
names_apart n user fcb f hf q r h =
    names_cong n user fcb r (file_row user f)
    (named_user false user f 1 r h ∙ sym (get_or-set_same f 0 user 0 (omega arith)))
    (λ i l. sym (like_at f 1 r 1 (named_like false user f 1 r h) i l) ∙ ap (λ (x : ℕ). x % 128) (sym (get_or-set_other f 0 (1 + i) user 0 (λ z. omega arith))))
    ∙ q

-- ---- only 32 sets the user
leaves_user : (G : Geometry) (asked : Asked) (l : Lent) (s : Session) (t : Session) → (kind_of asked.number ≡ User → ⊥)
    → Leaves G asked l s (kind_of asked.number) t → t.user ≡ s.user
leaves_user G asked l s t z (over p q e) = ap (λ (x : Session). x.user) e
leaves_user G asked l s t z (on k g) = ap (λ (x : Session). x.user) g.on
leaves_user G asked l s t z (sets k e) = absurd (z k)

pub user_stays : (G : Geometry) (d : Disk) (q : Request) → (kind_of q.asked.number ≡ User → ⊥) → (after G d q).session.user ≡ d.session.user
unfolding after outcome_of
user_stays G d q z =
    split (total G q.asked (lent_to d q) d.session)
    (λ w. split w.1.session (λ e. ap (λ (x : Session). x.user) e.1) (λ e. ap (λ (x : Session). x.user) e.1))
    (λ c. leaves_user G q.asked (lent_to d q) d.session (step G q.asked (lent_to d q) d.session).answer.session z c.done.leaves)

-- ---- a record that holds, over calls that leave its file alone
pub record Kept (G : Geometry) (d : Disk) (user : ℕ) (f : Bytes) (e rec : ℕ) (v : Bytes) : Type 0 where
  pub good : Good G d.drive.image d.drive.map
  pub range : InRange G d.session
  pub same : d.session.user ≡ user
  pub holds : Holds G (view_of G d.drive.image d.drive.map) user f e rec v

module _ {G : Geometry} (S : Sound G) (user : ℕ) (f : Bytes) (hf : length f ≡ fcb_bytes) (e rec : ℕ) (v : Bytes) where
  -- and is read then
  pub kept_read : (d : Disk) → Kept G d user f e rec v → get_or f 0 0 ≤ 1 → extent_of f < extents → (asked : Asked) → asked.number ≡ 33 → time_right_rule asked ≡ true → (buffer : Bytes)
      → length buffer ≡ record_bytes → Gives (outcome_of G d (record { asked = asked; fcb = at_record_rule f (record_number (extent_of f) rec); buffer = buffer })) v
  unfolding outcome_of
  kept_read d k drive low asked n time buffer hb =
      let fcb : Bytes = at_record_rule f (record_number (extent_of f) rec) in
      reads_back S asked n (lent_to d (record { asked = asked; fcb = fcb; buffer = buffer })) d.session k.good
      record {
        image_long = k.good.image_long;
        map_long = k.good.map_long;
        fcb_long = length_at_record f (record_number (extent_of f) rec) hf;
        buffer_long = hb;
        user_low = k.range.user;
        place_low = k.range.place;
      }
      time (rw (rest_at_record f (record_number (extent_of f) rec) hf 0 (omega arith) (omega arith)) drive) f hf e rec v
      (subst (λ (x : ℕ). Holds G (view_of G d.drive.image d.drive.map) x f e rec v) (sym k.same) k.holds) low refl

-- ---- what an accepted write leaves
pub record Wrote (G : Geometry) (d : Disk) (w : Request) : Type 0 where
  pub good : Good G (outcome_of G d w).lent.drive.image (outcome_of G d w).lent.drive.map
  pub fcb : HandedBack w.asked.number (lent_to d w) (outcome_of G d w).lent
  pub entry : ℕ
  pub holds : Holds G (view_of G (outcome_of G d w).lent.drive.image (outcome_of G d w).lent.drive.map) d.session.user (outcome_of G d w).lent.fcb entry
      (target_record w.asked.number w.fcb) w.buffer
  pub drive : get_or w.fcb 0 0 ≤ 1
  pub extent : target_extent w.asked.number w.fcb < extents
  pub range : InRange G d.session

pub write_uses : (n : ℕ) → kind_of n ≡ Write → (uses_fcb_rule n ≡ true) × (n ≡ 13 → ⊥)
unfolding uses_fcb_rule
write_uses n = at_kind (λ (m : ℕ). (uses_fcb_rule m ≡ true) × (m ≡ 13 → ⊥)) Write n refl ((refl, λ z. omega arith) & (refl, λ z. omega arith) & tt)

-- ---- demand 2
-- the FCB that the write w handed back, with r0 to r2 set to the record that it wrote
unfoldable pub read_fcb : Geometry → Disk → Request → Bytes
read_fcb G d w = at_record_rule (outcome_of G d w).lent.fcb (record_number (target_extent w.asked.number w.fcb) (target_record w.asked.number w.fcb))
