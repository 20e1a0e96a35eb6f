-- Document 02, [12]. On a protected session no call changes a byte of the image, and none but 13 and 98 one of the map; no call changes the
-- protection, on any session; so nothing changes over any run in which it is never lifted. A read that it refuses succeeds once it is lifted, and a
-- call that it does not refuse does the same then, the stamp of an open aside. The theorems of every call and of runs are in proofs/Protected.
use Rattle.std.specs.Prelude.{◌≡◌, true, ℕ, None, Option, Some}
use Rattle.std.proofs.Math.Path.{refl, ap, sym}
use Rattle.std.proofs.Common.{◌∙◌}
use Rattle.std.proofs.Math.Bool.{false, not}
use mathlib.Core.List.{List, [], ◌∷◌}
use Rattle.std.proofs.Math.Dec.{eqb}
use borrow.Author.Tests.{ne_eqb}
use Rattle.lists.specs.Cases.{split, bool_cases, not_both, clash, cond_either}
use Rattle.lists.specs.Tests.{and_fails_left, and_fails_right}
use Rattle.format.specs.Diskette.{Geometry}
use Rattle.format.specs.Dates.{dated, asks, asks_update}
use Rattle.facts.specs.Found.{at_not_nothing}
use Rattle.model.specs.declared.Asked.{Asked}
use Rattle.model.specs.declared.Session.{Session}
use Rattle.model.specs.declared.Plan.{Plan}
use Rattle.model.specs.declared.Plan.TheVariants.{Stay, Move, Make}
use Rattle.model.specs.declared.Code.{Code}
use Rattle.model.specs.declared.Code.TheVariants.{NotListed, BadParameter, BadDisk}
use Rattle.model.specs.declared.Kind.{Kind}
use Rattle.model.specs.declared.Kind.TheVariants.{Unlisted, Quiet, Search, User, Settle, Close, Delete, Create, Rename, Read, Write}
use Rattle.model.specs.Codes.{says_of}
use Rattle.model.specs.Kinds.{kind_of, same, one_of, is_call}
use Rattle.model.specs.Lent.{Drive, Lent, Outcome, rows_of, protected, with_user, with_lifted}
use Rattle.model.specs.Closing.{closed_image}
use Rattle.model.specs.Target.{plan, moved, have_read}
use Rattle.model.specs.Calls.{logged_in, freed, user_set, opened_at, opened, closed_at, closed, found_at, searched, deletes, deleted, created_at, created, renamed, read_at, reading, read, written_at, writing, written, sized, positioned, space}
use Rattle.model.specs.Stamps.{Stamp, access_stamps, close_stamps, new_stamps, create_stamps, move_stamps, stamps_by, stamped_outcome, where_dated}
use Rattle.model.specs.Step.{refused, told, pattern, place, settled, does, effect, carried_out, step}
use Rattle.model.specs.Table.{changers, parameters_right_rule, disk_right_rule, when, first_row, own_rows, move_changes, protection_holds, table, verdict}
use Rattle.fields.specs.Closing.{map_kept}
use Rattle.table.specs.Own.{same_is, not_unlisted}
use Rattle.table.specs.Protection.{changes_kind, by_kind, reads_listed, plan_changes, lifted_spared, changer_stopped, spared_unchanged, stopped_succeeds, succeeds_none}
use Rattle.table.proofs.Protection.{plan_changes_law}
use Rattle.table.specs.Facts.{Reads, Ready, ready_lifted}
use Rattle.table.specs.Accept.{reads_of}
use Rattle.table.proofs.Accept.{passes}
use Rattle.table.specs.Accepted.{accepted_answer}
use Rattle.table.proofs.Accepted.{carried_says}
use Rattle.table.specs.Plans.{There, Planned, stay, move, make, planned_read}
use Rattle.table.specs.Carried.{Leaves, over, on, sets}
use Rattle.table.specs.Total.{CarriedOut}
use Rattle.table.proofs.Total.{total}
use Rattle.demands.specs.Stamped.{stamped_as_law}
use Rattle.demands.specs.Dates.{settles_image}
use Rattle.demands.specs.Runs.{Request, Disk, lent_to, outcome_of, accepts, after, Act, one_call, lifts, protects, after_act}

-- ---- no call changes the protection, on any session
module _ (G : Geometry) (asked : Asked) (l : Lent) (s : Session) where
  leaves_lifted : (t : Session) → Leaves G asked l s (kind_of asked.number) t → t.lifted ≡ s.lifted
  leaves_lifted t (over p q e) = ap (λ (x : Session). x.lifted) e
  leaves_lifted t (on k g) = ap (λ (x : Session). x.lifted) g.on
  leaves_lifted t (sets k e) =
      ap (λ (x : Session). x.lifted) e
      ∙ cond_either (λ (x : Session). x.lifted ≡ s.lifted) (eqb asked.argument 255) {x = s} {y = with_user s asked.argument} (λ y. refl) (λ y. refl)

  pub lifted_stays : (step G asked l s).answer.session.lifted ≡ s.lifted
  lifted_stays =
      split (total G asked l s)
      (λ w. split w.1.session (λ e. ap (λ (x : Session). x.lifted) e.1) (λ e. ap (λ (x : Session). x.lifted) e.1))
      (λ c. leaves_lifted (step G asked l s).answer.session c.done.leaves)

-- ---- a call on a protected session: it leaves the image and, unless it is an accepted 13 or 98, the map
pub record Unchanged (l : Lent) (n : ℕ) (o : Outcome) : Type 0 where
  pub image : o.lent.drive.image ≡ l.drive.image
  pub map : (accepted_answer n o.answer ≡ true → kind_of n ≡ Settle → ⊥) → o.lent.drive.map ≡ l.drive.map

pub nothing_changed : (l : Lent) (n : ℕ) (o : Outcome) → o.lent.drive ≡ l.drive → Unchanged l n o
nothing_changed l n o q = record { image = ap (λ (d : Drive). d.image) q; map = λ z. ap (λ (d : Drive). d.map) q }

-- a read whose move changes no entry leaves the drive, and makes no stamp
module _ (G : Geometry) (asked : Asked) (l : Lent) (s : Session) (r : Reads G l s asked.number) where
  read_leaves : (q : Plan) → Planned G asked.number s.user l (There G asked.number s.user l) q → plan_changes G l q ≡ false
      → ((reading G s l asked.number q).lent.drive ≡ l.drive) × (move_stamps G asked l s q ≡ [])
  unfolding read_at have_read moved closed_image close_stamps
  read_leaves q (stay e b at t target w) f = (refl, refl)
  read_leaves q (move e t b at go target w) f =
      (rw (f, map_kept G (rows_of G l e) l.fcb f l.drive.map), rw (and_fails_right (asks G (rows_of G l) asks_update) _ f))
  read_leaves q (make e t b at go none room w) f = absurd (at_not_nothing r.target.place (sym r.target.is ∙ none))

  pub read_unchanged : move_changes G asked l s ≡ false → ((does G asked l s Read).lent.drive ≡ l.drive) × (stamps_by G asked l s Read ≡ [])
  unfolding read
  read_unchanged f =
      read_leaves (plan G asked.number s.user l) (planned_read G asked.number l s r) (sym (plan_changes_law G asked l s) ∙ f)

module _ (G : Geometry) (asked : Asked) (l : Lent) (s : Session) (p : protected s ≡ true) (c : CarriedOut G asked l s) where
  -- no call that changes the disk is carried out
  none_changes : {A : Type 0} (k : Kind) → changes_kind k ≡ true → kind_of asked.number ≡ k → A
  none_changes k t q =
      not_both (protection_holds G asked l s) (changer_stopped G asked l s p (sym (by_kind asked.number k q) ∙ t)) c.facts.spared

  -- and a read that is changes no entry
  spared_read : kind_of asked.number ≡ Read → ((does G asked l s Read).lent.drive ≡ l.drive) × (stamps_by G asked l s Read ≡ [])
  spared_read q =
      read_unchanged G asked l s (reads_of G asked l s c.facts.none c.facts.ready.image_right c.facts.ready.fits.user_low q)
      (spared_unchanged G asked l s p (reads_listed asked.number q) c.facts.none c.facts.spared)

  -- an open stamps no date
  quiet_stamps : stamps_by G asked l s Quiet ≡ []
  unfolding access_stamps
  quiet_stamps = cond_either (λ (xs : List Stamp). xs ≡ []) (eqb asked.number 15) (λ t. rw (and_fails_left (not (protected s)) _ (ap not p))) (λ f. refl)

  -- every rule but that of 13 and 98 leaves the drive, and none makes a stamp
  rule_leaves : (k : Kind) → kind_of asked.number ≡ k → same k Settle ≡ false → ((does G asked l s k).lent.drive ≡ l.drive) × (stamps_by G asked l s k ≡ [])
  unfolding user_set searched found_at
  rule_leaves Unlisted q z = not_unlisted asked.number c.facts.listed q
  rule_leaves Quiet q z = (refl, quiet_stamps)
  rule_leaves Search q z = (refl, refl)
  rule_leaves User q z = (cond_either (λ (o : Outcome). o.lent.drive ≡ l.drive) (eqb asked.argument 255) (λ t. refl) (λ f. refl), refl)
  rule_leaves Settle q z = clash z
  rule_leaves Close q z = none_changes Close refl q
  rule_leaves Delete q z = none_changes Delete refl q
  rule_leaves Create q z = none_changes Create refl q
  rule_leaves Rename q z = none_changes Rename refl q
  rule_leaves Read q z = spared_read q
  rule_leaves Write q z = none_changes Write refl q

  unsettled_leaves : (k : Kind) → kind_of asked.number ≡ k → same k Settle ≡ false → Unchanged l asked.number (step G asked l s)
  unsettled_leaves k q z =
      let w = rule_leaves k q z in
      nothing_changed l asked.number (step G asked l s)
      (ap (λ (o : Outcome). o.lent.drive) (c.is ∙ stamped_as_law G asked l s k q
      ∙ ap (λ (xs : List Stamp). stamped_outcome G (where_dated (dated (rows_of G l)) xs) (does G asked l s k)) w.1) ∙ w.0)

  pub carried_leaves : Unchanged l asked.number (step G asked l s)
  carried_leaves =
      split (bool_cases (same (kind_of asked.number) Settle))
      (λ t. let q = same_is (kind_of asked.number) Settle t in record {
        image = ap (λ (o : Outcome). o.lent.drive.image) (c.is ∙ stamped_as_law G asked l s Settle q) ∙ settles_image G asked l s;
        map = λ z. absurd (z (carried_says G asked l s c) q);
      })
      (λ f. unsettled_leaves (kind_of asked.number) refl f)

-- ---- any run in which the protection is never lifted
abbrev pub NeverLifted : List Act → Type 0
NeverLifted [] = Unit {0}
NeverLifted (one_call q ∷ acts) = NeverLifted acts
NeverLifted (lifts ∷ acts) = ⊥
NeverLifted (protects ∷ acts) = NeverLifted acts

-- and which has no accepted 13 or 98
abbrev pub NeverSettled : Geometry → Disk → List Act → Type 0
NeverSettled G d [] = Unit {0}
NeverSettled G d (one_call q ∷ acts) = (accepts G d q ≡ true → kind_of q.asked.number ≡ Settle → ⊥) × NeverSettled G (after G d q) acts
NeverSettled G d (lifts ∷ acts) = NeverSettled G (after_act G d lifts) acts
NeverSettled G d (protects ∷ acts) = NeverSettled G (after_act G d protects) acts

module _ (G : Geometry) where
  -- the disk stays protected
  pub stays_protected : (d : Disk) (q : Request) → protected d.session ≡ true → protected (after G d q).session ≡ true
  unfolding protected after outcome_of
  stays_protected d q p = ap (λ (x : ℕ). eqb x 0) (lifted_stays G q.asked (lent_to d q) d.session) ∙ p

-- ---- where the row of 255, 2 does not hold the table is that of before, so it is once the protection is lifted
pub spared_table : (G : Geometry) (asked : Asked) (l : Lent) (s : Session) → protection_holds G asked l s ≡ false
    → verdict G asked l s
    ≡ first_row (when (not (is_call asked.number)) NotListed ∷ when (not (parameters_right_rule G l asked s)) BadParameter ∷ when (not (disk_right_rule G l asked)) BadDisk ∷ own_rows G asked l s)
unfolding verdict table first_row
spared_table G asked l s f = rw f

-- the outcome with another byte in its session
abbrev pub relifted : ℕ → Outcome → Outcome
relifted b o = record { answer = record { a = o.answer.a; h = o.answer.h; session = with_lifted o.answer.session b }; lent = o.lent }

module _ (G : Geometry) (asked : Asked) (l : Lent) (s : Session) (b : ℕ) (nonzero : b ≡ 0 → ⊥) where
  spared_lifted : protection_holds G asked l (with_lifted s b) ≡ false
  unfolding protected
  spared_lifted = lifted_spared G asked l (with_lifted s b) (ne_eqb b 0 nonzero)

  -- ---- a read that the protection refuses succeeds once it is lifted
  pub stopped_passes : is_call asked.number ≡ true → Ready G asked l s → protection_holds G asked l s ≡ true → one_of asked.number changers ≡ false
      → verdict G asked l (with_lifted s b) ≡ None
  stopped_passes t r h f = passes G asked l (with_lifted s b) t (ready_lifted b r) spared_lifted (succeeds_none G asked l s (stopped_succeeds G asked l s h f))

  -- ---- a call that it does not refuse does the same once it is lifted, the stamp of an open aside
  pub same_verdict : protection_holds G asked l s ≡ false → verdict G asked l (with_lifted s b) ≡ verdict G asked l s
  unfolding parameters_right_rule
  same_verdict f = spared_table G asked l (with_lifted s b) spared_lifted ∙ sym (spared_table G asked l s f)

  same_refusal : (c : Code) → refused c (with_lifted s b) l ≡ relifted b (refused c s l)
  same_refusal c = split (bool_cases (says_of c).over) (λ t. rw t) (λ f. rw f)

  same_reading : (p : Plan) → reading G (with_lifted s b) l asked.number p ≡ relifted b (reading G s l asked.number p)
  unfolding read_at
  same_reading (Stay e k) = refl
  same_reading (Move e t k) = refl
  same_reading (Make e t k) = refl

  same_writing : (p : Plan) → writing G (with_lifted s b) l asked.number p ≡ relifted b (writing G s l asked.number p)
  unfolding written_at
  same_writing (Stay e k) = refl
  same_writing (Move e t k) = refl
  same_writing (Make e t k) = refl

  same_rule : (k : Kind) → does G asked l (with_lifted s b) k ≡ relifted b (does G asked l s k)
  unfolding told opened opened_at sized positioned space searched found_at pattern place user_set settled logged_in freed closed closed_at deleted deletes created created_at renamed
      read written
  same_rule Unlisted = same_refusal NotListed
  same_rule Quiet = refl
  same_rule Search = refl
  same_rule User = split (bool_cases (eqb asked.argument 255)) (λ t. rw t) (λ f. rw f)
  same_rule Settle = split (bool_cases (eqb asked.number 13)) (λ t. rw t) (λ f. rw f)
  same_rule Close = refl
  same_rule Delete = refl
  same_rule Create = refl
  same_rule Rename = refl
  same_rule Read = same_reading (plan G asked.number s.user l)
  same_rule Write = same_writing (plan G asked.number s.user l)

  pub same_carried : (v : Option Code) → carried_out G asked l (with_lifted s b) v ≡ relifted b (carried_out G asked l s v)
  unfolding effect
  same_carried None = same_rule (kind_of asked.number)
  same_carried (Some c) = same_refusal c

  same_moves : (p : Plan) → move_stamps G asked l (with_lifted s b) p ≡ move_stamps G asked l s p
  unfolding close_stamps new_stamps
  same_moves (Stay e k) = refl
  same_moves (Move e t k) = refl
  same_moves (Make e t k) = refl

  pub same_stamps : (asked.number ≡ 15 → ⊥) → (k : Kind) → stamps_by G asked l (with_lifted s b) k ≡ stamps_by G asked l s k
  unfolding close_stamps new_stamps create_stamps
  same_stamps n Unlisted = refl
  same_stamps n Quiet = let z : eqb asked.number 15 ≡ false = ne_eqb _ _ n in rw z
  same_stamps n Search = refl
  same_stamps n User = refl
  same_stamps n Settle = refl
  same_stamps n Close = refl
  same_stamps n Delete = refl
  same_stamps n Create = refl
  same_stamps n Rename = refl
  same_stamps n Read = same_moves (plan G asked.number s.user l)
  same_stamps n Write = same_moves (plan G asked.number s.user l)

  module _ (f : protection_holds G asked l s ≡ false) where
    -- the answer, the map, the FCB and the buffer of any call
    pub lifted_tells : ((step G asked l (with_lifted s b)).answer ≡ (relifted b (step G asked l s)).answer)
        × ((step G asked l (with_lifted s b)).lent.drive.map ≡ (step G asked l s).lent.drive.map)
        × ((step G asked l (with_lifted s b)).lent.fcb ≡ (step G asked l s).lent.fcb) × ((step G asked l (with_lifted s b)).lent.buffer ≡ (step G asked l s).lent.buffer)
    unfolding step
    lifted_tells =
        let q : carried_out G asked l (with_lifted s b) (verdict G asked l (with_lifted s b)) ≡ relifted b (carried_out G asked l s (verdict G asked l s)) =
        ap (carried_out G asked l (with_lifted s b)) (same_verdict f) ∙ same_carried (verdict G asked l s) in
        (ap (λ (o : Outcome). o.answer) q, ap (λ (o : Outcome). o.lent.drive.map) q, ap (λ (o : Outcome). o.lent.fcb) q, ap (λ (o : Outcome). o.lent.buffer) q)
