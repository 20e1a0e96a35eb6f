-- Demand 2, read back: a record that holds does so over calls that leave its file alone, one that was written holds, and so it is read.
use Rattle.std.specs.Prelude.{◌≡◌, true, ℕ, ◌≤◌, length}
use Rattle.std.proofs.Math.Path.{refl, subst}
use Rattle.std.proofs.Common.{sym, ◌∙◌}
use Rattle.std.proofs.Math.Bool.{false}
use mathlib.Core.List.{List, [], ◌∷◌}
use Rattle.lists.specs.Cases.{split}
use Rattle.format.specs.Diskette.{Bytes, Geometry, Sound, record_bytes}
use Rattle.format.specs.Entries.{extent_of}
use Rattle.format.specs.Fcb.{fcb_bytes}
use Rattle.model.specs.declared.Asked.{Asked}
use Rattle.model.specs.Lent.{Outcome}
use Rattle.model.specs.Naming.{names}
use Rattle.model.specs.Target.{target_extent, target_record, plan}
use Rattle.model.specs.Kinds.{kind_of}
use Rattle.model.specs.declared.Kind.TheVariants.{User, Write}
use Rattle.model.specs.Step.{step}
use Rattle.model.specs.Table.{time_right_rule}
use Rattle.table.specs.Own.{is_or_not, kinds_apart}
use Rattle.table.specs.Accept.{writes_by}
use Rattle.table.specs.Plans.{entry_of}
use Rattle.table.specs.Total.{range_lifted}
use Rattle.table.proofs.Total.{step_range}
use Rattle.effects.specs.View.{view_of, Names}
use Rattle.effects.specs.Effect.{Effect, Keeps}
use Rattle.effects.specs.Cur.{Holds, holds_kept}
use Rattle.effects.specs.Write.{HandedBack}
use Rattle.effects.proofs.Write.{written_ok}
use Rattle.table.proofs.Accepted.{accepted_carried}
use Rattle.demands.specs.StepOk.{ready_good}
use Rattle.demands.specs.Stamped.{stamped_as, stamped_as_law}
use Rattle.demands.proofs.Stamped.{holds_on, step_ok, step_accepted, step_good}
use Rattle.demands.specs.Runs.{Request, Disk, lent_to, outcome_of, accepts, after, Act, one_call, lifts, protects, after_act, run}
use Rattle.demands.specs.Reading.{at_record_rule, record_number, Gives}
use Rattle.demands.specs.ReadBack.{file_row, LeavesAlone, ActLeavesAlone, AllLeaveAlone, names_apart, user_stays, Kept, kept_read, Wrote, write_uses, read_fcb}

-- ---- a record that holds, over calls that leave its file alone
module _ {G : Geometry} (S : Sound G) (user : ℕ) (f : Bytes) (hf : length f ≡ fcb_bytes) (e rec : ℕ) (v : Bytes) where
  kept_after : (d : Disk) (q : Request) → LeavesAlone G f d q → Kept G d user f e rec v → Kept G (after G d q) user f e rec v
  unfolding after outcome_of
  kept_after d q o k =
      let ok = step_ok S q.asked (lent_to d q) d.session in
      let low : user ≤ 15 = subst (λ (x : ℕ). x ≤ 15) k.same k.range.user in
      let away : names q.asked.number user q.fcb (file_row user f) ≡ false =
      subst (λ (x : ℕ). names q.asked.number x q.fcb (file_row x f) ≡ false) k.same o.elsewhere in
      let N : Names = names q.asked.number user q.fcb in
      let t = view_of G (after G d q).drive.image (after G d q).drive.map in
      record {
        good = step_good S q.asked (lent_to d q) d.session k.good;
        range = step_range G q.asked (lent_to d q) d.session k.range;
        same = split (is_or_not (kind_of q.asked.number) User) (λ z. o.same_user z) (λ z. user_stays G d q z) ∙ k.same;
        holds = holds_kept S (view_of G d.drive.image d.drive.map) t N user low f
            (subst (λ (x : ℕ). Effect G (view_of G d.drive.image d.drive.map) t (names q.asked.number x q.fcb)) k.same ok.effect)
            (subst (λ (x : ℕ). Keeps G (view_of G d.drive.image d.drive.map) t (names q.asked.number x q.fcb)) k.same (ok.keeps o.unsettled))
            (names_apart q.asked.number user q.fcb f hf away) e rec v k.holds;
      }

  kept_act : (d : Disk) (a : Act) → ActLeavesAlone G f d a → Kept G d user f e rec v → Kept G (after_act G d a) user f e rec v
  kept_act d (one_call q) o k = kept_after d q o k
  kept_act d lifts o k = record { good = k.good; range = range_lifted 1 k.range; same = k.same; holds = k.holds }
  kept_act d protects o k = record { good = k.good; range = range_lifted 0 k.range; same = k.same; holds = k.holds }

  pub kept_run : (d : Disk) (acts : List Act) → AllLeaveAlone G f d acts → Kept G d user f e rec v → Kept G (run G d acts) user f e rec v
  unfolding run
  kept_run d [] o k = k
  kept_run d (a ∷ acts) o k = kept_run (after_act G d a) acts o.1 (kept_act d a o.0 k)

-- ---- what an accepted write leaves
module _ {G : Geometry} (S : Sound G) (d : Disk) (w : Request) (writes : kind_of w.asked.number ≡ Write)
    (accepted : accepts G d w ≡ true) where
  pub wrote : Wrote G d w
  unfolding outcome_of
  wrote =
      let c = accepted_carried G w.asked (lent_to d w) d.session accepted in
      let u = write_uses w.asked.number writes in
      let o = writes_by G w.asked (lent_to d w) d.session c.facts.none writes in
      let g = ready_good c.facts.ready u.1 in
      let ok = written_ok S w.asked.number (lent_to d w) d.session g c.facts.ready.fits o in
      let is : step G w.asked (lent_to d w) d.session ≡ stamped_as G w.asked (lent_to d w) d.session Write =
      c.is ∙ stamped_as_law G w.asked (lent_to d w) d.session Write writes in
      record {
        good = step_accepted S w.asked (lent_to d w) d.session c;
        fcb = subst (λ (x : Outcome). HandedBack w.asked.number (lent_to d w) x.lent) (sym is)
            (let h = ok.fcb in record { long = h.long; first = h.first; name = h.name; extent = h.extent });
        entry = entry_of (plan G w.asked.number d.session.user (lent_to d w));
        holds = subst (λ (x : Outcome). Holds G (view_of G x.lent.drive.image x.lent.drive.map) d.session.user x.lent.fcb
            (entry_of (plan G w.asked.number d.session.user (lent_to d w))) (target_record w.asked.number w.fcb) w.buffer)
            (sym is) (holds_on S w.asked (lent_to d w) d.session c.facts g Write writes refl _ _ _ w.buffer ok.holds);
        drive = c.facts.ready.drive u.0;
        extent = o.extent;
        range = record { user = c.facts.ready.fits.user_low; place = c.facts.ready.fits.place_low };
      }

  -- the record that it wrote holds
  wrote_kept : Kept G (after G d w) d.session.user (outcome_of G d w).lent.fcb wrote.entry (target_record w.asked.number w.fcb) w.buffer
  unfolding after outcome_of
  wrote_kept = record {
    good = wrote.good;
    range = step_range G w.asked (lent_to d w) d.session wrote.range;
    same = user_stays G d w (λ z. kinds_apart Write User refl (sym writes ∙ z));
    holds = wrote.holds;
  }

-- ---- demand 2
-- with any buffer of 128 bytes, any argument and any time in BCD, on a session protected or not: the read stays in its extent
pub read_back : {G : Geometry} (S : Sound G) (d : Disk) (w : Request) → kind_of w.asked.number ≡ Write → accepts G d w ≡ true
    → (acts : List Act) → AllLeaveAlone G (outcome_of G d w).lent.fcb (after G d w) acts
    → (asked : Asked) → asked.number ≡ 33 → time_right_rule asked ≡ true → (buffer : Bytes) → length buffer ≡ record_bytes
    → Gives (outcome_of G (run G (after G d w) acts) (record { asked = asked; fcb = read_fcb G d w; buffer = buffer })) w.buffer
unfolding read_fcb
read_back {G} S d w writes accepted acts alone asked n time buffer hb =
    let k = wrote S d w writes accepted in
    let f : Bytes = (outcome_of G d w).lent.fcb in
    let rec : ℕ = target_record w.asked.number w.fcb in
    let x : extent_of f ≡ target_extent w.asked.number w.fcb = k.fcb.extent in
    subst (λ (i : ℕ). Gives (outcome_of G (run G (after G d w) acts) (record { asked = asked; fcb = at_record_rule f (record_number i rec); buffer = buffer })) w.buffer) x
    (kept_read S d.session.user f k.fcb.long k.entry rec w.buffer (run G (after G d w) acts)
    (kept_run S d.session.user f k.fcb.long k.entry rec w.buffer (after G d w) acts alone (wrote_kept S d w writes accepted))
    (rw k.fcb.first k.drive) (rw x k.extent) asked n time buffer hb)
