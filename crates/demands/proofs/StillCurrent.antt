-- For those who build above the calls: the FCB handed back by an accepted 16, 20, 21, 33 or 34 is current under the session handed back,
-- and so is that of an accepted 15 or 22 whose cr is at most 128.
use Rattle.std.specs.Prelude.{◌≡◌, true, false, [], ◌∷◌, Some}
use Rattle.std.proofs.Math.Path.{refl, subst}
use Rattle.std.proofs.Common.{sym}
use Prim.Native.Nat.{ℕ, ◌≤◌}
use Rattle.format.specs.Diskette.{Geometry, Sound}
use Rattle.format.specs.Entries.{entry_at}
use Rattle.format.specs.Fcb.{cr_of, current}
use Rattle.facts.specs.Found.{FoundAt}
use Rattle.model.specs.declared.Asked.{Asked}
use Rattle.model.specs.declared.Session.{Session}
use Rattle.model.specs.Lent.{Lent, Outcome}
use Rattle.model.specs.Target.{present_entry}
use Rattle.model.specs.Kinds.{one_of, kind_of, same}
use Rattle.model.specs.declared.Kind.{Kind}
use Rattle.model.specs.declared.Kind.TheVariants.{Quiet, User, Settle, Close, Create, Read, Write}
use Rattle.table.specs.First.{◌&◌}
use Rattle.table.specs.Own.{calling, at_one, told_apart, kinds_apart}
use Rattle.table.specs.Accept.{opens_of, closes_of, makes_of, reads_of, writes_by}
use Rattle.table.specs.Facts.{Fits, AcceptedCall}
use Rattle.model.specs.Step.{told, does, stamped}
use Rattle.invariant.specs.Good.{Good}
use Rattle.effects.specs.Cur.{cur_current}
use Rattle.table.proofs.Accepted.{accepted_carried}
use Rattle.demands.specs.StepOk.{ready_good}
use Rattle.demands.specs.Stamped.{stamped_as_law}
use Rattle.demands.proofs.Stamped.{cur_on, step_accepted}
use Rattle.demands.specs.Runs.{Request, Disk, lent_to, outcome_of, accepts, after}
use Rattle.demands.specs.ReadBack.{user_stays}
use Rattle.demands.specs.StillCurrent.{current_calls, CurrentIn, opened_current, closed_current, created_current, read_current, written_current}

module _ {G : Geometry} (S : Sound G) (asked : Asked) (l : Lent) (s : Session) (f : Fits G l s) (g : Good G l.drive.image l.drive.map) where
  -- by the number of the call
  abbrev LeavesCurrent : ℕ → Type 0
  LeavesCurrent n =
      (one_of n (15 ∷ 22 ∷ []) ≡ true → cr_of l.fcb ≤ 128) → AcceptedCall G (calling n asked) l s → CurrentIn G s.user (stamped G (calling n asked) l s).lent

  -- and the stamps leave it current
  on : (n : ℕ) (k : Kind) → kind_of n ≡ k → same k Settle ≡ false → AcceptedCall G (calling n asked) l s → CurrentIn G s.user (does G (calling n asked) l s k).lent
      → CurrentIn G s.user (stamped G (calling n asked) l s).lent
  on n k q z c h =
      subst (λ (o : Outcome). CurrentIn G s.user o.lent) (sym (stamped_as_law G (calling n asked) l s k q))
      record { entry = h.entry; cur = cur_on S (calling n asked) l s c g k q z _ h.entry h.cur }

  current_in : (n : ℕ) → one_of n current_calls ≡ true → LeavesCurrent n
  unfolding kind_of told
  current_in n z =
      at_one LeavesCurrent n current_calls z
      ((λ cr o. on 15 Quiet refl refl o (opened_current S asked l s f g (cr refl) (opens_of G asked l s o.none)))
      & (λ cr o. on 16 Close refl refl o (closed_current S asked l s f g (closes_of G (calling 16 asked) l s o.none refl)))
      & (λ cr o. on 20 Read refl refl o (read_current S asked l s f g 20 (reads_of G (calling 20 asked) l s o.none o.ready.image_right f.user_low refl)))
      & (λ cr o. on 21 Write refl refl o (written_current S asked l s f g 21 (writes_by G (calling 21 asked) l s o.none refl)))
      & (λ cr o. on 22 Create refl refl o (created_current S asked l s f g (cr refl) (makes_of G (calling 22 asked) l s o.none refl)))
      & (λ cr o. on 33 Read refl refl o (read_current S asked l s f g 33 (reads_of G (calling 33 asked) l s o.none o.ready.image_right f.user_low refl)))
      & (λ cr o. on 34 Write refl refl o (written_current S asked l s f g 34 (writes_by G (calling 34 asked) l s o.none refl))) & tt)

no_user : (k : Kind) → same k User ≡ false → k ≡ User → ⊥
no_user k f q = kinds_apart k User f q

-- ---- any disk and call
module _ {G : Geometry} (S : Sound G) (d : Disk) (q : Request) (accepted : accepts G d q ≡ true)
    (call : one_of q.asked.number current_calls ≡ true)
    (cr : one_of q.asked.number (15 ∷ 22 ∷ []) ≡ true → cr_of q.fcb ≤ 128) where
  pub still_current : FoundAt (present_entry G (after G d q).session.user (outcome_of G d q).lent)
  unfolding after outcome_of present_entry kind_of
  still_current =
      let c = accepted_carried G q.asked (lent_to d q) d.session accepted in
      let good = step_accepted S q.asked (lent_to d q) d.session c in
      let k : CurrentIn G d.session.user (outcome_of G d q).lent =
      subst (λ (o : Outcome). CurrentIn G d.session.user o.lent) (sym c.is)
      (current_in S q.asked (lent_to d q) d.session c.facts.ready.fits
      (ready_good c.facts.ready (told_apart _ 13 current_calls call refl)) q.asked.number call cr c.facts) in
      let o = (outcome_of G d q).lent in
      record {
        place = k.entry;
        is = subst (λ (x : ℕ). current G (entry_at G o.drive.image) o.drive.map x o.fcb ≡ Some k.entry)
            (sym (user_stays G d q (at_one (λ (n : ℕ). kind_of n ≡ User → ⊥) q.asked.number current_calls call (no_user Quiet refl & no_user Close refl & no_user Read refl & no_user Write refl & no_user Create refl & no_user Read refl & no_user Write refl & tt))))
            (cur_current G o.drive.image o.drive.map d.session.user o.fcb k.entry good.inv.dir c.facts.ready.fits.user_low k.cur);
      }
