-- Demand 2 speaks of something too: a write through a current FCB of a writable entry is accepted where the protection is lifted and a block is
-- free. In proofs/Begins so are a log-in and, once the protection is lifted, a make and a write on an erased disk, one after the other.
use Rattle.std.specs.Prelude.{◌≡◌, true, ℕ, ◌≤◌, ◌<◌, get_or, Some}
use Rattle.std.proofs.Math.Path.{refl, ap}
use Rattle.std.proofs.Common.{sym, ◌∙◌, arith}
use Rattle.std.proofs.Math.Bool.{false}
use Rattle.std.proofs.Math.ListN.{length}
use borrow.Author.Tests.{eq-eqb}
use Rattle.lists.specs.Tests.{◌or◌, and_left, and_right}
use Rattle.format.specs.Diskette.{Geometry, Sound, record_bytes}
use Rattle.format.specs.Entries.{extent_of, read_only}
use Rattle.format.specs.Notes.{find_free}
use Rattle.format.specs.Fcb.{fcb_bytes, cr_of, fcb_right_rule}
use Rattle.facts.specs.Found.{FoundAt, at_not_nothing}
use Rattle.model.specs.declared.Asked.{Asked}
use Rattle.model.specs.declared.Session.{Session}
use Rattle.model.specs.Lent.{Lent, rows_of, protected}
use Rattle.model.specs.Target.{target_extent, present_entry, stays, target_entry, read_only_there}
use Rattle.model.specs.Kinds.{kind_of, is_call, is_random_rule}
use Rattle.model.specs.Table.{time_right_rule, verdict}
use Rattle.fields.specs.Target.{extent_within}
use Rattle.table.specs.Own.{calling}
use Rattle.table.specs.Protection.{lifted_spared}
use Rattle.table.specs.Facts.{Fits, Writes}
use Rattle.table.specs.Accept.{writes_right}
use Rattle.table.proofs.Accept.{passes}
use Rattle.table.specs.Present.{stays_within, target_present, numbers_extent}
use Rattle.table.specs.Total.{CarriedOut}
use Rattle.table.proofs.Total.{total_accepted}
use Rattle.invariant.specs.Good.{Good, good_consistent, good_right}
use Rattle.effects.specs.View.{view_of}
use Rattle.effects.specs.Cur.{Cur, cur_current}
use Rattle.demands.specs.Runs.{Request}

-- ---- a write that nothing stands against
module _ {G : Geometry} (S : Sound G) (asked : Asked) (number : asked.number ≡ 21) (l : Lent) (s : Session) (g : Good G l.drive.image l.drive.map) (fits : Fits G l s)
    (time : time_right_rule asked ≡ true) (drive : get_or l.fcb 0 0 ≤ 1) (e : ℕ) (cur : Cur G (view_of G l.drive.image l.drive.map) s.user l.fcb e)
    (writable : read_only (rows_of G l e) ≡ false) (cr : cr_of l.fcb < 128) (free : FoundAt (find_free G l.drive.map)) (unprotected : protected s ≡ false) where
  at : present_entry G s.user l ≡ Some e
  unfolding present_entry
  at = cur_current G l.drive.image l.drive.map s.user l.fcb e g.inv.dir fits.user_low cur

  same_extent : target_extent 21 l.fcb ≡ extent_of l.fcb
  unfolding is_random_rule
  same_extent = extent_within 21 l.fcb refl (λ q. omega arith)

  there : stays 21 l.fcb ≡ true
  unfolding stays
  there = eq-eqb _ _ same_extent

  target : target_entry G 21 s.user l ≡ Some e
  target = target_present G 21 s.user l e at (stays_within G 21 s.user l there)

  unlocked : read_only_there G 21 s.user l ≡ false
  unfolding read_only_there ◌or◌
  unlocked = rw (at, target, writable)

  writes : Writes G l s 21
  unfolding fcb_right_rule
  writes = record {
    entry = record { place = e; is = at };
    writable = unlocked;
    extent = rw same_extent (numbers_extent l.fcb (and_left _ _ (and_right _ _ cur.right)));
    room = λ q. absurd (at_not_nothing e (sym target ∙ q));
    block = λ z. free;
  }

  pub write_accepted : CarriedOut G asked l s
  unfolding is_call kind_of time_right_rule
  write_accepted =
      total_accepted G asked l s
      (ap (λ (n : ℕ). verdict G (calling n asked) l s) number ∙ passes G (calling 21 asked) l s refl
      record { fits = fits; time = time; drive = λ u. drive; image_right = good_consistent G l.drive.image l.drive.map g; map_right_law = λ q. good_right G l.drive.image l.drive.map g }
      (lifted_spared G (calling 21 asked) l s unprotected) (writes_right G asked l s writes))

-- ---- what the theorem asks of a request
-- a request of a number, with a time in BCD, and an FCB and a buffer of the right lengths
pub record Asks (q : Request) (n : ℕ) : Type 0 where
  pub number : q.asked.number ≡ n
  pub time : time_right_rule q.asked ≡ true
  pub fcb : length q.fcb ≡ fcb_bytes
  pub buffer : length q.buffer ≡ record_bytes
