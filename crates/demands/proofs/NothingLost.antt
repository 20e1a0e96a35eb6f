-- Demand 3, nothing lost: from an accepted log-in on, over any run, and byte by byte.
use Rattle.std.specs.Prelude.{◌≡◌, true, ℕ, ◌*◌, ◌≤◌, ◌<◌, get_or}
use Rattle.std.proofs.Common.{sym, arith}
use Rattle.std.proofs.Math.Path.{subst}
use mathlib.Core.List.{List, [], ◌∷◌}
use Rattle.lists.specs.Cases.{split}
use Rattle.format.specs.Diskette.{Geometry, Sound, record_bytes}
use Rattle.format.specs.Dates.{fourth_of}
use Rattle.format.specs.Notes.{note_at_rule}
use Rattle.disk.specs.Places.{block_records, offset_past, spare_apart}
use Rattle.rows.specs.Entries.{area_within, entry_past, entry_record_apart}
use Rattle.fields.specs.Target.{place_below}
use Rattle.model.specs.Lent.{Lent, Outcome}
use Rattle.model.specs.Naming.{names}
use Rattle.table.specs.Total.{range_lifted}
use Rattle.table.proofs.Total.{step_range}
use Rattle.effects.specs.Where.{InEntry, InRecord, Where, in_entry, in_new, in_record, by_rule, in_stamp, stamp_entry}
use Rattle.effects.specs.Book.{Book, nothing_held}
use Rattle.effects.specs.Tracks.{Tracks}
use Rattle.table.proofs.Accepted.{accepted_carried}
use Rattle.demands.specs.StepOk.{MayWrite, logged_in_tracks}
use Rattle.demands.proofs.Stamped.{step_ok, step_accepted, step_good}
use Rattle.demands.specs.Runs.{Request, Disk, lent_to, outcome_of, accepts, after, Act, one_call, lifts, protects, after_act, run, book_after, book_act, book_run}
use Rattle.demands.specs.NothingLost.{Booked, logged_in_law, NothingLost, booked_lost, Stays}

-- ---- a disk whose map tells the same as a book
module _ {G : Geometry} (S : Sound G) where
  pub booked_after : (d : Disk) (q : Request) (u : Book) → Booked G d u → Booked G (after G d q) (book_after G d q u)
  unfolding after book_after outcome_of
  booked_after d q u t = record {
    good = step_good S q.asked (lent_to d q) d.session t.good;
    range = step_range G q.asked (lent_to d q) d.session t.range;
    tracks = (step_ok S q.asked (lent_to d q) d.session).book u t.tracks;
  }

  booked_act : (d : Disk) (a : Act) (u : Book) → Booked G d u → Booked G (after_act G d a) (book_act G d a u)
  booked_act d (one_call q) u t = booked_after d q u t
  booked_act d lifts u t = record { good = t.good; range = range_lifted 1 t.range; tracks = t.tracks }
  booked_act d protects u t = record { good = t.good; range = range_lifted 0 t.range; tracks = t.tracks }

  pub booked_run : (d : Disk) (acts : List Act) (u : Book) → Booked G d u → Booked G (run G d acts) (book_run G d acts u)
  unfolding run book_run
  booked_run d [] u t = t
  booked_run d (a ∷ acts) u t = booked_run (after_act G d a) acts (book_act G d a u) (booked_act d a u t)

  -- a log-in that was accepted
  pub booked_login : (d : Disk) (q : Request) → q.asked.number ≡ 13 → accepts G d q ≡ true → Booked G (after G d q) nothing_held
  unfolding after outcome_of
  booked_login d q n a =
      let l : Lent = lent_to d q in
      let c = accepted_carried G q.asked l d.session a in
      let fits = c.facts.ready.fits in
      record {
        good = step_accepted S q.asked l d.session c;
        range = step_range G q.asked l d.session record { user = fits.user_low; place = fits.place_low };
        tracks = subst (λ (o : Outcome). Tracks G nothing_held (note_at_rule o.lent.drive.map)) (sym (logged_in_law G d q n a)) (logged_in_tracks G l d.session);
      }

-- ---- demand 3
module _ {G : Geometry} (S : Sound G) where
  -- after an accepted log-in, whatever image, map and session it was given, and any run
  pub nothing_lost : (d : Disk) (q : Request) → q.asked.number ≡ 13 → accepts G d q ≡ true → (acts : List Act)
      → NothingLost G (run G (after G d q) acts) (book_run G (after G d q) acts nothing_held)
  nothing_lost d q n a acts =
      booked_lost G (run G (after G d q) acts) (book_run G (after G d q) acts nothing_held) (booked_run S (after G d q) acts nothing_held (booked_login S d q n a))

  -- for every call on any disk
  pub bytes_stay : (d : Disk) (q : Request) → Stays G d q
  unfolding after outcome_of
  bytes_stay d q = let ok = step_ok S q.asked (lent_to d q) d.session in record { frame = ok.frame; map_length = ok.map_length }

  -- the system tracks are never touched
  pub system_stays : (d : Disk) (q : Request) (i : ℕ) → i < G.reserved * G.sectors * record_bytes → get_or (after G d q).drive.image i 0 ≡ get_or d.drive.image i 0
  system_stays d q i h = split ((bytes_stay d q).frame.byte i) (λ e. e) (λ w. absurd (go w))
    where
      go : Where G d.drive.image (after G d q).drive.image (names q.asked.number d.session.user q.fcb) (MayWrite G q.asked.number (lent_to d q) d.session (outcome_of G d q)) i → ⊥
      go (by_rule (in_entry e p n)) = let a = p.from in omega (arith, entry_past S e)
      go (by_rule (in_new e p z n)) = let a = p.from in omega (arith, entry_past S e)
      go (by_rule (in_record x p m)) = let a = p.from in omega (arith, offset_past S x)
      go (in_stamp e which p y n) = let a = (stamp_entry S e which i p).from in omega (arith, entry_past S (fourth_of e))

  -- nor are the sectors that belong to no block
  pub spare_stays : (d : Disk) (q : Request) (i x : ℕ) → block_records G ≤ x → InRecord G x i → get_or (after G d q).drive.image i 0 ≡ get_or d.drive.image i 0
  spare_stays d q i x past r = split ((bytes_stay d q).frame.byte i) (λ e. e) (λ w. absurd (go w))
    where
      entry : (e : ℕ) → InEntry G e i → ⊥
      entry e p =
          let a = p.from in let b = p.upto in let c = r.from in let k = r.upto in
          split (entry_record_apart S e x p.low (omega (arith, area_within S))) (λ v. omega arith) (λ v. omega arith)

      go : Where G d.drive.image (after G d q).drive.image (names q.asked.number d.session.user q.fcb) (MayWrite G q.asked.number (lent_to d q) d.session (outcome_of G d q)) i → ⊥
      go (by_rule (in_entry e p n)) = entry e p
      go (by_rule (in_new e p z n)) = entry e p
      go (in_stamp e which p y n) = entry (fourth_of e) (stamp_entry S e which i p)
      go (by_rule (in_record y p m)) =
          let a = p.from in let b = p.upto in let c = r.from in let k = r.upto in
          let low : y < block_records G = subst (λ (v : ℕ). v < block_records G) (sym m.one.is) (place_below S _ _ m.one.below) in
          split (spare_apart S y x low past) (λ v. omega arith) (λ v. omega arith)
