-- The log's record written and closed, with the protection lifted for each call: what is answered, and the disk that is left.
use Rattle.std.specs.Prelude.{◌≡◌, false, cond, not, ℕ, ◌≤◌, eqb, Some, is_some}
use Rattle.std.proofs.Math.Path.{refl, ap}
use Rattle.std.proofs.Common.{sym, ◌∙◌, subst}
use Rattle.std.proofs.Math.Bool.{true}
use Rattle.lists.specs.Cases.{split, bool_cases}
use Rattle.lists.specs.Tests.{◌and◌, ◌or◌}
use Rattle.format.specs.Diskette.{Bytes, Geometry, Sound, last_record}
use Rattle.format.specs.Entries.{entry_at}
use Rattle.model.specs.Kinds.{kind_of}
use Rattle.model.specs.Lent.{Outcome, with_lifted}
use Rattle.model.specs.Stamps.{Stamp}
use Rattle.model.specs.Table.{time_right_rule}
use Rattle.model.specs.Target.{read_only_in}
use Rattle.table.specs.Accepted.{accepted_answer}
use Rattle.table.specs.Total.{range_lifted}
use Rattle.demands.specs.Runs.{Request, Disk, outcome_of, left, accepts, lifted_by}
use Rattle.stored.specs.Closed.{Sane, Fresh, Restamped, seen_on}
use Rattle.stored.specs.Quiet.{refused_same}
use Rattle.stored.specs.Accepting.{close_accepted}
use Rattle.stored.specs.Told.{block_in, extent_entry}
use Rattle.picking.specs.declared.Wanted.{Wanted}
use Rattle.picking.specs.declared.Time.{Time}
use Rattle.picking.specs.declared.Pick.{Pick}
use Rattle.picking.specs.declared.Pick.TheVariants.{Logged, LogReadOnly, DirectoryFull, DiskFull, Other}
use Rattle.picking.specs.Picker.{Logging, blank, log_record_rule, call_at, accepted, is_code, writing, closing, lifted_call_rule, closed, write_trouble_rule, written}
use Rattle.once.specs.Bytes.{length_blank, length_log_record}
use Rattle.once.specs.Calls.{Timed}
use Rattle.once.specs.Deciding.{answered}
use Rattle.once.specs.Lifting.{open_byte, opened_up, open_unprotected, lifted_is, left_open, byte_same}
use Rattle.once.specs.Records.{write_by}
use Rattle.once.specs.Table.{some_empty, some_free}

-- ---- the protection does not matter to what is right, fresh or stored
pub sane_lifted : {G : Geometry} {d : Disk} (b : ℕ) → Sane G d → Sane G (lifted_by b d)
sane_lifted b s = record { good = s.good; range = range_lifted b s.range }

pub fresh_lifted : {G : Geometry} {d : Disk} {f : Bytes} {e : ℕ} (b : ℕ) → Fresh G d f e → Fresh G (lifted_by b d) f e
fresh_lifted b k = record { sane = sane_lifted b k.sane; long = k.long; drive = k.drive; cur = k.cur; slots = k.slots; same = k.same }

-- what was done with the protection lifted was done
pub restamped_lifted : {G : Geometry} {P : Stamp → Type 0} (d t : Disk) (b : ℕ) → Restamped G P (lifted_by b d) t → Restamped G P d (lifted_by d.session.lifted t)
restamped_lifted d t b w = record {
  stamps = w.stamps;
  each = w.each;
  placed = w.placed;
  dates = w.dates;
  image = w.image;
  map = w.map;
  user = w.user;
  lifted = refl;
  range = λ r. range_lifted d.session.lifted (w.range (range_lifted b r));
}

-- ---- one lifted call
module _ (G : Geometry) (d : Disk) (q : Request) where
  abbrev pub opened : Outcome
  opened = outcome_of G (opened_up d) q

  pub lifted_accepted : accepted q.asked.number (lifted_call_rule G d q) ≡ accepts G (opened_up d) q
  unfolding accepted_answer
  lifted_accepted = ap (λ (o : Outcome). accepted_answer q.asked.number o.answer) (lifted_is G d q)

  pub lifted_left : left (lifted_call_rule G d q) ≡ lifted_by d.session.lifted (left opened)
  lifted_left = ap left (lifted_is G d q)

  -- a refused one leaves the disk
  pub lifted_refused : (P : Stamp → Type 0) → accepts G (opened_up d) q ≡ false → Restamped G P d (left (lifted_call_rule G d q))
  lifted_refused P f =
      subst (Restamped G P d) (sym lifted_left) (restamped_lifted d (left opened) (open_byte d.session) (refused_same G P (opened_up d) q f))

  -- and the next is made on what it left
  pub next_open : opened_up (left (lifted_call_rule G d q)) ≡ left opened
  next_open =
      ap opened_up lifted_left
      ∙ ap (λ (b : ℕ). lifted_by b (left opened)) (byte_same d.session (with_lifted (left opened).session d.session.lifted) refl)
      ∙ left_open G d q

-- ---- the write and its close
-- the trouble of a write, by A and H
abbrev pub trouble_by : ℕ → ℕ → Pick
trouble_by a h =
    cond (eqb a 255 and eqb h 3) LogReadOnly (cond (eqb a 5 and eqb h 0) DirectoryFull (cond (eqb a 2 and eqb h 0) DiskFull (Other a h)))

module _ {G : Geometry} (S : Sound G) (t : Time) (timed : Timed t) (w : Wanted) (d : Disk) (f : Bytes) (n : ℕ) where
  abbrev pub q : Request
  q = writing t w f n

  abbrev pub mid : Disk
  mid = left (outcome_of G (opened_up d) (writing t w f n))

  abbrev pub close : Request
  close = closing t (outcome_of G (opened_up d) (writing t w f n)).lent.fcb

  -- the disk after both
  abbrev pub end : Disk
  end = left (outcome_of G mid close)

  closes : accepts G (opened_up d) q ≡ true → accepts G mid close ≡ true
  unfolding kind_of time_right_rule
  closes a = close_accepted S (opened_up d) q refl a (call_at t 0) timed blank length_blank

  -- an accepted write is closed, and so logged
  closed_is : accepts G (opened_up d) q ≡ true
      → closed G t (left (lifted_call_rule G d q)) (outcome_of G (opened_up d) q).lent.fcb ≡ record { pick = Logged; disk = lifted_by d.session.lifted end }
  unfolding closed
  closed_is a =
      let o : Disk = left (lifted_call_rule G d q) in
      let same : opened_up o ≡ mid = next_open G d q in
      let c : accepted 16 (lifted_call_rule G o close) ≡ true = lifted_accepted G o close ∙ ap (λ (x : Disk). accepts G x close) same ∙ closes a in
      let l : left (lifted_call_rule G o close) ≡ lifted_by d.session.lifted end =
      lifted_left G o close ∙ ap (λ (x : Disk). lifted_by o.session.lifted (left (outcome_of G x close))) same
      ∙ ap (λ (x : Disk). lifted_by x.session.lifted end) (lifted_left G d q) in
      rw c (ap (λ (x : Disk). record { pick = Logged; disk = x }) l)

  pub written_logged : accepts G (opened_up d) q ≡ true → written G t w d f n ≡ record { pick = Logged; disk = lifted_by d.session.lifted end }
  unfolding written
  written_logged a =
      rw (lifted_accepted G d q ∙ a)
      (ap (closed G t (left (lifted_call_rule G d q))) (ap (λ (o : Outcome). o.lent.fcb) (lifted_is G d q)) ∙ closed_is a)

  pub written_trouble : accepts G (opened_up d) q ≡ false
      → written G t w d f n ≡ record {
        pick = trouble_by (outcome_of G (opened_up d) q).answer.a (outcome_of G (opened_up d) q).answer.h;
        disk = left (lifted_call_rule G d q);
      }
  unfolding written write_trouble_rule is_code
  written_trouble a =
      rw (lifted_accepted G d q ∙ a)
      (ap (λ (o : Outcome). record { pick = trouble_by o.answer.a o.answer.h; disk = left (lifted_call_rule G d q) }) (lifted_is G d q))

  -- the answer, by that of the write
  pub written_answer : (written G t w d f n).pick ≡ answered Logged trouble_by G (opened_up d) q
  written_answer =
      split (bool_cases (accepts G (opened_up d) q))
      (λ a. rw a (ap (λ (x : Logging). x.pick) (written_logged a)))
      (λ a. rw a (ap (λ (x : Logging). x.pick) (written_trouble a)))

  -- and in words of the directory
  module _ (e : ℕ) (k : Fresh G d f e) (low : n ≤ last_record) where
    pub written_by : (written G t w d f n).pick
        ≡ cond (read_only_in (entry_at G d.drive.image) (Some e)
        or read_only_in (entry_at G d.drive.image) (extent_entry G (seen_on G d) d.session.user f n)) LogReadOnly
        (cond (not (is_some (extent_entry G (seen_on G d) d.session.user f n)) and not (some_empty G d)) DirectoryFull
        (cond (eqb (block_in G (entry_at G d.drive.image) n (extent_entry G (seen_on G d) d.session.user f n)) 0 and not (some_free G d)) DiskFull Logged))
    unfolding ◌and◌
    written_by =
        written_answer
        ∙ write_by Logged trouble_by S (opened_up d) f e (fresh_lifted (open_byte d.session) k)
        t timed n low (log_record_rule w.year w.day) (length_log_record w.year w.day)
        (open_unprotected d.session)
