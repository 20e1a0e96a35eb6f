-- The log that is there: how each function of the definition goes on, by what was found and by what its call came to.
use Rattle.std.specs.Prelude.{◌≡◌, refl, Bool, true, false, cond, ℕ, zero, suc, ◌+◌, ◌-◌, ◌≤◌, ◌<◌}
use Rattle.std.proofs.Common.{arith, add-suc}
use Rattle.std.proofs.Math.Nat.{add-zero}
use borrow.Author.Tests.{le-leb, lt-leb}
use Rattle.lists.specs.Tests.{◌and◌}
use Rattle.lists.specs.Fold.{fold_below, fold_more}
use Rattle.format.specs.Diskette.{Bytes, Geometry}
use Rattle.model.specs.Lent.{Outcome}
use Rattle.demands.specs.Runs.{Disk, outcome_of, left}
use Rattle.picking.specs.declared.Wanted.{Wanted}
use Rattle.picking.specs.declared.Time.{Time}
use Rattle.picking.specs.declared.Pick.{Pick}
use Rattle.picking.specs.declared.Pick.TheVariants.{Again, NoFirst, LogFull}
use Rattle.picking.specs.Picker.{Search, blank, has_stamp_rule, full_log, accepted, is_code, otherwise}
use Rattle.picking.specs.Picker.{notes, opening, reading, tells, look, searched, written, added, extended}

-- a search, by what code has found
abbrev pub searches : Bool → Disk → Search
searches found d = record { found = found; disk = d }

module _ (G : Geometry) (t : Time) (w : Wanted) where
  -- ---- one record looked at: nothing is read where one was found, and a record that is not there has no year and day
  pub look_over : (f : Bytes) (s : Search) (r : ℕ) → s.found ≡ true → s ≡ look G t w f s r
  unfolding look
  look_over f s r h = rw h

  pub look_reads : (f : Bytes) (s : Search) (r : ℕ) (o : Outcome) → s.found ≡ false → o ≡ outcome_of G s.disk (reading t f r blank)
      → (b : Bool) → b ≡ (accepted 33 o and has_stamp_rule w.year w.day o.lent.buffer) → record { found = b; disk = left o } ≡ look G t w f s r
  unfolding look
  look_reads f s r o h e b q = rw (h, ← e, q)

  -- as code carries it
  pub tells_so : (d : Disk) (f : Bytes) (r : ℕ) (o : Outcome) (e : Disk) → e ≡ left o → o ≡ outcome_of G d (reading t f r blank)
      → (b : Bool) → b ≡ (accepted 33 o and has_stamp_rule w.year w.day o.lent.buffer)
      → searches b e ≡ tells G t w (outcome_of G d (reading t f r blank))
  tells_so d f r o e k c b q = rw (← c, k, q)

  -- ---- the log searched
  module _ (d : Disk) (f : Bytes) where
    pub search_begins : searches false d ≡ searched G t w d f 0
    unfolding searched fold_below
    search_begins = refl

    -- none of the records below r had the year and day: record r is read
    pub search_goes_on : (e : Disk) (r : ℕ) → searches false e ≡ searched G t w d f r → (s : Search) → s ≡ tells G t w (outcome_of G e (reading t f r blank))
        → s ≡ searched G t w d f (r + 1)
    unfolding searched look
    search_goes_on e r h s q = fold_more _ _ _ _ r h q

    -- one had: no more are read
    past : (e : Disk) (m k : ℕ) → searches true e ≡ searched G t w d f m → searches true e ≡ searched G t w d f (m + k)
    unfolding searched fold_below look
    past e m zero h = rw add-zero h
    past e m (suc k) h = rw (add-suc, ← past e m k h)

    pub search_ends : (e : Disk) (m n : ℕ) → searches true e ≡ searched G t w d f m → m ≤ n → searches true e ≡ searched G t w d f n
    search_ends e m n h l = let q : m + (n - m) ≡ n = omega arith in rw q at (past e m (n - m) h)

  pub added_again : (e : Disk) (s : Search) (f : Bytes) (n : ℕ) → searches true e ≡ s → notes Again e ≡ added G t w s f n
  unfolding added
  added_again e s f n h = rw (← h)

  pub added_full : (e : Disk) (s : Search) (f : Bytes) (n : ℕ) → searches false e ≡ s → full_log ≤ n → notes LogFull e ≡ added G t w s f n
  unfolding added
  added_full e s f n h l = rw (← h, le-leb _ _ l)

  pub added_writes : (e : Disk) (s : Search) (f : Bytes) (n : ℕ) → searches false e ≡ s → n < full_log → written G t w e f n ≡ added G t w s f n
  unfolding added
  added_writes e s f n h l = rw (← h, lt-leb _ _ l)

  -- ---- the log opened; e is the disk that the open left
  module _ (d : Disk) (n : ℕ) (o : Outcome) (e : Disk) (k : e ≡ left o) (c : o ≡ outcome_of G d (opening t w.log)) where
    pub extended_searches : accepted 15 o ≡ true → added G t w (searched G t w e o.lent.fcb n) o.lent.fcb n ≡ extended G t w d n
    unfolding extended
    extended_searches a = rw (k, ← c, a)

    pub extended_fails : accepted 15 o ≡ false → (p : Pick) → p ≡ cond (is_code 255 0 o) NoFirst (otherwise o) → notes p e ≡ extended G t w d n
    unfolding extended
    extended_fails a p r = rw (k, ← c, a, r)
