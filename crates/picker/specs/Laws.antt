-- The picker: how each function of the definition goes on, by what its call came to. `o` is the outcome of that call, and `e` the
-- disk that it left.
use Rattle.std.specs.Prelude.{◌≡◌, true, false, cond, ℕ, ltb}
use Rattle.std.proofs.Common.{ap, ◌∙◌}
use Rattle.lists.specs.Cases.{split, not_both}
use Rattle.format.specs.Diskette.{Bytes, Geometry}
use Rattle.format.specs.Fcb.{random_of_rule}
use Rattle.model.specs.Lent.{Outcome}
use Rattle.table.specs.Accepted.{accepted_answer}
use Rattle.table.proofs.Accepted.{carried_says}
use Rattle.table.proofs.Total.{total}
use Rattle.demands.specs.Runs.{Request, Disk, outcome_of, left, lent_to}
use Rattle.picking.specs.declared.Wanted.{Wanted}
use Rattle.picking.specs.declared.Time.{Time}
use Rattle.picking.specs.declared.Pick.{Pick}
use Rattle.picking.specs.declared.Told.{Told}
use Rattle.picking.specs.declared.Pick.TheVariants.{DayOver, NoBook, OneFile}
use Rattle.picking.specs.Picker.{Logging, notes, picks, one_file_rule, last_day, accepted, is_code, otherwise, opening}
use Rattle.picking.specs.Picker.{reading, sizing, extended, begun, logged, worded, wordless, fetched, looked, picked}
use Rattle.daybook.specs.Said.{read_trouble_rule}

-- a call that was refused leaves the buffer as it was
pub refused_buffer : (G : Geometry) (d : Disk) (q : Request) (o : Outcome) → o ≡ outcome_of G d q → accepted_answer q.asked.number o.answer ≡ false
    → o.lent.buffer ≡ q.buffer
unfolding outcome_of
refused_buffer G d q o e a =
    split (total G q.asked (lent_to d q) d.session) (λ r. ap (λ (x : Outcome). x.lent.buffer) (e ∙ r.1.is))
    (λ k. not_both _ (carried_says G q.asked (lent_to d q) d.session k) (rw e at a))

-- the log, unless book and log are one file
unfoldable pub logged_apart : Geometry → Time → Wanted → Disk → Logging
logged_apart G t w d = cond (one_file_rule w) record { pick = OneFile; disk = d } (logged G t w d)

-- what code tells without a word
abbrev pub Wordless : Told → Pick → Type 0
Wordless r p = (r.pick ≡ p) × (r.given ≡ false)

module _ (G : Geometry) (t : Time) (w : Wanted) where
  told_wordless : (r : Told) (p : Pick) → Wordless r p → (buffer : Bytes) (d : Disk) → picks r buffer d ≡ wordless G t w p buffer d
  told_wordless r p k buffer d = rw (k.0, k.1)

  -- ---- the log sized
  module _ (d : Disk) (o : Outcome) (e : Disk) (k : e ≡ left o) (c : o ≡ outcome_of G d (sizing t w.log)) where
    pub logged_extends : accepted 35 o ≡ true → (n : ℕ) → n ≡ random_of_rule o.lent.fcb → extended G t w e n ≡ logged G t w d
    unfolding logged
    logged_extends a n r = rw (k, ← c, a, r)

    pub logged_begins : accepted 35 o ≡ false → is_code 255 0 o ≡ true → begun G t w e ≡ logged G t w d
    unfolding logged
    logged_begins a h = rw (k, ← c, a, h)

    pub logged_fails : accepted 35 o ≡ false → is_code 255 0 o ≡ false → (p : Pick) → p ≡ otherwise o → notes p e ≡ logged G t w d
    unfolding logged
    logged_fails a h p r = rw (k, ← c, a, h, r)

  pub apart_one : (d : Disk) → one_file_rule w ≡ true → notes OneFile d ≡ logged_apart G t w d
  unfolding logged_apart
  apart_one d h = rw h

  pub apart_logs : (d : Disk) → one_file_rule w ≡ false → logged G t w d ≡ logged_apart G t w d
  unfolding logged_apart
  apart_logs d h = rw h

  -- ---- the word
  pub handed_out : (d : Disk) (l : Logging) → l ≡ logged_apart G t w d → (o : Outcome) → left o ≡ d
      → record { pick = l.pick; given = true; word = o.lent.buffer; disk = l.disk } ≡ worded G t w o
  unfolding logged_apart worded
  handed_out d l e o h = rw (e, ← h)

  module _ (d : Disk) (f buffer : Bytes) (o : Outcome) (c : o ≡ outcome_of G d (reading t f w.day buffer)) where
    pub fetched_worded : accepted 33 o ≡ true → worded G t w o ≡ fetched G t w d f buffer
    unfolding fetched
    fetched_worded a = rw (← c, a)

    pub fetched_fails : (e : Disk) → e ≡ left o → accepted 33 o ≡ false → (p : Pick) → p ≡ read_trouble_rule o → (r : Told) → Wordless r p
        → picks r o.lent.buffer e ≡ fetched G t w d f buffer
    unfolding fetched
    fetched_fails e k a p q r s =
        let b : o.lent.buffer ≡ buffer = refused_buffer G d (reading t f w.day buffer) o c a in told_wordless r p s _ _ ∙ rw (k, ← c, a, q, b)

  module _ (d : Disk) (buffer : Bytes) (o : Outcome) (e : Disk) (k : e ≡ left o) (c : o ≡ outcome_of G d (opening t w.book)) where
    pub looked_fetches : accepted 15 o ≡ true → fetched G t w e o.lent.fcb buffer ≡ looked G t w d buffer
    unfolding looked
    looked_fetches a = rw (k, ← c, a)

    pub looked_fails : accepted 15 o ≡ false → (p : Pick) → p ≡ cond (is_code 255 0 o) NoBook (otherwise o) → (r : Told) → Wordless r p
        → picks r buffer e ≡ looked G t w d buffer
    unfolding looked
    looked_fails a p q r s = told_wordless r p s _ _ ∙ rw (k, ← c, a, q)

  -- ---- the day
  pub picked_over : (d : Disk) (buffer : Bytes) → ltb last_day w.day ≡ true → (r : Told) → Wordless r DayOver → picks r buffer d ≡ picked G t w d buffer
  unfolding picked
  picked_over d buffer h r s = told_wordless r DayOver s _ _ ∙ rw h

  pub picked_looks : (d : Disk) (buffer : Bytes) → ltb last_day w.day ≡ false → looked G t w d buffer ≡ picked G t w d buffer
  unfolding picked
  picked_looks d buffer h = rw h
