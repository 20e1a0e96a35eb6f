-- The log written: how each function of the definition goes on, by what its call came to. `o` is the outcome of that call, and `e`
-- the disk that it left.
use Rattle.std.specs.Prelude.{◌≡◌, true, false, cond, ℕ}
use borrow.Author.Tests.{eq-eqb, ne_eqb}
use Rattle.format.specs.Diskette.{Bytes, Geometry}
use Rattle.model.specs.declared.Asked.{Asked}
use Rattle.model.specs.declared.Session.{Session}
use Rattle.model.specs.Lent.{Outcome}
use Rattle.model.specs.Step.{step}
use Rattle.demands.specs.Runs.{Request, Disk, outcome_of, left, lent_to}
use Rattle.picking.specs.declared.Wanted.{Wanted}
use Rattle.picking.specs.declared.Time.{Time}
use Rattle.picking.specs.declared.Pick.{Pick}
use Rattle.picking.specs.declared.Pick.TheVariants.{DirectoryFull, DiskFull}
use Rattle.picking.specs.Picker.{notes, space_in_rule, call_at, asking, accepted, is_code, otherwise, writing, making}
use Rattle.picking.specs.Picker.{closing, spacing, unlocked, relocked, lifted_call_rule, closed, write_trouble_rule, written, made, begun}
use Rattle.daybook.specs.Said.{close_told_rule}

-- ---- one call
-- a call that asks with equal bytes comes to the same
pub asked_alike : (call : Disk → Request → Outcome) (d : Disk) (t : Time) (n : ℕ) {o : Outcome} {f g b e : Bytes} → o ≡ call d (asking t n f b) → f ≡ g
    → b ≡ e → o ≡ call d (asking t n g e)
asked_alike call d t n h p q = rw (p, q) at h

module _ (G : Geometry) (d : Disk) where
  pub called : (t : Time) (n : ℕ) (f b : Bytes) (a : Asked) (o : Outcome) → o ≡ step G a (lent_to d (asking t n f b)) d.session → a ≡ call_at t n
      → o ≡ outcome_of G d (asking t n f b)
  unfolding outcome_of
  called t n f b a o e p = rw p at e

  -- with the session u, unlocked, which is v afterwards
  pub lifted_called : (q : Request) (o : Outcome) (u v : Session) → o ≡ outcome_of G record { drive = d.drive; session = u } q → u ≡ unlocked d.session
      → v ≡ relocked d.session o.answer.session
      → record { answer = record { a = o.answer.a; h = o.answer.h; session = v }; lent = o.lent } ≡ lifted_call_rule G d q
  unfolding lifted_call_rule
  lifted_called q o u v e p r =
      let f : o ≡ outcome_of G record { drive = d.drive; session = unlocked d.session } q = rw p at e in rw (r, ← f)

module _ (G : Geometry) (t : Time) (d : Disk) (o : Outcome) (e : Disk) (k : e ≡ left o) where
  -- ---- the write and the close
  pub closed_told : (f : Bytes) → o ≡ lifted_call_rule G d (closing t f) → (p : Pick) → p ≡ close_told_rule o.answer → notes p e ≡ closed G t d f
  unfolding closed
  closed_told f c p r = rw (k, r, ← c)

  module _ (w : Wanted) where
    pub written_closes : (f : Bytes) (n : ℕ) → o ≡ lifted_call_rule G d (writing t w f n) → accepted 34 o ≡ true → closed G t e o.lent.fcb ≡ written G t w d f n
    unfolding written
    written_closes f n c a = rw (k, ← c, a)

    pub written_fails : (f : Bytes) (n : ℕ) → o ≡ lifted_call_rule G d (writing t w f n) → accepted 34 o ≡ false → (p : Pick) → p ≡ write_trouble_rule o
        → notes p e ≡ written G t w d f n
    unfolding written
    written_fails f n c a p r = rw (k, ← c, a, r)

    -- ---- a log that is made
    pub made_writes : o ≡ lifted_call_rule G d (making t w.log) → accepted 22 o ≡ true → written G t w e o.lent.fcb 0 ≡ made G t w d
    unfolding made
    made_writes c a = rw (k, ← c, a)

    pub made_fails : o ≡ lifted_call_rule G d (making t w.log) → accepted 22 o ≡ false → (p : Pick) → p ≡ cond (is_code 255 0 o) DirectoryFull (otherwise o)
        → notes p e ≡ made G t w d
    unfolding made
    made_fails c a p r = rw (k, ← c, a, r)

    pub begun_full : o ≡ outcome_of G d (spacing t w.log) → accepted 46 o ≡ true → space_in_rule o.lent.buffer ≡ 0 → notes DiskFull e ≡ begun G t w d
    unfolding begun
    begun_full c a z = rw (k, ← c, a, eq-eqb _ _ z)

    pub begun_makes : o ≡ outcome_of G d (spacing t w.log) → accepted 46 o ≡ true → (space_in_rule o.lent.buffer ≡ 0 → ⊥) → made G t w e ≡ begun G t w d
    unfolding begun
    begun_makes c a z = rw (k, ← c, a, ne_eqb _ _ z)

    pub begun_fails : o ≡ outcome_of G d (spacing t w.log) → accepted 46 o ≡ false → (p : Pick) → p ≡ otherwise o → notes p e ≡ begun G t w d
    unfolding begun
    begun_fails c a p r = rw (k, ← c, a, r)
