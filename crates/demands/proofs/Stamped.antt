-- Every call with its stamps: what its own rule did holds once it is stamped, so that the record of `StepOk` and good images are of every step;
-- and what is current or holds after the rule stays so.
use Rattle.std.specs.Prelude.{◌≡◌, true, List, [], ◌∷◌}
use Rattle.std.proofs.Math.Path.{refl, ap, sym, subst}
use Rattle.std.proofs.Common.{◌∙◌, inl, inr, arith}
use Rattle.std.proofs.Math.Bool.{false}
use Prim.Native.Nat.{ℕ, ◌<◌}
use Rattle.lists.specs.Cases.{split, bool_cases}
use Rattle.format.specs.Diskette.{Bytes, Geometry, Sound}
use Rattle.format.specs.Entries.{entry_at, extent_of, used}
use Rattle.format.specs.Dates.{is_dates, dated}
use Rattle.format.specs.Found.{number_of}
use Rattle.consistency.specs.Reflect.{dates_unused, dates_full}
use Rattle.model.specs.declared.Asked.{Asked}
use Rattle.model.specs.declared.Session.{Session}
use Rattle.model.specs.declared.Kind.{Kind}
use Rattle.model.specs.declared.Kind.TheVariants.{Unlisted, Quiet, Search, User, Settle, Close, Delete, Create, Rename, Read, Write}
use Rattle.model.specs.Kinds.{kind_of, same}
use Rattle.model.specs.Lent.{Lent, rows_of, Outcome}
use Rattle.model.specs.Naming.{names}
use Rattle.model.specs.Target.{plan}
use Rattle.model.specs.Calls.{read, written}
use Rattle.model.specs.Stamps.{Stamp, stamps_by, stamped_outcome}
use Rattle.model.specs.Step.{does, effect, stamped, step}
use Rattle.table.specs.Own.{same_is}
use Rattle.table.specs.Facts.{AcceptedCall}
use Rattle.table.specs.Plans.{Block, There, planned_read, planned_write}
use Rattle.table.specs.Accept.{closes_of, makes_of, reads_of, writes_by}
use Rattle.table.specs.Total.{CarriedOut}
use Rattle.table.proofs.Total.{total}
use Rattle.invariant.specs.Good.{Good}
use Rattle.invariant.specs.Updates.{dates_beside}
use Rattle.invariant.specs.Stamps.{Each, Placed, Stamped, where_cases, stamped_all, close_each, placed}
use Rattle.effects.specs.View.{view_of}
use Rattle.effects.specs.Effect.{NamesStay, notes_stay, then_keeps}
use Rattle.effects.proofs.Effect.{then_effect}
use Rattle.effects.specs.Cur.{Cur, Holds}
use Rattle.effects.specs.Where.{Where, by_rule, in_stamp, RuleBytes, Bytewise, rule_bytes, frame_more}
use Rattle.effects.specs.Book.{Book, entry_after, written_book, book_by}
use Rattle.effects.specs.Change.{where_after}
use Rattle.effects.proofs.Write.{written_ok, reads_ok}
use Rattle.effects.specs.Alike.{Alike, alike_same, used_row, file_same, alike_stay, alike_none}
use Rattle.effects.proofs.Alike.{alike_effect, cur_alike, holds_alike}
use Rattle.effects.specs.Stamps.{Lies, lies, stamps_bytes, stamped_alike}
use Rattle.table.proofs.Accepted.{refused_says}
use Rattle.demands.specs.StepOk.{MayWrite, StepOk, GoodOutcome, CarriedOk, Carries, carries_ok, refused_ok, named_close, named_read, named_write, settles, ready_good}
use Rattle.demands.proofs.StepOk.{carried}
use Rattle.demands.specs.Stamped.{stamped_as, accepted_does, names_used, NamedEver, BesideNamed, by, present, open_beside, create_beside, move_beside, not_login}

module _ {G : Geometry} (S : Sound G) (asked : Asked) (l : Lent) (s : Session) (c : AcceptedCall G asked l s) (g : Good G l.drive.image l.drive.map) where
  -- the entries beside which a call stamps are named, before it or in the image that its own rule left
  beside : (k : Kind) → kind_of asked.number ≡ k → Each (BesideNamed S asked l s c g (does G asked l s k).lent.drive.image) (stamps_by G asked l s k)
  beside Unlisted q = tt
  beside Quiet q = open_beside S asked l s c g _
  beside Search q = tt
  beside User q = tt
  beside Settle q = tt
  beside Close q =
      let e = (closes_of G asked l s c.none q).entry in
      rw e.is (close_each S asked l s c g (BesideNamed S asked l s c g _) (NamedEver S asked l s c g _) (by S asked l s c g _) e.place (inl (present S asked l s c g (named_close asked.number q) e.place e.is)))
  beside Delete q = tt
  beside Create q = create_beside S asked l s c g q (makes_of G asked l s c.none q)
  beside Rename q = tt
  beside Read q =
      let w = reads_of G asked l s c.none c.ready.image_right c.ready.fits.user_low q in
      move_beside S asked l s c g (read G s l asked.number).lent.drive.image (There G asked.number s.user l) (plan G asked.number s.user l) (named_read asked.number q)
      (planned_read G asked.number l s w) (reads_ok S asked.number l s g c.ready.fits w).mine
  beside Write q =
      let w = writes_by G asked l s c.none q in
      move_beside S asked l s c g (written G s l asked.number).lent.drive.image (Block G asked.number s.user l) (plan G asked.number s.user l) (named_write asked.number q)
      (planned_write G asked.number l s w) (written_ok S asked.number l s g c.ready.fits w).mine

  -- ---- its own change
  pub own_change : (k : Kind) → kind_of asked.number ≡ k → same k Settle ≡ false → Carries G asked.number l s (does G asked l s k)
  own_change k q z = carried S l s c.ready.fits g asked c k q z (accepted_does G asked l s c k q)

  -- ---- and then its stamps, on a disk with date entries
  module _ (dates : dated (rows_of G l) ≡ true) (k : Kind) (q : kind_of asked.number ≡ k) (z : same k Settle ≡ false) where
    abbrev own : Lent
    own = (does G asked l s k).lent

    w : Carries G asked.number l s (does G asked l s k)
    w = own_change k q z

    abbrev xs : List Stamp
    xs = stamps_by G asked l s k

    abbrev end : Outcome
    end = stamped_outcome G (stamps_by G asked l s k) (does G asked l s k)

    -- its own rule leaves the date entries
    own_dates : dated (entry_at G own.drive.image) ≡ true
    own_dates =
        ap is_dates (w.aside 3 (omega (arith, S.fours, S.some_entry)) (dates_unused (rows_of G l 3) dates) (dates_full (rows_of G l 3) dates)) ∙ dates

    each : Each (Placed G) xs
    each = placed S asked l s c g dates k q

    pub own_stamped : Stamped G own.drive.image end.lent.drive.image own.drive.map (stamps_by G asked l s k)
    own_stamped = stamped_all S own.drive.map xs own.drive.image w.good own_dates each

    own_alike : Alike G own.drive.image end.lent.drive.image
    own_alike = stamped_alike S own.drive.map xs own.drive.image w.good own_dates each

    stay : NamesStay G (view_of G own.drive.image own.drive.map) (view_of G end.lent.drive.image own.drive.map) (names asked.number s.user l.fcb)
    stay =
        alike_stay G own.drive.image end.lent.drive.image own_alike own.drive.map (names asked.number s.user l.fcb)
        (names_used asked.number s.user l.fcb c.ready.fits.user_low)

    -- what is named after the own rule is so at the end
    at_end_law : (ys : List Stamp) → Each (Placed G) ys → Each (BesideNamed S asked l s c g own.drive.image) ys → Each (BesideNamed S asked l s c g end.lent.drive.image) ys
    at_end_law [] a b = tt
    at_end_law (y ∷ ys) a b = (split b.0 (λ h. inl h) (λ h. inr (stay y.entry a.0.below h)), at_end_law ys a.1 b.1)

    own_bytes : RuleBytes G l.drive.image own.drive.image (names asked.number s.user l.fcb) (MayWrite G asked.number l s end)
    own_bytes =
        frame_more G l.drive.image own.drive.image (names asked.number s.user l.fcb) (names asked.number s.user l.fcb)
        (MayWrite G asked.number l s (does G asked l s k)) (MayWrite G asked.number l s end) (λ r h. h)
        (λ d x. record { accepts = x.accepts; writes = x.writes; one = x.one }) w.frame

    -- the bytes that the rule changed lie where they lay, and the rest are those of stamps
    bytes : Bytewise G l.drive.image end.lent.drive.image (names asked.number s.user l.fcb) (MayWrite G asked.number l s end)
    bytes i =
        split (stamps_bytes S own.drive.map (BesideNamed S asked l s c g end.lent.drive.image) xs own.drive.image w.good own_dates each (at_end_law xs each (beside k q)) i)
        (λ p. split (own_bytes i) (λ r. inl (p ∙ r)) (λ r. inr (by_rule (where_after G (names asked.number s.user l.fcb)
        l.drive.image own.drive.image
        end.lent.drive.image (MayWrite G asked.number l s end) stay i r))))
        (λ p. inr (out p))
      where
        out : Lies G (BesideNamed S asked l s c g end.lent.drive.image) i
            → Where G l.drive.image end.lent.drive.image (names asked.number s.user l.fcb) (MayWrite G asked.number l s end) i
        out (lies x r h) = in_stamp x.entry x.which r (dates_beside S l.drive.image l.drive.map g dates x.entry r.low) h

    -- the book is the same: no look-up sees a stamp
    after_same : entry_after G asked.number s.user l end.lent ≡ entry_after G asked.number s.user l own
    unfolding entry_after
    after_same =
        ap (number_of G.entries)
        (file_same G own.drive.image end.lent.drive.image own_alike s.user c.ready.fits.user_low own.fcb 1 (extent_of own.fcb))

    book_same : (u : Book) → book_by G asked.number s.user l end.lent u ≡ book_by G asked.number s.user l own u
    unfolding book_by written_book
    book_same u = rw after_same

    then_stamps : CarriedOk G asked.number l s end
    then_stamps =
        let N = names asked.number s.user l.fcb in
        let v = view_of G l.drive.image l.drive.map in
        let mid = view_of G own.drive.image own.drive.map in
        let v' = view_of G end.lent.drive.image own.drive.map in
        carries_ok G asked.number l s end c.ready.fits (accepted_does G asked l s c k q)
        (then_effect G v mid N w.effect w.keeps v' (alike_effect G own.drive.image end.lent.drive.image own_alike own.drive.map w.good N) stay
        (inr (alike_none G own.drive.image end.lent.drive.image own_alike own.drive.map)))
        (then_keeps G v mid N w.effect w.keeps v' (notes_stay G mid v' N (λ b h. refl)))
        bytes own_stamped.good (λ u t b h. ap (λ (x : Book). x b) (book_same u) ∙ w.book u t b h)

  -- ---- with date entries or without
  module _ (k : Kind) (q : kind_of asked.number ≡ k) (z : same k Settle ≡ false) where
    pub stamped_ok : CarriedOk G asked.number l s (stamped_as G asked l s k)
    stamped_ok =
        let w = own_change k q z in
        where_cases (λ (xs : List Stamp). CarriedOk G asked.number l s (stamped_outcome G xs (does G asked l s k))) (dated (rows_of G l)) (stamps_by G asked l s k)
        (λ t. then_stamps t k q z) (carries_ok G asked.number l s (does G asked l s k) c.ready.fits (accepted_does G asked l s c k q) w.effect w.keeps
        (rule_bytes G l.drive.image (does G asked l s k).lent.drive.image (names asked.number s.user l.fcb) (MayWrite G asked.number l s (does G asked l s k)) w.frame)
        w.good w.book)

    abbrev left : Lent
    left = (does G asked l s k).lent

    -- the stamps change date entries alone
    pub stamps_alike : Alike G (does G asked l s k).lent.drive.image (stamped_as G asked l s k).lent.drive.image
    stamps_alike =
        where_cases (λ (xs : List Stamp). Alike G left.drive.image (stamped_outcome G xs (does G asked l s k)).lent.drive.image) (dated (rows_of G l))
        (stamps_by G asked l s k) (λ t. own_alike t k q z) (alike_same G left.drive.image)

    -- what is current or holds after its own rule
    pub cur_on : (f : Bytes) (e : ℕ) → Cur G (view_of G left.drive.image left.drive.map) s.user f e
        → Cur G (view_of G (stamped_as G asked l s k).lent.drive.image left.drive.map) s.user f e
    cur_on = cur_alike G _ _ stamps_alike left.drive.map (own_change k q z).good S s.user c.ready.fits.user_low

    pub holds_on : (f : Bytes) (e rec : ℕ) (v : Bytes) → Holds G (view_of G left.drive.image left.drive.map) s.user f e rec v
        → Holds G (view_of G (stamped_as G asked l s k).lent.drive.image left.drive.map) s.user f e rec v
    holds_on = holds_alike G _ _ stamps_alike left.drive.map (own_change k q z).good S s.user c.ready.fits.user_low

    pub row_on : (e : ℕ) → e < G.entries → used (entry_at G left.drive.image e) ≡ true
        → entry_at G (stamped_as G asked l s k).lent.drive.image e ≡ entry_at G left.drive.image e
    row_on = used_row G _ _ stamps_alike

-- ---- every call
module _ {G : Geometry} (S : Sound G) (asked : Asked) (l : Lent) (s : Session) where
  carried_ok : CarriedOut G asked l s → CarriedOk G asked.number l s (step G asked l s)
  unfolding effect stamped
  carried_ok c =
      subst (CarriedOk G asked.number l s) (sym c.is)
      (go (kind_of asked.number) refl)
    where
      go : (k : Kind) → kind_of asked.number ≡ k → CarriedOk G asked.number l s (stamped_as G asked l s k)
      go k q =
          let ready = c.facts.ready in
          split (bool_cases (same k Settle)) (λ z. let e = same_is k Settle z in
          subst (λ (j : Kind). CarriedOk G asked.number l s (stamped_as G asked l s j)) (sym e) (settles G asked l s ready (q ∙ e) (accepted_does G asked l s c.facts Settle (q ∙ e))))
          (λ z. stamped_ok S asked l s c.facts (ready_good ready (not_login asked.number k q z)) k q z)

  pub step_ok : StepOk G asked.number l s (step G asked l s)
  step_ok =
      split (total G asked l s)
      (λ r. refused_ok G asked.number l s (step G asked l s) r.1.kept (refused_says G asked l s r.0 r.1))
      (λ c. (carried_ok c).ok)

  -- ---- image and map stay good, and are good after every call that was carried out, since the table has looked
  pub step_accepted : CarriedOut G asked l s → GoodOutcome G (step G asked l s)
  step_accepted c = (carried_ok c).good

  pub step_good : Good G l.drive.image l.drive.map → GoodOutcome G (step G asked l s)
  step_good g = split (total G asked l s) (λ r. subst (λ (t : Lent). Good G t.drive.image t.drive.map) (sym r.1.kept) g) (λ c. step_accepted c)
