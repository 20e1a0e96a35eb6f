-- The law of each stamp. On a disk with date entries, after an accepted call: beside a new entry the stamps are zero, but create is the time
-- after a 22 where the label asks; access after a 15 on a session that is not protected, update after a close or move that changes the entry are the
-- time where the label asks; every other stamp is what it was.
use Rattle.std.specs.Prelude.{◌≡◌, refl, Bool, false, cond, not, List, [], ◌++◌, ℕ, ◌%◌, ◌<◌, Some}
use Rattle.std.proofs.Math.Path.{ap}
use Rattle.std.proofs.Common.{sym, ◌∙◌, arith}
use Rattle.std.proofs.Math.Bool.{true}
use Rattle.std.proofs.Math.Dec.{eqb}
use borrow.Author.Tests.{eq-eqb}
use Rattle.lists.specs.Cases.{split, bool_cases}
use Rattle.lists.specs.Tests.{◌and◌}
use Rattle.format.specs.Diskette.{Bytes, Geometry, Sound, entries_per_record}
use Rattle.format.specs.Entries.{find_empty_rule}
use Rattle.format.specs.Dates.{fourth_of, dated, stamp_at, asks_create, asks_access, asks}
use Rattle.consistency.specs.Reflect.{dates_unused, dates_full}
use Rattle.facts.specs.Beside.{fourth_below}
use Rattle.model.specs.declared.Asked.{Asked}
use Rattle.model.specs.declared.Session.{Session}
use Rattle.model.specs.declared.Plan.{Plan}
use Rattle.model.specs.declared.Plan.TheVariants.{Stay, Move, Make}
use Rattle.model.specs.declared.Kind.{Kind}
use Rattle.model.specs.declared.Kind.TheVariants.{Quiet, Settle, Close, Create}
use Rattle.model.specs.Kinds.{one_of, kind_of, same, of_record}
use Rattle.model.specs.Lent.{Lent, Outcome, rows_of, protected}
use Rattle.model.specs.Table.{asked_entry}
use Rattle.model.specs.Target.{present_entry, plan}
use Rattle.model.specs.Stamps.{Stamp, time_stamp_rule, no_stamp, first, only_if, access_stamps, close_stamps, new_stamps, create_stamps, move_stamps, stamps_by, stamped_outcome}
use Rattle.model.specs.Step.{does, step}
use Rattle.table.specs.Own.{same_is}
use Rattle.table.specs.Total.{CarriedOut}
use Rattle.invariant.specs.Good.{Good}
use Rattle.table.specs.Stamping.{where_dated_law, record_stamps, stamp_calls, other_stamps}
use Rattle.invariant.specs.Updates.{dates_beside}
use Rattle.invariant.specs.Stamps.{newest}
use Rattle.demands.specs.StepOk.{ready_good}
use Rattle.demands.specs.Stamped.{stamped_as_law, not_login}
use Rattle.demands.proofs.Stamped.{own_change, own_stamped}
use Rattle.demands.specs.Dates.{newest_join, only_hit, only_miss, new_hit, new_miss, settled_image, stamps_update, close_hit, close_miss}

-- ---- every stamp after an accepted call
module _ {G : Geometry} (S : Sound G) (asked : Asked) (l : Lent) (s : Session) (c : CarriedOut G asked l s) (dates : dated (rows_of G l) ≡ true) where
  -- the stamp beside e before it and after it
  abbrev before : ℕ → ℕ → Bytes
  before e which = stamp_at G l.drive.image e which

  abbrev after : ℕ → ℕ → Bytes
  after e which = stamp_at G (step G asked l s).lent.drive.image e which

  module _ (k : Kind) (q : kind_of asked.number ≡ k) (e which : ℕ) (h : e < G.entries) (beside : e % entries_per_record < 3) (two : which < 2) where
    is : step G asked l s ≡ stamped_outcome G (stamps_by G asked l s k) (does G asked l s k)
    is =
        c.is ∙ stamped_as_law G asked l s k q
        ∙ ap (λ (xs : List Stamp). stamped_outcome G xs (does G asked l s k)) (where_dated_law (dated (rows_of G l)) (stamps_by G asked l s k) dates)

    module _ (z : same k Settle ≡ false) where
      good : Good G l.drive.image l.drive.map
      good = ready_good c.facts.ready (not_login asked.number k q z)

      -- the call's own rule leaves the date entries
      own_stamp : stamp_at G (does G asked l s k).lent.drive.image e which ≡ before e which
      unfolding stamp_at
      own_stamp =
          let low = fourth_below S e h in
          let there = dates_beside S l.drive.image l.drive.map good dates e h in
          rw ((own_change S asked l s c.facts good k q z).aside (fourth_of e) low
          (dates_unused (rows_of G l (fourth_of e)) there) (dates_full (rows_of G l (fourth_of e)) there))

      unsettled_after : after e which ≡ newest (stamps_by G asked l s k) e which (before e which)
      unsettled_after =
          ap (λ (o : Outcome). stamp_at G o.lent.drive.image e which) is ∙ (own_stamped S asked l s c.facts good dates k q z).at e which h beside two
          ∙ ap (newest (stamps_by G asked l s k) e which) own_stamp

    -- the newest of the stamps that the call makes there, or what it was
    pub stamp_after : after e which ≡ newest (stamps_by G asked l s k) e which (before e which)
    stamp_after =
        split (bool_cases (same k Settle))
        (λ t. let w : Settle ≡ k = sym (same_is k Settle t) in
        ap (λ (img : Bytes). stamp_at G img e which) (settled_image G asked l s c (q ∙ sym w))
        ∙ ap (λ (j : Kind). newest (stamps_by G asked l s j) e which (before e which)) w)
        (λ z. unsettled_after z)

  -- ---- call by call
  module _ (e which : ℕ) (h : e < G.entries) (beside : e % entries_per_record < 3) (two : which < 2) where
    made_by_law : (k : Kind) → kind_of asked.number ≡ k → (xs : List Stamp) → stamps_by G asked l s k ≡ xs → after e which ≡ newest xs e which (before e which)
    made_by_law k q xs r = stamp_after k q e which h beside two ∙ ap (λ (ys : List Stamp). newest ys e which (before e which)) r

    -- the calls that stamp nothing: all but 15, 16, 20, 21, 22, 33 and 34
    pub no_stamp_law : one_of asked.number stamp_calls ≡ false → after e which ≡ before e which
    no_stamp_law h = made_by_law (kind_of asked.number) refl [] (other_stamps G asked l s h (kind_of asked.number) refl)

    -- 15 opened f
    module _ (f : ℕ) (fifteen : asked.number ≡ 15) (found : asked_entry G l s.user ≡ Some f) where
      opens : kind_of asked.number ≡ Quiet
      unfolding kind_of
      opens = ap kind_of fifteen

      -- the label asks, and the session is not protected
      abbrev stamps_access : Bool
      stamps_access = not (protected s) and asks G (rows_of G l) asks_access

      opened : stamps_by G asked l s Quiet ≡ only_if stamps_access (first f (time_stamp_rule asked))
      unfolding access_stamps
      opened = let t : eqb asked.number 15 ≡ true = eq-eqb _ _ fifteen in rw (t, found)

      pub access_stamp : f ≡ e → 0 ≡ which → after e which ≡ cond stamps_access (time_stamp_rule asked) (before e which)
      access_stamp p w = made_by_law Quiet opens _ opened ∙ only_hit (first f (time_stamp_rule asked)) e which (before e which) stamps_access p w

      pub access_else : ((f ≡ e) × (0 ≡ which) → ⊥) → after e which ≡ before e which
      access_else n = made_by_law Quiet opens _ opened ∙ only_miss (first f (time_stamp_rule asked)) e which (before e which) stamps_access n

    -- 16
    module _ (f : ℕ) (sixteen : asked.number ≡ 16) (found : present_entry G s.user l ≡ Some f) where
      closes : kind_of asked.number ≡ Close
      unfolding kind_of
      closes = ap kind_of sixteen

      closed : stamps_by G asked l s Close ≡ close_stamps G asked l s f
      closed = rw found

      pub update_stamp : f ≡ e → 1 ≡ which → after e which ≡ cond (stamps_update G asked l s e which f) (time_stamp_rule asked) (before e which)
      update_stamp p w = made_by_law Close closes _ closed ∙ close_hit G asked l s e which f (before e which) p w

      pub update_else : ((f ≡ e) × (1 ≡ which) → ⊥) → after e which ≡ before e which
      update_else n = made_by_law Close closes _ closed ∙ close_miss G asked l s e which f (before e which) n

    -- 20, 21, 33, 34
    module _ (k : Kind) (q : kind_of asked.number ≡ k) (r : of_record k ≡ true) (f t b : ℕ) where
      planned : (p : Plan) → plan G asked.number s.user l ≡ p → after e which ≡ newest (move_stamps G asked l s p) e which (before e which)
      planned p w = made_by_law k q _ (record_stamps G asked l s k r ∙ ap (move_stamps G asked l s) w)

      pub stay_else : plan G asked.number s.user l ≡ Stay f b → after e which ≡ before e which
      stay_else w = planned (Stay f b) w

      module _ (w : plan G asked.number s.user l ≡ Move f t b) where
        pub move_stamp : f ≡ e → 1 ≡ which → after e which ≡ cond (stamps_update G asked l s e which f) (time_stamp_rule asked) (before e which)
        move_stamp p v = planned (Move f t b) w ∙ close_hit G asked l s e which f (before e which) p v

        pub move_else : ((f ≡ e) × (1 ≡ which) → ⊥) → after e which ≡ before e which
        move_else n = planned (Move f t b) w ∙ close_miss G asked l s e which f (before e which) n

      -- t is the new entry
      module _ (w : plan G asked.number s.user l ≡ Make f t b) where
        both : after e which ≡ newest (new_stamps G asked l s t) e which (newest (close_stamps G asked l s f) e which (before e which))
        both = planned (Make f t b) w ∙ newest_join (close_stamps G asked l s f) (new_stamps G asked l s t) e which (before e which)

        pub make_new : t ≡ e → after e which ≡ no_stamp
        unfolding new_stamps
        make_new p = both ∙ new_hit t e which _ p two

        pub make_stamp : (t ≡ e → ⊥) → f ≡ e → 1 ≡ which → after e which ≡ cond (stamps_update G asked l s e which f) (time_stamp_rule asked) (before e which)
        unfolding new_stamps
        make_stamp n p v = both ∙ new_miss t e which _ n ∙ close_hit G asked l s e which f (before e which) p v

        pub make_else : (t ≡ e → ⊥) → ((f ≡ e) × (1 ≡ which) → ⊥) → after e which ≡ before e which
        unfolding new_stamps
        make_else n m = both ∙ new_miss t e which _ n ∙ close_miss G asked l s e which f (before e which) m

    -- 22 made f
    module _ (f : ℕ) (twenty-two : asked.number ≡ 22) (found : find_empty_rule G (rows_of G l) ≡ Some f) where
      makes : kind_of asked.number ≡ Create
      unfolding kind_of
      makes = ap kind_of twenty-two

      created : stamps_by G asked l s Create ≡ new_stamps G asked l s f ++ only_if (asks G (rows_of G l) asks_create) (first f (time_stamp_rule asked))
      unfolding create_stamps
      created = rw found

      create_last : after e which ≡ newest (only_if (asks G (rows_of G l) asks_create) (first f (time_stamp_rule asked))) e which (newest (new_stamps G asked l s f) e which (before e which))
      create_last =
          made_by_law Create makes _ created
          ∙ newest_join (new_stamps G asked l s f) (only_if (asks G (rows_of G l) asks_create) (first f (time_stamp_rule asked))) e which (before e which)

      pub create_stamp : f ≡ e → 0 ≡ which → after e which ≡ cond (asks G (rows_of G l) asks_create) (time_stamp_rule asked) no_stamp
      unfolding new_stamps
      create_stamp p w =
          create_last ∙ only_hit (first f (time_stamp_rule asked)) e which _ (asks G (rows_of G l) asks_create) p w
          ∙ ap (cond (asks G (rows_of G l) asks_create) (time_stamp_rule asked)) (new_hit f e which (before e which) p two)

      pub create_update : f ≡ e → 1 ≡ which → after e which ≡ no_stamp
      unfolding new_stamps
      create_update p w =
          create_last ∙ only_miss (first f (time_stamp_rule asked)) e which _ (asks G (rows_of G l) asks_create) (λ z. let a : 0 ≡ which = z.1 in omega arith)
          ∙ new_hit f e which (before e which) p two

      pub create_else : (f ≡ e → ⊥) → after e which ≡ before e which
      unfolding new_stamps
      create_else n =
          create_last ∙ only_miss (first f (time_stamp_rule asked)) e which _ (asks G (rows_of G l) asks_create) (λ z. n z.0) ∙ new_miss f e which (before e which) n
