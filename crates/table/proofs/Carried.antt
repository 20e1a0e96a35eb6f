-- An accepted call answers what its kind answers, and leaves the session that its kind leaves.
use Rattle.std.specs.Prelude.{◌≡◌, [], ◌∷◌, ℕ}
use Rattle.std.proofs.Math.Path.{refl, ap}
use Rattle.std.proofs.Math.Bool.{true, false}
use Rattle.std.proofs.Math.Dec.{eqb}
use borrow.Author.Tests.{eq-eqb}
use Rattle.lists.specs.Cases.{split, bool_cases}
use Rattle.format.specs.Diskette.{Geometry}
use Rattle.facts.specs.Found.{FoundAt}
use Rattle.model.specs.declared.Session.{Session}
use Rattle.model.specs.Kinds.{kind_of, same, one_of}
use Rattle.model.specs.declared.Asked.{Asked}
use Rattle.model.specs.declared.Kind.{Kind}
use Rattle.model.specs.declared.Kind.TheVariants.{Unlisted, Quiet, Search, User, Settle, Close, Delete, Create, Rename, Read, Write}
use Rattle.model.specs.Lent.{Lent, Outcome, rows_of, ended}
use Rattle.model.specs.Search.{find_hit_rule}
use Rattle.model.specs.Table.{asked_entry}
use Rattle.model.specs.Calls.{entry_number, logged_in, freed, opened_at, opened, closed_at, closed, found_at, searched, deleted, created_at, created, renamed, sized, positioned, space}
use Rattle.model.specs.Step.{told, pattern, place, settled, does}
use Rattle.table.specs.First.{◌&◌}
use Rattle.table.specs.Own.{at_one, calling, not_unlisted}
use Rattle.table.specs.Facts.{Opens, AcceptedCall}
use Rattle.table.specs.Accept.{own_at, hits_of}
use Rattle.table.specs.Carried.{AnswersEntry, Answered, Answers, over, on, sets, read_answered, written_answered, user_answered, Done}

module _ (G : Geometry) (asked : Asked) (l : Lent) (s : Session) where
  settled_answered : Answered (settled G asked l s) 0 (ended s)
  unfolding settled logged_in freed
  settled_answered =
      split (bool_cases (eqb asked.number 13))
      (λ t. rw t record { is_a = refl; is_h = refl; is_session = refl }) (λ t. rw t record { is_a = refl; is_h = refl; is_session = refl })

  zero_done : (k : Kind) (o : Outcome) → same k Search ≡ false → same k User ≡ false → (o.answer.a ≡ 0 → Answers G asked l s k o.answer.a) → Answered o 0 (ended s) → Done G asked l s k o
  zero_done k o p q f h = record { answers = f h.is_a; no_error = h.is_h; leaves = over p q h.is_session }

  hit_done : FoundAt (find_hit_rule G (rows_of G l) s.user (pattern G asked l s) (place G asked l s)) → Done G asked l s Search (does G asked l s Search)
  unfolding searched found_at
  hit_done f = record {
    answers = record { entry = f.place; found = f.is; mod_four = rw f.is };
    no_error = refl;
    leaves = on refl record { entry = f.place; found = f.is; on = rw f.is };
  }

  -- 15 tells the entry that it opened; 35, 36 and 46 tell none
  opened_entry : asked.number ≡ 15 → Opens G l s → AnswersEntry (asked_entry G l s.user) (entry_number (told G asked l s).entry)
  unfolding told opened opened_at
  opened_entry n o =
      let t : eqb asked.number 15 ≡ true = eq-eqb _ _ n in
      record { entry = o.entry.place; found = o.entry.is; mod_four = rw (t, o.entry.is) }

  no_entry : one_of asked.number (35 ∷ 36 ∷ 46 ∷ []) ≡ true → (told G asked l s).entry ≡ 0
  unfolding told sized positioned space
  no_entry w = at_one (λ (n : ℕ). (told G (calling n asked) l s).entry ≡ 0) asked.number (35 ∷ 36 ∷ 46 ∷ []) w (refl & refl & refl & tt)

  pub carried_done : AcceptedCall G asked l s → (k : Kind) → kind_of asked.number ≡ k → Done G asked l s k (does G asked l s k)
  unfolding closed closed_at deleted created created_at renamed
  carried_done c Unlisted q = not_unlisted asked.number c.listed q
  carried_done c Quiet q =
      record {
        answers = (refl, λ n. opened_entry n ((own_at G asked l s c q).0 n), λ w. ap entry_number (no_entry w));
        no_error = refl;
        leaves = over refl refl refl;
      }
  carried_done c Search q = hit_done (hits_of G asked l s c.none q)
  carried_done c User q = let h = user_answered G asked l s in record { answers = h.is_a; no_error = h.is_h; leaves = sets refl h.is_session }
  carried_done c Settle q = zero_done Settle _ refl refl (λ z. z) settled_answered
  carried_done c Close q =
      let e = (own_at G asked l s c q).entry in
      record { answers = record { entry = e.place; found = e.is; mod_four = rw e.is }; no_error = refl; leaves = over refl refl refl }
  carried_done c Delete q = record { answers = refl; no_error = refl; leaves = over refl refl refl }
  carried_done c Create q =
      let e = (own_at G asked l s c q).entry in
      record { answers = record { entry = e.place; found = e.is; mod_four = rw e.is }; no_error = refl; leaves = over refl refl refl }
  carried_done c Rename q = record { answers = refl; no_error = refl; leaves = over refl refl refl }
  carried_done c Read q = zero_done Read _ refl refl (λ z. z) (read_answered G asked l s asked.number)
  carried_done c Write q = zero_done Write _ refl refl (λ z. z) (written_answered G asked l s asked.number)
