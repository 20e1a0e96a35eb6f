-- What an accepted call answers, and the session that it leaves.
use Rattle.std.specs.Prelude.{◌≡◌, cond, [], ◌∷◌, ℕ, ◌+◌, Option, Some}
use Rattle.std.proofs.Math.Path.{refl}
use Rattle.std.proofs.Math.Bool.{true, false}
use Rattle.std.proofs.Math.Dec.{eqb}
use borrow.Author.Tests.{eq-eqb, ne_eqb}
use Rattle.lists.specs.Cases.{split, eq_or_ne}
use Rattle.format.specs.Diskette.{Bytes, Geometry}
use Rattle.format.specs.Entries.{find_empty_rule}
use Rattle.model.specs.declared.Session.{Session}
use Rattle.model.specs.declared.Plan.{Plan}
use Rattle.model.specs.declared.Plan.TheVariants.{Stay, Move, Make}
use Rattle.model.specs.Kinds.{same, one_of}
use Rattle.model.specs.declared.Asked.{Asked}
use Rattle.model.specs.declared.Kind.{Kind}
use Rattle.model.specs.declared.Kind.TheVariants.{Unlisted, Quiet, Search, User, Settle, Close, Delete, Create, Rename, Read, Write}
use Rattle.model.specs.Lent.{Lent, Outcome, rows_of, ended, searching, with_user}
use Rattle.model.specs.Target.{present_entry, plan}
use Rattle.model.specs.Search.{find_hit_rule}
use Rattle.model.specs.Table.{asked_entry}
use Rattle.model.specs.Calls.{entry_number, user_set, read_at, reading, read, written_at, writing, written}
use Rattle.model.specs.Step.{told, pattern, place}

-- the entry that was looked for was found, and A is its number mod 4
pub record AnswersEntry (r : Option ℕ) (a : ℕ) : Type 0 where
  pub entry : ℕ
  pub found : r ≡ Some entry
  pub mod_four : a ≡ entry_number entry

-- the search goes on one past the entry that was found
pub record GoesOn (s : Session) (pattern : Bytes) (r : Option ℕ) (after : Session) : Type 0 where
  pub entry : ℕ
  pub found : r ≡ Some entry
  pub on : after ≡ searching s pattern (entry + 1)

-- an outcome of acceptance: A, H and the session
pub record Answered (o : Outcome) (a : ℕ) (after : Session) : Type 0 where
  pub is_a : o.answer.a ≡ a
  pub is_h : o.answer.h ≡ 0
  pub is_session : o.answer.session ≡ after

module _ (G : Geometry) (asked : Asked) (l : Lent) (s : Session) where
  -- ---- A: 0, the entry mod 4 for 15, 16, 17, 18 and 22, the user for 32 with 255
  abbrev pub Answers : Kind → ℕ → Type 0
  Answers Unlisted a = ⊥
  Answers Quiet a =
      (a ≡ entry_number (told G asked l s).entry) × (asked.number ≡ 15 → AnswersEntry (asked_entry G l s.user) a)
      × (one_of asked.number (35 ∷ 36 ∷ 46 ∷ []) ≡ true → a ≡ 0)
  Answers Search a = AnswersEntry (find_hit_rule G (rows_of G l) s.user (pattern G asked l s) (place G asked l s)) a
  Answers User a = a ≡ cond (eqb asked.argument 255) s.user 0
  Answers Settle a = a ≡ 0
  Answers Close a = AnswersEntry (present_entry G s.user l) a
  Answers Delete a = a ≡ 0
  Answers Create a = AnswersEntry (find_empty_rule G (rows_of G l)) a
  Answers Rename a = a ≡ 0
  Answers Read a = a ≡ 0
  Answers Write a = a ≡ 0

  -- ---- the session: a call other than 17 and 18 ends a search; 32 may set the user
  pub data Leaves (k : Kind) (t : Session) : Type 0 where
    over : same k Search ≡ false → same k User ≡ false → t ≡ ended s → Leaves k t
    on : k ≡ Search → GoesOn s (pattern G asked l s) (find_hit_rule G (rows_of G l) s.user (pattern G asked l s) (place G asked l s)) t → Leaves k t
    sets : k ≡ User → t ≡ ended (cond (eqb asked.argument 255) s (with_user s asked.argument)) → Leaves k t

  reading_answered : (n : ℕ) (p : Plan) → Answered (reading G s l n p) 0 (ended s)
  unfolding read_at
  reading_answered n (Stay e b) = record { is_a = refl; is_h = refl; is_session = refl }
  reading_answered n (Move e t b) = record { is_a = refl; is_h = refl; is_session = refl }
  reading_answered n (Make e t b) = record { is_a = refl; is_h = refl; is_session = refl }

  writing_answered : (n : ℕ) (p : Plan) → Answered (writing G s l n p) 0 (ended s)
  unfolding written_at
  writing_answered n (Stay e b) = record { is_a = refl; is_h = refl; is_session = refl }
  writing_answered n (Move e t b) = record { is_a = refl; is_h = refl; is_session = refl }
  writing_answered n (Make e t b) = record { is_a = refl; is_h = refl; is_session = refl }

  pub read_answered : (n : ℕ) → Answered (read G s l n) 0 (ended s)
  unfolding read
  read_answered n = reading_answered n (plan G n s.user l)

  pub written_answered : (n : ℕ) → Answered (written G s l n) 0 (ended s)
  unfolding written
  written_answered n = writing_answered n (plan G n s.user l)

  pub user_answered : Answered (user_set G s l asked.argument) (cond (eqb asked.argument 255) s.user 0) (ended (cond (eqb asked.argument 255) s (with_user s asked.argument)))
  unfolding user_set
  user_answered = split (eq_or_ne asked.argument 255)
      (λ q. let t : eqb asked.argument 255 ≡ true = eq-eqb _ _ q in rw t record { is_a = refl; is_h = refl; is_session = refl })
      (λ q. let t : eqb asked.argument 255 ≡ false = ne_eqb _ _ q in rw t record { is_a = refl; is_h = refl; is_session = refl })

  -- what an accepted call answers and leaves
  pub record Done (k : Kind) (o : Outcome) : Type 0 where
    pub answers : Answers k o.answer.a
    pub no_error : o.answer.h ≡ 0
    pub leaves : Leaves k o.answer.session
