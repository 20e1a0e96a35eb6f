-- What calls 17 and 18 share: the search from a place on, which is over or finds a match.
use Rattle.std.specs.Prelude.{◌≡◌, refl, Bool, false, cond, ℕ, ◌+◌, ◌/◌, eqb, leb, ltb, None, Option, Some, is_some}
use Rattle.std.proofs.Math.Path.{sym, ap}
use Rattle.std.proofs.Common.{◌∙◌, ne_eqb, le-ltb, lt-ltb, le-leb}
use Rattle.std.proofs.Math.Bool.{true, not}
use Rattle.std.proofs.lemmas.Bool.{lt-leb}
use Rattle.lists.specs.Cases.{split, bool_cases, lt_or_le}
use Rattle.lists.specs.Tests.{◌and◌, ◌or◌, and_then, and_left, and_right}
use Rattle.format.specs.Diskette.{Bytes, Geometry, record_at, entries_per_record}
use Rattle.format.specs.Names.{name_right_rule}
use Rattle.format.specs.Entries.{ex_of}
use Rattle.format.specs.Found.{number_of}
use Rattle.model.specs.declared.Asked.{Asked}
use Rattle.model.specs.declared.Session.{Session}
use Rattle.model.specs.declared.Answer.{Answer}
use Rattle.model.specs.declared.Code.TheVariants.{Accepted, Failed, BadName, SearchOver}
use Rattle.model.specs.Lent.{Lent, Outcome, rows_of, outcome, answer_of, ended, searching, search_on}
use Rattle.model.specs.Search.{pattern_of, find_hit_rule}
use Rattle.model.specs.Calls.{entry_number, found_at, searched}
use Rattle.model.specs.Kinds.{kind_of}
use Rattle.model.specs.Step.{refused, effect, pattern, place}
use Rattle.table.specs.First.{◌&◌, Decides, here, later}
use Rattle.model.specs.Table.{own_rows}
use Rattle.table.specs.Own.{calling}
use Rattle.table.specs.OwnStep.{own_step, own_refused, own_carried}

-- the name rule for a pattern, and byte 12 in range or 3FH
unfoldable pub pattern_right_rule : Bytes → Bool
pattern_right_rule fcb = name_right_rule true fcb 1 and (leb (ex_of fcb) 31 or eqb (ex_of fcb) 63)

-- byte 12 as the table tests it
pub byte_asked : (x : ℕ) → (ltb 31 x and not (eqb x 63)) ≡ not (leb x 31 or eqb x 63)
unfolding ◌and◌ ◌or◌
byte_asked x =
    split (lt_or_le 31 x)
    (λ h. rw (lt-ltb 31 x h, lt-leb x 31 h))
    (λ h. rw (le-ltb 31 x h, le-leb x 31 h))

module _ (G : Geometry) (s : Session) (l : Lent) where
  -- the search from a place on: over where nothing matches
  unfoldable pub searched_from : Bytes → ℕ → Outcome
  searched_from pattern place =
      cond (is_some (find_hit_rule G (rows_of G l) s.user pattern place)) (searched G s l pattern place) (refused SearchOver s l)

  from_found : (pattern : Bytes) (place : ℕ) → is_some (find_hit_rule G (rows_of G l) s.user pattern place) ≡ true
      → searched G s l pattern place ≡ searched_from pattern place
  unfolding searched_from
  from_found pattern place t = rw t

  from_missing : (pattern : Bytes) (place : ℕ) → is_some (find_hit_rule G (rows_of G l) s.user pattern place) ≡ false
      → refused SearchOver s l ≡ searched_from pattern place
  unfolding searched_from
  from_missing pattern place f = rw f

  -- nothing matches: an answer that changed nothing
  pub answers_over : (pattern : Bytes) (place : ℕ) (r : Answer) → find_hit_rule G (rows_of G l) s.user pattern place ≡ None
      → r ≡ answer_of SearchOver (ended s) → outcome r l.drive.image l.drive.map l.fcb l.buffer ≡ searched_from pattern place
  answers_over pattern place r q a =
      ap (λ (x : Answer). outcome x l.drive.image l.drive.map l.fcb l.buffer) a ∙ from_missing pattern place (ap is_some q)

  -- the match at e, answered
  pub answers_found : (pattern : Bytes) (place e : ℕ) (r : Answer) (after : Session) (buffer : Bytes)
      → find_hit_rule G (rows_of G l) s.user pattern place ≡ Some e
      → r ≡ answer_of (Accepted (entry_number e)) after → after ≡ searching s pattern (e + 1) → buffer ≡ record_at G l.drive.image (e / entries_per_record)
      → outcome r l.drive.image l.drive.map l.fcb buffer ≡ searched_from pattern place
  unfolding searched found_at
  answers_found pattern place e r after buffer q a n b =
      rw (a, n, b) (ap (λ (f : Option ℕ). found_at G s l pattern (number_of G.entries f)) (sym q) ∙ from_found pattern place (ap is_some q))

  -- ---- 17
  pub first_refused : (asked : Asked) → pattern_right_rule l.fcb ≡ false → Decides BadName (own_rows G (calling 17 asked) l s)
  unfolding pattern_right_rule
  first_refused asked h =
      split (bool_cases (name_right_rule true l.fcb 1))
      (λ t. later (ap not t) (here (byte_asked (ex_of l.fcb) ∙ ap not (sym (and_then _ _ t) ∙ h)) refl))
      (λ f. here (ap not f) refl)

  pub first_searched : (asked : Asked) → pattern_right_rule l.fcb ≡ true → searched_from (pattern_of l.fcb) 0 ≡ own_step G (calling 17 asked) l s
  unfolding pattern_right_rule effect kind_of pattern place
  first_searched asked h =
      let n = ap not (and_left _ _ h) in
      let x = byte_asked (ex_of l.fcb) ∙ ap not (and_right _ _ h) in
      sym (split (bool_cases (is_some (find_hit_rule G (rows_of G l) s.user (pattern_of l.fcb) 0)))
      (λ t. own_carried G (calling 17 asked) l s (n & x & ap not t & tt) ∙ from_found (pattern_of l.fcb) 0 t)
      (λ f. own_refused G (calling 17 asked) l s SearchOver (later n (later x (here (ap not f) refl))) ∙ from_missing (pattern_of l.fcb) 0 f))

  -- ---- 18
  pub next_refused : (asked : Asked) → s.on ≡ 0 → Decides Failed (own_rows G (calling 18 asked) l s)
  next_refused asked h = let o : search_on s ≡ false = rw h in here (ap not o) refl

  pub next_searched : (asked : Asked) → (s.on ≡ 0 → ⊥) → searched_from s.pattern s.place ≡ own_step G (calling 18 asked) l s
  unfolding effect kind_of pattern place
  next_searched asked h =
      let o : search_on s ≡ true = rw (ne_eqb s.on 0 h) in
      sym (split (bool_cases (is_some (find_hit_rule G (rows_of G l) s.user s.pattern s.place)))
      (λ t. own_carried G (calling 18 asked) l s (ap not o & ap not t & tt) ∙ from_found s.pattern s.place t)
      (λ f. own_refused G (calling 18 asked) l s SearchOver (later (ap not o) (here (ap not f) refl)) ∙ from_missing s.pattern s.place f))
