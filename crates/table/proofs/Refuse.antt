-- A refusal comes from one row of the table, with a code that the table has for the call.
use Rattle.std.specs.Prelude.{◌≡◌, Bool, true, false, cond, List, [], ◌∷◌, ◌++◌, ℕ, ◌<◌, eqb, ltb, None, Option, Some, is_some}
use Rattle.std.proofs.Math.Path.{refl}
use Rattle.std.proofs.Common.{sym, ap, subst, ◌∙◌, ltb-true, eq-eqb, eqb-true}
use Rattle.std.proofs.Math.Bool.{not}
use Rattle.std.proofs.lemmas.Bool.{not-true, not-false}
use Rattle.lists.specs.Cases.{split, bool_cases, clash, not_both, cond_both}
use Rattle.format.specs.Diskette.{Geometry, last_record}
use Rattle.format.specs.Consistent.{consistent}
use Rattle.format.specs.Notes.{map_right}
use Rattle.format.specs.Fcb.{random_of_rule}
use Rattle.facts.specs.Found.{not_found, missed_row}
use Rattle.model.specs.declared.Asked.{Asked}
use Rattle.model.specs.declared.Session.{Session}
use Rattle.model.specs.declared.Code.{Code}
use Rattle.model.specs.Codes.{says_of, h_of}
use Rattle.model.specs.Kinds.{kind_of, is_call, one_of}
use Rattle.model.specs.Lent.{Lent, rows_of}
use Rattle.model.specs.Table.{disk_right_rule, Row, when, call_rows, own_rows, protection_holds, verdict}
use Rattle.table.specs.First.{◌&◌, NoneHolds, Decides, here, later, refused_same, refused_decides, decides_refused}
use Rattle.table.specs.Own.{calling, at_one, rows_for, verdict_rows, verdict_unlisted}
use Rattle.table.specs.Protection.{stopped_call, other_spared}
use Rattle.table.specs.Facts.{Ready}
use Rattle.table.specs.Reflect.{pattern_of_law, pattern_right_law, parameters_right_law, disk_right_law, ready_of}
use Rattle.table.specs.Refuse.{row_of, is_code, SearchEnds, ends17, ends18, gives, Refuses, unlisted, parameter, disk, protection, own}

-- rows whose codes fail a test decide no code that passes it
abbrev lacks : (Code → Bool) → List Row → Bool
lacks t [] = true
lacks t (r ∷ rs) = cond (t r.code) false (lacks t rs)

lacks_first : (a b : Bool) → cond a false b ≡ true → (a ≡ false) × (b ≡ true)
lacks_first true b h = clash (sym h)
lacks_first false b h = (refl, h)

abbrev Absent : (Code → Bool) → List Row → Type 0
Absent t rs = lacks t rs ≡ true

module _ (t : Code → Bool) (c : Code) (h : t c ≡ true) where
  other : {A : Type 0} (d : Code) → t d ≡ false → d ≡ c → A
  other d f q = not_both (t c) h (subst (λ (x : Code). t x ≡ false) q f)

  absent : {A : Type 0} (rs : List Row) → Decides c rs → Absent t rs → A
  absent rs (here {r = r} {rs = ts} y q) a = other r.code (lacks_first (t r.code) (lacks t ts) a).0 q
  absent rs (later {r = r} {rs = ts} f d) a = absent ts d (lacks_first (t r.code) (lacks t ts) a).1

  -- so a row that alone has it holds, where it is decided
  only_row : (test : Bool) (code : Code) (rs : List Row) → Decides c (when test code ∷ rs) → Absent t rs → test ≡ true
  only_row test code rs (here y q) a = y
  only_row test code rs (later f d) a = absent rs d a

  -- and rows in front, of other codes, have failed
  record Behind (front rs : List Row) : Type 0 where
    failed : NoneHolds front
    rest : Decides c rs

  behind : (front rs : List Row) → Absent t front → Decides c (front ++ rs) → Behind front rs
  behind [] rs a d = record { failed = tt; rest = d }
  behind (r ∷ front) rs a (here y q) = other r.code (lacks_first (t r.code) (lacks t front) a).0 q
  behind (r ∷ front) rs a (later f d) =
      let b = behind front rs (lacks_first (t r.code) (lacks t front) a).1 d in
      record { failed = f & b.failed; rest = b.rest }

-- every number of the one list is in the other
abbrev within : List ℕ → List ℕ → Bool
within [] ds = true
within (c ∷ cs) ds = cond (one_of c ds) (within cs ds) false

within_one : (n : ℕ) (cs ds : List ℕ) → within cs ds ≡ true → one_of n cs ≡ true → one_of n ds ≡ true
within_one n [] ds w h = clash (sym h)
within_one n (c ∷ cs) ds w h =
    split (bool_cases (eqb n c)) (λ e. rw (eqb-true n c e) (cond_both (one_of c ds) (within cs ds) w).0) (λ e. within_one n cs ds (cond_both (one_of c ds) (within cs ds) w).1 (rw e at h))

module _ (G : Geometry) (asked : Asked) (l : Lent) (s : Session) where
  -- a call's own rows refuse it with no other codes
  own_given : (code : Code) → Decides code (own_rows G asked l s) → one_of asked.number (gives code) ≡ true
  own_given code d =
      let r = row_of (λ (cs : List ℕ) (c : Code). within cs (gives c)) asked.number code (call_rows G asked l s) refl d in
      within_one asked.number r.calls (gives code) r.passes r.applies

  refuses_call : (code : Code) → is_call asked.number ≡ true → Decides code (rows_for G asked l s) → Refuses G asked l s code
  refuses_call code c (here t q) = parameter (sym q) c (not-true _ t)
  refuses_call code c (later f (here t q)) = disk (sym q) c (not-true _ t)
  refuses_call code c (later f (later g (here t q))) = protection (sym q) (stopped_call G asked l s t) (ready_of G asked l s (not-false _ f) (not-false _ g)) t
  refuses_call code c (later f (later g (later p d))) = own (own_given code d) (ready_of G asked l s (not-false _ f) (not-false _ g)) p d

  pub refuses : (code : Code) → verdict G asked l s ≡ Some code → Refuses G asked l s code
  refuses code q =
      split (bool_cases (is_call asked.number))
      (λ t. refuses_call code t (refused_decides code (rows_for G asked l s) (sym (verdict_rows G asked l s t) ∙ q)))
      (λ f. unlisted (refused_same code Code.NotListed (sym q ∙ verdict_unlisted G asked l s f)) f)

  -- a code that none of the rows before has comes from the call's own
  pub own_decides : (t : Code → Bool) (code : Code) → t code ≡ true → t Code.NotListed ≡ false → t Code.BadParameter ≡ false → t Code.BadDisk ≡ false
      → t Code.Protected ≡ false → Refuses G asked l s code → Ready G asked l s × Decides code (own_rows G asked l s)
  own_decides t code h u p d v (unlisted e f) = other t code h Code.NotListed u (sym e)
  own_decides t code h u p d v (parameter e c f) = other t code h Code.BadParameter p (sym e)
  own_decides t code h u p d v (disk e c f) = other t code h Code.BadDisk d (sym e)
  own_decides t code h u p d v (protection e c r f) = other t code h Code.Protected v (sym e)
  own_decides t code h u p d v (own g r o w) = (r, w)

  -- ---- no call is refused with an acceptance
  pub never_accepted : (k : ℕ) → verdict G asked l s ≡ Some (Code.Accepted k) → ⊥
  never_accepted k q = clash (sym (own_given (Code.Accepted k) (own_decides (is_code (Code.Accepted k)) (Code.Accepted k) refl refl refl refl refl (refuses (Code.Accepted k) q)).1))

  -- a row of the call's own decides, once those before have failed
  pub refused_own : (code : Code) → is_call asked.number ≡ true → Ready G asked l s → protection_holds G asked l s ≡ false → Decides code (own_rows G asked l s)
      → verdict G asked l s ≡ Some code
  refused_own code t r p d =
      verdict_rows G asked l s t
      ∙ decides_refused code (rows_for G asked l s)
      (later (ap not (parameters_right_law G asked l s r.fits r.time r.drive)) (later (ap not (disk_right_law G asked l s r.image_right r.map_right_law)) (later p d)))

  -- ---- a consistent image with a right map is never refused for the disk
  bad_disk : (code : Code) → eqb (h_of code) 1 ≡ true → Refuses G asked l s code → disk_right_rule G l asked ≡ false
  bad_disk code h (unlisted e f) = other (λ (c : Code). eqb (h_of c) 1) code h Code.NotListed refl (sym e)
  bad_disk code h (parameter e c f) = other (λ (c : Code). eqb (h_of c) 1) code h Code.BadParameter refl (sym e)
  bad_disk code h (disk e c f) = f
  bad_disk code h (protection e c r f) = other (λ (c : Code). eqb (h_of c) 1) code h Code.Protected refl (sym e)
  bad_disk code h (own g r p d) =
      not_both (eqb (h_of code) 1) h
      (not-true _ (row_of (λ (cs : List ℕ) (c : Code). not (eqb (h_of c) 1)) asked.number code (call_rows G asked l s) refl d).passes)

  pub never_bad_disk : (code : Code) → h_of code ≡ 1 → consistent G l.drive.image ≡ true → map_right G (rows_of G l) l.drive.map ≡ true
      → verdict G asked l s ≡ Some code → ⊥
  never_bad_disk code h right map q =
      not_both (disk_right_rule G l asked) (disk_right_law G asked l s right (λ z. map)) (bad_disk code (eq-eqb _ _ h) (refuses code q))

module _ (G : Geometry) (asked : Asked) (l : Lent) (s : Session) where
  -- ---- code 6 comes out only where the random record is over 262,143
  pub random_over : verdict G asked l s ≡ Some Code.BadRecord → last_record < random_of_rule l.fcb
  random_over q =
      let d = (own_decides G asked l s (is_code Code.BadRecord) Code.BadRecord refl refl refl refl refl (refuses G asked l s Code.BadRecord q)).1 in
      ltb-true _ _ (at_one (λ (n : ℕ). Decides Code.BadRecord (own_rows G (calling n asked) l s) → ltb last_record (random_of_rule l.fcb) ≡ true) asked.number (gives Code.BadRecord)
      (own_given G asked l s Code.BadRecord d)
      ((λ v. only_row (is_code Code.BadRecord) Code.BadRecord refl _ Code.BadRecord _ v refl)
      & (λ v. only_row (is_code Code.BadRecord) Code.BadRecord refl _ Code.BadRecord _ v refl) & tt) d)

  -- ---- a search is over exactly where its row decides
  pub search_over : (code : Code) → (says_of code).over ≡ true → Refuses G asked l s code → SearchEnds G asked l s asked.number
  search_over code h q =
      let d = own_decides G asked l s (λ (c : Code). (says_of c).over) code h refl refl refl refl q in
      let r = row_of (λ (cs : List ℕ) (c : Code). cond (says_of c).over (within cs (17 ∷ 18 ∷ [])) true) asked.number code (call_rows G asked l s) refl d.1 in
      at_one (λ (n : ℕ). Ready G (calling n asked) l s → Decides code (own_rows G (calling n asked) l s) → SearchEnds G asked l s n) asked.number (17 ∷ 18 ∷ [])
      (within_one asked.number r.calls (17 ∷ 18 ∷ []) (rw h at r.passes) r.applies)
      ((λ r v. let p = behind (λ (c : Code). (says_of c).over) code h (_ ∷ _ ∷ []) _ refl v in
      ends17 r (not-false _ p.failed.0) (pattern_of_law _ p.failed.1.0) (last_row _ _ p.rest))
      & (λ r v. let p = behind (λ (c : Code). (says_of c).over) code h (_ ∷ []) _ refl v in ends18 r (not-false _ p.failed.0) (last_row _ _ p.rest)) & tt)
      d.0 d.1
    where
      last_row : (r : Option ℕ) (c : Code) → Decides code (when (not (is_some r)) c ∷ []) → r ≡ None
      last_row r c v = not_found r (not-true _ (only_row (λ (x : Code). (says_of x).over) code h _ c [] v refl))

  pub over_search : (n : ℕ) → SearchEnds G asked l s n → verdict G (calling n asked) l s ≡ Some Code.SearchOver
  unfolding is_call kind_of
  over_search n (ends17 r name ex none) =
      refused_own G (calling 17 asked) l s Code.SearchOver refl r (other_spared G (calling 17 asked) l s refl) (later (ap not name) (later (pattern_right_law _ ex) (here (missed_row _ none) refl)))
  over_search n (ends18 r is-on none) = refused_own G (calling 18 asked) l s Code.SearchOver refl r (other_spared G (calling 18 asked) l s refl) (later (ap not is-on) (here (missed_row _ none) refl))
