-- The tests of single rows and the facts imply each other.
use Rattle.std.specs.Prelude.{◌≡◌, refl, ◌⊎◌, Bool, true, false, ℕ, ◌≤◌, ◌<◌, eqb, leb, ltb, get_or, None, Option, Some, is_some}
use Rattle.std.proofs.Math.Path.{sym, ap}
use Rattle.std.proofs.Common.{◌∙◌, inl, inr, arith}
use Rattle.std.proofs.Math.Bool.{not}
use borrow.Author.Tests.{eqb-true, eq-eqb, ne_eqb, leb-true, le-leb, ltb-false, le-ltb, not-false}
use Rattle.lists.specs.Cases.{split, bool_cases, eq_or_ne, clash}
use Rattle.lists.specs.Tests.{◌and◌, ◌or◌, and_left, and_right, and_both, and_fails_left, and_fails_right, second_fails, or_left, or_right, or_then, or_cases}
use Rattle.lists.specs.Below.{any_never}
use Rattle.format.specs.Diskette.{Geometry}
use Rattle.format.specs.Entries.{named, read_only, find_named_rule}
use Rattle.format.specs.Consistent.{consistent}
use Rattle.format.specs.Notes.{map_right}
use Rattle.facts.specs.Long.{long_says, long_is}
use Rattle.facts.specs.Found.{FoundAt, found_row, missed_row, is_found_law, not_found, none_says}
use Rattle.model.specs.declared.Session.{Session}
use Rattle.model.specs.Lent.{Lent, rows_of}
use Rattle.model.specs.declared.Asked.{Asked}
use Rattle.model.specs.Kinds.{uses_fcb_rule}
use Rattle.table.specs.Own.{calling}
use Rattle.model.specs.Table.{time_right_rule, lengths_right_rule, parameters_right_rule, disk_right_rule, any_named, any_read_only_rule, position_right_rule}
use Rattle.table.specs.Facts.{Fits, Positions, Ready}

-- ---- tests of look-ups
pub found : (r : Option ℕ) → not (is_some r) ≡ false → FoundAt r
found r h = is_found_law r (not-false _ h)

pub missed : (r : Option ℕ) → FoundAt r → not (is_some r) ≡ false
missed r f = found_row r f.is

pub either_found : (r q : Option ℕ) → (not (is_some r) and not (is_some q)) ≡ false → r ≡ None → FoundAt q
either_found r q h z = found q (second_fails _ _ h (missed_row r z))

pub either_missed : (r q : Option ℕ) → (r ≡ None → FoundAt q) → (not (is_some r) and not (is_some q)) ≡ false
either_missed (Some k) q f = and_fails_left _ _ refl
either_missed None q f = and_fails_right _ _ (missed q (f refl))

-- ---- tests of numbers
pub pattern_of_law : (x : ℕ) → (ltb 31 x and not (eqb x 63)) ≡ false → (x ≤ 31) ⊎ (x ≡ 63)
pattern_of_law x h = split (bool_cases (ltb 31 x)) (λ t. inr (eqb-true _ _ (not-false _ (second_fails _ _ h t)))) (λ f. inl (ltb-false _ _ f))

pub pattern_right_law : (x : ℕ) → (x ≤ 31) ⊎ (x ≡ 63) → (ltb 31 x and not (eqb x 63)) ≡ false
pattern_right_law x (inl h) = and_fails_left _ _ (le-ltb _ _ h)
pattern_right_law x (inr h) = and_fails_right _ _ (ap not (eq-eqb _ _ h))

pub argument_of : (a : ℕ) → not (eqb a 255 or leb a 15) ≡ false → (a ≡ 255) ⊎ (a ≤ 15)
argument_of a h = split (or_cases _ _ (not-false _ h)) (λ t. inl (eqb-true _ _ t)) (λ t. inr (leb-true _ _ t))

-- ---- lengths, user, place and drive
module _ (G : Geometry) (asked : Asked) (l : Lent) (s : Session) where
  pub fits_of : parameters_right_rule G l asked s ≡ true → Fits G l s
  unfolding parameters_right_rule lengths_right_rule
  fits_of h =
      let p = and_left _ _ h in
      let t = and_right _ _ h in
      record {
        image_long = long_says G l.drive.image (and_left _ _ p);
        map_long = eqb-true _ _ (and_left _ _ (and_right _ _ p));
        fcb_long = eqb-true _ _ (and_left _ _ (and_right _ _ (and_right _ _ p)));
        buffer_long = eqb-true _ _ (and_right _ _ (and_right _ _ (and_right _ _ p)));
        user_low = leb-true _ _ (and_left _ _ t);
        place_low = leb-true _ _ (and_left _ _ (and_right _ _ t));
      }

  pub drive_of : parameters_right_rule G l asked s ≡ true → uses_fcb_rule asked.number ≡ true → get_or l.fcb 0 0 ≤ 1
  unfolding parameters_right_rule
  drive_of h u = leb-true _ _ (sym (or_then _ _ (ap not u)) ∙ and_right _ _ (and_right _ _ (and_right _ _ (and_right _ _ h))))

  pub time_of : parameters_right_rule G l asked s ≡ true → time_right_rule asked ≡ true
  unfolding parameters_right_rule
  time_of h = and_left _ _ (and_right _ _ (and_right _ _ (and_right _ _ h)))

  drive_right : (uses_fcb_rule asked.number ≡ true → get_or l.fcb 0 0 ≤ 1) → (not (uses_fcb_rule asked.number) or leb (get_or l.fcb 0 0) 1) ≡ true
  drive_right d = split (bool_cases (uses_fcb_rule asked.number)) (λ t. or_right _ _ (le-leb _ _ (d t))) (λ f. or_left _ _ (ap not f))

  pub parameters_right_law : Fits G l s → time_right_rule asked ≡ true → (uses_fcb_rule asked.number ≡ true → get_or l.fcb 0 0 ≤ 1) → parameters_right_rule G l asked s ≡ true
  unfolding parameters_right_rule lengths_right_rule
  parameters_right_law f t d =
      and_both _ _
      (and_both _ _ (long_is G l.drive.image f.image_long) (and_both _ _ (eq-eqb _ _ f.map_long) (and_both _ _ (eq-eqb _ _ f.fcb_long) (eq-eqb _ _ f.buffer_long))))
      (and_both _ _ (le-leb _ _ f.user_low) (and_both _ _ (le-leb _ _ f.place_low) (and_both _ _ t (drive_right d))))

  -- ---- the image and the map
  pub image_of : disk_right_rule G l asked ≡ true → consistent G l.drive.image ≡ true
  unfolding disk_right_rule
  image_of h = and_left _ _ h

  pub map_of : disk_right_rule G l asked ≡ true → (asked.number ≡ 13 → ⊥) → map_right G (rows_of G l) l.drive.map ≡ true
  unfolding disk_right_rule
  map_of h ne = sym (or_then _ _ (ne_eqb asked.number 13 ne)) ∙ and_right _ _ h

  map_right_law : ((asked.number ≡ 13 → ⊥) → map_right G (rows_of G l) l.drive.map ≡ true) → (eqb asked.number 13 or map_right G (rows_of G l) l.drive.map) ≡ true
  map_right_law m = split (eq_or_ne asked.number 13) (λ q. or_left _ _ (eq-eqb _ _ q)) (λ q. or_right _ _ (m q))

  pub disk_right_law : consistent G l.drive.image ≡ true → ((asked.number ≡ 13 → ⊥) → map_right G (rows_of G l) l.drive.map ≡ true) → disk_right_rule G l asked ≡ true
  unfolding disk_right_rule
  disk_right_law c m = and_both _ _ c (map_right_law m)

  -- what the first three rows say where they pass
  pub ready_of : parameters_right_rule G l asked s ≡ true → disk_right_rule G l asked ≡ true → Ready G asked l s
  ready_of p d = record { fits = fits_of p; time = time_of p; drive = drive_of p; image_right = image_of d; map_right_law = map_of d }

-- a log-in takes any map, and no FCB
pub login_ready : (G : Geometry) (asked : Asked) (l : Lent) (s : Session) → Fits G l s → time_right_rule asked ≡ true → consistent G l.drive.image ≡ true → Ready G (calling 13 asked) l s
unfolding uses_fcb_rule time_right_rule
login_ready G asked l s f t c = record { fits = f; time = t; drive = λ u. clash (sym u); image_right = c; map_right_law = λ ne. absurd (ne refl) }

-- ---- the tests of single calls
module _ (G : Geometry) (l : Lent) (s : Session) where
  pub some_of : (wild : Bool) (q : ℕ) → not (any_named G l wild s.user q) ≡ false → FoundAt (find_named_rule G (rows_of G l) wild s.user l.fcb q)
  unfolding any_named
  some_of wild q h = found _ h

  pub some_right : (wild : Bool) (q : ℕ) → FoundAt (find_named_rule G (rows_of G l) wild s.user l.fcb q) → not (any_named G l wild s.user q) ≡ false
  unfolding any_named
  some_right wild q f = missed _ f

  pub none_of : (q : ℕ) → any_named G l false s.user q ≡ false → (e : ℕ) → e < G.entries → named false s.user l.fcb q (rows_of G l e) ≡ false
  unfolding any_named find_named_rule
  none_of q h e b = none_says _ 0 G.entries (not_found _ h) e (omega arith) b

  pub writable_of : (wild : Bool) → any_read_only_rule G l wild s.user ≡ false
      → (e : ℕ) → e < G.entries → named wild s.user l.fcb 1 (rows_of G l e) ≡ true → read_only (rows_of G l e) ≡ false
  unfolding any_read_only_rule
  writable_of wild h e b t = second_fails _ _ (any_never _ G.entries h e b) t

  pub positions_of : not (position_right_rule l.fcb) ≡ false → Positions G l s
  unfolding position_right_rule
  positions_of h =
      let t = not-false _ h in
      record { ex = leb-true _ _ (and_left _ _ (and_left _ _ t)); s2 = leb-true _ _ (and_right _ _ (and_left _ _ t)); cr = leb-true _ _ (and_right _ _ t) }

  pub positions_right : Positions G l s → not (position_right_rule l.fcb) ≡ false
  unfolding position_right_rule
  positions_right p = ap not (and_both _ _ (and_both _ _ (le-leb _ _ p.ex) (le-leb _ _ p.s2)) (le-leb _ _ p.cr))
