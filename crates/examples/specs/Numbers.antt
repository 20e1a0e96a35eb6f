-- Examples g and h: the numbers that 35 and 36 put into r0 to r2.
use Rattle.std.specs.Prelude.{◌≡◌, refl, Bool, true, false, [], ◌∷◌, ℕ, ◌+◌, ◌*◌, ◌≤◌, ◌<◌, length, is_some}
use Rattle.std.proofs.Common.{subst, arith, eqb-true}
use Rattle.lists.specs.Cases.{split, bool_cases, not_both}
use Rattle.lists.specs.Tests.{and_left}
use Rattle.lists.specs.Below.{all_at}
use Rattle.lists.specs.Splice.{part, splice, part_splice_same}
use Rattle.table.specs.Own.{calling}
use Rattle.format.specs.Diskette.{Bytes, Geometry, extent_records}
use Rattle.format.specs.Names.{name_right_rule}
use Rattle.format.specs.Entries.{count_of, user_of, extent_of, end_of, named, find_named_rule}
use Rattle.format.specs.Consistent.{consistent_rows, consistent}
use Rattle.format.specs.Fcb.{cr_of}
use Rattle.facts.specs.Found.{FoundAt, is_found_law, not_found, none_says}
use Rattle.model.specs.declared.Asked.{Asked}
use Rattle.model.specs.declared.Session.{Session}
use Rattle.model.specs.Lent.{Lent, lend, rows_of}
use Rattle.model.specs.Entering.{three_bytes}
use Rattle.model.specs.Calls.{done, file_size_rule, sized, positioned}
use Rattle.model.specs.Kinds.{is_call, kind_of}
use Rattle.table.specs.Accept.{positions_none, sizes_right}
use Rattle.model.specs.Step.{step, effect, stamped, told}
use Rattle.fields.specs.Size.{size_covers, size_high, end_high}
use Rattle.table.specs.Present.{user_numbers}
use Rattle.table.specs.Protection.{other_spared}
use Rattle.table.specs.Facts.{Ready, Sizes, Positions}
use Rattle.table.proofs.Total.{step_carried}

-- the call answers 0, 0, and r0 to r2 of the FCB that it leaves are these bytes
pub record Gives (G : Geometry) (asked : Asked) (l : Lent) (s : Session) (bytes : Bytes) : Type 0 where
  pub is_a : (step G asked l s).answer.a ≡ 0
  pub is_h : (step G asked l s).answer.h ≡ 0
  pub is_random_law : part (step G asked l s).lent.fcb 33 3 ≡ bytes

gives_three : (G : Geometry) (asked : Asked) (l : Lent) (s : Session) (value : ℕ) → length l.fcb ≡ 36
    → step G asked l s ≡ done 0 s (lend l.drive.image l.drive.map (splice l.fcb 33 (three_bytes value)) l.buffer)
    → Gives G asked l s (three_bytes value)
gives_three G asked l s value long q =
    record { is_a = rw q; is_h = rw q; is_random_law = rw q (part_splice_same l.fcb 33 (three_bytes value) (omega arith)) }

-- ---- 36: 128 × extent + cr
position_gives : (G : Geometry) (asked : Asked) (l : Lent) (s : Session) → Ready G (calling 36 asked) l s → Positions G l s
    → Gives G (calling 36 asked) l s (three_bytes (extent_records * extent_of l.fcb + cr_of l.fcb))
unfolding positioned effect stamped told is_call kind_of
position_gives G asked l s ready p =
    gives_three G (calling 36 asked) l s (extent_records * extent_of l.fcb + cr_of l.fcb) ready.fits.fcb_long
    (step_carried G (calling 36 asked) l s refl ready (other_spared G (calling 36 asked) l s refl) (positions_none G asked l s p))

-- extent 1, cr 128
pub position_256 : (G : Geometry) (asked : Asked) (l : Lent) (s : Session) → Ready G (calling 36 asked) l s → extent_of l.fcb ≡ 1 → cr_of l.fcb ≡ 128
    → Gives G (calling 36 asked) l s (0 ∷ 1 ∷ 0 ∷ [])
unfolding extent_of
position_256 G asked l s ready ext cr =
    let q : extent_records * extent_of l.fcb + cr_of l.fcb ≡ 256 = omega arith in
    subst (λ (k : ℕ). Gives G (calling 36 asked) l s (three_bytes k)) q
    (position_gives G asked l s ready record { ex = omega arith; s2 = omega arith; cr = omega arith })

-- ---- 35: the largest of 128 × extent + count over the name's entries
pub size_step : (G : Geometry) (asked : Asked) (l : Lent) (s : Session) → Ready G (calling 35 asked) l s → Sizes G l s
    → step G (calling 35 asked) l s
    ≡ done 0 s (lend l.drive.image l.drive.map (splice l.fcb 33 (three_bytes (file_size_rule G (rows_of G l) (named false s.user l.fcb 1)))) l.buffer)
unfolding sized effect stamped told is_call kind_of
size_step G asked l s ready p = step_carried G (calling 35 asked) l s refl ready (other_spared G (calling 35 asked) l s refl) (sizes_right G asked l s p)

-- an entry of the name, with this extent and count
pub record HasEntry (G : Geometry) (l : Lent) (s : Session) (ext count : ℕ) : Type 0 where
  pub entry : ℕ
  pub below : entry < G.entries
  pub mine : named false s.user l.fcb 1 (rows_of G l entry) ≡ true
  pub extent : extent_of (rows_of G l entry) ≡ ext
  pub counted : count_of (rows_of G l entry) ≡ count

pub entry_size : (G : Geometry) (l : Lent) (s : Session) (ext count : ℕ) (h : HasEntry G l s ext count) → end_of (rows_of G l h.entry) ≡ 128 * ext + count
unfolding end_of
entry_size G l s ext count h = rw (h.extent, h.counted)

pub some_entry : (G : Geometry) (l : Lent) (s : Session) (ext count : ℕ) → HasEntry G l s ext count → FoundAt (find_named_rule G (rows_of G l) false s.user l.fcb 1)
unfolding find_named_rule
some_entry G l s ext count h =
    split (bool_cases (is_some (find_named_rule G (rows_of G l) false s.user l.fcb 1))) (λ t. is_found_law _ t)
    (λ f. not_both _ h.mine (none_says (λ (e : ℕ). named false s.user l.fcb 1 (rows_of G l e)) 0 G.entries (not_found _ f) h.entry (omega arith) h.below))

-- no entry of a consistent image is larger than 262,144 records
entry_high : (G : Geometry) (l : Lent) (s : Session) → consistent G l.drive.image ≡ true → s.user ≤ 15
    → (e : ℕ) → e < G.entries → named false s.user l.fcb 1 (rows_of G l e) ≡ true → end_of (rows_of G l e) ≤ 262144
unfolding consistent consistent_rows named
entry_high G l s right low e below mine =
    let is : user_of (rows_of G l e) ≡ s.user = eqb-true _ _ (and_left _ _ mine) in
    end_high (rows_of G l e) (user_numbers G (rows_of G l e) (all_at _ G.entries (and_left _ _ right) e below) (omega arith))

-- extent 2,047, of which 128 records are counted
pub size_largest : (G : Geometry) (asked : Asked) (l : Lent) (s : Session) → Ready G (calling 35 asked) l s → name_right_rule false l.fcb 1 ≡ true
    → HasEntry G l s 2047 128 → Gives G (calling 35 asked) l s (0 ∷ 0 ∷ 4 ∷ [])
size_largest G asked l s ready name h =
    let picks : Bytes → Bool = named false s.user l.fcb 1 in
    let least = size_covers G (rows_of G l) picks h.entry h.below h.mine in
    let most = size_high G (rows_of G l) picks 262144 (entry_high G l s ready.image_right ready.fits.user_low) in
    let q : file_size_rule G (rows_of G l) (named false s.user l.fcb 1) ≡ 262144 = omega (arith, entry_size G l s 2047 128 h) in
    subst (λ (k : ℕ). Gives G (calling 35 asked) l s (three_bytes k)) q
    (gives_three G (calling 35 asked) l s (file_size_rule G (rows_of G l) picks) ready.fits.fcb_long
    (size_step G asked l s ready record { name = name; some = some_entry G l s 2047 128 h }))
