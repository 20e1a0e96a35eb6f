-- FCBs that are current: one that has the row of its entry, and one that is like a current one.
use Rattle.std.specs.Prelude.{◌≡◌, true, false, ℕ, ◌≤◌, ◌<◌, length, set}
use Rattle.std.proofs.Common.{ap, sym, ◌∙◌, subst, inl, inr, arith}
use Rattle.lists.specs.Cases.{split, eq_or_ne}
use Rattle.format.specs.Diskette.{Bytes, Geometry, Sound, entry_bytes, slot_count, slots_on, extents}
use Rattle.format.specs.Entries.{entry_at, slot_of, user_of, extent_of, run_of, is_file_rule}
use Rattle.format.specs.Fcb.{fcb_bytes, fcb_right_rule, cr_of}
use Rattle.facts.specs.Names.{like_intro, right_cong}
use Rattle.consistency.specs.Facts.{Fine}
use Rattle.current.specs.Current.{fcb_says, fcb_is}
use Rattle.rows.specs.Entries.{length_entry_at}
use Rattle.model.specs.Closing.{closed_row_rule, closed_image, closed_map, closed_fcb}
use Rattle.model.specs.Entering.{copied, entered}
use Rattle.model.specs.Target.{written_fcb}
use Rattle.fields.specs.Agree.{Agree, SameName, is_file_asked, is_file_cong}
use Rattle.facts.specs.Naming.{named_intro, file_intro, file_run}
use Rattle.fields.specs.Closing.{slot_closed_old, slot_closed_new, file_closed, name_closed_fcb, slot_closed_fcb, extent_closed_fcb, fcb_right_closed_fcb}
use Rattle.fields.specs.Entering.{extent_entered, name_copied, slot_copied, extent_copied, row_copied, rest_copied}
use Rattle.fields.proofs.Entering.{name_entered, slot_entered, fcb_right_entered}
use Rattle.fields.specs.Target.{name_read, slot_read, extent_read, head_read, cr_read, name_written, head_written, cr_written}
use Rattle.invariant.specs.Close.{Held}
use Rattle.fields.specs.Images.{row_closed_image}
use Rattle.invariant.specs.Good.{Good}
use Rattle.effects.specs.View.{View, view_of}
use Rattle.effects.specs.Cur.{Cur}

-- ---- the fields of an FCB
-- with the name, ex and s2 of a right FCB, and cr in range
pub right_like : (f g : Bytes) → SameName g 1 f 1 → Agree g f 12 15 → cr_of g ≤ 128 → fcb_right_rule f ≡ true → fcb_right_rule g ≡ true
right_like f g name same cr h =
    let r = fcb_says f h in
    fcb_is g record {
      name = right_cong false g 1 f 1 name ∙ r.name;
      numbers = record {
        ex = rw (same 12 (omega arith) (omega arith)) r.numbers.ex;
        s2 = rw (same 14 (omega arith) (omega arith)) r.numbers.s2;
      };
      cr = cr;
    }

-- ---- an FCB that has the row of entry t
module _ (G : Geometry) (s : View) (user : ℕ) (f row : Bytes) (t : ℕ) (low : t < G.entries) (is : s.rows t ≡ row) where
  pub took_cur : user_of row ≡ user → fcb_right_rule f ≡ true → SameName f 1 row 1 → run_of G (extent_of row) ≡ run_of G (extent_of f)
      → ((j : ℕ) → j < slot_count → slot_of G f j ≡ slot_of G row j) → Cur G s user f t
  took_cur mine right name extent slots = record {
    right = right;
    low = low;
    file = ap (is_file_rule G user f 1 (extent_of f)) is
        ∙ file_intro G user f 1 (extent_of f) row (named_intro false user f 1 row mine (like_intro f 1 row 1 name)) extent;
    fits = λ j l. inl (slots j l ∙ ap (λ (r : Bytes). slot_of G r j) (sym is));
  }

-- an FCB that entered a fine entry: 15 and moves
pub entered_cur : (G : Geometry) (s : View) (user : ℕ) (fcb row : Bytes) (ext t : ℕ) → t < G.entries → s.rows t ≡ row → user_of row ≡ user
    → length fcb ≡ fcb_bytes → length row ≡ entry_bytes → Fine G row → run_of G (extent_of row) ≡ run_of G ext → ext < extents → cr_of fcb ≤ 128
    → Cur G s user (entered fcb row ext) t
entered_cur G s user fcb row ext t low is mine hf hr fine covers x cr =
    let hf' : 32 ≤ length fcb = omega arith in
    let hr' : 32 ≤ length row = omega arith in
    took_cur G s user (entered fcb row ext) row t low is mine
    (fcb_right_entered fcb row ext hf' hr' fine.name fine.numbers x cr)
    (name_entered fcb row ext hf') (covers ∙ ap (run_of G) (sym (extent_entered fcb row ext hf' hr'))) (λ j l. slot_entered fcb row ext hf' G j)

-- an FCB that took the row of a fine entry as it is: 22
pub copied_cur : (G : Geometry) (s : View) (user : ℕ) (fcb row : Bytes) (t : ℕ) → t < G.entries → s.rows t ≡ row → user_of row ≡ user
    → length fcb ≡ fcb_bytes → length row ≡ entry_bytes → Fine G row → cr_of fcb ≤ 128 → Cur G s user (copied fcb row) t
copied_cur G s user fcb row t low is mine hf hr fine cr =
    let hf' : 32 ≤ length fcb = omega arith in
    let hr' : 32 ≤ length row = omega arith in
    let at = row_copied fcb row hf' hr' in
    took_cur G s user (copied fcb row) row t low is mine
    (fcb_is (copied fcb row) record {
      name = right_cong false (copied fcb row) 1 row 1 (name_copied fcb row hf' hr') ∙ fine.name;
      numbers = record {
        ex = rw (at 12 (omega arith) (omega arith)) fine.numbers.ex;
        s2 = rw (at 14 (omega arith) (omega arith)) fine.numbers.s2;
      };
      cr = rw (rest_copied fcb row hf' hr' 36 32 (omega arith) (omega arith)) cr;
    })
    (name_copied fcb row hf' hr') (ap (run_of G) (sym (extent_copied fcb row hf' hr'))) (λ j l. slot_copied fcb row hf' hr' G j)

-- ---- an FCB that is like a current one
module _ (G : Geometry) (s : View) (user : ℕ) (f g : Bytes) (e : ℕ) where
  pub like_cur : fcb_right_rule g ≡ true → SameName g 1 f 1 → extent_of g ≡ extent_of f → ((j : ℕ) → j < slot_count → slot_of G g j ≡ slot_of G f j)
      → Cur G s user f e → Cur G s user g e
  like_cur right name extent slots c = record {
    right = right;
    low = c.low;
    file = is_file_asked g 1 f 1 name G user (extent_of g) (s.rows e) ∙ ap (λ (x : ℕ). is_file_rule G user f 1 x (s.rows e)) extent ∙ c.file;
    fits = λ j l. split (c.fits j l) (λ q. inl (slots j l ∙ q)) (λ h. inr (subst (Held G s.rows s.notes e j) (sym (slots j l)) h));
  }

-- one whose cr is set: reads
pub set_cur : (G : Geometry) (s : View) (user : ℕ) (f : Bytes) (cr e : ℕ) → length f ≡ fcb_bytes → cr ≤ 128 → Cur G s user f e → Cur G s user (set f 32 cr) e
set_cur G s user f cr e hf h c =
    like_cur G s user f (set f 32 cr) e
    (right_like f (set f 32 cr) (name_read f cr) (λ i a b. head_read f cr i (omega arith) (omega arith)) (rw (cr_read f cr hf) h) c.right)
    (name_read f cr) (extent_read f cr) (λ j l. slot_read f cr G j) c

-- a right FCB stays so when a record is written through it
pub right_written : (G : Geometry) (f : Bytes) (count j b r cr : ℕ) → length f ≡ fcb_bytes → j < slots_on G → cr ≤ 128
    → fcb_right_rule f ≡ true → fcb_right_rule (written_fcb G f count j b r cr) ≡ true
right_written G f count j b r cr hf hj hc h =
    right_like f (written_fcb G f count j b r cr) (name_written G f count j b r cr hj) (λ i p q. head_written G f count j b r cr hj i (omega arith) q)
    (rw (cr_written G f count j b r cr hj hf) hc) h

-- one that was closed: its entry has all its blocks now
module _ {G : Geometry} (S : Sound G) (img map : Bytes) (g : Good G img map) (user : ℕ) (hu : user ≤ 15) (fcb : Bytes) (hf : length fcb ≡ fcb_bytes) (e : ℕ)
    (c : Cur G (view_of G img map) user fcb e) where
  slots_closed : (j : ℕ) → j < slot_count → slot_of G fcb j ≡ slot_of G (closed_row_rule G (entry_at G img e) fcb) j
  slots_closed j l =
      let long = length_entry_at S img g.image_long e c.low in
      split (eq_or_ne (slot_of G (entry_at G img e) j) 0) (λ z. sym (slot_closed_new G (entry_at G img e) fcb long j z))
      (λ z. split (c.fits j l) (λ q. q ∙ sym (slot_closed_old G (entry_at G img e) fcb long j z)) (λ h. absurd (z h.was)))

  pub closed_cur : Cur G (view_of G (closed_image G img e fcb) (closed_map G (entry_at G img e) fcb map)) user (closed_fcb fcb) e
  closed_cur =
      let hf' : 32 ≤ length fcb = omega arith in
      let here = row_closed_image S img g.image_long e c.low fcb in
      let long = length_entry_at S img g.image_long e c.low in
      record {
        right = fcb_right_closed_fcb fcb hf' ∙ c.right;
        low = c.low;
        file = ap (is_file_rule G user (closed_fcb fcb) 1 (extent_of (closed_fcb fcb))) here
            ∙ is_file_cong G user (closed_fcb fcb) 1 (extent_of (closed_fcb fcb)) (closed_row_rule G (entry_at G img e) fcb) (entry_at G img e)
            (file_closed G (entry_at G img e) fcb long (file_run G user fcb 1 (extent_of fcb) (entry_at G img e) c.file))
            ∙ is_file_asked (closed_fcb fcb) 1 fcb 1 (name_closed_fcb fcb hf') G user (extent_of (closed_fcb fcb)) (entry_at G img e)
            ∙ ap (λ (x : ℕ). is_file_rule G user fcb 1 x (entry_at G img e)) (extent_closed_fcb fcb hf') ∙ c.file;
        fits = λ j l. inl (slot_closed_fcb fcb hf' G j ∙ slots_closed j l ∙ sym (ap (λ (r : Bytes). slot_of G r j) here));
      }
