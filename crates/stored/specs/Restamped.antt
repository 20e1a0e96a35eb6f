-- What a disk that is restamped has in common with the one before: every row but date entries, every look-up, and every record past the directory.
use Rattle.std.specs.Prelude.{◌≡◌, refl, Bool, true, false, List, [], ◌∷◌, ◌++◌, ℕ, ◌≤◌, ◌<◌, eqb}
use Rattle.std.proofs.Common.{ap, sym, ◌∙◌, inl, inr}
use Rattle.std.proofs.Math.Path.{subst}
use Rattle.lists.specs.Cases.{split}
use Rattle.format.specs.Diskette.{Bytes, Geometry, Sound, record_at}
use Rattle.format.specs.Entries.{entry_at, ex_of, slot_of, empty, named, is_file_rule, find_file_rule, find_named_rule, find_empty_rule}
use Rattle.format.specs.Dates.{is_dates, fourth_of, asks_access, dated, with_stamp}
use Rattle.facts.specs.Beside.{fourth_below}
use Rattle.disk.specs.Places.{block_records}
use Rattle.rows.specs.Entries.{area_records}
use Rattle.model.specs.declared.Asked.{Asked}
use Rattle.model.specs.Lent.{protected}
use Rattle.model.specs.Closing.{close_changes_rule}
use Rattle.model.specs.Calls.{file_size_rule}
use Rattle.model.specs.Stamps.{Stamp, stamped_with}
use Rattle.table.specs.Total.{InRange}
use Rattle.invariant.specs.Good.{Good}
use Rattle.invariant.specs.Stamps.{Each, each_join, Placed, stamped_all}
use Rattle.effects.specs.View.{View, view_of, Names}
use Rattle.effects.specs.Effect.{Effect}
use Rattle.effects.specs.Cur.{Cur, cur_uses}
use Rattle.effects.specs.Alike.{Alike, alike_same, dates_alike, asks_alike, used_row, empty_alike, empty_same, named_alike, file_alike, named_same, file_same, size_alike}
use Rattle.effects.proofs.Alike.{alike_effect, cur_alike}
use Rattle.effects.specs.Stamps.{stamped_alike}
use Rattle.demands.specs.Runs.{Disk}
use Rattle.stored.specs.Closed.{Sane, seen_on, First, Fresh, Access, Restamped}
use Rattle.stored.specs.Kept.{first_kept}

-- ---- stamps and more stamps
each_more : (P Q : Stamp → Type 0) → ((x : Stamp) → P x → Q x) → (xs : List Stamp) → Each P xs → Each Q xs
each_more P Q more [] a = tt
each_more P Q more (x ∷ xs) a = (more x a.0, each_more P Q more xs a.1)

stamped_join : (G : Geometry) (xs ys : List Stamp) (img : Bytes) → stamped_with G (xs ++ ys) img ≡ stamped_with G ys (stamped_with G xs img)
stamped_join G [] ys img = refl
stamped_join G (x ∷ xs) ys img = stamped_join G xs ys (with_stamp G img x.entry x.which x.bytes)

module _ (G : Geometry) (P : Stamp → Type 0) (d t : Disk) where
  pub restamped_none : t.drive ≡ d.drive → t.session.user ≡ d.session.user → t.session.lifted ≡ d.session.lifted
      → (InRange G d.session → InRange G t.session) → Restamped G P d t
  restamped_none q user lifted range = record {
    stamps = [];
    each = tt;
    placed = tt;
    dates = inl refl;
    image = ap (λ x. x.image) q;
    map = ap (λ x. x.map) q;
    user = user;
    lifted = lifted;
    range = range;
  }

  pub restamped_more : (Q : Stamp → Type 0) → ((x : Stamp) → P x → Q x) → Restamped G P d t → Restamped G Q d t
  restamped_more Q more w = record {
    stamps = w.stamps;
    each = each_more P Q more w.stamps w.each;
    placed = w.placed;
    dates = w.dates;
    image = w.image;
    map = w.map;
    user = w.user;
    lifted = w.lifted;
    range = w.range;
  }

  -- without a stamp the image is the same
  pub unstamped : (w : Restamped G P d t) → w.stamps ≡ [] → t.drive.image ≡ d.drive.image
  unstamped w z = w.image ∙ ap (λ (xs : List Stamp). stamped_with G xs d.drive.image) z

  pub restamped_then : (u : Disk) → Restamped G P d t → Restamped G P t u → Restamped G P d u
  restamped_then u w x = record {
    stamps = w.stamps ++ x.stamps;
    each = each_join P w.stamps x.stamps w.each x.each;
    placed = each_join (Placed G) w.stamps x.stamps w.placed x.placed;
    dates = split w.dates
        (λ z. split x.dates (λ y. inl (ap (λ (xs : List Stamp). xs ++ x.stamps) z ∙ y))
        (λ y. inr (ap (λ (i : Bytes). dated (entry_at G i)) (sym (unstamped w z)) ∙ y)))
        (λ y. inr y);
    image = x.image ∙ ap (stamped_with G x.stamps) w.image ∙ sym (stamped_join G w.stamps x.stamps d.drive.image);
    map = x.map ∙ w.map;
    user = x.user ∙ w.user;
    lifted = x.lifted ∙ w.lifted;
    range = λ r. x.range (w.range r);
  }

-- ---- a disk and the same disk restamped
module _ {G : Geometry} (S : Sound G) (P : Stamp → Type 0) (d t : Disk) (sane : Sane G d) (w : Restamped G P d t) where
  pub stamped_good : Good G t.drive.image d.drive.map
  stamped_good =
      split w.dates (λ z. subst (λ (i : Bytes). Good G i d.drive.map) (sym (unstamped G P d t w z)) sane.good)
      (λ y. subst (λ (i : Bytes). Good G i d.drive.map) (sym w.image)
      (stamped_all S d.drive.map w.stamps d.drive.image sane.good y w.placed).good)

  pub sane_restamped : Sane G t
  sane_restamped = record { good = subst (Good G t.drive.image) (sym w.map) stamped_good; range = w.range sane.range }

  pub restamped_alike : Alike G d.drive.image t.drive.image
  restamped_alike =
      split w.dates (λ z. subst (Alike G d.drive.image) (sym (unstamped G P d t w z)) (alike_same G d.drive.image))
      (λ y. subst (Alike G d.drive.image) (sym w.image) (stamped_alike S d.drive.map w.stamps d.drive.image sane.good y w.placed))

  pub row_restamped : (e : ℕ) → e < G.entries → is_dates (entry_at G d.drive.image e) ≡ false → entry_at G t.drive.image e ≡ entry_at G d.drive.image e
  row_restamped = restamped_alike.row

  pub recs_restamped : (r : ℕ) → area_records G ≤ r → r < block_records G → record_at G t.drive.image r ≡ record_at G d.drive.image r
  recs_restamped = restamped_alike.recs

  pub dates_restamped : (e : ℕ) → e < G.entries → is_dates (entry_at G t.drive.image e) ≡ is_dates (entry_at G d.drive.image e)
  dates_restamped = dates_alike G d.drive.image t.drive.image restamped_alike

  pub empty_restamped : (e : ℕ) → e < G.entries → empty (entry_at G t.drive.image e) ≡ empty (entry_at G d.drive.image e)
  empty_restamped = empty_alike G d.drive.image t.drive.image restamped_alike

  pub find_empty_restamped : find_empty_rule G (entry_at G t.drive.image) ≡ find_empty_rule G (entry_at G d.drive.image)
  find_empty_restamped = empty_same G d.drive.image t.drive.image restamped_alike

  module _ (user : ℕ) (hu : user ≤ 15) (f : Bytes) where
    pub named_restamped : (wild : Bool) (e : ℕ) → e < G.entries
        → named wild user f 1 (entry_at G t.drive.image e) ≡ named wild user f 1 (entry_at G d.drive.image e)
    named_restamped = named_alike G d.drive.image t.drive.image restamped_alike user hu f 1

    pub find_named_restamped : (wild : Bool) → find_named_rule G (entry_at G t.drive.image) wild user f 1 ≡ find_named_rule G (entry_at G d.drive.image) wild user f 1
    find_named_restamped = named_same G d.drive.image t.drive.image restamped_alike user hu f 1

    pub find_file_restamped : (ext : ℕ) → find_file_rule G (entry_at G t.drive.image) user f 1 ext ≡ find_file_rule G (entry_at G d.drive.image) user f 1 ext
    find_file_restamped = file_same G d.drive.image t.drive.image restamped_alike user hu f 1

    pub size_restamped : file_size_rule G (entry_at G t.drive.image) (named false user f 1) ≡ file_size_rule G (entry_at G d.drive.image) (named false user f 1)
    size_restamped = size_alike G d.drive.image t.drive.image restamped_alike user hu f 1 false

    -- ---- closed records, both ways
    unfoldable pub nobody : Names
    nobody r = false

    pub on : Effect G (seen_on G d) (view_of G t.drive.image d.drive.map) nobody
    on = alike_effect G d.drive.image t.drive.image restamped_alike d.drive.map sane.good nobody

    -- the map is the same
    pub view_same : seen_on G t ≡ view_of G t.drive.image d.drive.map
    view_same = ap (view_of G t.drive.image) w.map

    pub first_restamped : First G (seen_on G d) user f → First G (seen_on G t) user f
    unfolding nobody
    first_restamped h =
        subst (λ (s : View). First G s user f) (sym view_same)
        (first_kept S (seen_on G d) (view_of G t.drive.image d.drive.map) nobody user hu f on (λ r m. refl) h)

    cur_restamped : (e : ℕ) → Cur G (seen_on G d) user f e → Cur G (seen_on G t) user f e
    cur_restamped e c =
        subst (λ (s : View). Cur G s user f e) (sym view_same)
        (cur_alike G d.drive.image t.drive.image restamped_alike d.drive.map sane.good S user hu f e c)

-- an access stamp then is one before
pub access_before : {G : Geometry} (S : Sound G) (P : Stamp → Type 0) (d t : Disk) → Sane G d → Restamped G P d t → (a : Asked) (f : Bytes) (x : Stamp)
    → Access G a t f x → Access G a d f x
unfolding protected
access_before {G} S P d t sane w a f x h =
    let like = restamped_alike S P d t sane w in
    record {
      first = h.first;
      time = h.time;
      low = h.low;
      file = sym (file_alike G d.drive.image t.drive.image like d.session.user sane.range.user f 1 (ex_of f) x.entry h.low)
          ∙ subst (λ (u : ℕ). is_file_rule G u f 1 (ex_of f) (entry_at G t.drive.image x.entry) ≡ true) w.user h.file;
      asked = sym (asks_alike G d.drive.image t.drive.image like asks_access) ∙ h.asked;
      dates = sym (dates_alike G d.drive.image t.drive.image like (fourth_of x.entry) (fourth_below S x.entry h.low)) ∙ h.dates;
      lifted = ap (λ (b : ℕ). eqb b 0) (sym w.lifted) ∙ h.lifted;
    }

-- a fresh FCB stays one
pub fresh_restamped : {G : Geometry} (S : Sound G) (P : Stamp → Type 0) (d t : Disk) → Restamped G P d t → (f : Bytes) (e : ℕ) → Fresh G d f e → Fresh G t f e
fresh_restamped {G} S P d t w f e k =
    let uses = cur_uses G (seen_on G d) d.session.user k.sane.range.user f e k.cur in
    let row : entry_at G t.drive.image e ≡ entry_at G d.drive.image e =
    used_row G d.drive.image t.drive.image (restamped_alike S P d t k.sane w) e k.cur.low uses in
    record {
      sane = sane_restamped S P d t k.sane w;
      long = k.long;
      drive = k.drive;
      cur = subst (λ (u : ℕ). Cur G (seen_on G t) u f e) (sym w.user)
          (cur_restamped S P d t k.sane w d.session.user k.sane.range.user f e k.cur);
      slots = λ j l. k.slots j l ∙ ap (λ (r : Bytes). slot_of G r j) (sym row);
      same = ap (λ (r : Bytes). close_changes_rule G r f) row ∙ k.same;
    }
