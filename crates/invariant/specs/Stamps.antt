-- The stamps of a call: each stands beside an entry, they keep image and map good, and each stamp of the disk becomes the newest of them or stays.
use Rattle.std.specs.Prelude.{◌≡◌, refl, ◌⊎◌, Bool, true, false, cond, not, List, [], ◌∷◌, ◌++◌, ℕ, ◌%◌, ◌≤◌, ◌<◌, eqb, Some}
use Rattle.std.proofs.Common.{ap, sym, ◌∙◌, subst, inl, inr, arith, eqb-true, eq-eqb}
use Rattle.lists.specs.Cases.{split, bool_cases, eq_or_ne, not_both}
use Rattle.lists.specs.Tests.{◌and◌, and_left, and_right, and_both}
use Rattle.format.specs.Diskette.{Bytes, Geometry, Sound, record_at, entries_per_record}
use Rattle.format.specs.Entries.{entry_at, user_of, used, empty, find_empty_rule}
use Rattle.format.specs.Dates.{is_dates, dated, fourth_of, bcd, stamp_right, stamp_at, with_stamp, asks_create, asks_update, asks_access, asks}
use Rattle.disk.specs.Places.{block_records}
use Rattle.rows.specs.Entries.{area_records, length_entry_at}
use Rattle.facts.specs.Find.{file_says, empty_says}
use Rattle.consistency.specs.Naming.{file_used}
use Rattle.model.specs.declared.Asked.{Asked}
use Rattle.model.specs.declared.Session.{Session}
use Rattle.model.specs.declared.Plan.{Plan}
use Rattle.model.specs.declared.Kind.{Kind}
use Rattle.model.specs.declared.Kind.TheVariants.{Unlisted, Quiet, Search, User, Settle, Close, Delete, Create, Rename, Read, Write}
use Rattle.model.specs.Kinds.{kind_of}
use Rattle.model.specs.Lent.{Lent, rows_of, protected}
use Rattle.model.specs.Table.{time_right_rule, asked_entry}
use Rattle.model.specs.Target.{present_entry, plan}
use Rattle.model.specs.Closing.{close_changes_rule}
use Rattle.model.specs.Stamps.{Stamp, time_stamp_rule, no_stamp, first, update, only_if, where_dated, stamped_with, access_stamps, close_stamps, new_stamps, create_stamps, move_stamps, stamps_by}
use Rattle.facts.specs.Beside.{Beside, fourth_below}
use Rattle.fields.specs.Stamps.{StampOk, user_stamped, row_with_stamp, row_with_stamp_other, stamp_same, stamp_other, record_with_stamp}
use Rattle.table.specs.Facts.{Fits, AcceptedCall}
use Rattle.table.specs.Accept.{own_at}
use Rattle.table.specs.Plans.{entry_of, Block, There, Planned, stay, move, make, planned_read, planned_write}
use Rattle.invariant.specs.Good.{Good}
use Rattle.invariant.specs.Carry.{plain_no_dates}
use Rattle.invariant.specs.Updates.{not_fourth, stamp_kept, dates_still, good_stamped}
use Rattle.invariant.specs.RecordCalls.{present_below, present_used}

-- ---- lists of stamps
abbrev pub Each : (Stamp → Type 0) → List Stamp → Type 0
Each P [] = Unit {0}
Each P (x ∷ xs) = P x × Each P xs

pub each_join : (P : Stamp → Type 0) (xs ys : List Stamp) → Each P xs → Each P ys → Each P (xs ++ ys)
each_join P [] ys a b = b
each_join P (x ∷ xs) ys a b = (a.0, each_join P xs ys a.1 b)

pub each_only : (P : Stamp → Type 0) (b : Bool) (x : Stamp) → P x → Each P (only_if b x)
each_only P true x p = (p, tt)
each_only P false x p = tt

-- with date entries or without
pub where_cases : (P : List Stamp → Type 0) (b : Bool) (xs : List Stamp) → (b ≡ true → P xs) → P [] → P (where_dated b xs)
where_cases P b [] f z = z
where_cases P true (x ∷ xs) f z = f refl
where_cases P false (x ∷ xs) f z = z

-- a stamp that can be made: beside an entry that is not in the fourth position
pub record Placed (G : Geometry) (x : Stamp) : Type 0 where
  pub below : x.entry < G.entries
  pub beside : x.entry % entries_per_record < 3
  pub two : x.which < 2
  pub ok : StampOk x.bytes

-- what a stamp becomes: the newest of the list that is made there, or what it was
abbrev pub newest : List Stamp → ℕ → ℕ → Bytes → Bytes
newest [] e which was = was
newest (x ∷ xs) e which was = newest xs e which (cond (eqb x.entry e and eqb x.which which) x.bytes was)

-- ---- stamps, one after the other, on a disk with date entries
pub record Stamped (G : Geometry) (img img' map : Bytes) (xs : List Stamp) : Type 0 where
  pub good : Good G img' map
  pub dates : dated (entry_at G img') ≡ true
  -- every row but a date entry stays, and every record past the directory
  pub row : (k : ℕ) → k < G.entries → is_dates (entry_at G img k) ≡ false → entry_at G img' k ≡ entry_at G img k
  pub recs : (d : ℕ) → area_records G ≤ d → d < block_records G → record_at G img' d ≡ record_at G img d
  pub at : (e which : ℕ) → e < G.entries → e % entries_per_record < 3 → which < 2 → stamp_at G img' e which ≡ newest xs e which (stamp_at G img e which)

module _ {G : Geometry} (S : Sound G) (map : Bytes) where
  -- date entries are those of before
  still : (img img' : Bytes) → Good G img map → Good G img' map → dated (entry_at G img) ≡ true → dated (entry_at G img') ≡ true
      → (k : ℕ) → k < G.entries → is_dates (entry_at G img' k) ≡ is_dates (entry_at G img k)
  still img img' g h p q k l = h.inv.dir.dates k l ∙ rw (q, ← p) (sym (g.inv.dir.dates k l))

  pub stamped_one : (img : Bytes) → Good G img map → dated (entry_at G img) ≡ true → (x : Stamp) → Placed G x
      → Stamped G img (with_stamp G img x.entry x.which x.bytes) map (x ∷ [])
  stamped_one img g dates x p =
      let good = good_stamped S img map g dates x.entry p.below p.beside x.which p.two x.bytes p.ok in
      record {
        good = good;
        dates = dates_still S img map g dates x.entry p.below p.beside x.which p.two x.bytes p.ok 3 (omega (arith, S.fours, S.some_entry)) ∙ dates;
        row = stamp_kept S img map g dates x.entry p.below p.beside x.which p.two x.bytes p.ok;
        recs = record_with_stamp S img g.image_long x.entry p.below p.beside x.which p.two x.bytes p.ok;
        at = λ e which l b w. split (bool_cases (eqb x.entry e and eqb x.which which))
            (λ t. let a : x.entry ≡ e = eqb-true _ _ (and_left _ _ t) in let c : x.which ≡ which = eqb-true _ _ (and_right _ _ t) in
            rw t (subst (λ (k : ℕ). stamp_at G (with_stamp G img x.entry x.which x.bytes) k which ≡ x.bytes) a
            (subst (λ (k : ℕ). stamp_at G (with_stamp G img x.entry x.which x.bytes) x.entry k ≡ x.bytes) c
            (stamp_same S img g.image_long x.entry p.below p.beside x.which p.two x.bytes p.ok))))
            (λ t. rw t (stamp_other S img g.image_long x.entry p.below p.beside x.which p.two x.bytes p.ok e which l b w
            (λ q. not_both (eqb x.entry e and eqb x.which which) (and_both _ _ (eq-eqb _ _ (sym q.0)) (eq-eqb _ _ (sym q.1))) t)));
      }

  pub stamped_all : (xs : List Stamp) (img : Bytes) → Good G img map → dated (entry_at G img) ≡ true → Each (Placed G) xs → Stamped G img (stamped_with G xs img) map xs
  stamped_all [] img g dates p = record { good = g; dates = dates; row = λ k l n. refl; recs = λ d a b. refl; at = λ e which l b w. refl }
  stamped_all (x ∷ xs) img g dates p =
      let a = stamped_one img g dates x p.0 in
      let b = stamped_all xs (with_stamp G img x.entry x.which x.bytes) a.good a.dates p.1 in
      record {
        good = b.good;
        dates = b.dates;
        row = λ k l n. b.row k l (still img _ g a.good dates a.dates k l ∙ n) ∙ a.row k l n;
        recs = λ d h w. b.recs d h w ∙ a.recs d h w;
        at = λ e which l h w. b.at e which l h w ∙ ap (newest xs e which) (a.at e which l h w);
      }

  -- byte 0 of every row stays
  users : (img : Bytes) (g : Good G img map) (dates : dated (entry_at G img) ≡ true) (x : Stamp) (p : Placed G x) (k : ℕ) → k < G.entries
      → user_of (entry_at G (with_stamp G img x.entry x.which x.bytes) k) ≡ user_of (entry_at G img k)
  users img g dates x p k l =
      split (eq_or_ne (fourth_of x.entry) k)
      (λ q. subst (λ (y : ℕ). user_of (entry_at G (with_stamp G img x.entry x.which x.bytes) y) ≡ user_of (entry_at G img y)) q
      (ap user_of (row_with_stamp S img g.image_long x.entry p.below p.beside x.which p.two x.bytes p.ok)
      ∙ user_stamped (entry_at G img (fourth_of x.entry)) (length_entry_at S img g.image_long (fourth_of x.entry) (fourth_below S x.entry p.below))
      (x.entry % entries_per_record) p.beside x.which p.two x.bytes p.ok))
      (λ q. ap user_of (row_with_stamp_other S img g.image_long x.entry p.below p.beside x.which p.two x.bytes p.ok k l q))

  pub stamped_still : (xs : List Stamp) (img : Bytes) → Good G img map → dated (entry_at G img) ≡ true → Each (Placed G) xs → (k : ℕ) → k < G.entries
      → user_of (entry_at G (stamped_with G xs img) k) ≡ user_of (entry_at G img k)
  stamped_still [] img g dates p k l = refl
  stamped_still (x ∷ xs) img g dates p k l =
      let a = stamped_one img g dates x p.0 in
      stamped_still xs (with_stamp G img x.entry x.which x.bytes) a.good a.dates p.1 k l ∙ users img g dates x p.0 k l

-- ---- the stamps of a call
pub time_ok : (asked : Asked) → time_right_rule asked ≡ true → StampOk (time_stamp_rule asked)
unfolding time_stamp_rule time_right_rule stamp_right
time_ok asked t = record { long = refl; right = t }

pub none_ok : StampOk no_stamp
unfolding no_stamp stamp_right bcd ◌and◌
none_ok = record { long = refl; right = refl }

module _ {G : Geometry} (S : Sound G) (asked : Asked) (l : Lent) (s : Session) (c : AcceptedCall G asked l s) (g : Good G l.drive.image l.drive.map)
    (P : Stamp → Type 0) (Here : ℕ → Type 0) (by : (e which : ℕ) (b : Bytes) → which < 2 → StampOk b → Here e → P (record { entry = e; which = which; bytes = b })) where
  stamp_time : StampOk (time_stamp_rule asked)
  stamp_time = time_ok asked c.ready.time

  pub close_each : (e : ℕ) → Here e → Each P (close_stamps G asked l s e)
  unfolding close_stamps
  close_each e h = each_only P (asks G (rows_of G l) asks_update and close_changes_rule G (rows_of G l e) l.fcb) (update e (time_stamp_rule asked)) (by e 1 (time_stamp_rule asked) (omega arith) stamp_time h)

  pub access_each : (e : ℕ) → Here e → Each P (access_stamps G asked l s e)
  unfolding access_stamps
  access_each e h = each_only P (not (protected s) and asks G (rows_of G l) asks_access) (first e (time_stamp_rule asked)) (by e 0 (time_stamp_rule asked) (omega arith) stamp_time h)

  pub new_each : (e : ℕ) → Here e → Each P (new_stamps G asked l s e)
  unfolding new_stamps
  new_each e h = (by e 0 no_stamp (omega arith) none_ok h, (by e 1 no_stamp (omega arith) none_ok h, tt))

  pub create_each : (e : ℕ) → Here e → Each P (create_stamps G asked l s e)
  unfolding create_stamps
  create_each e h =
      each_join P (new_stamps G asked l s e) (only_if (asks G (rows_of G l) asks_create) (first e (time_stamp_rule asked))) (new_each e h)
      (each_only P (asks G (rows_of G l) asks_create) (first e (time_stamp_rule asked)) (by e 0 (time_stamp_rule asked) (omega arith) stamp_time h))

  -- beside which entries they stand: of the plan of a record call, and of any kind
  pub move_each : (B : ℕ → Type 0) (p : Plan) → Planned G asked.number s.user l B p
      → ((e : ℕ) → present_entry G s.user l ≡ Some e → Here e) → ((t : ℕ) → find_empty_rule G (rows_of G l) ≡ Some t → entry_of p ≡ t → Here t)
      → Each P (move_stamps G asked l s p)
  move_each B p (stay e b at t target k) present new = tt
  move_each B p (move e t b at go target k) present new = close_each e (present e at)
  move_each B p (make e t b at go none room k) present new = each_join P (close_stamps G asked l s e) (new_stamps G asked l s t) (close_each e (present e at)) (new_each t (new t room refl))

-- every stamp of an accepted call, on a disk with date entries, stands beside an entry
module _ {G : Geometry} (S : Sound G) (asked : Asked) (l : Lent) (s : Session) (c : AcceptedCall G asked l s) (g : Good G l.drive.image l.drive.map)
    (dates : dated (rows_of G l) ≡ true) where
  plain : (e : ℕ) → e < G.entries → (used (rows_of G l e) ≡ true) ⊎ (empty (rows_of G l e) ≡ true) → Beside G e
  plain e h u = record { below = h; beside = not_fourth S l.drive.image l.drive.map g dates e h (plain_no_dates (rows_of G l e) u) }

  fits : Fits G l s
  fits = c.ready.fits

  present : (e : ℕ) → present_entry G s.user l ≡ Some e → Beside G e
  present e q = plain e (present_below S 16 l s g fits e q) (inl (present_used S 16 l s g fits e q))

  void : (t : ℕ) → find_empty_rule G (rows_of G l) ≡ Some t → Beside G t
  void t q = let h = empty_says G (rows_of G l) t q in plain t h.below (inr h.holds)

  asks_for : (e : ℕ) → asked_entry G l s.user ≡ Some e → Beside G e
  unfolding asked_entry
  asks_for e q =
      let h = file_says G (rows_of G l) s.user l.fcb 1 _ e q in
      plain e h.below (inl (file_used G s.user l.fcb 1 _ (rows_of G l e) h.holds fits.user_low))

  by : (e which : ℕ) (b : Bytes) → which < 2 → StampOk b → Beside G e → Placed G (record { entry = e; which = which; bytes = b })
  by e which b w o h = record { below = h.below; beside = h.beside; two = w; ok = o }

  open_each : kind_of asked.number ≡ Quiet → Each (Placed G) (stamps_by G asked l s Quiet)
  open_each q =
      split (bool_cases (eqb asked.number 15))
      (λ t. let o = ((own_at G asked l s c q).0 (eqb-true asked.number 15 t)).entry in
      rw (t, o.is) (access_each S asked l s c g (Placed G) (Beside G) by o.place (asks_for o.place o.is)))
      (λ t. rw t tt)

  pub placed : (k : Kind) → kind_of asked.number ≡ k → Each (Placed G) (stamps_by G asked l s k)
  placed Unlisted q = tt
  placed Quiet q = open_each q
  placed Search q = tt
  placed User q = tt
  placed Settle q = tt
  placed Close q = let e = (own_at G asked l s c q).entry in rw e.is (close_each S asked l s c g (Placed G) (Beside G) by e.place (present e.place e.is))
  placed Delete q = tt
  placed Create q = let e = (own_at G asked l s c q).entry in rw e.is (create_each S asked l s c g (Placed G) (Beside G) by e.place (void e.place e.is))
  placed Rename q = tt
  placed Read q =
      move_each S asked l s c g (Placed G) (Beside G) by (There G asked.number s.user l) (plan G asked.number s.user l)
      (planned_read G asked.number l s (own_at G asked l s c q)) present (λ t h z. void t h)
  placed Write q =
      move_each S asked l s c g (Placed G) (Beside G) by (Block G asked.number s.user l) (plan G asked.number s.user l)
      (planned_write G asked.number l s (own_at G asked l s c q)) present (λ t h z. void t h)
