-- Theorem 2: "again" is told exactly where no earlier trouble is and a log record has the year and day; after "picked and logged" the log has one record
-- more, which has them, and all that it had. Theorem 3: a second run answers again, with the same word, and harms nothing.
use Rattle.std.specs.Prelude.{◌≡◌, Bool, ℕ, ◌+◌, ◌%◌, ◌≤◌, ◌<◌, eqb, leb, length, None, is_some}
use Rattle.std.proofs.Math.Path.{refl, ap, subst}
use Rattle.std.proofs.Common.{sym, ◌∙◌, arith}
use Rattle.std.proofs.Math.Bool.{true, false, cond, not}
use borrow.Author.Tests.{eq-eqb, le-ltb}
use Rattle.lists.specs.Cases.{split, bool_cases, not_both, cond_either}
use Rattle.lists.specs.Tests.{◌and◌, and_both}
use Rattle.lists.specs.Below.{any_at}
use Rattle.format.specs.Diskette.{Bytes, Geometry, Sound, record_bytes}
use Rattle.format.specs.Entries.{entry_at, named, find_named_rule}
use Rattle.format.specs.Fcb.{random_of_rule}
use Rattle.facts.specs.Found.{found_cases, none_says}
use Rattle.facts.specs.Names.{like_at, like_intro}
use Rattle.facts.specs.Naming.{named_like, file_named}
use Rattle.model.specs.declared.Asked.{Asked}
use Rattle.model.specs.Stamps.{Stamp}
use Rattle.effects.specs.Closed.{by_name}
use Rattle.demands.specs.Runs.{Disk, outcome_of, accepts}
use Rattle.stored.specs.Closed.{Sane, seen_on, First, Stored, Restamped, asks}
use Rattle.stored.specs.Restamped.{sane_restamped, first_restamped, size_restamped}
use Rattle.stored.proofs.Restamped.{stored_restamped}
use Rattle.stored.specs.Kept.{first_kept, stored_kept}
use Rattle.stored.specs.Looking.{ReadsAs, blank_buffer, stored_below}
use Rattle.stored.specs.Grown.{Grown, grown_new, grown_size}
use Rattle.stored.proofs.Grown.{grown_stays}
use Rattle.stored.specs.Elsewhere.{grown_effect}
use Rattle.stored.specs.Told.{stored_is, stored_bytes}
use Rattle.picking.specs.declared.Wanted.{Wanted}
use Rattle.picking.specs.declared.Time.{Time}
use Rattle.picking.specs.declared.Pick.{Pick}
use Rattle.picking.specs.declared.Pick.TheVariants.{Again}
use Rattle.picking.specs.Numbers.{says_of}
use Rattle.picking.specs.Picker.{Picked, fcb_of_rule, has_stamp_rule, log_record_rule, one_file_rule, last_day, full_log}
use Rattle.once.specs.Bytes.{Named, name_fcb_of}
use Rattle.once.specs.Calls.{Timed}
use Rattle.once.specs.Picks.{PickAccess, PickGrew}
use Rattle.once.specs.Right.{parameters_of, disk_of_law}
use Rattle.once.specs.Table.{has_entry, size_is, some_empty, some_free, has_day, next_entry, log_locked, no_block, growing, beginning, log_answer, word_answer, book_answer, answer}
use Rattle.once.specs.Unharmed.{log_grown}
use Rattle.once.specs.Word.{first_named, first_found}

-- ---- "again" as a test
abbrev pub is_again : Pick → Bool
is_again p = eqb (says_of p).number 1

-- a row before it does not hold
pub past : (b : Bool) (x y : Pick) → is_again x ≡ false → is_again (cond b x y) ≡ true → (b ≡ false) × (is_again y ≡ true)
past true x y f h = not_both (is_again x) h f
past false x y f h = (refl, h)

module _ (G : Geometry) (w : Wanted) (d : Disk) where
  -- rows of "logged" and of troubles are none of it
  pub not_beginning : is_again (beginning G w d) ≡ false
  unfolding beginning
  not_beginning =
      cond_either (λ (p : Pick). is_again p ≡ false) (not (some_free G d)) (λ y. refl)
      (λ y. cond_either (λ (p : Pick). is_again p ≡ false) (not (some_empty G d)) (λ z. refl) (λ z. refl))

  pub not_growing : is_again (growing G w d) ≡ false
  unfolding growing
  not_growing =
      cond_either (λ (p : Pick). is_again p ≡ false) (leb full_log (size_is G d w.log)) (λ y. refl)
      (λ y. cond_either (λ (p : Pick). is_again p ≡ false) (log_locked G w d) (λ z. refl)
      (λ z. cond_either (λ (p : Pick). is_again p ≡ false) (not (is_some (next_entry G w d)) and not (some_empty G d)) (λ u. refl)
      (λ u. cond_either (λ (p : Pick). is_again p ≡ false) (no_block G w d and not (some_free G d)) (λ v. refl) (λ v. refl))))

-- ---- a disk whose book has the word and whose log has the year and day
pub record Done (G : Geometry) (w : Wanted) (d : Disk) (word : Bytes) : Type 0 where
  pub day : w.day ≤ last_day
  pub apart : one_file_rule w ≡ false
  pub sane : Sane G d
  pub book : First G (seen_on G d) d.session.user (fcb_of_rule w.book)
  pub stored : Stored G (seen_on G d) d.session.user (fcb_of_rule w.book) w.day word
  pub log : First G (seen_on G d) d.session.user (fcb_of_rule w.log)
  pub place : ℕ
  pub bytes : Bytes
  pub has : Stored G (seen_on G d) d.session.user (fcb_of_rule w.log) place bytes
  pub stamp : has_stamp_rule w.year w.day bytes ≡ true

module _ {G : Geometry} (w : Wanted) (d : Disk) (word : Bytes) (x : Done G w d word) where
  -- it has an entry at all
  some_entry : has_entry G d w.log ≡ true
  unfolding has_entry find_named_rule
  some_entry =
      found_cases (find_named_rule G (entry_at G d.drive.image) false d.session.user (fcb_of_rule w.log) 1) (λ k q. ap is_some q)
      (λ q. not_both _ (file_named G d.session.user (fcb_of_rule w.log) 1 0 (entry_at G d.drive.image x.log.entry) x.log.file) (none_named q))
    where
      none_named : find_named_rule G (entry_at G d.drive.image) false d.session.user (fcb_of_rule w.log) 1 ≡ None
          → named false d.session.user (fcb_of_rule w.log) 1 (entry_at G d.drive.image x.log.entry) ≡ false
      none_named q =
          none_says (λ (k : ℕ). named false d.session.user (fcb_of_rule w.log) 1 (entry_at G d.drive.image k)) 0 G.entries q x.log.entry (omega arith) x.log.low

  day_there : has_day G w d ≡ true
  unfolding has_day size_is
  day_there =
      any_at _ (size_is G d w.log) x.place (stored_below G d x.sane (fcb_of_rule w.log) x.place x.bytes x.has)
      (and_both _ _ (stored_is G (seen_on G d) d.session.user (fcb_of_rule w.log) x.place x.bytes x.sane.good.inv.dir x.sane.range.user x.has)
      (ap (has_stamp_rule w.year w.day)
      (stored_bytes G (seen_on G d) d.session.user (fcb_of_rule w.log) x.place x.bytes x.sane.good.inv.dir x.sane.range.user x.has) ∙ x.stamp))

  -- the table answers again, whatever the time and the bytes lent
  pub done_answer : (t : Time) → Timed t → (buffer : Bytes) → length buffer ≡ record_bytes → answer G w d t buffer ≡ Again
  unfolding answer book_answer word_answer log_answer
  done_answer t timed buffer long =
      rw (
        le-ltb last_day w.day x.day,
        parameters_of G d t x.sane timed,
        disk_of_law G d t x.sane,
        first_named G d x.sane w.book x.book,
        first_found G d x.sane w.book x.book,
        eq-eqb (length buffer) record_bytes long,
        stored_is G (seen_on G d) d.session.user (fcb_of_rule w.book) w.day word x.sane.good.inv.dir x.sane.range.user x.stored,
        x.apart,
        first_named G d x.sane w.log x.log,
        some_entry,
        first_found G d x.sane w.log x.log,
        day_there,
      )

-- ---- book and log are two files: what is the one's is not the other's
apart_names : (w : Wanted) → Named w → one_file_rule w ≡ false → (user : ℕ) (row : Bytes) → named false user (fcb_of_rule w.book) 1 row ≡ true
    → by_name user (fcb_of_rule w.log) row ≡ false
unfolding one_file_rule
apart_names w nm apart user row h =
    split (bool_cases (by_name user (fcb_of_rule w.log) row))
    (λ y. not_both _ (like_intro w.book 0 w.log 0
    (λ i l. ap (λ (x : ℕ). x % 128) (sym (name_fcb_of w.book nm.book i l))
    ∙ like_at (fcb_of_rule w.book) 1 row 1 (named_like false user (fcb_of_rule w.book) 1 row h) i l
    ∙ sym (like_at (fcb_of_rule w.log) 1 row 1 (named_like false user (fcb_of_rule w.log) 1 row y) i l) ∙ ap (λ (x : ℕ). x % 128) (name_fcb_of w.log nm.log i l))) apart)
    (λ y. y)

-- ---- what a run that answered "picked and logged" left
module _ {G : Geometry} (S : Sound G) (t : Time) (w : Wanted) (nm : Named w) (d e : Disk) (g : PickGrew G t w d e) where
  abbrev m : Disk
  m = g.mid

  abbrev user : ℕ
  user = d.session.user

  abbrev P : Stamp → Type 0
  P = PickAccess G t w d

  abbrev log : Bytes
  log = fcb_of_rule w.log

  hu : user ≤ 15
  hu = g.sane.range.user

  user_is : e.session.user ≡ user
  user_is = g.log.user ∙ g.before.user

  sane_mid : Sane G m
  sane_mid = sane_restamped S P d m g.sane g.before

  grown : Grown G (seen_on G m) (seen_on G e) user log (size_is G d w.log) (log_record_rule w.year w.day)
  grown = log_grown S t w d e g

  -- the log
  pub log_first : First G (seen_on G e) e.session.user (fcb_of_rule w.log)
  log_first = subst (λ (u : ℕ). First G (seen_on G e) u log) (sym g.log.user) g.log.first

  pub log_new : Stored G (seen_on G e) e.session.user (fcb_of_rule w.log) (size_is G d w.log) (log_record_rule w.year w.day)
  log_new = rw user_is (grown_new S (seen_on G m) (seen_on G e) sane_mid.good.inv user hu log (size_is G d w.log) (log_record_rule w.year w.day) grown)

  pub log_kept : (r : ℕ) (v : Bytes) → Stored G (seen_on G d) d.session.user (fcb_of_rule w.log) r v → Stored G (seen_on G e) e.session.user (fcb_of_rule w.log) r v
  unfolding size_is
  log_kept r v k =
      rw user_is (grown_stays S (seen_on G m) (seen_on G e) sane_mid.good.inv user hu log (size_is G d w.log) (log_record_rule w.year w.day) grown r v
      (stored_restamped S P d m g.sane g.before user hu log r v k)
      (λ z. omega (arith, stored_below G d g.sane log r v k, z)))

  pub log_size : size_is G e w.log ≡ size_is G d w.log + 1
  unfolding size_is
  log_size =
      rw user_is (grown_size S (seen_on G m) (seen_on G e) sane_mid.good.inv user hu log (size_is G d w.log) (log_record_rule w.year w.day) grown
      (sym (size_restamped S P d m g.sane g.before user hu log)))

  -- the book
  abbrev book : Bytes
  book = fcb_of_rule w.book

  other : (r : Bytes) → named false user book 1 r ≡ true → by_name user log r ≡ false
  other = apart_names w nm g.apart user

  pub book_first : First G (seen_on G d) d.session.user (fcb_of_rule w.book) → First G (seen_on G e) e.session.user (fcb_of_rule w.book)
  book_first k =
      rw user_is (first_kept S (seen_on G m) (seen_on G e) (by_name user log) user hu book
      (grown_effect S (seen_on G m) (seen_on G e) sane_mid.good.inv user hu log (size_is G d w.log) (log_record_rule w.year w.day) grown) other
      (first_restamped S P d m g.sane g.before user hu book k))

  pub book_kept : (r : ℕ) (v : Bytes) → Stored G (seen_on G d) d.session.user (fcb_of_rule w.book) r v → Stored G (seen_on G e) e.session.user (fcb_of_rule w.book) r v
  book_kept r v k =
      rw user_is (stored_kept S (seen_on G m) (seen_on G e) (by_name user log) user hu book
      (grown_effect S (seen_on G m) (seen_on G e) sane_mid.good.inv user hu log (size_is G d w.log) (log_record_rule w.year w.day) grown) other r v
      (stored_restamped S P d m g.sane g.before user hu book r v k))

-- ---- theorem 2
-- the log as the calls tell it, at any time: one record more, at the old size, which has the year and day; and every record that was there
pub record LoggedOnce (G : Geometry) (w : Wanted) (a : Asked) (d e : Disk) : Type 0 where
  pub size : size_is G e w.log ≡ size_is G d w.log + 1
  pub told : accepts G e (asks a 35 (fcb_of_rule w.log) blank_buffer) ≡ true
  pub tells : random_of_rule (outcome_of G e (asks a 35 (fcb_of_rule w.log) blank_buffer)).lent.fcb ≡ size_is G d w.log + 1
  pub new : ReadsAs G a e (fcb_of_rule w.log) (size_is G d w.log) (log_record_rule w.year w.day)
  pub kept : (r : ℕ) (v : Bytes) → r < 16777216 → ReadsAs G a d (fcb_of_rule w.log) r v → ReadsAs G a e (fcb_of_rule w.log) r v

-- a log record has the year and day, and nothing comes before that: the day is one of a year, the word can be read, and book and log are two files
pub record Repeats (G : Geometry) (w : Wanted) (a : Asked) (d : Disk) : Type 0 where
  pub day : w.day ≤ last_day
  pub word : Bytes
  pub reads : ReadsAs G a d (fcb_of_rule w.book) w.day word
  pub apart : one_file_rule w ≡ false
  pub place : ℕ
  pub below : place < size_is G d w.log
  pub bytes : Bytes
  pub log : ReadsAs G a d (fcb_of_rule w.log) place bytes
  pub has : has_stamp_rule w.year w.day bytes ≡ true

-- ---- theorem 3
-- what a second run says of the first: again, the same word, and no byte of image or map changed but access stamps
pub record SecondRun (G : Geometry) (w : Wanted) (again : Time) (p q : Picked) : Type 0 where
  pub answer : q.pick ≡ Again
  pub given : q.given ≡ true
  pub word : q.word ≡ p.word
  pub unharmed : Restamped G (PickAccess G again w p.disk) p.disk q.disk
