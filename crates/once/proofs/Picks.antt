-- A whole run of the picker, on any disk and with any bytes lent: its answer is the table's; the word is the day's record of the book, or stays as it
-- was lent; and the disk is the same but for access stamps of book and log, or has the log grown.
use Rattle.std.specs.Prelude.{◌≡◌, Bool, not, ℕ, ◌*◌, ◌≤◌, ◌<◌, eqb, ltb, length, is_some}
use Rattle.std.proofs.Math.Path.{refl, ap, sym}
use Rattle.std.proofs.Common.{◌∙◌, inl, inr, arith}
use Rattle.std.proofs.Math.Bool.{true, false, cond}
use borrow.Author.Tests.{eqb-true, eqb-false, ltb-false}
use Rattle.lists.specs.Cases.{split, bool_cases, refute}
use Rattle.lists.specs.Tests.{◌and◌, ◌or◌, and_both, and_fails_left, and_fails_right}
use Rattle.format.specs.Diskette.{Bytes, Geometry, Sound, record_bytes}
use Rattle.model.specs.Kinds.{kind_of, is_call}
use Rattle.model.specs.Lent.{Outcome}
use Rattle.model.specs.Stamps.{Stamp}
use Rattle.model.specs.Table.{parameters_right_rule}
use Rattle.table.specs.Reflect.{fits_of}
use Rattle.demands.specs.Runs.{Request, Disk, lent_to, outcome_of, left, accepts}
use Rattle.stored.specs.Closed.{Sane, seen_on, Fresh, Restamped}
use Rattle.stored.specs.Restamped.{restamped_none, restamped_more, restamped_then, sane_restamped, access_before}
use Rattle.stored.specs.Quiet.{fresh_record, fresh_read_same}
use Rattle.stored.specs.Looking.{Opening, opening_of, opened_restamped}
use Rattle.stored.specs.Told.{extent_entry, is_stored, told_named, bytes_named}
use Rattle.picking.specs.declared.Wanted.{Wanted}
use Rattle.picking.specs.declared.Time.{Time}
use Rattle.picking.specs.declared.Pick.{Pick}
use Rattle.picking.specs.declared.Pick.TheVariants.{Logged, NoBook, NoWord, Other}
use Rattle.picking.specs.Picker.{Logging, fcb_of_rule, blank, one_file_rule, last_day, call_at, is_code, opening, reading, logged, worded, fetched, looked, picked}
use Rattle.once.proofs.Begun.{log_run}
use Rattle.once.specs.Bytes.{Named, begins_fcb_of}
use Rattle.once.specs.Calls.{Timed, as_test}
use Rattle.once.specs.Deciding.{answered_rows}
use Rattle.once.specs.Logs.{is_logged, LogAccess, LogRun, stayed, grew}
use Rattle.once.specs.Records.{read_by}
use Rattle.once.specs.Right.{timed_of, sane_of, open_any}
use Rattle.once.specs.Same.{record_same, bytes_same, log_same}
use Rattle.once.specs.Search.{read_accepted, read_gives}
use Rattle.once.specs.Table.{parameters_are, disk_is, name_is, extent_at, record_is, bytes_are, log_answer, word_answer, book_answer, answer}
use Rattle.once.specs.Picks.{has_word, BookAccess, PickAccess, Left, same, more, PickRun}

module _ {G : Geometry} (S : Sound G) (countable : G.per_block * G.blocks < 16777216) (t : Time) (w : Wanted) (nm : Named w) (d : Disk) (buffer : Bytes) where
  abbrev o : Outcome
  o = outcome_of G d (opening t w.book)

  abbrev m : Disk
  m = left o

  abbrev book : Bytes
  book = fcb_of_rule w.book

  -- the open of the book, accepted or refused
  opened : Restamped G (BookAccess G t w d) d m
  opened = opened_restamped S (call_at t 0) d book blank

  book_only : (e : Disk) → Restamped G (BookAccess G t w d) d e → Restamped G (PickAccess G t w d) d e
  book_only e r = restamped_more G (BookAccess G t w d) d e (PickAccess G t w d) (λ x h. inl h) r

  -- ---- the book was opened
  module _ (day : ltb last_day w.day ≡ false) (params : parameters_are G d t ≡ true) (disk : disk_is G d ≡ true) (name : name_is w.book ≡ true)
      (found : is_some (extent_at G d w.book 0) ≡ true) where
    sane : Sane G d
    sane = sane_of G d t params disk

    timed : Timed t
    timed = timed_of G d t params

    accepts_book : accepts G d (opening t w.book) ≡ true
    accepts_book = as_test (accepts G d (opening t w.book)) ∙ open_any G d t w.book nm.book true (λ x y. false) ∙ rw (params, disk, name, found)

    op : Opening G (call_at t 0) d book blank
    op = opening_of S (call_at t 0) d book (begins_fcb_of w.book nm.book) blank accepts_book

    abbrev f : Bytes
    f = o.lent.fcb

    k : Fresh G m f op.at.entry
    k = op.at.fresh

    abbrev q : Request
    q = reading t f w.day buffer

    abbrev u : Outcome
    u = outcome_of G m q

    low : w.day ≤ 365
    low = ltb-false last_day w.day day

    -- the read, accepted or refused
    read : Restamped G (BookAccess G t w d) d (left u)
    read =
        restamped_then G (BookAccess G t w d) d m (left u) opened
        (fresh_read_same G m q op.at.entry refl (fresh_record G m f op.at.entry k w.day) (BookAccess G t w d))

    stored_is : is_stored G (seen_on G m) m.session.user f w.day ≡ record_is G d w.book w.day
    stored_is =
        told_named G (seen_on G m) m.session.user book f op.same w.day ∙ record_same S (BookAccess G t w d) d m sane opened w.book w.day

    answer_is : answer G w d t buffer ≡ word_answer G w d buffer
    unfolding answer book_answer
    answer_is = rw (day, params, disk, name, found)

    word_is : has_word G t w d buffer ≡ (eqb (length buffer) record_bytes and record_is G d w.book w.day)
    unfolding has_word ◌and◌
    word_is = rw (day, params, disk, name, found)

    -- what a refused read tells
    abbrev told : ℕ → ℕ → Pick
    told x y = cond ((eqb x 1 and eqb y 0) or (eqb x 4 and eqb y 0)) NoWord (Other x y)

    refused_run : accepts G m q ≡ false → has_word G t w d buffer ≡ false → (p : Pick) → told u.answer.a u.answer.h ≡ p → is_logged p ≡ false
        → word_answer G w d buffer ≡ p → PickRun G t w d buffer (fetched G t w m f buffer)
    unfolding fetched is_code
    refused_run a none p is unlogged row =
        rw (a, is) record {
          pick = sym (answer_is ∙ row);
          given = sym none;
          word = sym (rw none);
          left = same unlogged (book_only (left u) read);
        }

    -- the bytes lent are not 128
    short_run : eqb (length buffer) record_bytes ≡ false → PickRun G t w d buffer (fetched G t w m f buffer)
    unfolding word_answer is_call kind_of ◌and◌ ◌or◌
    short_run short =
        let wrong : parameters_right_rule G (lent_to m q) q.asked m.session ≡ false =
        sym (refute _ (λ p. eqb-false _ _ short (fits_of G q.asked (lent_to m q) m.session p).buffer_long)) in
        let a : accepts G m q ≡ false = as_test (accepts G m q) ∙ answered_rows true (λ x y. false) G m q refl ∙ rw wrong in
        let is : told u.answer.a u.answer.h ≡ Other 255 4 =
        ap (λ (b : Bool). cond b Logged (told u.answer.a u.answer.h)) (sym a) ∙ answered_rows Logged told G m q refl ∙ rw wrong in
        refused_run a (word_is ∙ and_fails_left (eqb (length buffer) record_bytes) (record_is G d w.book w.day) short) (Other 255 4) is refl (rw short)

    module _ (long : eqb (length buffer) record_bytes ≡ true) where
      hb : length buffer ≡ record_bytes
      hb = eqb-true _ _ long

      accepts_is : accepts G m q ≡ record_is G d w.book w.day
      accepts_is = read_accepted S m f op.at.entry k t timed w.day (let x = low in omega arith) buffer hb ∙ stored_is

      -- the book has no such record
      missing_run : record_is G d w.book w.day ≡ false → PickRun G t w d buffer (fetched G t w m f buffer)
      unfolding word_answer ◌and◌ ◌or◌
      missing_run none =
          let a : accepts G m q ≡ false = accepts_is ∙ none in
          let is : told u.answer.a u.answer.h ≡ NoWord =
          ap (λ (b : Bool). cond b Logged (told u.answer.a u.answer.h)) (sym a)
          ∙ read_by Logged told S m f op.at.entry k t timed w.day (let x = low in omega arith) buffer hb
          ∙ either (is_some (extent_entry G (seen_on G m) m.session.user f w.day)) (is_stored G (seen_on G m) m.session.user f w.day) (stored_is ∙ none) in
          refused_run a (word_is ∙ and_fails_right (eqb (length buffer) record_bytes) (record_is G d w.book w.day) none) NoWord is refl (rw (long, none))
        where
          either : (x y : Bool) → y ≡ false → cond (not x) NoWord (cond (not y) NoWord Logged) ≡ NoWord
          either true y h = rw h
          either false y h = refl

      -- it has: the word is handed out
      module _ (there : record_is G d w.book w.day ≡ true) where
        a : accepts G m q ≡ true
        a = accepts_is ∙ there

        gives : u.lent.buffer ≡ bytes_are G d w.book w.day
        gives =
            read_gives S m f op.at.entry k t timed w.day (let x = low in omega arith) buffer hb (stored_is ∙ there)
            ∙ bytes_named G (seen_on G m) m.session.user book f op.same w.day ∙ bytes_same S (BookAccess G t w d) d m sane opened w.book w.day there

        has : has_word G t w d buffer ≡ true
        has = word_is ∙ and_both _ _ long there

        sane_read : Sane G (left u)
        sane_read = sane_restamped S (BookAccess G t w d) d (left u) sane read

        log_access : (x : Stamp) → LogAccess G t w (left u) x → PickAccess G t w d x
        log_access x h = inr (access_before S (BookAccess G t w d) d (left u) sane read (call_at t 0) (fcb_of_rule w.log) x h)

        -- what became of the log
        log_left : one_file_rule w ≡ false → (l : Logging) → LogRun G t w (left u) l → (l.pick ≡ log_answer G w d)
            × Left G t w d (record { pick = l.pick; given = true; word = u.lent.buffer; disk = l.disk })
        log_left apart l (stayed p n r) = (
          p ∙ log_same S (BookAccess G t w d) d (left u) sane read w,
          same n (restamped_then G (PickAccess G t w d) d (left u) l.disk (book_only (left u) read)
              (restamped_more G (LogAccess G t w (left u)) (left u) l.disk (PickAccess G t w d) log_access r)),
        )
        log_left apart l (grew p r g) = (
          p ∙ sym r ∙ log_same S (BookAccess G t w d) d (left u) sane read w,
          more p refl (record { sane = sane; apart = apart; mid = left u; before = book_only (left u) read; log = g }),
        )

        given_run : PickRun G t w d buffer (fetched G t w m f buffer)
        unfolding fetched worded word_answer
        given_run =
            split (bool_cases (one_file_rule w))
            (λ one. rw (a, one) record {
              pick = sym (answer_is ∙ rw (long, there, one));
              given = sym has;
              word = gives ∙ sym (rw has);
              left = same refl (book_only (left u) read);
            })
            (λ apart. let x = log_left apart (logged G t w (left u)) (log_run S countable t timed w nm (left u) sane_read) in
            rw (a, apart) record {
              pick = x.0 ∙ sym (answer_is ∙ rw (long, there, apart));
              given = sym has;
              word = gives ∙ sym (rw has);
              left = x.1;
            })

    fetched_run : PickRun G t w d buffer (fetched G t w m f buffer)
    fetched_run =
        split (bool_cases (eqb (length buffer) record_bytes))
        (λ long. split (bool_cases (record_is G d w.book w.day)) (λ there. given_run long there) (λ none. missing_run long none))
        (λ short. short_run short)

  -- ---- the book could not be opened
  abbrev told_open : ℕ → ℕ → Pick
  told_open x y = cond (eqb x 255 and eqb y 0) NoBook (Other x y)

  closed_run : ltb last_day w.day ≡ false → accepts G d (opening t w.book) ≡ false → has_word G t w d buffer ≡ false → (p : Pick)
      → told_open o.answer.a o.answer.h ≡ p → is_logged p ≡ false → answer G w d t buffer ≡ p → PickRun G t w d buffer (picked G t w d buffer)
  unfolding picked looked is_code
  closed_run day a none p is unlogged row =
      rw (day, a, is) record { pick = sym row; given = sym none; word = sym (rw none); left = same unlogged (book_only m opened) }

  opening_is : {A : Type 0} (went : A) (not_so : ℕ → ℕ → A) → accepts G d (opening t w.book) ≡ false
      → not_so o.answer.a o.answer.h
      ≡ cond (not (parameters_are G d t)) (not_so 255 4) (cond (not (disk_is G d)) (not_so 255 1)
      (cond (not (name_is w.book)) (not_so 255 9) (cond (not (is_some (extent_at G d w.book 0))) (not_so 255 0) went)))
  opening_is went not_so a =
      ap (λ (b : Bool). cond b went (not_so o.answer.a o.answer.h)) (sym a) ∙ open_any G d t w.book nm.book went not_so

  accepts_is_all : accepts G d (opening t w.book)
      ≡ cond (not (parameters_are G d t)) false (cond (not (disk_is G d)) false
      (cond (not (name_is w.book)) false (cond (not (is_some (extent_at G d w.book 0))) false true)))
  accepts_is_all = as_test (accepts G d (opening t w.book)) ∙ open_any G d t w.book nm.book true (λ x y. false)

  module _ (day : ltb last_day w.day ≡ false) where
    params_run : parameters_are G d t ≡ false → PickRun G t w d buffer (picked G t w d buffer)
    unfolding has_word answer ◌and◌
    params_run x =
        let a : accepts G d (opening t w.book) ≡ false = accepts_is_all ∙ rw x in
        closed_run day a (rw (day, x)) (Other 255 4) (opening_is Logged told_open a ∙ rw x) refl (rw (day, x))

    disk_run : parameters_are G d t ≡ true → disk_is G d ≡ false → PickRun G t w d buffer (picked G t w d buffer)
    unfolding has_word answer ◌and◌
    disk_run p x =
        let a : accepts G d (opening t w.book) ≡ false = accepts_is_all ∙ rw (p, x) in
        closed_run day a (rw (day, p, x)) (Other 255 1) (opening_is Logged told_open a ∙ rw (p, x)) refl (rw (day, p, x))

    name_run : parameters_are G d t ≡ true → disk_is G d ≡ true → name_is w.book ≡ false → PickRun G t w d buffer (picked G t w d buffer)
    unfolding has_word answer book_answer ◌and◌
    name_run p q x =
        let a : accepts G d (opening t w.book) ≡ false = accepts_is_all ∙ rw (p, q, x) in
        closed_run day a (rw (day, p, q, x)) (Other 255 9) (opening_is Logged told_open a ∙ rw (p, q, x)) refl (rw (day, p, q, x))

    book_run_law : parameters_are G d t ≡ true → disk_is G d ≡ true → name_is w.book ≡ true → is_some (extent_at G d w.book 0) ≡ false
        → PickRun G t w d buffer (picked G t w d buffer)
    unfolding has_word answer book_answer ◌and◌
    book_run_law p q n x =
        let a : accepts G d (opening t w.book) ≡ false = accepts_is_all ∙ rw (p, q, n, x) in
        closed_run day a (rw (day, p, q, n, x)) NoBook (opening_is Logged told_open a ∙ rw (p, q, n, x)) refl (rw (day, p, q, n, x))

    open_run : parameters_are G d t ≡ true → disk_is G d ≡ true → name_is w.book ≡ true → is_some (extent_at G d w.book 0) ≡ true
        → PickRun G t w d buffer (picked G t w d buffer)
    unfolding picked looked
    open_run p q n x = rw (day, accepts_book day p q n x) (fetched_run day p q n x)

    day_run : PickRun G t w d buffer (picked G t w d buffer)
    day_run =
        split (bool_cases (parameters_are G d t))
        (λ p. split (bool_cases (disk_is G d))
        (λ q. split (bool_cases (name_is w.book))
        (λ n. split (bool_cases (is_some (extent_at G d w.book 0))) (λ x. open_run p q n x) (λ x. book_run_law p q n x))
        (λ n. name_run p q n))
        (λ q. disk_run p q))
        (λ p. params_run p)

  -- ---- any run
  over_run : ltb last_day w.day ≡ true → PickRun G t w d buffer (picked G t w d buffer)
  unfolding picked has_word answer ◌and◌
  over_run day =
      rw day record {
        pick = sym (rw day);
        given = sym (rw day);
        word = sym (rw day);
        left = same refl (restamped_none G (PickAccess G t w d) d d refl refl refl (λ r. r));
      }

  pub pick_run : PickRun G t w d buffer (picked G t w d buffer)
  pick_run = split (bool_cases (ltb last_day w.day)) (λ x. over_run x) (λ x. day_run x)
