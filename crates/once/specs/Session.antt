-- The session that a run hands back: its search is ended if any call was accepted, which is so exactly where the book was opened; all else in it stays.
use Rattle.std.specs.Prelude.{◌≡◌, Bool, true, cond, ℕ, eqb, leb, ltb}
use Rattle.std.proofs.Math.Path.{refl, ap, sym}
use Rattle.std.proofs.Common.{◌∙◌, arith}
use Rattle.std.proofs.Math.Bool.{false, not}
use Rattle.lists.specs.Cases.{split, bool_cases, not_both, cond_either}
use Rattle.lists.specs.Tests.{◌and◌, and_then, and_right}
use Rattle.lists.specs.Fold.{fold_keeps}
use Rattle.format.specs.Diskette.{Bytes, Geometry}
use Rattle.format.specs.Fcb.{random_of_rule}
use Rattle.model.specs.declared.Session.{Session}
use Rattle.model.specs.declared.Kind.TheVariants.{Search, User}
use Rattle.model.specs.Kinds.{kind_of, same}
use Rattle.model.specs.declared.Asked.{Asked}
use Rattle.model.specs.Lent.{Drive, Lent, Outcome, ended, with_lifted}
use Rattle.table.specs.Own.{kinds_apart}
use Rattle.table.specs.Carried.{Leaves, over, on, sets}
use Rattle.table.proofs.Total.{total}
use Rattle.table.specs.Refuse.{SearchEnds, ends17, ends18}
use Rattle.table.proofs.Accepted.{carried_says}
use Rattle.demands.specs.Runs.{Request, Disk, lent_to, outcome_of, left, accepts}
use Rattle.stored.specs.Closed.{Sane}
use Rattle.stored.specs.Quiet.{quiet_ended, sane_accepted}
use Rattle.picking.specs.declared.Wanted.{Wanted}
use Rattle.picking.specs.declared.Time.{Time}
use Rattle.picking.specs.Picker as Picker
use Rattle.once.specs.Lifting.{open_byte, opened_up}
use Rattle.once.specs.Writing.{lifted_left}

-- a call that neither searches nor asks for the user leaves a session whose search is over
call_over : (G : Geometry) (d : Disk) (q : Request) → same (kind_of q.asked.number) Search ≡ false → same (kind_of q.asked.number) User ≡ false
    → d.session ≡ ended d.session → (left (outcome_of G d q)).session ≡ d.session
unfolding outcome_of
call_over G d q a b h =
    split (total G q.asked (lent_to d q) d.session)
    (λ r. split r.1.session (λ x. x.1 ∙ sym h) (λ x. x.1))
    (λ c. go c.done.leaves)
  where
    go : Leaves G q.asked (lent_to d q) d.session (kind_of q.asked.number) (left (outcome_of G d q)).session → (left (outcome_of G d q)).session ≡ d.session
    go (over p r e) = e ∙ sym h
    go (on k g) = kinds_apart (kind_of q.asked.number) Search a k
    go (sets k e) = kinds_apart (kind_of q.asked.number) User b k

-- so does one with the protection lifted for it
lifted_over : (G : Geometry) (d : Disk) (q : Request) → same (kind_of q.asked.number) Search ≡ false → same (kind_of q.asked.number) User ≡ false
    → d.session ≡ ended d.session → (left (Picker.lifted_call_rule G d q)).session ≡ d.session
lifted_over G d q a b h =
    ap (λ (x : Disk). x.session) (lifted_left G d q)
    ∙ ap (λ (s : Session). with_lifted s d.session.lifted) (call_over G (opened_up d) q a b (ap (λ (s : Session). with_lifted s (open_byte d.session)) h))

-- ---- the picker's calls, one after the other, from a session E whose search is over
module _ (G : Geometry) (t : Time) (w : Wanted) (E : Session) (over-E : E ≡ ended E) where
  -- the disk has that session
  abbrev Over : Disk → Type 0
  Over d = d.session ≡ E

  is_over : (d : Disk) → Over d → d.session ≡ ended d.session
  is_over d h = h ∙ over-E ∙ ap ended (sym h)

  calls : (d : Disk) (q : Request) → same (kind_of q.asked.number) Search ≡ false → same (kind_of q.asked.number) User ≡ false → Over d → Over (left (outcome_of G d q))
  calls d q a b h = call_over G d q a b (is_over d h) ∙ h

  lifts : (d : Disk) (q : Request) → same (kind_of q.asked.number) Search ≡ false → same (kind_of q.asked.number) User ≡ false → Over d → Over (left (Picker.lifted_call_rule G d q))
  lifts d q a b h = lifted_over G d q a b (is_over d h) ∙ h

  abbrev OverLog : Picker.Logging → Type 0
  OverLog l = Over l.disk

  closed_over : (d : Disk) (f : Bytes) → Over d → OverLog (Picker.closed G t d f)
  unfolding Picker.closed kind_of
  closed_over d f h = lifts d (Picker.closing t f) refl refl h

  written_over : (d : Disk) (f : Bytes) (n : ℕ) → Over d → OverLog (Picker.written G t w d f n)
  unfolding Picker.written kind_of
  written_over d f n h =
      let x = lifts d (Picker.writing t w f n) refl refl h in
      cond_either OverLog (Picker.accepted 34 (Picker.lifted_call_rule G d (Picker.writing t w f n))) (λ y. closed_over _ _ x) (λ y. x)

  made_over : (d : Disk) → Over d → OverLog (Picker.made G t w d)
  unfolding Picker.made kind_of
  made_over d h =
      let x = lifts d (Picker.making t w.log) refl refl h in
      cond_either OverLog (Picker.accepted 22 (Picker.lifted_call_rule G d (Picker.making t w.log))) (λ y. written_over _ _ 0 x) (λ y. x)

  begun_over : (d : Disk) → Over d → OverLog (Picker.begun G t w d)
  unfolding Picker.begun kind_of
  begun_over d h =
      let o : Outcome = outcome_of G d (Picker.spacing t w.log) in
      let x = calls d (Picker.spacing t w.log) refl refl h in
      cond_either OverLog (Picker.accepted 46 o) (λ y. cond_either OverLog (eqb (Picker.space_in_rule o.lent.buffer) 0) (λ z. x) (λ z. made_over (left o) x)) (λ y. x)

  look_over : (f : Bytes) (s : Picker.Search) (r : ℕ) → Over s.disk → Over (Picker.look G t w f s r).disk
  unfolding Picker.look kind_of
  look_over f s r h =
      cond_either (λ (x : Picker.Search). Over x.disk) s.found (λ y. h) (λ y. calls s.disk (Picker.reading t f r Picker.blank) refl refl h)

  searched_over : (d : Disk) (f : Bytes) (n : ℕ) → Over d → Over (Picker.searched G t w d f n).disk
  unfolding Picker.searched
  searched_over d f n h =
      fold_keeps (λ (x : Picker.Search). Over x.disk) (Picker.look G t w f) record { found = false; disk = d } n h (λ x k l p. look_over f x k p)

  added_over : (s : Picker.Search) (f : Bytes) (n : ℕ) → Over s.disk → OverLog (Picker.added G t w s f n)
  unfolding Picker.added
  added_over s f n h =
      cond_either OverLog s.found (λ y. h) (λ y. cond_either OverLog (leb Picker.full_log n) (λ z. h) (λ z. written_over s.disk f n h))

  extended_over : (d : Disk) (n : ℕ) → Over d → OverLog (Picker.extended G t w d n)
  unfolding Picker.extended kind_of
  extended_over d n h =
      let o : Outcome = outcome_of G d (Picker.opening t w.log) in
      let x = calls d (Picker.opening t w.log) refl refl h in
      cond_either OverLog (Picker.accepted 15 o)
      (λ y. added_over (Picker.searched G t w (left o) o.lent.fcb n) o.lent.fcb n (searched_over (left o) o.lent.fcb n x)) (λ y. x)

  logged_over : (d : Disk) → Over d → OverLog (Picker.logged G t w d)
  unfolding Picker.logged kind_of
  logged_over d h =
      let o : Outcome = outcome_of G d (Picker.sizing t w.log) in
      let x = calls d (Picker.sizing t w.log) refl refl h in
      cond_either OverLog (Picker.accepted 35 o) (λ y. extended_over (left o) (random_of_rule o.lent.fcb) x)
      (λ y. cond_either OverLog (Picker.is_code 255 0 o) (λ z. begun_over (left o) x) (λ z. x))

  abbrev OverPick : Picker.Picked → Type 0
  OverPick p = Over p.disk

  worded_over : (o : Outcome) → Over (left o) → OverPick (Picker.worded G t w o)
  unfolding Picker.worded
  worded_over o h = cond_either OverLog (Picker.one_file_rule w) (λ y. h) (λ y. logged_over (left o) h)

  fetched_over : (d : Disk) (f buffer : Bytes) → Over d → OverPick (Picker.fetched G t w d f buffer)
  unfolding Picker.fetched kind_of
  fetched_over d f buffer h =
      let o : Outcome = outcome_of G d (Picker.reading t f w.day buffer) in
      let x = calls d (Picker.reading t f w.day buffer) refl refl h in
      cond_either OverPick (Picker.accepted 33 o) (λ y. worded_over o x) (λ y. x)

-- a search that is over is one of 17 or 18
searches : (G : Geometry) (asked : Asked) (l : Lent) (s : Session) (n : ℕ) → SearchEnds G asked l s n → n ≡ 15 → ⊥
searches G asked l s n (ends17 r a b c) q = let z : ◌≡◌ {A = ℕ} 17 15 = q in omega arith
searches G asked l s n (ends18 r a b) q = let z : ◌≡◌ {A = ℕ} 18 15 = q in omega arith

-- ---- a run
module _ (G : Geometry) (t : Time) (w : Wanted) (d : Disk) (buffer : Bytes) where
  -- a call was accepted: the open of the book, before which no call is made, and after which none where it is refused
  unfoldable pub book_opened : Bool
  book_opened = not (ltb Picker.last_day w.day) and accepts G d (Picker.opening t w.book)

  -- a refused open leaves the session
  refused_open : accepts G d (Picker.opening t w.book) ≡ false → (left (outcome_of G d (Picker.opening t w.book))).session ≡ d.session
  unfolding outcome_of
  refused_open f =
      let q : Request = Picker.opening t w.book in
      split (total G q.asked (lent_to d q) d.session)
      (λ r. split r.1.session (λ x. absurd (searches G q.asked (lent_to d q) d.session 15 x.0 refl)) (λ x. x.1))
      (λ c. not_both _ (carried_says G q.asked (lent_to d q) d.session c) f)

  pub session_handed_back : (Picker.picked G t w d buffer).disk.session ≡ cond book_opened (ended d.session) d.session
  unfolding Picker.picked Picker.looked book_opened kind_of ◌and◌
  session_handed_back =
      split (bool_cases (ltb Picker.last_day w.day)) (λ x. rw x)
      (λ x. split (bool_cases (accepts G d (Picker.opening t w.book)))
      (λ a. rw (x, a) (fetched_over G t w (ended d.session) refl (left (outcome_of G d (Picker.opening t w.book))) (outcome_of G d (Picker.opening t w.book)).lent.fcb buffer
      (quiet_ended G d (Picker.opening t w.book) refl a)))
      (λ a. rw (x, a) (refused_open a)))

  -- where none was, nothing changed at all
  pub nothing_accepted : book_opened ≡ false → (Picker.picked G t w d buffer).disk ≡ d
  unfolding Picker.picked Picker.looked book_opened outcome_of
  nothing_accepted n =
      let q : Request = Picker.opening t w.book in
      split (bool_cases (ltb Picker.last_day w.day)) (λ x. rw x)
      (λ x. let a : accepts G d q ≡ false = sym (and_then _ _ (ap not x)) ∙ n in
      rw (x, a) (split (total G q.asked (lent_to d q) d.session)
      (λ r. ap (λ (v : Drive). record { drive = v; session = (left (outcome_of G d q)).session }) (ap (λ (l : Lent). l.drive) r.1.kept)
      ∙ ap (λ (s : Session). record { drive = d.drive; session = s }) (refused_open a))
      (λ c. not_both _ (carried_says G q.asked (lent_to d q) d.session c) a)))

  -- and where one was, the disk and the session were right
  pub accepted_sane : book_opened ≡ true → Sane G d
  unfolding book_opened
  accepted_sane y = sane_accepted G d (Picker.opening t w.book) (and_right _ _ y) (λ z. omega arith)
