-- Theorems 4 and 5: on trouble, and where the log had the day, no byte of image or map changes but access stamps of book and log. And in every run no
-- byte changes but in entries, stamps and records of the log, and access stamps of the book; the map stays right, and nothing becomes pending.
use Rattle.std.specs.Prelude.{◌≡◌, ◌⊎◌, true, false, ℕ, ◌*◌, ◌<◌, ◌/◌, ◌%◌, length, get_or}
use Rattle.std.proofs.Math.Path.{ap, subst}
use Rattle.std.proofs.Common.{sym, ◌∙◌, inl, inr, mod-lt, arith}
use borrow.Author.Tests.{leb-true}
use Rattle.lists.specs.Cases.{split, bool_cases, eq_or_ne, not_both}
use Rattle.format.specs.Diskette.{Bytes, Geometry, Sound, Long, extent_records}
use Rattle.format.specs.Entries.{entry_at, is_file_rule}
use Rattle.format.specs.Dates.{is_dates}
use Rattle.format.specs.Consistent.{consistent}
use Rattle.format.specs.Notes.{note_at_rule, free_note, recorded_note, is_pending, map_right}
use Rattle.disk.specs.Places.{block_once}
use Rattle.consistency.specs.Naming.{file_found}
use Rattle.model.specs.Lent.{protected}
use Rattle.model.specs.Target.{place_in}
use Rattle.effects.specs.View.{Names}
use Rattle.stored.specs.Told.{block_in}
use Rattle.once.specs.Table.{size_is, extent_at}
use Rattle.invariant.specs.Good.{Good, good_of, good_consistent, good_right}
use Rattle.effects.specs.Where.{Where, in_stamp, frame_wider, by_rule, in_entry, in_new, in_record, Theirs}
use Rattle.effects.specs.Closed.{by_name}
use Rattle.demands.specs.Runs.{Disk}
use Rattle.stored.specs.Closed.{Sane, Restamped}
use Rattle.stored.specs.Restamped.{unstamped, row_restamped, dates_restamped, sane_restamped}
use Rattle.stored.specs.OnlyNamed.{OnlyNamed, by_used}
use Rattle.stored.specs.Grown.{grown_only}
use Rattle.stored.specs.Frames.{FileBlock, touched_second, restamped_only, block_restamped, block_byte}
use Rattle.picking.specs.declared.Wanted.{Wanted}
use Rattle.picking.specs.declared.Time.{Time}
use Rattle.picking.specs.declared.Pick.TheVariants.{Logged}
use Rattle.picking.specs.Picker.{fcb_of_rule, picked}
use Rattle.once.specs.Bytes.{Named}
use Rattle.once.specs.Session.{book_opened, nothing_accepted, accepted_sane}
use Rattle.once.specs.Picks.{PickAccess, PickGrew, Left, same, more}
use Rattle.once.proofs.Picks.{pick_run}
use Rattle.once.specs.Unharmed.{good_restamped, NewRecord, Touched, log_grown, none_put, stamped_byte}

module _ {G : Geometry} (S : Sound G) (countable : G.per_block * G.blocks < 16777216) (t : Time) (w : Wanted) (nm : Named w) (d : Disk) (buffer : Bytes) where
  abbrev e : Disk
  e = (picked G t w d buffer).disk

  abbrev user : ℕ
  user = d.session.user

  left : Left G t w d (picked G t w d buffer)
  left = (pick_run S countable t w nm d buffer).left

  -- ---- theorem 4
  -- the image is the same but for access stamps of book and log, of the time handed in; the map is the same
  pub trouble_unharmed : ((picked G t w d buffer).pick ≡ Logged → ⊥) → Restamped G (PickAccess G t w d) d (picked G t w d buffer).disk
  trouble_unharmed n = go left
    where
      go : Left G t w d (picked G t w d buffer) → Restamped G (PickAccess G t w d) d (picked G t w d buffer).disk
      go (same f r) = r
      go (more p y g) = absurd (n p)

  -- and on a protected session both are the same, byte for byte
  pub protected_unharmed : protected d.session ≡ true → ((picked G t w d buffer).pick ≡ Logged → ⊥)
      → ((picked G t w d buffer).disk.drive.image ≡ d.drive.image) × ((picked G t w d buffer).disk.drive.map ≡ d.drive.map)
  protected_unharmed p n =
      let r = trouble_unharmed n in
      (unstamped G (PickAccess G t w d) d e r (none_put (PickAccess G t w d) (λ x h. split h (λ a. not_both _ p a.lifted) (λ a. not_both _ p a.lifted)) r.stamps r.each), r.map)

  -- ---- theorem 5
  only_log : (g : PickGrew G t w d e) → OnlyNamed G (by_name user (fcb_of_rule w.log)) (entry_at G g.mid.drive.image) (entry_at G e.drive.image)
  only_log g =
      subst (λ (u : ℕ). OnlyNamed G (by_name u (fcb_of_rule w.log)) (entry_at G g.mid.drive.image) (entry_at G e.drive.image)) g.before.user
      (grown_only (fcb_of_rule w.log) g.log.grown)

  module _ (g : PickGrew G t w d (picked G t w d buffer).disk) where
    abbrev m : Disk
    m = g.mid

    abbrev N : Names
    N = by_name user (fcb_of_rule w.log)

    abbrev n : ℕ
    n = size_is G d w.log

    sane_mid : Sane G m
    sane_mid = sane_restamped S (PickAccess G t w d) d m g.sane g.before

    -- the block of the new record is the one that the log has for it
    block_is : block_in G (entry_at G e.drive.image) n (extent_at G e w.log (n / extent_records)) ≡ (log_grown S t w d e g).block
    unfolding extent_at
    block_is =
        ap (block_in G (entry_at G e.drive.image) n)
        (file_found G (entry_at G e.drive.image) e.session.user g.log.sane.range.user (fcb_of_rule w.log) 1 (n / extent_records) (log_grown S t w d e g).entry (log_grown S t w d e g).low
        (subst (λ (u : ℕ). is_file_rule G u (fcb_of_rule w.log) 1 (n / extent_records) (entry_at G e.drive.image (log_grown S t w d e g).entry) ≡ true) (sym (g.log.user ∙ g.before.user))
        (log_grown S t w d e g).file) g.log.sane.good.inv.dir)
        ∙ (log_grown S t w d e g).slot

    new_record : (x : ℕ) → x ≡ place_in G (log_grown S t w d e g).block (n % extent_records) → FileBlock G d.drive.image d.drive.map user (fcb_of_rule w.log) x → NewRecord G w d e x
    unfolding place_in
    new_record x q h =
        let one = block_once G h.block (h.place % G.per_block) (log_grown S t w d e g).block (n % extent_records % G.per_block) (mod-lt h.place S.some_record)
        (mod-lt (n % extent_records) S.some_record) (sym h.one.is ∙ q) in
        record {
          block = (log_grown S t w d e g).block;
          has = block_is;
          is = q;
          theirs = subst (Theirs G d.drive.image d.drive.map N) one.0 h.one.theirs;
        }

    -- so a byte of a record stays, or is one of that record
    refined : (i : ℕ) → Where G m.drive.image e.drive.image N (FileBlock G d.drive.image d.drive.map user (fcb_of_rule w.log)) i
        → (get_or e.drive.image i 0 ≡ get_or m.drive.image i 0) ⊎ Where G m.drive.image e.drive.image N (NewRecord G w d e) i
    refined i (by_rule (in_entry k p h)) = inr (by_rule (in_entry k p h))
    refined i (by_rule (in_new k p z h)) = inr (by_rule (in_new k p z h))
    refined i (by_rule (in_record x p h)) =
        split (block_byte S d.drive.image d.drive.map m.drive.image e.drive.image g.sane.good sane_mid.good.image_long g.log.sane.good.image_long
        user (fcb_of_rule w.log) (place_in G (log_grown S t w d e g).block (n % extent_records)) (log_grown S t w d e g).recs i x p h)
        (λ q. inl q) (λ q. inr (by_rule (in_record x p (new_record x q h))))
    refined i (in_stamp k which p q h) = inr (in_stamp k which p q h)

    between_byte : (i : ℕ) → (get_or e.drive.image i 0 ≡ get_or m.drive.image i 0) ⊎ Where G m.drive.image e.drive.image N (NewRecord G w d e) i
    between_byte i =
        let r = g.before in
        let frame = frame_wider G m.drive.image e.drive.image (by_name m.session.user (fcb_of_rule w.log)) (by_name user (fcb_of_rule w.log)) _
        (FileBlock G d.drive.image d.drive.map user (fcb_of_rule w.log))
        (λ x h. subst (λ (u : ℕ). by_name u (fcb_of_rule w.log) x ≡ true) r.user h)
        (λ x h. block_restamped S (PickAccess G t w d) d m g.sane r user (fcb_of_rule w.log) x
        (subst (λ (u : ℕ). FileBlock G m.drive.image m.drive.map u (fcb_of_rule w.log) x) r.user h)) g.log.frame in
        split (frame.byte i) (λ q. inl q) (λ p. refined i p)

    grown_byte : (i : ℕ) → (get_or e.drive.image i 0 ≡ get_or d.drive.image i 0) ⊎ Touched G t w d e i
    grown_byte i =
        split (between_byte i)
        (λ q. split (stamped_byte S countable t w nm d buffer g.sane m g.before i) (λ p. inl (q ∙ p)) (λ p. inr p))
        (λ p. inr (inl (touched_second S N (by_used user (fcb_of_rule w.log) g.sane.range.user) (NewRecord G w d e) d.drive.image m.drive.image e.drive.image
        (restamped_only S (PickAccess G t w d) d m g.sane g.before N) (only_log g) i p)))

    -- one entry at most changes, date entries aside
    changed_is : (k : ℕ) → k < G.entries → is_dates (entry_at G d.drive.image k) ≡ false → (entry_at G e.drive.image k ≡ entry_at G d.drive.image k → ⊥)
        → k ≡ (log_grown S t w d e g).entry
    changed_is k low plain ne =
        split (eq_or_ne k (log_grown S t w d e g).entry) (λ q. q)
        (λ q. absurd (ne ((log_grown S t w d e g).others k low (dates_restamped S (PickAccess G t w d) d m g.sane g.before k low ∙ plain) q
        ∙ row_restamped S (PickAccess G t w d) d m g.sane g.before k low plain)))

  -- a byte that changed lies there
  pub bytes_unharmed : (i : ℕ) → (get_or (picked G t w d buffer).disk.drive.image i 0 ≡ get_or d.drive.image i 0) ⊎ Touched G t w d (picked G t w d buffer).disk i
  bytes_unharmed i =
      split (bool_cases (book_opened G t w d buffer)) (λ y. go (accepted_sane G t w d buffer y) left)
      (λ y. inl (ap (λ (x : Disk). get_or x.drive.image i 0) (nothing_accepted G t w d buffer y)))
    where
      go : Sane G d → Left G t w d (picked G t w d buffer) → (get_or (picked G t w d buffer).disk.drive.image i 0 ≡ get_or d.drive.image i 0)
          ⊎ Touched G t w d (picked G t w d buffer).disk i
      go sane (same f r) = stamped_byte S countable t w nm d buffer sane e r i
      go sane (more p y g) = grown_byte g i

  -- and at most one entry does, date entries aside
  pub one_entry : (j k : ℕ) → j < G.entries → k < G.entries → is_dates (entry_at G d.drive.image j) ≡ false → is_dates (entry_at G d.drive.image k) ≡ false
      → (entry_at G (picked G t w d buffer).disk.drive.image j ≡ entry_at G d.drive.image j → ⊥)
      → (entry_at G (picked G t w d buffer).disk.drive.image k ≡ entry_at G d.drive.image k → ⊥) → j ≡ k
  one_entry j k lj lk pj pk cj ck =
      split (bool_cases (book_opened G t w d buffer)) (λ y. go (accepted_sane G t w d buffer y) left)
      (λ y. absurd (cj (ap (λ (x : Disk). entry_at G x.drive.image j) (nothing_accepted G t w d buffer y))))
    where
      go : Sane G d → Left G t w d (picked G t w d buffer) → j ≡ k
      go sane (same f r) = absurd (cj (row_restamped S (PickAccess G t w d) d e sane r j lj pj))
      go sane (more p y g) = changed_is g j lj pj cj ∙ sym (changed_is g k lk pk ck)

  -- an image that is consistent and a map that is right stay so, and keep their lengths
  map_stays_right : Good G d.drive.image d.drive.map → Good G (picked G t w d buffer).disk.drive.image (picked G t w d buffer).disk.drive.map
  map_stays_right h = go left
    where
      go : Left G t w d (picked G t w d buffer) → Good G (picked G t w d buffer).disk.drive.image (picked G t w d buffer).disk.drive.map
      go (same f r) = good_restamped S (PickAccess G t w d) d e r h
      go (more p y g) = g.log.sane.good

  pub stays_right : Long G d.drive.image → length d.drive.map ≡ G.blocks → consistent G d.drive.image ≡ true
      → map_right G (entry_at G d.drive.image) d.drive.map ≡ true
      → Long G (picked G t w d buffer).disk.drive.image × (length (picked G t w d buffer).disk.drive.map ≡ G.blocks)
      × (consistent G (picked G t w d buffer).disk.drive.image ≡ true)
      × (map_right G (entry_at G (picked G t w d buffer).disk.drive.image) (picked G t w d buffer).disk.drive.map ≡ true)
  stays_right long many c r =
      let g = map_stays_right (good_of G d.drive.image d.drive.map long many c r) in
      (g.image_long, g.map_long, good_consistent G e.drive.image e.drive.map g, good_right G e.drive.image e.drive.map g)

  -- each note stays, or that of a free block becomes recorded
  pub notes_unharmed : (b : ℕ) → b < G.blocks → (note_at_rule (picked G t w d buffer).disk.drive.map b ≡ note_at_rule d.drive.map b)
      ⊎ ((note_at_rule d.drive.map b ≡ free_note) × (note_at_rule (picked G t w d buffer).disk.drive.map b ≡ recorded_note))
  notes_unharmed b low = go left
    where
      go : Left G t w d (picked G t w d buffer) → (note_at_rule (picked G t w d buffer).disk.drive.map b ≡ note_at_rule d.drive.map b)
          ⊎ ((note_at_rule d.drive.map b ≡ free_note) × (note_at_rule (picked G t w d buffer).disk.drive.map b ≡ recorded_note))
      go (same f r) = inl (ap (λ (m : Bytes). note_at_rule m b) r.map)
      go (more p y g) =
          let here : note_at_rule g.mid.drive.map b ≡ note_at_rule d.drive.map b = ap (λ (m : Bytes). note_at_rule m b) g.before.map in
          split (g.log.grown.notes b low) (λ q. inl (q ∙ here)) (λ q. inr (sym here ∙ q.1, q.2))

  -- at most one note changes
  pub one_note_changes : (b c : ℕ) → b < G.blocks → c < G.blocks → (note_at_rule (picked G t w d buffer).disk.drive.map b ≡ note_at_rule d.drive.map b → ⊥)
      → (note_at_rule (picked G t w d buffer).disk.drive.map c ≡ note_at_rule d.drive.map c → ⊥) → b ≡ c
  one_note_changes b c low-b low-c change-b change-c = go left
    where
      go : Left G t w d (picked G t w d buffer) → b ≡ c
      go (same f r) = absurd (change-b (ap (λ (m : Bytes). note_at_rule m b) r.map))
      go (more p y g) =
          split (g.log.grown.notes b low-b) (λ q. absurd (change-b (q ∙ ap (λ (m : Bytes). note_at_rule m b) g.before.map)))
          (λ q. split (g.log.grown.notes c low-c) (λ z. absurd (change-c (z ∙ ap (λ (m : Bytes). note_at_rule m c) g.before.map)))
          (λ z. q.0 ∙ sym z.0))

  -- so nothing is pending that was not before
  pub nothing_pending : (b : ℕ) → b < G.blocks → is_pending (note_at_rule (picked G t w d buffer).disk.drive.map b) ≡ true
      → note_at_rule (picked G t w d buffer).disk.drive.map b ≡ note_at_rule d.drive.map b
  unfolding is_pending
  nothing_pending b low h =
      split (notes_unharmed b low) (λ q. q) (λ q. absurd (omega (arith, leb-true 16 (note_at_rule e.drive.map b) h, q.1)))

  -- the user and the protection are what they were
  pub user_stays : (picked G t w d buffer).disk.session.user ≡ d.session.user
  user_stays = go left
    where
      go : Left G t w d (picked G t w d buffer) → (picked G t w d buffer).disk.session.user ≡ d.session.user
      go (same f r) = r.user
      go (more p y g) = g.log.user ∙ g.before.user

  pub protection_stays : (picked G t w d buffer).disk.session.lifted ≡ d.session.lifted
  protection_stays = go left
    where
      go : Left G t w d (picked G t w d buffer) → (picked G t w d buffer).disk.session.lifted ≡ d.session.lifted
      go (same f r) = r.lifted
      go (more p y g) = g.log.lifted ∙ g.before.lifted
