-- Theorems 4 and 5: on trouble, and where the log had the day, no byte of image or map changes but access stamps of book and log. And in every run no
-- byte changes but in entries, stamps and records of the log, and access stamps of the book; the map stays right, and nothing becomes pending.
use Rattle.std.specs.Prelude.{◌≡◌, refl, ◌⊎◌, false, List, [], ◌∷◌, ℕ, ◌*◌, ◌<◌, ◌/◌, ◌%◌, get_or}
use Rattle.std.proofs.Math.Path.{subst}
use Rattle.std.proofs.Common.{sym, inl, inr}
use Rattle.lists.specs.Cases.{split}
use Rattle.format.specs.Diskette.{Bytes, Geometry, Sound, extent_records}
use Rattle.format.specs.Entries.{entry_at, ex_of}
use Rattle.facts.specs.Naming.{file_named}
use Rattle.model.specs.Target.{place_in}
use Rattle.stored.specs.Told.{block_in}
use Rattle.once.specs.Same.{size_same}
use Rattle.once.specs.Table.{size_is, extent_at}
use Rattle.model.specs.Stamps.{Stamp}
use Rattle.invariant.specs.Good.{Good}
use Rattle.invariant.specs.Stamps.{stamped_all, Each}
use Rattle.effects.specs.Where.{Where, in_stamp, Theirs}
use Rattle.effects.specs.Closed.{by_name}
use Rattle.effects.specs.Stamps.{Lies, lies}
use Rattle.demands.specs.Runs.{Disk}
use Rattle.stored.specs.Closed.{Sane, Restamped, seen_on}
use Rattle.stored.specs.Restamped.{unstamped}
use Rattle.stored.specs.Grown.{Grown}
use Rattle.stored.specs.Frames.{restamped_bytes}
use Rattle.picking.specs.declared.Wanted.{Wanted}
use Rattle.picking.specs.declared.Time.{Time}
use Rattle.picking.specs.declared.Pick.{Pick}
use Rattle.picking.specs.declared.Pick.TheVariants.{Logged, Again, DayOver, NoBook, NoWord, OneFile, NoFirst, LogFull, LogReadOnly, DirectoryFull, DiskFull, Other}
use Rattle.picking.specs.Picker.{fcb_of_rule, picked, log_record_rule}
use Rattle.once.specs.Bytes.{Named}
use Rattle.once.specs.Logs.{is_logged}
use Rattle.once.specs.Picks.{BookAccess, PickAccess, PickGrew}

-- an answer other than "picked and logged"
unlogged : (p : Pick) → (p ≡ Logged → ⊥) → is_logged p ≡ false
unlogged Logged n = absurd (n refl)
unlogged Again n = refl
unlogged DayOver n = refl
unlogged NoBook n = refl
unlogged NoWord n = refl
unlogged OneFile n = refl
unlogged NoFirst n = refl
unlogged LogFull n = refl
unlogged LogReadOnly n = refl
unlogged DirectoryFull n = refl
unlogged DiskFull n = refl
unlogged (Other a h) n = refl

-- an image stays right under stamps, whatever the session
pub good_restamped : {G : Geometry} (S : Sound G) (P : Stamp → Type 0) (d t : Disk) → Restamped G P d t → Good G d.drive.image d.drive.map
    → Good G t.drive.image t.drive.map
good_restamped {G} S P d t w g =
    subst (Good G t.drive.image) (sym w.map)
    (split w.dates (λ z. subst (λ (i : Bytes). Good G i d.drive.map) (sym (unstamped G P d t w z)) g)
    (λ y. subst (λ (i : Bytes). Good G i d.drive.map) (sym w.image) (stamped_all S d.drive.map w.stamps d.drive.image g y w.placed).good))

-- disk record x is that of the log's new record, the one at its old size: it lies in the block that the log has for it afterwards, which was free before
-- or the log's
pub record NewRecord (G : Geometry) (w : Wanted) (d e : Disk) (x : ℕ) : Type 0 where
  pub block : ℕ
  pub has : block_in G (entry_at G e.drive.image) (size_is G d w.log) (extent_at G e w.log (size_is G d w.log / extent_records)) ≡ block
  pub is : x ≡ place_in G block (size_is G d w.log % extent_records)
  pub theirs : Theirs G d.drive.image d.drive.map (by_name d.session.user (fcb_of_rule w.log)) block

-- byte i lies in an entry of the log, in an empty one that became the log's, in a stamp beside one of these, or in that record; or in the access stamp of
-- the book's extent 0
abbrev pub Touched : Geometry → Time → Wanted → Disk → Disk → ℕ → Type 0
Touched G t w d e i =
    Where G d.drive.image e.drive.image (by_name d.session.user (fcb_of_rule w.log)) (NewRecord G w d e) i
    ⊎ Lies G (BookAccess G t w d) i

-- the log's gain, seen from the disk between the reads and the write
pub log_grown : {G : Geometry} (S : Sound G) (t : Time) (w : Wanted) (d e : Disk) (g : PickGrew G t w d e)
    → Grown G (seen_on G g.mid) (seen_on G e) d.session.user (fcb_of_rule w.log) (size_is G d w.log) (log_record_rule w.year w.day)
log_grown {G} S t w d e g =
    subst (λ (n : ℕ). Grown G (seen_on G g.mid) (seen_on G e) d.session.user (fcb_of_rule w.log) n (log_record_rule w.year w.day))
    (size_same S (PickAccess G t w d) d g.mid g.sane g.before w.log)
    (subst (λ (u : ℕ). Grown G (seen_on G g.mid) (seen_on G e) u (fcb_of_rule w.log) (size_is G g.mid w.log) (log_record_rule w.year w.day))
    g.before.user g.log.grown)

-- no stamp, where none is allowed
pub none_put : (P : Stamp → Type 0) → ((x : Stamp) → P x → ⊥) → (xs : List Stamp) → Each P xs → xs ≡ []
none_put P never [] a = refl
none_put P never (x ∷ xs) a = absurd (never x a.0)

module _ {G : Geometry} (S : Sound G) (countable : G.per_block * G.blocks < 16777216) (t : Time) (w : Wanted) (nm : Named w) (d : Disk) (buffer : Bytes) where
  abbrev user : ℕ
  user = d.session.user

  -- ---- theorem 5
  -- a byte that stamps changed lies there
  pub stamped_byte : Sane G d → (m : Disk) → Restamped G (PickAccess G t w d) d m → (i : ℕ) → (get_or m.drive.image i 0 ≡ get_or d.drive.image i 0) ⊎ Touched G t w d (picked G t w d buffer).disk i
  stamped_byte sane m r i =
      split (restamped_bytes S (PickAccess G t w d) d m sane r i) (λ q. inl q) (λ x. out x)
    where
      out : Lies G (PickAccess G t w d) i → (get_or m.drive.image i 0 ≡ get_or d.drive.image i 0) ⊎ Touched G t w d (picked G t w d buffer).disk i
      out (lies x p (inl h)) = inr (inr (lies x p h))
      out (lies x p (inr h)) =
          inr (inl (in_stamp x.entry x.which p h.dates
          (inl (file_named G user (fcb_of_rule w.log) 1 (ex_of (fcb_of_rule w.log)) (entry_at G d.drive.image x.entry) h.file))))
