-- Demand 3, nothing lost. From an accepted log-in on, over any run: the image stays consistent and the map right; the map is
-- the fresh map overlaid with the book of takings; and a byte that a call changed lies in what the call names.
-- The theorems are in proofs/NothingLost; here stands what they say.
use Rattle.std.specs.Prelude.{◌≡◌, true, false, ℕ, ◌<◌, length}
use Rattle.std.proofs.Common.{ap, ◌∙◌}
use Rattle.format.specs.Diskette.{Geometry, Long}
use Rattle.format.specs.Entries.{entry_at}
use Rattle.format.specs.Consistent.{consistent}
use Rattle.format.specs.Notes.{note_at_rule, map_right, fresh_note_rule, is_pending}
use Rattle.model.specs.Calls.{logged_in}
use Rattle.model.specs.Naming.{names}
use Rattle.model.specs.Step.{settled, effect, stamped}
use Rattle.table.specs.Own.{calling}
use Rattle.model.specs.Kinds.{kind_of}
use Rattle.table.specs.Total.{InRange}
use Rattle.invariant.specs.Good.{Good, good_consistent, good_right}
use Rattle.effects.specs.Where.{Frame}
use Rattle.effects.specs.Book.{Book}
use Rattle.effects.specs.Tracks.{Tracks, overlaid, InBook, book_map, book_has, book_settled}
use Rattle.table.proofs.Accepted.{accepted_carried}
use Rattle.demands.specs.StepOk.{MayWrite}
use Rattle.demands.specs.Stamped.{good_never_one}
use Rattle.demands.specs.Runs.{Request, Disk, lent_to, outcome_of, accepts, after}

-- ---- a disk whose map tells the same as a book
pub record Booked (G : Geometry) (d : Disk) (u : Book) : Type 0 where
  pub good : Good G d.drive.image d.drive.map
  pub range : InRange G d.session
  pub tracks : Tracks G u (note_at_rule d.drive.map)

-- what an accepted log-in does
pub logged_in_law : (G : Geometry) (d : Disk) (q : Request) → q.asked.number ≡ 13 → accepts G d q ≡ true → outcome_of G d q ≡ logged_in G d.session (lent_to d q)
unfolding outcome_of effect stamped kind_of settled
logged_in_law G d q n a =
    (accepted_carried G q.asked (lent_to d q) d.session a).is
    ∙ ap (λ (k : ℕ). stamped G (calling k q.asked) (lent_to d q) d.session) n

-- ---- what is never lost
pub record NothingLost (G : Geometry) (d : Disk) (u : Book) : Type 0 where
  pub image_long : Long G d.drive.image
  pub map_long : length d.drive.map ≡ G.blocks
  pub image_consistent : consistent G d.drive.image ≡ true
  pub map_right_law : map_right G (entry_at G d.drive.image) d.drive.map ≡ true
  -- the map is the fresh map overlaid with the book
  pub overlay : (b : ℕ) → b < G.blocks → note_at_rule d.drive.map b ≡ overlaid (u b) (fresh_note_rule G (entry_at G d.drive.image) b)
  -- a block in the book has its place, and no other block's note is pending
  pub held : (b : ℕ) → b < G.blocks → (u b ≡ 0 → ⊥) → InBook G (entry_at G d.drive.image) (note_at_rule d.drive.map) u b
  pub others : (b : ℕ) → b < G.blocks → u b ≡ 0 → is_pending (note_at_rule d.drive.map b) ≡ false
  -- no call is refused for the disk: H is never 1
  pub never_refused : (q : Request) → (outcome_of G d q).answer.h ≡ 1 → ⊥

pub booked_lost : (G : Geometry) (d : Disk) (u : Book) → Booked G d u → NothingLost G d u
unfolding outcome_of
booked_lost G d u t =
    let rows = entry_at G d.drive.image in
    let m = note_at_rule d.drive.map in
    record {
      image_long = t.good.image_long;
      map_long = t.good.map_long;
      image_consistent = good_consistent G d.drive.image d.drive.map t.good;
      map_right_law = good_right G d.drive.image d.drive.map t.good;
      overlay = λ b h. book_map G rows m u t.good.inv t.tracks b h;
      held = λ b h r. book_has G rows m u t.good.inv t.tracks b h r;
      others = λ b h z. book_settled G rows m u t.good.inv t.tracks b h z;
      never_refused = λ q. good_never_one G q.asked (lent_to d q) d.session t.good;
    }

-- ---- what a call leaves as it was: byte by byte, and the length of image and map
pub record Stays (G : Geometry) (d : Disk) (q : Request) : Type 0 where
  pub frame : Frame G d.drive.image (after G d q).drive.image (names q.asked.number d.session.user q.fcb)
      (MayWrite G q.asked.number (lent_to d q) d.session (outcome_of G d q))
  pub map_length : length (after G d q).drive.map ≡ length d.drive.map
