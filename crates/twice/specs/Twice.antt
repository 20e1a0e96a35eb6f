-- What two runs of the picker that meet its contract come to: document 02's "however often it is started".
use Rattle.std.specs.Prelude.{◌≡◌, ◌⊎◌, Bool, cond, ℕ, ◌<◌, length}
use Rattle.std.proofs.Common.{ap, sym, subst, ◌∙◌, arith}
use Rattle.lists.specs.Cases.{split}
use Rattle.format.specs.Diskette.{Bytes, eight_inch, record_bytes}
use Rattle.demands.specs.Runs.{Disk, disk_of}
use Rattle.stored.specs.Closed.{Restamped}
use Rattle.picking.specs.declared.Wanted.{Wanted}
use Rattle.picking.specs.declared.Time.{Time}
use Rattle.picking.specs.declared.Pick.{Pick}
use Rattle.picking.specs.Numbers.{says_of}
use Rattle.picking.specs.Picker.{picked}
use Rattle.once.specs.Bytes.{Named}
use Rattle.once.specs.Calls.{Timed}
use Rattle.once.specs.Picks.{PickAccess}
use Rattle.once.proofs.Eight.{three_second}
use Rattle.benzokamuri.specs.declared.Picked.{Picked}
use Rattle.benzokamuri.specs.Handed.{Handed}
use Rattle.twice.specs.declared.Twice.{Twice}
use Rattle.twice.specs.Once.{picks_word}

-- a second run, on the disk m, answers again, with the first one's word, and leaves m as it was but for access stamps of book and log
pub record SameWord (wanted : Wanted) (again : Time) (m e : Disk) (second : Picked) (word other : Bytes) : Type 0 where
  pub number : second.number ≡ 1
  pub given : second.given ≡ 1
  pub same : other ≡ word
  pub unharmed : Restamped eight_inch (PickAccess eight_inch again wanted m) m e

-- the disk between the two: what the first run leaves of d
abbrev pub between : Wanted → Time → Disk → Bytes → Disk
between wanted time d lent = (picked eight_inch time wanted d lent).disk

-- each of the two is what the picker's definition comes to, the second on what the first left; and where the first picked the word, logged or again,
-- the second's time is in BCD and it is lent 128 bytes, it gives the same word. word, other, image and map are the bytes lent, afterwards
pub record PickedTwice (wanted : Wanted) (time again : Time) (d : Disk) (lent empty : Bytes) (r : Twice) (word other image map : Bytes) : Type 0 where
  pub first : Handed r.first word (between wanted time d lent).drive.image (between wanted time d lent).drive.map (picked eight_inch time wanted d lent)
  pub second : Handed r.second other image map (picked eight_inch again wanted (between wanted time d lent) empty)
  pub same_word : (r.first.number ≡ 0) ⊎ (r.first.number ≡ 1) → Timed again → length empty ≡ record_bytes
      → SameWord wanted again (between wanted time d lent) (disk_of image map r.second.session) r.second word other

-- 0 and 1 are the numbers of a run that picked the word, logged or again
low_number : (n : ℕ) → (n ≡ 0) ⊎ (n ≡ 1) → n < 2
low_number n h = split h (λ z. omega arith) (λ z. omega arith)

-- ---- two runs that meet the picker's contract, the second on the image, the map and the session that the first left
module _ (wanted : Wanted) (named : Named wanted) (time again : Time) (d : Disk) (lent empty : Bytes) (r : Twice) (word other image map left kept : Bytes)
    (one : Handed r.first word left kept (picked eight_inch time wanted d lent))
    (two : Handed r.second other image map (picked eight_inch again wanted (disk_of left kept r.first.session) empty)) where
  abbrev m : Disk
  m = between wanted time d lent

  handed_first : Handed r.first word m.drive.image m.drive.map (picked eight_inch time wanted d lent)
  handed_first = subst (λ (x : Disk). Handed r.first word x.drive.image x.drive.map (picked eight_inch time wanted d lent)) one.disk one

  handed_second : Handed r.second other image map (picked eight_inch again wanted m empty)
  handed_second = subst (λ (x : Disk). Handed r.second other image map (picked eight_inch again wanted x empty)) one.disk two

  word_again : (r.first.number ≡ 0) ⊎ (r.first.number ≡ 1) → Timed again → length empty ≡ record_bytes
      → SameWord wanted again m (disk_of image map r.second.session) r.second word other
  word_again well timed long =
      let low = low_number r.first.number well in
      let s = three_second time wanted named d lent (picks_word (picked eight_inch time wanted d lent).pick (rw one.number at low)) again timed empty long in
      record {
        number = handed_second.number ∙ ap (λ (p : Pick). (says_of p).number) s.answer;
        given = handed_second.given ∙ ap (λ (b : Bool). cond b 1 0) s.given;
        same = handed_second.word ∙ s.word ∙ sym one.word;
        unharmed = subst (Restamped eight_inch (PickAccess eight_inch again wanted m) m) (sym handed_second.disk) s.unharmed;
      }

  pub picked_twice : PickedTwice wanted time again d lent empty r word other image map
  picked_twice = record { first = handed_first; second = handed_second; same_word = word_again }
