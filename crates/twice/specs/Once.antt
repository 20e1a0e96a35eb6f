-- What one run of the picker that meets its contract comes to: the theorems, of what hosts are handed.
use Rattle.std.specs.Prelude.{◌≡◌, refl, ◌⊎◌, Bool, true, false, cond, ℕ, ◌<◌, get_or}
use Rattle.std.proofs.Common.{ap, sym, subst, ◌∙◌, inl, inr, arith}
use Rattle.lists.specs.Cases.{split}
use Rattle.format.specs.Diskette.{Bytes, eight_inch}
use Rattle.model.specs.declared.Asked.{Asked}
use Rattle.model.specs.Table.{time_right_rule}
use Rattle.demands.specs.Runs.{Disk, disk_of}
use Rattle.stored.specs.Closed.{Restamped}
use Rattle.stored.specs.Looking.{ReadsAs}
use Rattle.picking.specs.declared.Wanted.{Wanted}
use Rattle.picking.specs.declared.Time.{Time}
use Rattle.picking.specs.declared.Pick.{Pick}
use Rattle.picking.specs.declared.Pick.TheVariants.{Logged, Again, DayOver, NoBook, NoWord, OneFile, NoFirst, LogFull, LogReadOnly, DirectoryFull, DiskFull, Other}
use Rattle.picking.specs.Numbers.{Says, says_of}
use Rattle.picking.specs.Picker.{fcb_of_rule, call_at, picked}
use Rattle.once.specs.Again.{LoggedOnce}
use Rattle.once.specs.Bytes.{Named}
use Rattle.once.specs.Picks.{PickAccess}
use Rattle.once.specs.Table.{answer}
use Rattle.once.specs.Unharmed.{Touched}
use Rattle.once.proofs.Eight.{one_read, two_logged, four_unharmed, five_bytes, six_answers}
use Rattle.benzokamuri.specs.declared.Picked.{Picked}
use Rattle.benzokamuri.specs.Handed.{Handed}

-- r has the numbers of the answer that the table gives, in words of the directory
pub record Answers (r : Picked) (s : Says) : Type 0 where
  pub number : r.number ≡ s.number
  pub is_a : r.a ≡ s.a
  pub is_h : r.h ≡ s.h

-- a run on the disk d, lent these bytes for the word, is what the picker's definition comes to; and what the theorems say of that. word, image and map
-- are the bytes lent, afterwards; a is any call whose time is in BCD
pub record PickedOnce (wanted : Wanted) (time : Time) (d : Disk) (lent : Bytes) (r : Picked) (word image map : Bytes) : Type 0 where
  pub handed : Handed r word image map (picked eight_inch time wanted d lent)
  pub answer : Answers r (says_of (answer eight_inch wanted d time lent))
  pub read : r.given ≡ 1 → ReadsAs eight_inch (call_at time 0) d (fcb_of_rule wanted.book) wanted.day word
  pub unharmed : (r.number ≡ 0 → ⊥) → Restamped eight_inch (PickAccess eight_inch time wanted d) d (disk_of image map r.session)
  pub logged : r.number ≡ 0 → (a : Asked) → time_right_rule a ≡ true → LoggedOnce eight_inch wanted a d (disk_of image map r.session)
  pub bytes : (i : ℕ) → (get_or image i 0 ≡ get_or d.drive.image i 0) ⊎ Touched eight_inch time wanted d (disk_of image map r.session) i

-- ---- 0 and 1 are the numbers of "picked and logged" and "picked again", and of no trouble
pub picks_word : (p : Pick) → (says_of p).number < 2 → (p ≡ Logged) ⊎ (p ≡ Again)
picks_word Logged h = inl refl
picks_word Again h = inr refl
picks_word DayOver h = absurd (omega arith)
picks_word NoBook h = absurd (omega arith)
picks_word NoWord h = absurd (omega arith)
picks_word OneFile h = absurd (omega arith)
picks_word NoFirst h = absurd (omega arith)
picks_word LogFull h = absurd (omega arith)
picks_word LogReadOnly h = absurd (omega arith)
picks_word DirectoryFull h = absurd (omega arith)
picks_word DiskFull h = absurd (omega arith)
picks_word (Other a b) h = absurd (omega arith)

only_logged : (p : Pick) → (says_of p).number ≡ 0 → p ≡ Logged
only_logged p h = split (picks_word p (omega (arith, h))) (λ l. l) (λ again. absurd (one_not_none (sym (ap (λ (x : Pick). (says_of x).number) again) ∙ h)))
  where
    one_not_none : ◌≡◌ {A = ℕ} 1 0 → ⊥
    one_not_none e = omega arith

-- 1 tells that the word was handed out
was_given : (b : Bool) → ◌≡◌ {A = ℕ} (cond b 1 0) 1 → b ≡ true
was_given true h = refl
was_given false h = absurd (omega arith)

-- ---- a run that meets the picker's contract
module _ (wanted : Wanted) (named : Named wanted) (time : Time) (d : Disk) (lent : Bytes) (r : Picked) (word image map : Bytes)
    (one : Handed r word image map (picked eight_inch time wanted d lent)) where
  as_table : Answers r (says_of (answer eight_inch wanted d time lent))
  as_table =
      let same = six_answers time wanted named d lent in
      record {
        number = one.number ∙ ap (λ (p : Pick). (says_of p).number) same;
        is_a = one.is_a ∙ ap (λ (p : Pick). (says_of p).a) same;
        is_h = one.is_h ∙ ap (λ (p : Pick). (says_of p).h) same;
      }

  word_as_read : r.given ≡ 1 → ReadsAs eight_inch (call_at time 0) d (fcb_of_rule wanted.book) wanted.day word
  word_as_read h =
      subst (ReadsAs eight_inch (call_at time 0) d (fcb_of_rule wanted.book) wanted.day) (sym one.word)
      (one_read time wanted named d lent (was_given (picked eight_inch time wanted d lent).given (sym one.given ∙ h)))

  no_harm : (r.number ≡ 0 → ⊥) → Restamped eight_inch (PickAccess eight_inch time wanted d) d (disk_of image map r.session)
  no_harm trouble =
      subst (Restamped eight_inch (PickAccess eight_inch time wanted d) d) (sym one.disk)
      (four_unharmed time wanted named d lent (λ l. trouble (one.number ∙ ap (λ (p : Pick). (says_of p).number) l)))

  one_record_more : r.number ≡ 0 → (a : Asked) → time_right_rule a ≡ true → LoggedOnce eight_inch wanted a d (disk_of image map r.session)
  one_record_more h a timed =
      subst (LoggedOnce eight_inch wanted a d) (sym one.disk)
      (two_logged time wanted named d lent a timed (only_logged (picked eight_inch time wanted d lent).pick (sym one.number ∙ h)))

  byte_by_byte : (i : ℕ) → (get_or image i 0 ≡ get_or d.drive.image i 0) ⊎ Touched eight_inch time wanted d (disk_of image map r.session) i
  byte_by_byte i =
      subst (λ (x : Disk). (get_or x.drive.image i 0 ≡ get_or d.drive.image i 0) ⊎ Touched eight_inch time wanted d x i) (sym one.disk)
      (five_bytes time wanted named d lent i)

  pub picked_once : PickedOnce wanted time d lent r word image map
  picked_once = record { handed = one; answer = as_table; read = word_as_read; unharmed = no_harm; logged = one_record_more; bytes = byte_by_byte }
