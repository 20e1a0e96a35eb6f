-- Theorem 1: the word is what call 33 gives for that record through a fresh open, on the disk as it came; it is handed out whenever it can be read,
-- and else the bytes lent stay.
use Rattle.std.specs.Prelude.{◌≡◌, Bool, false, ◌*◌, ◌≤◌, ◌<◌, length}
use Rattle.std.proofs.Math.Path.{ap, sym, subst}
use Rattle.std.proofs.Common.{◌∙◌, arith}
use Rattle.std.proofs.Math.Bool.{true, cond}
use Rattle.format.specs.Diskette.{Bytes, Geometry, Sound, record_bytes}
use Rattle.model.specs.Table.{time_right_rule}
use Rattle.demands.specs.Runs.{Disk}
use Rattle.stored.specs.Looking.{ReadsAs, opening_of}
use Rattle.stored.proofs.Looking.{reads_as, as_stored}
use Rattle.picking.specs.declared.Wanted.{Wanted}
use Rattle.picking.specs.declared.Time.{Time}
use Rattle.picking.specs.Picker.{Picked, fcb_of_rule, last_day, call_at, picked}
use Rattle.once.specs.Bytes.{Named, begins_fcb_of}
use Rattle.once.specs.Picks.{has_word}
use Rattle.once.proofs.Picks.{pick_run}
use Rattle.once.specs.Table.{bytes_are}
use Rattle.once.specs.Word.{can_read, read_can}

module _ {G : Geometry} (S : Sound G) (countable : G.per_block * G.blocks < 16777216) (t : Time) (w : Wanted) (nm : Named w) (d : Disk) (buffer : Bytes) where
  abbrev p : Picked
  p = picked G t w d buffer

  -- a word that is handed out is the day's record of the book
  pub word_read : (picked G t w d buffer).given ≡ true → ReadsAs G (call_at t 0) d (fcb_of_rule w.book) w.day (picked G t w d buffer).word
  unfolding time_right_rule
  word_read g =
      let x = pick_run S countable t w nm d buffer in
      let h : has_word G t w d buffer ≡ true = sym x.given ∙ g in
      let c = can_read t w d buffer h in
      subst (ReadsAs G (call_at t 0) d (fcb_of_rule w.book) w.day) (sym (x.word ∙ rw h))
      (reads_as S (call_at t 0) d (fcb_of_rule w.book) (begins_fcb_of w.book nm.book) w.day (bytes_are G d w.book w.day) c.sane c.timed c.first c.stored)

  -- without a word the bytes lent stay
  pub word_as_lent : (picked G t w d buffer).given ≡ false → (picked G t w d buffer).word ≡ buffer
  word_as_lent g =
      let x = pick_run S countable t w nm d buffer in
      let h : has_word G t w d buffer ≡ false = sym x.given ∙ g in x.word ∙ rw h

  -- whenever it can be read it is handed out, whatever the answer
  pub word_handed_out : w.day ≤ last_day → length buffer ≡ record_bytes → (v : Bytes) → ReadsAs G (call_at t 0) d (fcb_of_rule w.book) w.day v
      → ((picked G t w d buffer).given ≡ true) × ((picked G t w d buffer).word ≡ v)
  unfolding time_right_rule
  word_handed_out day long v k =
      let x = pick_run S countable t w nm d buffer in
      let op = opening_of S (call_at t 0) d (fcb_of_rule w.book) (begins_fcb_of w.book nm.book) _ k.opens in
      let h = read_can t w d buffer v day op.time op.sane op.first long
      (as_stored S (call_at t 0) d (fcb_of_rule w.book) (begins_fcb_of w.book nm.book) w.day v (omega arith) k) in
      (x.given ∙ h.0, x.word ∙ ap (λ (b : Bool). cond b (bytes_are G d w.book w.day) buffer) h.0 ∙ h.1)
