-- The examples of a disk with one entry speak of something: a disk, straight after a log-in, on which what each of them asks for holds.
use Rattle.std.specs.Prelude.{◌≡◌, true, false, ℕ, ◌≤◌}
use Rattle.std.proofs.Math.Path.{refl}
use Rattle.std.proofs.Common.{ap, sym, ◌∙◌, subst, arith}
use Rattle.format.specs.Diskette.{Bytes, eight_inch}
use Rattle.format.specs.Entries.{entry_at, rc_of}
use Rattle.format.specs.Notes.{is_listed}
use Rattle.model.specs.declared.Asked.{Asked}
use Rattle.model.specs.Table.{time_right_rule}
use Rattle.model.specs.Lent.{ended}
use Rattle.fields.specs.Erased.{ErasedDisk}
use Rattle.examples.specs.Erased.{start, blank, notes, fitting}
use Rattle.examples.specs.Numbers.{HasEntry, size_largest}
use Rattle.examples.specs.OneFile.{InRange, entry_of, one_file_rule, file_fcb, length_file_fcb, file_full, fcb_name}
use Rattle.examples.proofs.OneFile.{one_long, one_rc, one_consistent, one_only, one_uses, rest_unlisted, one_lent, one_ready, one_entry}
use Rattle.examples.specs.Met.{Largest, SlotOf}

module _ (img : Bytes) (erased : ErasedDisk eight_inch img) where
  pub largest_met : (rc : ℕ) → 128 ≤ rc → (asked : Asked) → time_right_rule asked ≡ true → Largest rc asked
  largest_met rc high asked time =
      let f = entry_of 2047 rc 2 in
      let full = file_full f high in
      let range : InRange f = record { extent = omega arith; low = omega arith; high = omega arith } in
      let fit = fitting file_fcb length_file_fcb in
      let ready = one_ready img erased f range notes blank start refl fit asked time in
      let own = one_entry img erased f range notes blank start refl fit asked time in
      let l = one_lent img erased f range notes blank start refl fit asked time in
      let has = subst (HasEntry eight_inch l (ended start) 2047) full own in
      record {
        lent = l;
        session = ended start;
        ready = ready;
        name = fcb_name;
        has = has;
        byte = λ e h u. ap (λ (x : ℕ). rc_of (entry_at eight_inch (one_file_rule img f) x)) (one_only img erased f range e h u) ∙ one_rc img erased f range;
        only = λ e g h k u v. one_only img erased f range e h u ∙ sym (one_only img erased f range g k v);
        gives = size_largest eight_inch asked _ (ended start) ready fcb_name has;
      }

  -- it lists block 3 alone
  pub slot_met : (i : Bytes) × SlotOf i 0 0 × (is_listed eight_inch (entry_at eight_inch i) 2 ≡ false) × (is_listed eight_inch (entry_at eight_inch i) 242 ≡ false)
  slot_met =
      let f = entry_of 0 1 3 in
      let range : InRange f = record { extent = omega arith; low = omega arith; high = omega arith } in (
        one_file_rule img f,
        record {
          long = one_long img erased f range;
          right = one_consistent img erased f range;
          entry = omega arith;
          slot = omega arith;
          uses = one_uses img erased f range;
        },
        rest_unlisted img erased f range 2 (omega arith) (λ q. omega arith),
        rest_unlisted img erased f range 242 (omega arith) (λ q. omega arith),
      )
