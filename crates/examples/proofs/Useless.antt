-- The useless builds of document 01 fall: those that make up space or sizes on a disk with a single file, and so each of them.
use Rattle.std.proofs.Math.Path.{◌≡◌, refl, ap}
use Rattle.std.proofs.Common.{sym, ◌∙◌, arith}
use Rattle.std.specs.Prelude.{ℕ, ◌≤◌, replicate}
use Rattle.std.proofs.Math.ListN.{get_or}
use Rattle.lists.specs.Cases.{split, eq_or_ne}
use Rattle.lists.specs.Splice.{splice}
use Rattle.table.specs.Own.{ask}
use Rattle.format.specs.Diskette.{Bytes, image_bytes, eight_inch, LongBy}
use Rattle.disk.specs.Eight.{eight_sound}
use Rattle.model.specs.declared.Asked.{Asked}
use Rattle.model.specs.declared.Session.{Session}
use Rattle.model.specs.Lent.{Lent, Outcome, ended}
use Rattle.model.specs.Step.{step}
use Rattle.fields.specs.Erased.{ErasedDisk, all_erased}
use Rattle.examples.specs.Erased.{ask_right, start, blank, notes, fitting}
use Rattle.examples.specs.OneFile.{one_file_rule, file_fcb, length_file_fcb, file_count, InRange, Entry, entry_of}
use Rattle.examples.proofs.OneFile.{one_long, one_consistent, one_count, one_sized}
use Rattle.examples.specs.Useless.{Build, Falls, right, right_remembers, lent_after, on_logged, space_byte, erased_byte, MakesUpSpace, MakesUpSizes, refuses_all_falls, fixed_falls, nothing_falls, first_only_falls, first_only_forgets, Useless}

-- a file of r records in block 2
abbrev small : ℕ → Entry
small r = entry_of 0 r 2

in_range : (r : ℕ) → InRange (small r)
in_range r = record { extent = omega arith; low = omega arith; high = omega arith }

module _ (img : Bytes) (erased : ErasedDisk eight_inch img) where
  -- with a file of r records: the first byte is 80H, and file A has r records
  one_byte : (r : ℕ) → get_or (on_logged 46 (one_file_rule img (small r))).lent.buffer 0 0 ≡ 128
  one_byte r =
      space_byte (one_file_rule img (small r)) (one_long img erased (small r) (in_range r)) (one_consistent img erased (small r) (in_range r)) 240
      (one_count img erased (small r) (in_range r) refl)

  one_size : (r : ℕ) → r ≤ 128 → get_or (on_logged 35 (one_file_rule img (small r))).lent.fcb 33 0 ≡ r
  unfolding splice file_fcb
  one_size r h = let two = one_sized img erased (small r) (in_range r) notes blank start refl (fitting file_fcb length_file_fcb) (ask 0) (ask_right 0) in rw (two, file_count (small r) h) (omega arith)

  -- an answer that does not go by the disk is wrong on one of two disks
  one_of_two : (b : Build) (asked : Asked) (l m : Lent) (s : Session) (byte : Outcome → ℕ)
      → byte (b 1 asked l s) ≡ byte (b 1 asked m s) → (byte (step eight_inch asked l s) ≡ byte (step eight_inch asked m s) → ⊥) → Falls b
  one_of_two b asked l m s byte same differ =
      split (eq_or_ne (byte (b 1 asked l s)) (byte (step eight_inch asked l s)))
      (λ y. record { place = 1; asked = asked; lent = m; session = s; differs = λ q. differ (sym y ∙ same ∙ ap byte q) })
      (λ n. record { place = 1; asked = asked; lent = l; session = s; differs = λ q. n (ap byte q) })

  pub space_falls : (b : Build) → MakesUpSpace b → Falls b
  space_falls b f =
      one_of_two b (ask 46) (lent_after img) (lent_after (one_file_rule img (small 1))) (ended start) (λ (o : Outcome). get_or o.lent.buffer 0 0)
      (ap (λ (l : Bytes). get_or l 0 0) (f 1 (lent_after img) (lent_after (one_file_rule img (small 1))) (ended start) record { same_fcb = refl; same_buffer = refl }))
      (λ q. omega (arith, erased_byte img erased, one_byte 1))

  pub sizes_fall : (b : Build) → MakesUpSizes b → Falls b
  sizes_fall b f =
      one_of_two b (ask 35) (lent_after (one_file_rule img (small 1))) (lent_after (one_file_rule img (small 2))) (ended start) (λ (o : Outcome). get_or o.lent.fcb 33 0)
      (ap (λ (l : Bytes). get_or l 33 0) (f 1 (lent_after (one_file_rule img (small 1))) (lent_after (one_file_rule img (small 2))) (ended start) record { same_fcb = refl; same_buffer = refl }))
      (λ q. omega (arith, one_size 1 (omega arith), one_size 2 (omega arith)))

-- ---- together, on a disk of E5H throughout
pub useless : (size : ℕ) → LongBy eight_inch size → Useless
useless size is =
    let img : Bytes = replicate size 229 in
    let erased : ErasedDisk eight_inch img = all_erased eight_sound size is in
    let stands : Falls right → ⊥ = λ f. f.differs refl in
    record {
      refuses_all = refuses_all_falls img erased;
      fixed = fixed_falls img erased;
      nothing = nothing_falls img erased;
      first_only_law = first_only_falls img erased;
      first_only_write = first_only_forgets img erased;
      made_up_space = space_falls img erased;
      made_up_sizes = sizes_fall img erased;
      right_stands = stands;
      right_useful = record {
        not_refusing = λ f. stands (refuses_all_falls img erased right f);
        not_fixed = λ a f. stands (fixed_falls img erased a right f);
        not_idle = λ f. stands (nothing_falls img erased right f);
        not_first_only = λ f. let x = first_only_falls img erased in x.differs (f x.place x.asked x.lent x.session);
        not_forgetting = right_remembers;
        not_space = λ f. stands (space_falls img erased right f);
        not_sizes = λ f. stands (sizes_fall img erased right f);
      };
    }

pub useless_builds : Useless
useless_builds = useless (image_bytes eight_inch) refl
