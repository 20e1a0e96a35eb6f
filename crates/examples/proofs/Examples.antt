-- Document 01's checked examples, proved.
use Rattle.std.specs.Prelude.{refl, ℕ, replicate}
use Rattle.std.proofs.Common.{inl, inr, arith}
use Rattle.format.specs.Diskette.{Bytes, eight_inch, image_bytes, slots_on, LongBy}
use Rattle.disk.specs.Eight.{eight_sound}
use Rattle.fields.specs.Erased.{ErasedDisk, all_erased}
use Rattle.examples.specs.Places.{place_a, place_b, place_c, place_d}
use Rattle.examples.specs.Erased.{start, blank, notes, fitting, erased_space}
use Rattle.examples.specs.Numbers.{size_largest, position_256}
use Rattle.examples.specs.Random.{random_six, random_last}
use Rattle.examples.specs.Pattern.{any_named_law, any_hit}
use Rattle.examples.specs.OneFile.{file_fcb, length_file_fcb}
use Rattle.examples.specs.Met.{any_met, random_met, position_met}
use Rattle.examples.proofs.OneMet.{largest_met, slot_met}
use Rattle.examples.specs.Slots.{slot_allowed, slot_refused}
use Rattle.examples.specs.Examples.{Examples}

-- on disks made of one of E5H throughout. size is a number of its own, so that the image is never written out
examples_on : (size : ℕ) → LongBy eight_inch size → Examples
unfolding slots_on
examples_on size is =
    let img : Bytes = replicate size 229 in
    let erased : ErasedDisk eight_inch img = all_erased eight_sound size is in
    record {
      a = place_a;
      b = place_b;
      c = place_c;
      d = place_d;
      e_number = refl;
      e = erased_space;
      e_met = (img, notes, file_fcb, blank, start, erased, fitting file_fcb length_file_fcb);
      f_last = random_last eight_inch;
      f_over = random_six eight_inch;
      f_met = random_met img erased;
      g = size_largest eight_inch;
      g_met = largest_met img erased;
      h = position_256 eight_inch;
      h_met = position_met img erased;
      i_name = any_named_law;
      i_pattern = any_hit eight_inch;
      i_met = any_met;
      j_1 = λ img e j p. slot_refused eight_sound img p.long e j 1 p.entry p.slot p.uses (λ z. omega arith) (inl (omega arith));
      j_243 = λ img e j p. slot_refused eight_sound img p.long e j 243 p.entry p.slot p.uses (λ z. omega arith) (inr (omega arith));
      j_2 = λ img e j p free. slot_allowed eight_sound img p.long e j 2 p.entry p.slot p.uses p.right free (omega arith) (omega arith);
      j_242 = λ img e j p free. slot_allowed eight_sound img p.long e j 242 p.entry p.slot p.uses p.right free (omega arith) (omega arith);
      j_met = slot_met img erased;
    }

pub examples : Examples
examples = examples_on (image_bytes eight_inch) refl
