-- Examples a to d: where records lie.
use Rattle.std.specs.Prelude.{◌≡◌, refl}
use Rattle.format.specs.Diskette.{skew, skewed, eight_inch, disk_record, sectors_before, offset_of}

pub place_a : offset_of eight_inch (disk_record eight_inch 0 0) ≡ 6656
unfolding offset_of sectors_before skewed skew
place_a = refl

pub place_b : offset_of eight_inch (disk_record eight_inch 0 1) ≡ 7424
unfolding offset_of sectors_before skewed skew
place_b = refl

pub place_c : offset_of eight_inch (disk_record eight_inch 3 2) ≡ 9984
unfolding offset_of sectors_before skewed skew
place_c = refl

pub place_d : offset_of eight_inch (disk_record eight_inch 242 7) ≡ 254336
unfolding offset_of sectors_before skewed skew
place_d = refl
