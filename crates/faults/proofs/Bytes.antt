-- A fault shows exactly where a byte of a head is not what it may be.
use Rattle.std.specs.Prelude.{◌≡◌, refl, Bool, true, ℕ, ◌<◌, eqb}
use Rattle.lists.specs.Tests.{◌and◌, ◌or◌, agree, agree_same}
use Rattle.lists.specs.Below.{all_below, all_at}
use Rattle.format.specs.Names.{name_byte_rule}
use Rattle.faults.specs.Faults.{head_bytes, fault_of}
use Rattle.faults.specs.Bytes.{counted, lowest, highest, barred, byte_fault, byte_ok}

told : ℕ → ℕ → Bool
told i b = agree (eqb (byte_fault i b) 0) (byte_ok i b)

-- one test that the checker computes, for all bytes at all places
all_told : all_below (λ (i : ℕ). all_below (told i) 256) head_bytes ≡ true
unfolding all_below told agree byte_fault fault_of counted lowest highest barred byte_ok name_byte_rule ◌and◌ ◌or◌
all_told = refl

pub fault_tells : (i b : ℕ) → i < head_bytes → b < 256 → eqb (byte_fault i b) 0 ≡ byte_ok i b
unfolding told
fault_tells i b h l = agree_same _ _ (all_at (told i) 256 (all_at (λ (k : ℕ). all_below (told k) 256) head_bytes all_told i h) b l)
