-- Which answers say that a call was carried out.
use Rattle.std.specs.Prelude.{Bool, not, cond, ℕ}
use Rattle.std.proofs.Math.Dec.{eqb}
use Rattle.lists.specs.Tests.{◌and◌}
use Rattle.model.specs.declared.Answer.{Answer}
use Rattle.model.specs.Kinds.{kind_of, of_record}

-- the answer of an accepted call: H is 0, and A is 0 for the record calls, not 255 for the others
unfoldable pub accepted_answer : ℕ → Answer → Bool
accepted_answer n a = eqb a.h 0 and cond (of_record (kind_of n)) (eqb a.a 0) (not (eqb a.a 255))
