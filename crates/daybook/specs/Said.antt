-- What an answer alone says of a call's outcome, whatever the call left in the four buffers.
use Rattle.std.specs.Prelude.{◌≡◌, refl, true, false, cond}
use Rattle.lists.specs.Tests.{◌or◌}
use Rattle.model.specs.declared.Answer.{Answer}
use Rattle.model.specs.Kinds.{kind_of, of_record}
use Rattle.model.specs.Lent.{Lent, Outcome}
use Rattle.table.specs.Accepted.{accepted_answer}
use Rattle.picking.specs.declared.Pick.{Pick}
use Rattle.picking.specs.declared.Pick.TheVariants.{Logged, NoWord, Other}
use Rattle.picking.specs.Picker.{is_code, otherwise}

-- an outcome with this answer
abbrev pub said : Answer → Lent → Outcome
said answer l = record { answer = answer; lent = l }

-- a read of the book that was refused
abbrev pub read_trouble_rule : Outcome → Pick
read_trouble_rule o = cond (is_code 1 0 o or is_code 4 0 o) NoWord (otherwise o)

-- the close of the log
abbrev pub close_told_rule : Answer → Pick
close_told_rule r = cond (accepted_answer 16 r) Logged (Other r.a r.h)

-- ---- the calls of the picker that move a record, and those that do not
pub record OfRecords : Type 0 where
  pub read : of_record (kind_of 33) ≡ true
  pub write : of_record (kind_of 34) ≡ true

pub of_records : OfRecords
unfolding kind_of
of_records = record { read = refl; write = refl }

pub record OfEntries : Type 0 where
  pub opens : of_record (kind_of 15) ≡ false
  pub close : of_record (kind_of 16) ≡ false
  pub make : of_record (kind_of 22) ≡ false
  pub size : of_record (kind_of 35) ≡ false
  pub space : of_record (kind_of 46) ≡ false

pub of_entries : OfEntries
unfolding kind_of
of_entries = record { opens = refl; close = refl; make = refl; size = refl; space = refl }
