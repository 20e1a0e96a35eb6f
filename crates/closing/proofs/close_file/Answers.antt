-- The entry of the FCB decides, and a refusal comes before anything is written.
use Rattle.format.specs.Diskette.{eight_inch}
use Rattle.closing.specs.Laws.{close_refused, close_carried}
use Rattle.closing.proofs.close_file.Goals as goal

pub returns-in_default : goal.returns-in_default
returns-in_default c asked buffer =
    let a = c.args in
    let found = c.current_entry in
    close_refused eight_inch a.image.now a.map.now a.fcb.now a.session found.result found.ensures asked buffer c.refuse.result
    c.in_default.is c.refuse.ensures

pub returns : goal.returns
returns c asked buffer =
    let a = c.args in
    let found = c.current_entry in
    let closed = c.close_entry in
    close_carried eight_inch a.image.now a.map.now a.fcb.now a.session found.result found.ensures asked buffer c.in-Some.e c.done_at.result
    closed.new.image closed.new.map c.clear_attributes.new.fcb c.in-Some.is c.done_at.ensures closed.ensures.0 closed.ensures.1
    c.clear_attributes.ensures
