-- `script::ends_at` meets its contract: n bytes are there, or the slice ends first.
use borrow.Author.Rules.{rules}
use Rattle.script.specs.Script.{ends_within, ends_short}
use Rattle.script.proofs.ends_at.Goals as goal

pub returns-then-n-bytes : goal.returns-then-n-bytes
returns-then-n-bytes c = ends_within _ _ _ (search rules) (search rules)

pub returns : goal.returns
returns c = ends_short _ _ _ (search rules) (search rules)
