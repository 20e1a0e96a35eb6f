-- What the tests of the entry point tell, and the call that no function of the dispatch answers: 13.
use Rattle.std.specs.Prelude.{◌≡◌, Bool, true, ℕ, not}
use Rattle.std.proofs.Math.Path.{sym}
use Rattle.std.proofs.Common.{ap, ◌∙◌}
use Rattle.format.specs.Diskette.{Bytes, Geometry}
use Rattle.model.specs.declared.Asked.{Asked}
use Rattle.model.specs.declared.Session.{Session}
use Rattle.model.specs.declared.Answer.{Answer}
use Rattle.model.specs.declared.Kind.{Kind}
use Rattle.model.specs.declared.Kind.TheVariants.{Unlisted}
use Rattle.model.specs.Kinds.{is_call, kind_of, one_of, same}
use Rattle.model.specs.Lent.{Lent, outcome}
use Rattle.model.specs.Step.{step}
use Rattle.table.specs.Facts.{Ready}
use Rattle.table.specs.Own.{calling}
use Rattle.table.specs.OwnStep.{own_step, ready_own, own_at}
use Rattle.table.specs.Protection.{stopped_calls, other_spared}
use Rattle.stamping.specs.Made.{made_at_law, step_plain, log_in_made}

-- the kind of a number tells whether it is a call's
pub called : (n : ℕ) {k : Kind} {listed : Bool} → listed ≡ not (same k Unlisted) → k ≡ kind_of n → is_call n ≡ listed
unfolding is_call
called n says is = sym (says ∙ rw is)

-- 13 is stopped by no protection and makes no stamp, so the whole call is what its own function leaves
pub log_in_step : (G : Geometry) (asked : Asked) (l : Lent) (s : Session) → asked.number ≡ 13 → is_call asked.number ≡ true → Ready G asked l s
    → (a : Answer) (image map fcb buffer : Bytes) → outcome a image map fcb buffer ≡ own_step G (calling 13 asked) l s
    → outcome a image map fcb buffer ≡ step G asked l s
log_in_step G asked l s is t ready a image map fcb buffer own =
    let spared = other_spared G asked l s (ap (λ (n : ℕ). one_of n stopped_calls) is) in
    step_plain G asked l s t ready a image map fcb buffer (own ∙ own_at G asked l s 13 is ∙ sym (ready_own G asked l s spared))
    (sym (made_at_law G asked l s 13 is) ∙ log_in_made G asked l s)
