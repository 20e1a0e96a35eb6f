-- `bdos::call` meets its contract: a test that fails is a row that decides, and what passed them all is ready for its own function.
use mathlib.Core.Path.{sym, ◌∙◌}
use borrow.Author.Rules.{rules}
use Rattle.format.specs.Diskette.{eight_inch}
use Rattle.table.specs.Reflect.{fits_of, ready_of}
use Rattle.table.proofs.Early.{unlisted_step, parameter_step, disk_step}
use Rattle.bdos.proofs.Steps.{called, log_in_step}
use Rattle.bdos.proofs.call.Goals as goal

pub returns-then-not-is_listed : goal.returns-then-not-is_listed
returns-then-not-is_listed c =
    unlisted_step eight_inch _ _ _ _ (called _ c.is_listed.ensures c.kind_of-kind.ensures ∙ c.if-not-is_listed.true) c.refuse.ensures

pub returns-then-not-parameters_right : goal.returns-then-not-parameters_right
returns-then-not-parameters_right c =
    parameter_step eight_inch _ _ _ _ (called _ c.is_listed.ensures c.kind_of-kind.ensures ∙ c.if-not-is_listed.false)
    (sym c.parameters_right.ensures ∙ c.if-not-parameters_right.true) c.refuse-then-not-parameters_right.ensures

pub disk_right-requires : goal.disk_right-requires
disk_right-requires c =
    let fits = fits_of eight_inch _ _ _ (sym c.parameters_right.ensures ∙ c.if-not-parameters_right.false) in (fits.image_long, fits.map_long)

pub returns-then-not-disk_right : goal.returns-then-not-disk_right
returns-then-not-disk_right c =
    disk_step eight_inch _ _ _ _ (called _ c.is_listed.ensures c.kind_of-kind.ensures ∙ c.if-not-is_listed.false)
    (sym c.parameters_right.ensures ∙ c.if-not-parameters_right.false) (sym (c.disk_right.ensures.tells.0 _ _) ∙ c.if-not-disk_right.true)
    c.refuse-then-not-disk_right.ensures

pub log_in-requires : goal.log_in-requires
log_in-requires c =
    let fits = fits_of eight_inch _ _ _ (sym c.parameters_right.ensures ∙ c.if-not-parameters_right.false) in (fits.map_long, search rules)

pub returns-then-number-eq13 : goal.returns-then-number-eq13
returns-then-number-eq13 c =
    let a = c.args.asked in
    let right = c.if-not-disk_right.false in
    log_in_step eight_inch a _ _ c.if-number-eq13.true (called _ c.is_listed.ensures c.kind_of-kind.ensures ∙ c.if-not-is_listed.false)
    (ready_of eight_inch _ _ _ (sym c.parameters_right.ensures ∙ c.if-not-parameters_right.false) (sym (c.disk_right.ensures.tells.0 _ _) ∙ right))
    _ _ _ _ _ (c.log_in.ensures a _ _ _ (c.disk_right.ensures.tells.1 right).0)

pub ready_call-requires : goal.ready_call-requires
ready_call-requires c =
    let right = c.if-not-disk_right.false in
    let seen = c.disk_right.ensures.tells.1 right in (
      c.kind_of-kind.ensures,
      called _ c.is_listed.ensures c.kind_of-kind.ensures ∙ c.if-not-is_listed.false,
      c.if-number-eq13.false,
      ready_of eight_inch _ _ _ (sym c.parameters_right.ensures ∙ c.if-not-parameters_right.false) (sym (c.disk_right.ensures.tells.0 _ _) ∙ right),
      seen.1,
      seen.2,
    )
