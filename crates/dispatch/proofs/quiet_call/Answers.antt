-- Each arm is the call of its number; the rest is the one number of the kind that has no arm.
use mathlib.Core.Path.{refl}
use mathlib.Core.List.{[], ◌∷◌}
use Rattle.model.specs.declared.Kind.TheVariants.{Quiet}
use Rattle.format.specs.Diskette.{eight_inch}
use Rattle.model.specs.Kinds.{kind_of}
use Rattle.model.specs.Step.{told}
use Rattle.table.specs.Own.{calling}
use Rattle.table.specs.OwnStep.{quiet_own}
use Rattle.dispatch.specs.Numbers.{last_of, at_number}
use Rattle.dispatch.proofs.quiet_call.Goals as goal

pub returns-in-15-clause-comes_to : goal.returns-in-15-clause-comes_to
returns-in-15-clause-comes_to c = at_number _ _ _ c.in-15.is (λ a. c.open_file.ensures a _ _)

pub returns-in-35-clause-comes_to : goal.returns-in-35-clause-comes_to
returns-in-35-clause-comes_to c = at_number _ _ _ c.in-35.is (λ a. c.file_size.ensures a _ _)

pub returns-in-36-clause-comes_to : goal.returns-in-36-clause-comes_to
returns-in-36-clause-comes_to c = at_number _ _ _ c.in-36.is (λ a. c.random_record.ensures a _ _ _)

pub returns-in_default-clause-comes_to : goal.returns-in_default-clause-comes_to
unfolding kind_of told
returns-in_default-clause-comes_to c =
    at_number _ _ _ (last_of Quiet _ 46 (15 ∷ 35 ∷ 36 ∷ []) refl refl c.requires.0 c.in_default.in_default-own.rest)
    (λ a. quiet_own eight_inch (calling 46 a) _ _ _ refl tt (c.free_space.ensures _ _))
