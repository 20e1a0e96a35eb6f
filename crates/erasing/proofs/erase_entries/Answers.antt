-- The loop's invariant: the entries below e are done, and marked where they were erased.
use mathlib.Core.Path.{◌≡◌, refl, ◌∙◌}
use mathlib.Core.Bool.{true}
use native.Mathlib.Omega.{arith}
use lib.ListN.{length-set}
use Rattle.format.specs.Diskette.{eight_inch}
use Rattle.disk.specs.Eight.{eight_sound}
use Rattle.consistency.specs.Naming.{named_used}
use Rattle.erasing.specs.Erasing.{erasing_none, erasing_more, erasing_image, erasing_map}
use Rattle.erasing.proofs.erase_entries.Goals as goal

pub loop-e-init : goal.loop-e-init
loop-e-init c = (erasing_none eight_sound _ _ _ c.requires.0 c.requires.1 _, refl)

pub loop-e-preserved : goal.loop-e-preserved
loop-e-preserved c =
    let l = c.loop-e in
    let t = c.erase_entry in (
      erasing_more eight_sound _ _ _ c.requires.0 c.requires.1 l.e l.image l.map l.picked
          t.new.image t.new.map t.result c.from.result c.from.ensures refl (omega arith) l.invariant.0 t.ensures,
      simp length-set l.invariant.1,
    )

pub returns : goal.returns
returns c =
    let l = c.loop-e in
    let q : l.e ≡ eight_inch.entries = omega arith in
    let i = rw q at l.invariant.0 in (
      erasing_image eight_sound _ _ _ c.requires.0 c.requires.1 l.image l.map l.picked i,
      c.free_held.ensures
          ∙ erasing_map eight_sound _ _ _ c.requires.0 c.requires.1 l.image l.map l.picked
          (λ e h t. named_used true c.args.user c.args.fcb.now 1 _ t c.requires.3) c.requires.4 i,
    )
