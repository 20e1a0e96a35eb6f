-- The kind tells which calls make stamps.
use mathlib.Core.Path.{refl, sym, ◌∙◌}
use Prim.Native.Nat.{ℕ}
use Rattle.format.specs.Diskette.{eight_inch}
use Rattle.model.specs.declared.Kind.TheVariants.{Close, Create}
use Rattle.model.specs.Lent.{lend}
use Rattle.table.specs.Own.{calling, at_kind}
use Rattle.calls.specs.Apart.{moves_kind}
use Rattle.stamping.specs.Made.{Dues}
use Rattle.stamping.specs.Due.{none_put, none_due, stampless_kind}
use Rattle.stamping.proofs.Before.kind_due.Goals as goal

pub record_due-requires : goal.record_due-requires
record_due-requires c = rw (← c.requires) (moves_kind c.args.kind c.in-Read.is)

pub returns-in-Close : goal.returns-in-Close
returns-in-Close c =
    let b = c.args.self.now in (
      c.close_due.ensures.0,
      λ buffer. at_kind (λ (m : ℕ). Dues eight_inch (calling m b.asked) (lend b.image.now b.map.now b.fcb.now buffer) b.session c.close_due.result)
          Close b.asked.number refl (c.close_due.ensures.1 b.asked buffer, tt) (sym c.requires ∙ c.in-Close.is),
    )

pub returns-in-Create : goal.returns-in-Create
returns-in-Create c =
    let b = c.args.self.now in (
      c.create_due.ensures.0,
      λ buffer. at_kind (λ (m : ℕ). Dues eight_inch (calling m b.asked) (lend b.image.now b.map.now b.fcb.now buffer) b.session c.create_due.result)
          Create b.asked.number refl (c.create_due.ensures.1 b.asked b.map.now b.fcb.now buffer b.session, tt) (sym c.requires ∙ c.in-Create.is),
    )

pub returns-in-Search : goal.returns-in-Search
returns-in-Search c =
    let b = c.args.self.now in (
      none_put refl,
      λ buffer. none_due eight_inch b.asked (lend b.image.now b.map.now b.fcb.now buffer) b.session refl
          (rw (← c.requires) (stampless_kind eight_inch b.asked (lend b.image.now b.map.now b.fcb.now buffer) b.session c.args.kind c.in-Search.is)),
    )
