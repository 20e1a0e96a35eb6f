-- A passed table taken apart, and a call none of whose rows holds.
use Rattle.std.specs.Prelude.{◌≡◌, true, false, None}
use Rattle.std.proofs.Math.Path.{refl, ap}
use Rattle.std.proofs.Common.{sym, ◌∙◌}
use Rattle.std.proofs.Math.Bool.{not}
use borrow.Author.Tests.{not-false}
use Rattle.format.specs.Diskette.{Geometry}
use Rattle.model.specs.declared.Session.{Session}
use Rattle.model.specs.Lent.{Lent}
use Rattle.model.specs.declared.Asked.{Asked}
use Rattle.model.specs.Kinds.{kind_of, is_call}
use Rattle.model.specs.Table.{parameters_right_rule, disk_right_rule, own_rows, protection_holds, verdict}
use Rattle.table.specs.First.{◌&◌, NoneHolds, passed_none, none_passed}
use Rattle.table.specs.Own.{rows_for, verdict_rows}
use Rattle.table.specs.Facts.{Ready, AcceptedCall}
use Rattle.table.specs.Reflect.{parameters_right_law, disk_right_law, ready_of}
use Rattle.table.specs.Accept.{passed_call, own_of}

module _ (G : Geometry) (asked : Asked) (l : Lent) (s : Session) where
  -- a passed table taken apart
  pub accepted : verdict G asked l s ≡ None → AcceptedCall G asked l s
  accepted q =
      let t = passed_call G asked l s q in
      let none = passed_none (rows_for G asked l s) (sym (verdict_rows G asked l s t) ∙ q) in
      let ready = ready_of G asked l s (not-false (parameters_right_rule G l asked s) none.0) (not-false (disk_right_rule G l asked) none.1.0) in
      let own = none.1.1.1 in
      record { listed = t; ready = ready; spared = none.1.1.0; none = own; own = own_of G asked l s own t ready (kind_of asked.number) refl }

  -- a call none of whose rows holds is passed
  pub passes : is_call asked.number ≡ true → Ready G asked l s → protection_holds G asked l s ≡ false → NoneHolds (own_rows G asked l s) → verdict G asked l s ≡ None
  passes t r p o =
      verdict_rows G asked l s t
      ∙ none_passed (rows_for G asked l s)
      (ap not (parameters_right_law G asked l s r.fits r.time r.drive) & ap not (disk_right_law G asked l s r.image_right r.map_right_law) & p & o)
