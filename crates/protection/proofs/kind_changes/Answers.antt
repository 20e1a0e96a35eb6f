-- The kinds that are named are those of the calls that change the disk, and the others are not.
use mathlib.Core.Path.{◌≡◌, refl, ◌∙◌}
use mathlib.Core.Bool.{true, false}
use mathlib.Core.Logic.{◌⊎◌}
use Rattle.std.proofs.Common.{inl, inr}
use Rattle.model.specs.declared.Kind.{Kind}
use Rattle.model.specs.declared.Kind.TheVariants.{Unlisted, Quiet, Search, User, Settle, Close, Delete, Create, Rename, Read, Write}
use Rattle.table.specs.Protection.{changes_kind, by_kind}
use Rattle.protection.proofs.kind_changes.Goals as goal

changes : (k : Kind) → (k ≡ Close) ⊎ (k ≡ Delete) ⊎ (k ≡ Create) ⊎ (k ≡ Rename) ⊎ (k ≡ Write) → true ≡ changes_kind k
changes k (inl q) = rw q refl
changes k (inr (inl q)) = rw q refl
changes k (inr (inr (inl q))) = rw q refl
changes k (inr (inr (inr (inl q)))) = rw q refl
changes k (inr (inr (inr (inr q)))) = rw q refl

keeps : (k : Kind) → (k ≡ Close → ⊥) → (k ≡ Delete → ⊥) → (k ≡ Create → ⊥) → (k ≡ Rename → ⊥) → (k ≡ Write → ⊥) → false ≡ changes_kind k
keeps Unlisted a b c d e = refl
keeps Quiet a b c d e = refl
keeps Search a b c d e = refl
keeps User a b c d e = refl
keeps Settle a b c d e = refl
keeps Close a b c d e = absurd (a refl)
keeps Delete a b c d e = absurd (b refl)
keeps Create a b c d e = absurd (c refl)
keeps Rename a b c d e = absurd (d refl)
keeps Read a b c d e = refl
keeps Write a b c d e = absurd (e refl)

pub returns-in-Close : goal.returns-in-Close
returns-in-Close c n q = changes c.args.kind c.in-Close.is ∙ by_kind n c.args.kind q

pub returns-in_default : goal.returns-in_default
returns-in_default c n q =
    let d = c.in_default in keeps c.args.kind d.not-Close d.not-Delete d.not-Create d.not-Rename d.not-Write ∙ by_kind n c.args.kind q
