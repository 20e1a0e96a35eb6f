-- Kinds that are not one are told apart; and the kinds of an arm of a `match`.
use Rattle.std.specs.Prelude.{◌≡◌, refl, ◌⊎◌, true, false}
use Rattle.std.proofs.Common.{sym, ◌∙◌, inl, inr, eq-eqb}
use denote.Enum.Declared.{tag_of}
use Rattle.lists.specs.Cases.{split, bool_cases}
use Rattle.model.specs.declared.Kind.{Kind}
use Rattle.model.specs.declared.Kind.TheVariants.{Unlisted, Quiet, Search, User, Settle, Close, Delete, Create, Rename, Read, Write}
use Rattle.model.specs.contracts.Kind.{the_type}
use Rattle.model.specs.Kinds.{kind_number, same, of_record}
use Rattle.table.specs.Own.{same_is}

pub not_same : (k j : Kind) → (k ≡ j → ⊥) → same k j ≡ false
not_same k j h = split (bool_cases (same k j)) (λ t. absurd (h (same_is k j t))) (λ f. f)

-- ---- an arm of several kinds goes by the place of each in the enum, which is its number
tag_is : (k : Kind) → tag_of the_type k ≡ kind_number k
tag_is Unlisted = refl
tag_is Quiet = refl
tag_is Search = refl
tag_is User = refl
tag_is Settle = refl
tag_is Close = refl
tag_is Delete = refl
tag_is Create = refl
tag_is Rename = refl
tag_is Read = refl
tag_is Write = refl

pub moves_record : (k : Kind) → (tag_of the_type k ≡ 9) ⊎ (tag_of the_type k ≡ 10) → of_record k ≡ true
moves_record k (inl q) = rw (eq-eqb (kind_number k) 9 (sym (tag_is k) ∙ q))
moves_record k (inr q) =
    let w : same k Write ≡ true = eq-eqb (kind_number k) 10 (sym (tag_is k) ∙ q) in split (bool_cases (same k Read)) (λ t. rw t) (λ f. rw (f, w))

-- the same, of the kinds themselves
pub moves_kind : (k : Kind) → (k ≡ Read) ⊎ (k ≡ Write) → of_record k ≡ true
moves_kind k (inl q) = rw q refl
moves_kind k (inr q) = rw q refl
