-- The stamps of a call, put down after its own rule: the image differs in date entries alone, and each byte stays or lies in one of those stamps.
use Rattle.std.specs.Prelude.{◌≡◌, refl, ◌⊎◌, true, List, [], ◌∷◌, ℕ, get_or}
use Rattle.std.proofs.Common.{◌∙◌, inl, inr}
use Rattle.lists.specs.Cases.{split}
use Rattle.format.specs.Diskette.{Bytes, Geometry, Sound}
use Rattle.format.specs.Entries.{entry_at}
use Rattle.format.specs.Dates.{dated, with_stamp}
use Rattle.model.specs.Stamps.{Stamp, stamped_with}
use Rattle.fields.specs.Stamps.{InStamp, stamp_or_same}
use Rattle.invariant.specs.Good.{Good}
use Rattle.invariant.specs.Stamps.{Each, Placed, stamped_one, stamped_all, stamped_still}
use Rattle.effects.specs.Alike.{Alike}

-- byte i lies in a stamp of which P holds
pub data Lies (G : Geometry) (P : Stamp → Type 0) (i : ℕ) : Type 0 where
  lies : (x : Stamp) → InStamp G x.entry x.which i → P x → Lies G P i

module _ {G : Geometry} (S : Sound G) (map : Bytes) where
  -- each byte stays, or lies there
  pub stamps_bytes : (P : Stamp → Type 0) (xs : List Stamp) (img : Bytes) → Good G img map → dated (entry_at G img) ≡ true → Each (Placed G) xs
      → Each P xs → (i : ℕ) → (get_or (stamped_with G xs img) i 0 ≡ get_or img i 0) ⊎ Lies G P i
  stamps_bytes P [] img g dates p n i = inl refl
  stamps_bytes P (x ∷ xs) img g dates p n i =
      let a = stamped_one S map img g dates x p.0 in
      split (stamps_bytes P xs (with_stamp G img x.entry x.which x.bytes) a.good a.dates p.1 n.1 i)
      (λ q. split (stamp_or_same S img g.image_long x.entry p.0.below p.0.beside x.which p.0.two x.bytes p.0.ok i)
      (λ r. inl (q ∙ r)) (λ r. inr (lies x r n.0))) (λ q. inr q)

  -- the image that is stamped differs in date entries alone
  pub stamped_alike : (xs : List Stamp) (img : Bytes) → Good G img map → dated (entry_at G img) ≡ true → Each (Placed G) xs → Alike G img (stamped_with G xs img)
  stamped_alike xs img g dates p =
      let done = stamped_all S map xs img g dates p in
      record { user = stamped_still S map xs img g dates p; row = done.row; recs = done.recs }
