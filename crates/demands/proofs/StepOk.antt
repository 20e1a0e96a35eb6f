-- Every kind of call but the settling ones, carried out: what its own rule does to image, map and book.
use Rattle.std.specs.Prelude.{◌≡◌}
use Rattle.std.proofs.Math.Path.{refl}
use Rattle.std.proofs.Math.Bool.{true, false}
use Rattle.lists.specs.Cases.{clash}
use Rattle.format.specs.Diskette.{Geometry, Sound}
use Rattle.model.specs.declared.Asked.{Asked}
use Rattle.model.specs.declared.Session.{Session}
use Rattle.model.specs.Lent.{Lent}
use Rattle.model.specs.Kinds.{kind_of, same}
use Rattle.model.specs.declared.Kind.{Kind}
use Rattle.model.specs.declared.Kind.TheVariants.{Unlisted, Quiet, Search, User, Settle, Close, Delete, Create, Rename, Read, Write}
use Rattle.model.specs.Calls.{found_at, searched}
use Rattle.model.specs.Step.{does}
use Rattle.table.specs.Own.{not_unlisted}
use Rattle.table.specs.Facts.{Fits, AcceptedCall}
use Rattle.table.specs.Accept.{closes_of, makes_of, renames_of, reads_of, writes_by}
use Rattle.table.specs.Accepted.{accepted_answer}
use Rattle.invariant.specs.Good.{Good}
use Rattle.effects.specs.Book.{book_by}
use Rattle.effects.proofs.Write.{written_ok, reads_ok}
use Rattle.demands.specs.StepOk.{Carries, quiet, closed_carries, read_carries, written_carries, deleted_carries, created_carries, renamed_carries, user_lent}

module _ {G : Geometry} (S : Sound G) (l : Lent) (s : Session) (f : Fits G l s) (g : Good G l.drive.image l.drive.map) where
  -- every kind but the settling calls
  pub carried : (asked : Asked) → AcceptedCall G asked l s → (k : Kind) → kind_of asked.number ≡ k → same k Settle ≡ false
      → accepted_answer asked.number (does G asked l s k).answer ≡ true → Carries G asked.number l s (does G asked l s k)
  unfolding searched found_at book_by
  carried asked c Unlisted q z a = not_unlisted asked.number c.listed q
  carried asked c Quiet q z a = quiet S l s f g asked.number (does G asked l s Quiet) refl refl (λ u. rw q)
  carried asked c Search q z a = quiet S l s f g asked.number (does G asked l s Search) refl refl (λ u. rw q)
  carried asked c User q z a = quiet S l s f g asked.number (does G asked l s User) (rw (user_lent S l s f g asked.argument)) (rw (user_lent S l s f g asked.argument)) (λ u. rw q)
  carried asked c Settle q z a = clash z
  carried asked c Close q z a = closed_carries S l s f g asked.number q (closes_of G asked l s c.none q)
  carried asked c Delete q z a = deleted_carries S l s f g asked.number q
  carried asked c Create q z a = created_carries S l s f g asked.number q (makes_of G asked l s c.none q)
  carried asked c Rename q z a = renamed_carries S l s f g asked.number q (renames_of G asked l s c.none q)
  carried asked c Read q z a = read_carries S l s f g asked.number q _ (reads_ok S asked.number l s g f (reads_of G asked l s c.none c.ready.image_right f.user_low q))
  carried asked c Write q z a = written_carries S l s f g asked.number q a _ (written_ok S asked.number l s g f (writes_by G asked l s c.none q))
