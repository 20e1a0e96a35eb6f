-- Every call with its stamps: the outcome of a kind, stamped, and the entries beside which a call stamps. That what its own rule did holds once it is
-- stamped, of every step, is in proofs/Stamped.
use Rattle.std.specs.Prelude.{◌≡◌, ◌⊎◌, true, eqb, Some}
use Rattle.std.proofs.Math.Path.{refl, ap, sym, subst}
use Rattle.std.proofs.Common.{◌∙◌, inl, inr, arith}
use Rattle.std.proofs.Math.Bool.{false}
use Prim.Native.Nat.{ℕ, ◌≤◌, ◌<◌}
use borrow.Author.Tests.{eqb-true}
use Rattle.lists.specs.Cases.{split, bool_cases, not_both}
use Rattle.lists.specs.Tests.{and_right, or_cases}
use Rattle.format.specs.Diskette.{Bytes, Geometry, Sound}
use Rattle.format.specs.Entries.{entry_at, ex_of, used}
use Rattle.facts.specs.Find.{file_says, empty_says}
use Rattle.facts.specs.Names.{like_intro}
use Rattle.facts.specs.Naming.{named_intro, file_named}
use Rattle.rows.specs.Entries.{entry_stored}
use Rattle.consistency.specs.Naming.{named_used}
use Rattle.model.specs.declared.Asked.{Asked}
use Rattle.model.specs.declared.Session.{Session}
use Rattle.model.specs.declared.Plan.{Plan}
use Rattle.model.specs.declared.Kind.{Kind}
use Rattle.model.specs.declared.Kind.TheVariants.{Quiet, Settle, Create}
use Rattle.model.specs.Kinds.{kind_of, uses_fcb_rule, wild, same}
use Rattle.model.specs.Lent.{Lent, rows_of, Outcome}
use Rattle.model.specs.Naming.{names}
use Rattle.model.specs.Entering.{made_row_rule}
use Rattle.model.specs.Table.{asked_entry, own_rows, table, verdict}
use Rattle.model.specs.Target.{present_entry}
use Rattle.model.specs.Calls.{created_at, created}
use Rattle.model.specs.Stamps.{Stamp, move_stamps, stamps_by, stamps, stamped_outcome}
use Rattle.model.specs.Step.{does, effect, stamped, step}
use Rattle.fields.specs.Making.{length_made_row, user_made, name_made}
use Rattle.fields.specs.Stamps.{StampOk}
use Rattle.table.specs.Own.{calling}
use Rattle.table.specs.First.{NoneHolds, decides_refused}
use Rattle.table.proofs.Refuse.{never_bad_disk}
use Rattle.table.specs.Facts.{Fits, Makes, AcceptedCall}
use Rattle.table.specs.Plans.{entry_of, Planned}
use Rattle.table.specs.Accept.{opens_of}
use Rattle.table.proofs.Accept.{passes}
use Rattle.table.proofs.Total.{total, total_accepted}
use Rattle.invariant.specs.Good.{Good, good_consistent, good_right}
use Rattle.invariant.specs.Stamps.{Each, access_each, create_each, move_each}
use Rattle.effects.specs.View.{view_of}
use Rattle.effects.specs.Cur.{cur_named}
use Rattle.effects.specs.Where.{WritesNone}
use Rattle.effects.specs.Closed.{by_name}
use Rattle.effects.specs.Came.{present_cur}
use Rattle.table.specs.Accepted.{accepted_answer}
use Rattle.table.proofs.Accepted.{carried_says}
use Rattle.demands.specs.StepOk.{names_plain, Named, named_create}

-- the outcome of a kind, stamped
abbrev pub stamped_as : (G : Geometry) (asked : Asked) (l : Lent) (s : Session) → Kind → Outcome
stamped_as G asked l s k = stamped_outcome G (stamps G asked l s k) (does G asked l s k)

pub stamped_as_law : (G : Geometry) (asked : Asked) (l : Lent) (s : Session) (k : Kind) → kind_of asked.number ≡ k → stamped G asked l s ≡ stamped_as G asked l s k
unfolding effect stamped
stamped_as_law G asked l s k q = ap (stamped_as G asked l s) q

-- its answer says that it was accepted
pub accepted_does : (G : Geometry) (asked : Asked) (l : Lent) (s : Session) → AcceptedCall G asked l s
    → (k : Kind) → kind_of asked.number ≡ k → accepted_answer asked.number (does G asked l s k).answer ≡ true
accepted_does G asked l s c k q =
    let o = total_accepted G asked l s (passes G asked l s c.listed c.ready c.spared c.none) in
    ap (λ (x : Outcome). accepted_answer asked.number x.answer) (sym (o.is ∙ stamped_as_law G asked l s k q)) ∙ carried_says G asked l s o

-- a call names used entries alone
pub names_used : (n user : ℕ) (fcb : Bytes) → user ≤ 15 → (r : Bytes) → names n user fcb r ≡ true → used r ≡ true
unfolding names
names_used n user fcb low r h =
    split (or_cases _ _ (and_right _ _ (and_right _ _ h))) (λ t. named_used (wild n) user fcb 1 r t low) (λ t. named_used false user fcb 17 r (and_right _ _ t) low)

-- ---- the entries beside which a call stamps are named, before it or in the image that its own rule left
module _ {G : Geometry} (S : Sound G) (asked : Asked) (l : Lent) (s : Session) (c : AcceptedCall G asked l s) (g : Good G l.drive.image l.drive.map) where
  fits : Fits G l s
  fits = c.ready.fits

  abbrev pub NamedIn : Bytes → ℕ → Type 0
  NamedIn img e = names asked.number s.user l.fcb (entry_at G img e) ≡ true

  abbrev pub NamedEver : Bytes → ℕ → Type 0
  NamedEver img e = NamedIn l.drive.image e ⊎ NamedIn img e

  abbrev pub BesideNamed : Bytes → Stamp → Type 0
  BesideNamed img x = NamedEver img x.entry

  pub by : (img : Bytes) (e which : ℕ) (b : Bytes) → which < 2 → StampOk b → NamedEver img e → BesideNamed img (record { entry = e; which = which; bytes = b })
  by img e which b w o h = h

  named_by : Named asked.number → (r : Bytes) → by_name s.user l.fcb r ≡ true → names asked.number s.user l.fcb r ≡ true
  named_by m r h = names_plain asked.number s.user l.fcb fits.fcb_long m.uses m.plain r h

  -- the FCB's own entry
  pub present : Named asked.number → (e : ℕ) → present_entry G s.user l ≡ Some e → NamedIn l.drive.image e
  present m e q =
      named_by m (rows_of G l e)
      (cur_named G (view_of G l.drive.image l.drive.map) s.user fits.user_low l.fcb e (present_cur S asked.number l s g fits e q WritesNone))

  pub open_beside : (img : Bytes) → Each (BesideNamed img) (stamps_by G asked l s Quiet)
  unfolding asked_entry uses_fcb_rule wild
  open_beside img =
      split (bool_cases (eqb asked.number 15))
      (λ t. let n : asked.number ≡ 15 = eqb-true asked.number 15 t in
      let o = opens_of G asked l s (subst (λ (n : ℕ). NoneHolds (own_rows G (calling n asked) l s)) n c.none) in
      let m : Named asked.number = subst Named (sym n) (record { uses = refl; plain = refl }) in
      let h = file_says G (rows_of G l) s.user l.fcb 1 (ex_of l.fcb) o.entry.place o.entry.is in
      rw (t, o.entry.is) (access_each S asked l s c g (BesideNamed img) (NamedEver img) (by img) o.entry.place
      (inl (named_by m (rows_of G l o.entry.place) (file_named G s.user l.fcb 1 (ex_of l.fcb) (rows_of G l o.entry.place) h.holds)))))
      (λ t. rw t tt)

  pub create_beside : kind_of asked.number ≡ Create → Makes G l s → Each (BesideNamed (created G s l).lent.drive.image) (stamps_by G asked l s Create)
  unfolding created created_at
  create_beside q w =
      let t : ℕ = w.entry.place in
      let row : Bytes = made_row_rule s.user l.fcb in
      let img : Bytes = (created_at G s l t).lent.drive.image in
      let found = empty_says G (rows_of G l) t w.entry.is in
      rw w.entry.is (create_each S asked l s c g (BesideNamed img) (NamedEver img) (by img) t
      (inr (named_by (named_create asked.number q) (entry_at G img t)
      (ap (by_name s.user l.fcb) (entry_stored S l.drive.image g.image_long t found.below row (length_made_row s.user l.fcb))
      ∙ named_intro false s.user l.fcb 1 row (user_made s.user l.fcb) (like_intro l.fcb 1 row 1 (λ i h. sym (name_made s.user l.fcb i h)))))))

  -- a record call that came to an entry of the file
  pub move_beside : (img : Bytes) (B : ℕ → Type 0) (p : Plan) → Named asked.number → Planned G asked.number s.user l B p
      → by_name s.user l.fcb (entry_at G img (entry_of p)) ≡ true → Each (BesideNamed img) (move_stamps G asked l s p)
  move_beside img B p m w mine =
      move_each S asked l s c g (BesideNamed img) (NamedEver img) (by img) B p w (λ e h. inl (present m e h))
      (λ t room q. inr (named_by m (entry_at G img t) (subst (λ (x : ℕ). by_name s.user l.fcb (entry_at G img x) ≡ true) q mine)))

-- ---- every call
pub not_login : (n : ℕ) (k : Kind) → kind_of n ≡ k → same k Settle ≡ false → n ≡ 13 → ⊥
unfolding kind_of
not_login n k q z e = not_both (same k Settle) (ap (λ (j : Kind). same j Settle) (sym q ∙ ap kind_of e)) z

-- a good image and map are never refused with 255, 1
pub good_never_one : (G : Geometry) (asked : Asked) (l : Lent) (s : Session) → Good G l.drive.image l.drive.map → (step G asked l s).answer.h ≡ 1 → ⊥
unfolding verdict
good_never_one G asked l s g q =
    split (total G asked l s)
    (λ r. never_bad_disk G asked l s r.0 (sym r.1.is_h ∙ q) (good_consistent G l.drive.image l.drive.map g) (good_right G l.drive.image l.drive.map g)
    (decides_refused r.0 (table G asked l s) r.1.row))
    (λ c. let z : 0 ≡ 1 = sym c.done.no_error ∙ q in omega arith)
