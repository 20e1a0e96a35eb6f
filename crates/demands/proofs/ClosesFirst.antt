-- The close that a move begins with is never refused: where a record call passes every test up to and with "FCB not current", call 16 is accepted,
-- and does what the move begins with.
use Rattle.std.specs.Prelude.{◌≡◌, true, List, ◌++◌, ℕ}
use Rattle.std.proofs.Math.Path.{refl}
use Rattle.std.proofs.Common.{ap, sym, ◌∙◌, inl, inr}
use Rattle.lists.specs.Cases.{split, bool_cases}
use Rattle.format.specs.Diskette.{Geometry}
use Rattle.format.specs.Entries.{entry_at}
use Rattle.format.specs.Dates.{dated}
use Rattle.format.specs.Found.{number_of}
use Rattle.model.specs.declared.Asked.{Asked}
use Rattle.model.specs.declared.Session.{Session}
use Rattle.model.specs.declared.Kind.TheVariants.{Close, Read, Write}
use Rattle.model.specs.declared.Plan.{Plan}
use Rattle.model.specs.Kinds.{kind_of, uses_fcb_rule, is_call, same, of_record}
use Rattle.model.specs.Lent.{Lent, Outcome, with_lifted}
use Rattle.model.specs.Target.{present_entry, moved, made}
use Rattle.model.specs.Calls.{closed_at, closed}
use Rattle.model.specs.Stamps.{Stamp, close_stamps, new_stamps, move_stamps, stamps_by, stamped_outcome}
use Rattle.table.specs.First.{◌&◌}
use Rattle.table.specs.Own.{calling, at_kind, same_is}
use Rattle.table.proofs.Accepted.{carried_says}
use Rattle.table.specs.Stamping.{where_undated, record_stamps}
use Rattle.demands.specs.Stamped.{stamped_as_law}
use Rattle.demands.specs.Runs.{Request, Disk, lent_to, outcome_of, lifted_by}
use Rattle.demands.specs.ClosesFirst.{PastCurrent, to_close, plan_of, stamps_of, ClosesFirst, CloseFollows, after_sequential, after_random, closed_by, plan_closes, close_stamps_law}

module _ (G : Geometry) (asked : Asked) (l : Lent) (s : Session) (b : ℕ) (nonzero : b ≡ 0 → ⊥) where
  close_follows : of_record (kind_of asked.number) ≡ true → CloseFollows G asked l s b nonzero asked.number
  unfolding is_call uses_fcb_rule kind_of
  close_follows h =
      split (bool_cases (same (kind_of asked.number) Read))
      (λ t. at_kind (CloseFollows G asked l s b nonzero) Read asked.number refl (after_sequential G asked l s b nonzero 20 _ refl refl (inl refl) refl & after_random G asked l s b nonzero 33 _ _ refl refl (inl refl) refl & tt) (same_is _ _ t))
      (λ f. at_kind (CloseFollows G asked l s b nonzero) Write asked.number refl (after_sequential G asked l s b nonzero 21 _ refl refl (inr refl) refl & after_random G asked l s b nonzero 34 _ _ refl refl (inr refl) refl & tt)
      (same_is (kind_of asked.number) Write (rw f at h)))

-- ---- the theorem, on every disk
pub closes_first : (G : Geometry) (d : Disk) (q : Request) → of_record (kind_of q.asked.number) ≡ true → PastCurrent q.asked.number (outcome_of G d q).answer
    → (b : ℕ) → (b ≡ 0 → ⊥) → ClosesFirst G d q b
unfolding outcome_of kind_of closed closed_at moved made
closes_first G d q k w b nonzero =
    let c = close_follows G q.asked (lent_to d q) d.session b nonzero k w in
    let by = record_stamps G q.asked (lent_to d q) d.session (kind_of q.asked.number) k in
    let own : (p : Plan) → plan_of G d q ≡ p → number_of G.entries (present_entry G d.session.user (lent_to d q)) ≡ closed_by p =
    λ p z. sym (plan_closes G q.asked.number d.session.user (lent_to d q)) ∙ ap closed_by z in
    let closes : (e : ℕ) → number_of G.entries (present_entry G d.session.user (lent_to d q)) ≡ e
    → close_stamps G q.asked (lent_to d q) d.session e ≡ stamps_of G (lifted_by b d) (to_close q) =
    λ e z. close_stamps_law G q.asked (lent_to d q) d.session b e ∙ ap (close_stamps G (calling 16 q.asked) (lent_to d q) (with_lifted d.session b)) (sym z) in
    let as-close = c.is ∙ stamped_as_law G (calling 16 q.asked) (lent_to d q) (with_lifted d.session b) Close refl in
    record {
      accepted = carried_says G (calling 16 q.asked) (lent_to d q) (with_lifted d.session b) c;
      is = as-close;
      undated = λ n. ap (λ (o : Outcome). o.lent.drive) as-close
          ∙ ap (λ (xs : List Stamp). (stamped_outcome G xs (closed G (with_lifted d.session b) (lent_to d q))).lent.drive)
          (where_undated (dated (entry_at G d.drive.image)) (stamps_by G (calling 16 q.asked) (lent_to d q) (with_lifted d.session b) Close) n);
      moves = λ e t x z. (rw (own _ z), by ∙ ap (move_stamps G q.asked (lent_to d q) d.session) z ∙ closes e (own _ z));
      makes = λ e t x z. (
        rw (own _ z),
        by ∙ ap (move_stamps G q.asked (lent_to d q) d.session) z
            ∙ ap (λ (xs : List Stamp). xs ++ new_stamps G q.asked (lent_to d q) d.session t) (closes e (own _ z)),
      );
    }
