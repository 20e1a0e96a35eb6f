-- The effects of a change of named entries, and of a record that is written.
use Rattle.std.specs.Prelude.{◌≡◌, true, false, ℕ, ◌≤◌, ◌<◌}
use Rattle.std.proofs.Common.{subst, inl}
use Rattle.format.specs.Diskette.{Geometry, disk_record}
use Rattle.disk.specs.Places.{block_records, block_once}
use Rattle.rows.specs.Entries.{area_records}
use Rattle.effects.specs.View.{View, Right, Names, Mine}
use Rattle.effects.specs.Effect.{Foreign, Effect, none_one, RecsStay, not_entry, mine_past, mine_below, recs_on}
use Rattle.effects.specs.Steps.{NamesUsed, named_none, RowsStay}

module _ (G : Geometry) (s t : View) (N : Names) (v : Right G s) (recs : RecsStay G s t) where
  -- named entries change: those of a close, a delete, a rename
  pub named_effect : NamesUsed G s N → ((e : ℕ) → e < G.entries → N (s.rows e) ≡ false → t.rows e ≡ s.rows e) → Effect G s t N
  named_effect sure kept = record {
    row = λ e f. kept e f.low f.other;
    new = λ e l z. inl (named_none G s t N sure kept e l z);
    one_new = none_one G s t (named_none G s t N sure kept);
    dat = λ b k e l m f. recs_on G s v b k e l m t recs;
  }

  -- one entry
  module _ (e : ℕ) (there : (k : ℕ) → k < G.entries → (k ≡ e → ⊥) → t.rows k ≡ s.rows k) where
    pub one_effect : NamesUsed G s N → N (s.rows e) ≡ true → Effect G s t N
    one_effect sure nm = named_effect sure (λ k l n. there k l (not_entry s N e k nm n))

-- record k of block b is written, and the block is no other entry's
module _ (G : Geometry) (s t : View) (N : Names) (v : Right G s) (b k : ℕ) (hk : k < G.per_block) (rows : RowsStay G s t)
    (recs : (d : ℕ) → area_records G ≤ d → d < block_records G → (d ≡ disk_record G b k → ⊥) → t.recs d ≡ s.recs d)
    (own : (e : ℕ) → Foreign G s N e → Mine G s b e → ⊥) where
  pub put_effect : Effect G s t N
  put_effect = record {
    row = λ e f. rows e f.low;
    new = λ e l z. inl (rows e l);
    one_new = none_one G s t (λ e l z. rows e l);
    dat = λ c i e l m f. recs (disk_record G c i) (mine_past G s v c i e l m) (mine_below G s v c i e l m)
        (λ q. own e f (subst (λ (y : ℕ). Mine G s y e) (block_once G c i b k l hk q).0 m));
  }
