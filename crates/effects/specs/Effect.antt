-- What a call may do to what it does not name.
use Rattle.std.specs.Prelude.{◌≡◌, refl, ◌⊎◌, true, false, ℕ, ◌≤◌, ◌<◌}
use Rattle.std.proofs.Math.Path.{ap}
use Rattle.std.proofs.Common.{sym, ◌∙◌, inl, inr}
use Rattle.lists.specs.Cases.{split, bool_cases, not_both}
use Rattle.format.specs.Diskette.{Bytes, Geometry, disk_record, slot_count}
use Rattle.format.specs.Entries.{slot_of, empty, used}
use Rattle.format.specs.Notes.{pending_for}
use Rattle.disk.specs.Places.{block_records, block_record}
use Rattle.rows.specs.Entries.{area_records, block_past}
use Rattle.effects.specs.View.{View, Right, Names, NewRow, Mine, listed, pending, mine_low, mine_high}

-- a used entry that the call does not name
pub record Foreign (G : Geometry) (s : View) (N : Names) (e : ℕ) : Type 0 where
  pub low : e < G.entries
  pub uses : used (s.rows e) ≡ true
  pub other : N (s.rows e) ≡ false

-- from s to t, by a call that names N: other entries stay, and so do the records of the blocks of other entries; an empty entry stays or
-- becomes theirs, and at most one does
pub record Effect (G : Geometry) (s t : View) (N : Names) : Type 0 where
  pub row : (e : ℕ) → Foreign G s N e → t.rows e ≡ s.rows e
  pub new : (e : ℕ) → e < G.entries → empty (s.rows e) ≡ true → (t.rows e ≡ s.rows e) ⊎ (N (t.rows e) ≡ true)
  pub one_new : (e k : ℕ) → NewRow G s.rows t.rows e → NewRow G s.rows t.rows k → e ≡ k
  pub dat : (b k e : ℕ) → k < G.per_block → Mine G s b e → Foreign G s N e → t.recs (disk_record G b k) ≡ s.recs (disk_record G b k)

-- what is pending for other entries stays so: not after 13 and 98
unfoldable pub Keeps : Geometry → View → View → Names → Type 0
Keeps G s t N = (b e j : ℕ) → b < G.blocks → j < slot_count → Foreign G s N e → s.notes b ≡ pending_for e j → t.notes b ≡ pending_for e j

-- every entry that is named stays named
abbrev pub NamesStay : Geometry → View → View → Names → Type 0
NamesStay G s t N = (e : ℕ) → e < G.entries → N (s.rows e) ≡ true → N (t.rows e) ≡ true

-- no empty entry changes
abbrev pub NoneNew : Geometry → View → View → Type 0
NoneNew G s t = (e : ℕ) → e < G.entries → empty (s.rows e) ≡ true → t.rows e ≡ s.rows e

-- labels and date entries stay, which are neither used nor empty
abbrev pub AsideStay : Geometry → View → View → Type 0
AsideStay G s t = (e : ℕ) → e < G.entries → used (s.rows e) ≡ false → empty (s.rows e) ≡ false → t.rows e ≡ s.rows e

pub none_one : (G : Geometry) (s t : View) → NoneNew G s t → (e k : ℕ) → NewRow G s.rows t.rows e → NewRow G s.rows t.rows k → e ≡ k
none_one G s t none e k a b = absurd (a.changed (none e a.low a.was))

-- of two steps the one that makes no entry has no part in what changed
module _ (G : Geometry) (s t u : View) (e : ℕ) (c : NewRow G s.rows u.rows e) where
  pub new_later : NoneNew G s t → NewRow G t.rows u.rows e
  new_later none = let q = none e c.low c.was in record { low = c.low; was = ap empty q ∙ c.was; changed = λ p. c.changed (p ∙ q) }

  pub new_earlier : NoneNew G t u → NewRow G s.rows t.rows e
  new_earlier none = record { low = c.low; was = c.was; changed = λ q. c.changed (none e c.low (ap empty q ∙ c.was) ∙ q) }

-- ---- what is pending stays
pub notes_stay : (G : Geometry) (s t : View) (N : Names) → ((b : ℕ) → b < G.blocks → t.notes b ≡ s.notes b) → Keeps G s t N
unfolding Keeps
notes_stay G s t N q b e j l h f p = q b l ∙ p

pub nothing_kept : (G : Geometry) (s : View) (N : Names) → Keeps G s s N
nothing_kept G s N = notes_stay G s s N (λ b l. refl)

pub not_entry : (s : View) (N : Names) (e k : ℕ) → N (s.rows e) ≡ true → N (s.rows k) ≡ false → k ≡ e → ⊥
not_entry s N e k h g q = not_both (N (s.rows e)) h (sym (ap (λ (x : ℕ). N (s.rows x)) q) ∙ g)

-- ---- effects follow one another, where the first keeps what is pending
module _ (G : Geometry) (s t : View) (N : Names) (w : Effect G s t N) where
  pub foreign_on : (e : ℕ) → Foreign G s N e → Foreign G t N e
  foreign_on e f = record { low = f.low; uses = ap used (w.row e f) ∙ f.uses; other = ap N (w.row e f) ∙ f.other }

  module _ (kp : Keeps G s t N) where
    pub mine_on : (b e : ℕ) → Foreign G s N e → Mine G s b e → Mine G t b e
    unfolding Keeps
    mine_on b e f (listed j a) =
        listed j record {
          entry = a.entry;
          place = a.place;
          uses = ap used (w.row e f) ∙ a.uses;
          is = ap (λ (r : Bytes). slot_of G r j) (w.row e f) ∙ a.is;
          real = a.real;
        }
    mine_on b e f (pending j l h q) = pending j l h (kp b e j h l f q)

    pub then_keeps : (u : View) → Keeps G t u N → Keeps G s u N
    unfolding Keeps
    then_keeps u kq b e j l h f q = kq b e j l h (foreign_on e f) (kp b e j l h f q)

-- a call that names more may do more
module _ (G : Geometry) (s t : View) (M N : Names) (more : (r : Bytes) → M r ≡ true → N r ≡ true) where
  less_foreign : (e : ℕ) → Foreign G s N e → Foreign G s M e
  less_foreign e f = record {
    low = f.low;
    uses = f.uses;
    other = split (bool_cases (M (s.rows e))) (λ y. not_both (N (s.rows e)) (more (s.rows e) y) f.other) (λ y. y);
  }

  pub more_effect : Effect G s t M → Effect G s t N
  more_effect w = record {
    row = λ e f. w.row e (less_foreign e f);
    new = λ e l z. split (w.new e l z) (λ q. inl q) (λ q. inr (more (t.rows e) q));
    one_new = w.one_new;
    dat = λ b k e l m f. w.dat b k e l m (less_foreign e f);
  }

  pub more_keeps : Keeps G s t M → Keeps G s t N
  unfolding Keeps
  more_keeps kp b e j l h f q = kp b e j l h (less_foreign e f) q

-- ---- the records of blocks
-- the records past the directory stay
abbrev pub RecsStay : Geometry → View → View → Type 0
RecsStay G s t = (d : ℕ) → area_records G ≤ d → d < block_records G → t.recs d ≡ s.recs d

module _ (G : Geometry) (s : View) (v : Right G s) (b k e : ℕ) (hk : k < G.per_block) (m : Mine G s b e) where
  -- the records of a block of an entry's lie past the directory
  pub mine_past : area_records G ≤ disk_record G b k
  mine_past = block_past G b k (mine_low G s v b e m)

  pub mine_below : disk_record G b k < block_records G
  mine_below = block_record G b k (mine_high G s v b e m) hk

  pub recs_on : (t : View) → RecsStay G s t → t.recs (disk_record G b k) ≡ s.recs (disk_record G b k)
  recs_on t r = r (disk_record G b k) mine_past mine_below
