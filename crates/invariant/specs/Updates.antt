-- What the calls make of image and map, one update at a time, keeps them good.
use Rattle.std.specs.Prelude.{◌≡◌, refl, Bool, true, false, ℕ, ◌*◌, ◌%◌, ◌≤◌, ◌<◌, length}
use Rattle.std.proofs.Common.{ap, sym, ◌∙◌, subst, eq-eqb, arith}
use Rattle.lists.specs.Cases.{split, eq_or_ne, not_both}
use Rattle.lists.specs.Tests.{and_both}
use Rattle.format.specs.Diskette.{Bytes, Geometry, Sound, record_bytes, with_record, entry_bytes, entries_per_record, slot_count, slots_on, Long}
use Rattle.format.specs.Names.{name_right_rule}
use Rattle.format.specs.Entries.{entry_at, with_entry, slot_of, used, empty, named, is_file_rule}
use Rattle.format.specs.Consistent.{consistent}
use Rattle.format.specs.Dates.{is_dates, dates_right_rule, fourth_of, dated, with_stamp}
use Rattle.format.specs.Notes.{note_at_rule, free_note, pending_for, with_note, fresh_map, freed_map, released_map}
use Rattle.model.specs.Entering.{renamed_row_rule}
use Rattle.model.specs.Target.{place_in}
use Rattle.model.specs.Calls.{changed_rows, erased_row}
use Rattle.facts.specs.Names.{like_sym, like_trans, like_intro}
use Rattle.consistency.specs.Facts.{Fine, SameFile}
use Rattle.notes.specs.Changes.{length_note, note_same, note_other}
use Rattle.notes.specs.Right.{length_fresh, fresh_at, freed_fresh}
use Rattle.freeing.specs.Laws.{length_released, released_at}
use Rattle.rows.specs.Entries.{block_past, length_entry_at, entry_kept, length_with_entry, entry_stored, entry_left}
use Rattle.disk.specs.Records.{length_with_record}
use Rattle.facts.specs.Long.{long_on}
use Rattle.fields.specs.Agree.{is_file_cong}
use Rattle.fields.specs.Fine.{fine_renamed}
use Rattle.fields.specs.Making.{length_renamed_row, user_renamed, name_renamed, extent_renamed, slot_renamed}
use Rattle.fields.specs.Changing.{length_changed_rows, row_picked, row_unpicked, length_erased_row, empty_erased}
use Rattle.facts.specs.Naming.{named_user, named_like, named_intro}
use Rattle.consistency.specs.Reflect.{image_facts, dates_unused, dates_full, aside_dates}
use Rattle.facts.specs.Beside.{fourth_below}
use Rattle.fields.specs.Stamps.{StampOk, length_with_stamp, row_with_stamp, row_with_stamp_other, dates_stamped}
use Rattle.consistency.specs.Naming.{named_used}
use Rattle.fields.specs.Target.{place_below}
use Rattle.invariant.specs.Steps.{fresh_inv, take_inv, keep_inv, make_inv, dates_inv}
use Rattle.invariant.specs.Carry.{still_dates}
use Rattle.invariant.specs.Change.{RenamedTo, erase_inv, rename_inv}
use Rattle.invariant.specs.Good.{Good, good_consistent, good_right}

-- ---- the map alone
module _ (G : Geometry) (img : Bytes) where
  -- 13: any consistent image, with the fresh map
  pub good_fresh : Long G img → consistent G img ≡ true → Good G img (fresh_map G (entry_at G img))
  good_fresh long t = record {
    image_long = long;
    map_long = length_fresh G (entry_at G img);
    inv = fresh_inv G (entry_at G img) (λ b. note_at_rule (fresh_map G (entry_at G img)) b) (image_facts G img t) (λ b h. fresh_at G (entry_at G img) b h);
  }

  module _ (map : Bytes) (g : Good G img map) where
    -- 98
    pub good_freed : Good G img (freed_map G map)
    good_freed =
        subst (Good G img) (sym (freed_fresh G (entry_at G img) map (good_right G img map g))) (good_fresh g.image_long (good_consistent G img map g))

    -- a write that takes a free block for slot j of the used entry t
    pub good_taken : (b t j : ℕ) → b < G.blocks → note_at_rule map b ≡ free_note → t < G.entries → j < slots_on G → used (entry_at G img t) ≡ true
        → Good G img (with_note map b (pending_for t j))
    good_taken b t j low free ht hj u = record {
      image_long = g.image_long;
      map_long = length_note map b (pending_for t j) ∙ g.map_long;
      inv = take_inv G (entry_at G img) (λ c. note_at_rule map c) (λ c. note_at_rule (with_note map b (pending_for t j)) c) g.inv b t j low free ht hj u
          (note_same map b (pending_for t j) (rw g.map_long low)) (λ c h q. note_other map b (pending_for t j) c q);
    }

-- ---- the image
module _ {G : Geometry} (S : Sound G) (img map : Bytes) (g : Good G img map) where
  whole : (k : ℕ) → k < G.entries → length (entry_at G img k) ≡ entry_bytes
  whole k l = length_entry_at S img g.image_long k l

  -- a record of a block past the directory
  pub good_record : (b r : ℕ) → G.area ≤ b → b < G.blocks → (bytes : Bytes) → length bytes ≡ record_bytes → Good G (with_record G img (place_in G b r) bytes) map
  unfolding place_in
  good_record b r past below bytes full =
      let p : place_in G b r < G.per_block * G.blocks = place_below S b r below in
      record {
        image_long = long_on G (length_with_record S img g.image_long (place_in G b r) p bytes full) g.image_long;
        map_long = g.map_long;
        inv = keep_inv S (entry_at G img) (entry_at G (with_record G img (place_in G b r) bytes)) (λ c. note_at_rule map c) (λ c. note_at_rule map c) g.inv
            (λ k l. entry_kept S img g.image_long (place_in G b r) (block_past G b (r % G.per_block) past) p bytes full k l) (λ c h. refl);
      }

  -- on a disk with date entries, an entry that is none is not in the fourth position
  pub not_fourth : dated (entry_at G img) ≡ true → (e : ℕ) → e < G.entries → is_dates (entry_at G img e) ≡ false → e % entries_per_record < 3
  not_fourth dates e below plain =
      split (eq_or_ne (e % entries_per_record) 3)
      (λ q. not_both (is_dates (entry_at G img e)) (g.inv.dir.dates e below ∙ and_both _ _ (eq-eqb _ _ q) dates) plain) (λ q. omega arith)

  -- and the fourth position of an entry's record is one
  pub dates_beside : dated (entry_at G img) ≡ true → (e : ℕ) → e < G.entries → is_dates (entry_at G img (fourth_of e)) ≡ true
  dates_beside dates e below =
      let fourth : fourth_of e % entries_per_record ≡ 3 = omega arith in
      g.inv.dir.dates (fourth_of e) (fourth_below S e below) ∙ and_both _ _ (eq-eqb _ _ fourth) dates

  -- a stamp beside an entry, on such a disk
  module _ (dates : dated (entry_at G img) ≡ true) (e : ℕ) (below : e < G.entries) (beside : e % entries_per_record < 3)
      (which : ℕ) (two : which < 2) (stamp : Bytes) (ok : StampOk stamp) where
    -- every row but a date entry stays
    pub stamp_kept : (k : ℕ) → k < G.entries → is_dates (entry_at G img k) ≡ false → entry_at G (with_stamp G img e which stamp) k ≡ entry_at G img k
    stamp_kept k l n =
        row_with_stamp_other S img g.image_long e below beside which two stamp ok k l
        (λ q. not_both (is_dates (entry_at G img k)) (ap (λ (x : ℕ). is_dates (entry_at G img x)) (sym q) ∙ (dates_beside dates e below)) n)

    dates_right_law : (k : ℕ) → k < G.entries → is_dates (entry_at G img k) ≡ true → dates_right_rule (entry_at G img k) ≡ true
    dates_right_law k l t =
        aside_dates (entry_at G img k) t (g.inv.dir.other k l (dates_unused (entry_at G img k) t) (dates_full (entry_at G img k) t))

    stamp_right_law : (k : ℕ) → k < G.entries → is_dates (entry_at G img k) ≡ true → dates_right_rule (entry_at G (with_stamp G img e which stamp) k) ≡ true
    stamp_right_law k l t =
        split (eq_or_ne (fourth_of e) k)
        (λ q. subst (λ (x : ℕ). dates_right_rule (entry_at G (with_stamp G img e which stamp) x) ≡ true) q
        (ap dates_right_rule (row_with_stamp S img g.image_long e below beside which two stamp ok)
        ∙ dates_stamped (entry_at G img (fourth_of e)) (whole (fourth_of e) (fourth_below S e below)) (e % entries_per_record) beside which two stamp ok
        (dates_right_law (fourth_of e) (fourth_below S e below) (dates_beside dates e below))))
        (λ q. ap dates_right_rule (row_with_stamp_other S img g.image_long e below beside which two stamp ok k l q) ∙ dates_right_law k l t)

    pub dates_still : (k : ℕ) → k < G.entries → is_dates (entry_at G (with_stamp G img e which stamp) k) ≡ is_dates (entry_at G img k)
    dates_still = still_dates S (entry_at G img) (entry_at G (with_stamp G img e which stamp)) g.inv.dir stamp_kept stamp_right_law

    pub good_stamped : Good G (with_stamp G img e which stamp) map
    good_stamped = record {
      image_long = long_on G (length_with_stamp S img g.image_long e below beside which two stamp ok) g.image_long;
      map_long = g.map_long;
      inv = dates_inv S (entry_at G img) (entry_at G (with_stamp G img e which stamp)) (λ c. note_at_rule map c) g.inv stamp_kept stamp_right_law;
    }

  -- a row without blocks in an empty entry, of a file and extent that no entry has
  module _ (t : ℕ) (below : t < G.entries) (was : empty (entry_at G img t) ≡ true) (row : Bytes) (full : length row ≡ entry_bytes) (fine : Fine G row)
      (bare : (j : ℕ) → j < slot_count → slot_of G row j ≡ 0) (user : ℕ) (s : Bytes) (q ext : ℕ) (is : is_file_rule G user s q ext row ≡ true)
      (new : (k : ℕ) → k < G.entries → is_file_rule G user s q ext (entry_at G img k) ≡ false) where
    pub good_made : Good G (with_entry G img t row) map
    good_made =
        let here : entry_at G (with_entry G img t row) t ≡ row = entry_stored S img g.image_long t below row full in
        record {
          image_long = long_on G (length_with_entry S img g.image_long t below row full) g.image_long;
          map_long = g.map_long;
          inv = make_inv S (entry_at G img) (entry_at G (with_entry G img t row)) (λ c. note_at_rule map c) g.inv t below was
              (λ k l n. entry_left S img g.image_long t below row full k l (λ z. n (sym z))) (subst (Fine G) (sym here) fine)
              (λ j l. ap (λ (r : Bytes). slot_of G r j) here ∙ bare j l)
              (λ k l u f. not_both (is_file_rule G user s q ext (entry_at G img k))
              (sym (is_file_cong G user s q ext row (entry_at G img k) (subst (λ (r : Bytes). SameFile G r (entry_at G img k)) here f)) ∙ is) (new k l));
        }

  -- 19: the rows that a test picks become empty, and their blocks free
  pub good_erased : (picks : Bytes → Bool) → ((k : ℕ) → k < G.entries → picks (entry_at G img k) ≡ true → used (entry_at G img k) ≡ true) → Good G (changed_rows G picks erased_row img) (released_map G (entry_at G img) (λ (e : ℕ). picks (entry_at G img e)) map)
  good_erased picks uses =
      record {
        image_long = long_on G (length_changed_rows S picks erased_row length_erased_row img g.image_long) g.image_long;
        map_long = length_released G (entry_at G img) (λ (e : ℕ). picks (entry_at G img e)) map;
        inv = erase_inv S (entry_at G img) (entry_at G (changed_rows G picks erased_row img)) (λ c. note_at_rule map c)
            (λ c. note_at_rule (released_map G (entry_at G img) (λ (e : ℕ). picks (entry_at G img e)) map) c) g.inv (λ (e : ℕ). picks (entry_at G img e))
            (λ k l p. row_unpicked S picks erased_row length_erased_row img g.image_long k l p) uses
            (λ k l p. ap empty (row_picked S picks erased_row length_erased_row img g.image_long k l p) ∙ empty_erased (entry_at G img k) (whole k l))
            (λ b h. released_at G (entry_at G img) (λ (e : ℕ). picks (entry_at G img e)) map b h);
      }

  -- 23: the rows of one file get a name that no entry of the user has
  module _ (user : ℕ) (low : user ≤ 15) (fcb : Bytes) (right : name_right_rule false fcb 17 ≡ true)
      (new : (k : ℕ) → k < G.entries → named false user fcb 17 (entry_at G img k) ≡ false) where
    renamed_to : (k : ℕ) → k < G.entries → named false user fcb 1 (entry_at G img k) ≡ true → RenamedTo G (entry_at G img k) (renamed_row_rule fcb (entry_at G img k))
    renamed_to k l p = record {
      fine = fine_renamed G (entry_at G img k) fcb (whole k l) (g.inv.dir.fine k l (named_used false user fcb 1 (entry_at G img k) p low)) right;
      user = user_renamed fcb (entry_at G img k) (whole k l);
      extent = extent_renamed fcb (entry_at G img k) (whole k l);
      slot = λ j h. slot_renamed fcb (entry_at G img k) (whole k l) G j;
    }

    -- a row of the renamed file's user and name has the new name
    clashes : (k f : ℕ) → k < G.entries → f < G.entries → named false user fcb 1 (entry_at G img k) ≡ true
        → SameFile G (renamed_row_rule fcb (entry_at G img k)) (entry_at G img f) → ⊥
    clashes k f l h p s =
        not_both (named false user fcb 17 (entry_at G img f))
        (named_intro false user fcb 17 (entry_at G img f)
        (sym s.user ∙ user_renamed fcb (entry_at G img k) (whole k l) ∙ named_user false user fcb 1 (entry_at G img k) p)
        (like_trans fcb 17 (renamed_row_rule fcb (entry_at G img k)) 1 (entry_at G img f) 1
        (like_intro fcb 17 (renamed_row_rule fcb (entry_at G img k)) 1 (λ i b. sym (name_renamed fcb (entry_at G img k) (whole k l) i b)))
        (like_sym (entry_at G img f) 1 (renamed_row_rule fcb (entry_at G img k)) 1 s.name)))
        (new f h)

    pub good_renamed : Good G (changed_rows G (named false user fcb 1) (renamed_row_rule fcb) img) map
    good_renamed =
        let picks : Bytes → Bool = named false user fcb 1 in
        let keeps : (r : Bytes) → length r ≡ entry_bytes → length (renamed_row_rule fcb r) ≡ entry_bytes = λ r h. length_renamed_row fcb r h in
        let here : (k : ℕ) → k < G.entries → picks (entry_at G img k) ≡ true → entry_at G (changed_rows G picks (renamed_row_rule fcb) img) k ≡ renamed_row_rule fcb (entry_at G img k) =
        λ k l p. row_picked S picks (renamed_row_rule fcb) keeps img g.image_long k l p in
        record {
          image_long = long_on G (length_changed_rows S picks (renamed_row_rule fcb) keeps img g.image_long) g.image_long;
          map_long = g.map_long;
          inv = rename_inv S (entry_at G img) (entry_at G (changed_rows G picks (renamed_row_rule fcb) img)) (λ c. note_at_rule map c) g.inv
              (λ (e : ℕ). picks (entry_at G img e)) (λ k l p. row_unpicked S picks (renamed_row_rule fcb) keeps img g.image_long k l p)
              (λ k l p. named_used false user fcb 1 (entry_at G img k) p low)
              (λ k l p. subst (RenamedTo G (entry_at G img k)) (sym (here k l p)) (renamed_to k l p))
              (λ k f l h p q. like_trans (entry_at G img f) 1 fcb 1 (entry_at G img k) 1
              (like_sym fcb 1 (entry_at G img f) 1 (named_like false user fcb 1 (entry_at G img f) q)) (named_like false user fcb 1 (entry_at G img k) p))
              (λ k f l h p q u s. clashes k f l h p (subst (λ (r : Bytes). SameFile G r (entry_at G img f)) (here k l p) s));
        }
