-- The search of the log: reads through the FCB that an open handed back leave the disk, so it finds exactly whether a record has the year and day.
use Rattle.std.specs.Prelude.{◌≡◌, refl, Bool, true, false, ℕ, ◌+◌, ◌≤◌, ◌<◌, length}
use Rattle.std.proofs.Math.Path.{ap}
use Rattle.std.proofs.Common.{sym, ◌∙◌, arith}
use Rattle.lists.specs.Cases.{split, bool_cases, bool_ext}
use Rattle.lists.specs.Tests.{◌and◌, and_left, and_right, and_both, or_then, or_left}
use Rattle.lists.specs.Below.{any_below, any_none, any_next}
use Rattle.lists.specs.Fold.{fold_builds}
use Rattle.format.specs.Diskette.{Bytes, Geometry, Sound, record_bytes}
use Rattle.model.specs.Lent.{Outcome, ended}
use Rattle.model.specs.Table.{time_right_rule}
use Rattle.demands.specs.Runs.{Disk, outcome_of, left, accepts}
use Rattle.stored.specs.Closed.{Fresh, seen_on}
use Rattle.stored.specs.Quiet.{fresh_record, fresh_read_disk}
use Rattle.stored.proofs.Reading as Reading
use Rattle.stored.specs.Told.{is_stored, bytes_stored}
use Rattle.picking.specs.declared.Wanted.{Wanted}
use Rattle.picking.specs.declared.Time.{Time}
use Rattle.picking.specs.Picker.{Search, blank, call_at, reading, has_stamp_rule, accepted, tells, look, searched}
use Rattle.once.specs.Bytes.{length_blank}
use Rattle.once.specs.Calls.{Timed}

-- record r of the file that f names is there and has the year and day
abbrev pub has_at : Geometry → Disk → Bytes → Wanted → ℕ → Bool
has_at G d f w r =
    is_stored G (seen_on G d) d.session.user f r and has_stamp_rule w.year w.day (bytes_stored G (seen_on G d) d.session.user f r)

module _ {G : Geometry} (S : Sound G) (d : Disk) (f : Bytes) (e : ℕ) (k : Fresh G d f e) (t : Time) (timed : Timed t) where
  abbrev user : ℕ
  user = d.session.user

  -- ---- 33 of a record is accepted exactly where it is stored, and gives its bytes
  module _ (r : ℕ) (small : r < 16777216) (buffer : Bytes) (hb : length buffer ≡ record_bytes) where
    pub read_accepted : accepts G d (reading t f r buffer) ≡ is_stored G (seen_on G d) user f r
    unfolding time_right_rule
    read_accepted = Reading.read_accepted S (call_at t 0) d f e k r buffer small timed hb

    pub read_gives : is_stored G (seen_on G d) user f r ≡ true → (outcome_of G d (reading t f r buffer)).lent.buffer ≡ bytes_stored G (seen_on G d) user f r
    unfolding time_right_rule
    read_gives = Reading.read_gives S (call_at t 0) d f e k r buffer small timed hb

  -- ---- the search
  module _ (w : Wanted) (over : d.session ≡ ended d.session) where
    abbrev has : ℕ → Bool
    has r = has_at G d f w r

    one_told : (r : ℕ) → r < 16777216 → tells G t w (outcome_of G d (reading t f r blank)) ≡ record { found = has r; disk = d }
    one_told r small =
        let o : Outcome = outcome_of G d (reading t f r blank) in
        let same : left (outcome_of G d (reading t f r blank)) ≡ d = fresh_read_disk G d (reading t f r blank) e refl (fresh_record G d f e k r) over in
        let hit : (accepted 33 o and has_stamp_rule w.year w.day o.lent.buffer) ≡ has r =
        bool_ext _ _
        (λ h. let b : is_stored G (seen_on G d) user f r ≡ true = sym (read_accepted r small blank length_blank) ∙ and_left _ _ h in
        and_both _ _ b (ap (has_stamp_rule w.year w.day) (sym (read_gives r small blank length_blank b)) ∙ and_right _ _ h))
        (λ h. and_both _ _ (read_accepted r small blank length_blank ∙ and_left _ _ h)
        (ap (has_stamp_rule w.year w.day) (read_gives r small blank length_blank (and_left _ _ h)) ∙ and_right _ _ h)) in
        ap (λ (x : Disk). record { found = accepted 33 o and has_stamp_rule w.year w.day o.lent.buffer; disk = x }) same
        ∙ ap (λ (b : Bool). record { found = b; disk = d }) hit

    -- what it has come to after the records below n
    abbrev state : ℕ → Search
    state n = record { found = any_below has n; disk = d }

    turn : (n : ℕ) → n < 16777216 → look G t w f (state n) n ≡ state (n + 1)
    unfolding look
    turn n small =
        split (bool_cases (any_below has n))
        (λ h. rw h (ap (λ (b : Bool). record { found = b; disk = d }) (sym (any_next has n ∙ or_left _ _ h))))
        (λ h. rw h (one_told n small ∙ ap (λ (b : Bool). record { found = b; disk = d }) (sym (any_next has n ∙ or_then _ _ h))))

    pub searched_is : (n : ℕ) → n ≤ 16777216 → searched G t w d f n ≡ state n
    unfolding searched
    searched_is n high =
        fold_builds (λ (i : ℕ) (s : Search). s ≡ state i) (look G t w f) record { found = false; disk = d } n
        (ap (λ (b : Bool). record { found = b; disk = d }) (sym (any_none has)))
        (λ i s h q. ap (λ (x : Search). look G t w f x i) q ∙ turn i (omega arith))
