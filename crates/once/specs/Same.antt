-- Stamps change no row of the table of answers: a disk that differs in stamps alone has the same log and the same book.
use Rattle.std.specs.Prelude.{◌≡◌, refl, true, false, ℕ, ◌/◌, ◌≤◌, None, Option, Some, is_some}
use Rattle.std.proofs.Math.Path.{ap}
use Rattle.std.proofs.Common.{sym, ◌∙◌, subst}
use Rattle.lists.specs.Cases.{bool_ext}
use Rattle.lists.specs.Tests.{◌and◌, and_left, and_right, and_both}
use Rattle.lists.specs.Below.{any_below, any_cong}
use Rattle.format.specs.Diskette.{Bytes, Geometry, Sound, extent_records}
use Rattle.format.specs.Entries.{entry_at}
use Rattle.format.specs.Notes.{find_free}
use Rattle.facts.specs.Find.{file_says}
use Rattle.consistency.specs.Naming.{file_used}
use Rattle.model.specs.Stamps.{Stamp}
use Rattle.model.specs.Target.{read_only_in}
use Rattle.effects.specs.Alike.{used_row}
use Rattle.demands.specs.Runs.{Disk}
use Rattle.stored.specs.Closed.{Sane, seen_on, Stored, Restamped}
use Rattle.stored.specs.Restamped.{sane_restamped, restamped_alike, find_empty_restamped, find_named_restamped, find_file_restamped, size_restamped}
use Rattle.stored.proofs.Restamped.{stored_restamped, stored_before}
use Rattle.stored.specs.Told.{block_in, stored_is, stored_bytes}
use Rattle.stored.proofs.Told.{is_stored_law}
use Rattle.picking.specs.declared.Wanted.{Wanted}
use Rattle.picking.specs.Picker.{fcb_of_rule, has_stamp_rule}
use Rattle.once.specs.Table.{has_entry, extent_at, size_is, record_is, bytes_are, some_empty, some_free, has_day, next_entry, log_locked, no_block, growing, beginning, log_answer}

module _ {G : Geometry} (S : Sound G) (P : Stamp → Type 0) (d t : Disk) (sane : Sane G d) (w : Restamped G P d t) where
  abbrev user : ℕ
  user = d.session.user

  hu : user ≤ 15
  hu = sane.range.user

  pub empty_same : some_empty G t ≡ some_empty G d
  empty_same = ap is_some (find_empty_restamped S P d t sane w)

  pub free_same : some_free G t ≡ some_free G d
  free_same = ap (λ (m : Bytes). is_some (find_free G m)) w.map

  module _ (name : Bytes) where
    pub entry_same : has_entry G t name ≡ has_entry G d name
    unfolding has_entry
    entry_same = rw w.user (ap is_some (find_named_restamped S P d t sane w user hu (fcb_of_rule name) false))

    pub extent_same : (ext : ℕ) → extent_at G t name ext ≡ extent_at G d name ext
    unfolding extent_at
    extent_same ext = rw w.user (find_file_restamped S P d t sane w user hu (fcb_of_rule name) ext)

    pub size_same : size_is G t name ≡ size_is G d name
    unfolding size_is
    size_same = rw w.user (size_restamped S P d t sane w user hu (fcb_of_rule name))

    -- a record of the one disk is one of the other
    on : (r : ℕ) (v : Bytes) → Stored G (seen_on G d) user (fcb_of_rule name) r v → Stored G (seen_on G t) t.session.user (fcb_of_rule name) r v
    on r v h = rw w.user (stored_restamped S P d t sane w user hu (fcb_of_rule name) r v h)

    back : (r : ℕ) (v : Bytes) → Stored G (seen_on G t) t.session.user (fcb_of_rule name) r v → Stored G (seen_on G d) user (fcb_of_rule name) r v
    back r v h =
        stored_before S P d t sane w user hu (fcb_of_rule name) r v (subst (λ (u : ℕ). Stored G (seen_on G t) u (fcb_of_rule name) r v) w.user h)

    sane_t : Sane G t
    sane_t = sane_restamped S P d t sane w

    module _ (r : ℕ) where
      is_d : record_is G d name r ≡ true → Stored G (seen_on G d) user (fcb_of_rule name) r (bytes_are G d name r)
      is_d = is_stored_law G (seen_on G d) user (fcb_of_rule name) r

      is_t : record_is G t name r ≡ true → Stored G (seen_on G t) t.session.user (fcb_of_rule name) r (bytes_are G t name r)
      is_t = is_stored_law G (seen_on G t) t.session.user (fcb_of_rule name) r

      pub record_same : record_is G t name r ≡ record_is G d name r
      record_same =
          bool_ext _ _
          (λ h. stored_is G (seen_on G d) user (fcb_of_rule name) r _ sane.good.inv.dir hu (back r _ (is_t h)))
          (λ h. stored_is G (seen_on G t) t.session.user (fcb_of_rule name) r _ sane_t.good.inv.dir sane_t.range.user (on r _ (is_d h)))

      pub bytes_same : record_is G d name r ≡ true → bytes_are G t name r ≡ bytes_are G d name r
      bytes_same h = stored_bytes G (seen_on G t) t.session.user (fcb_of_rule name) r _ sane_t.good.inv.dir sane_t.range.user (on r _ (is_d h))

    -- the entry of an extent stays as it was
    row_same : (ext e : ℕ) → extent_at G d name ext ≡ Some e → entry_at G t.drive.image e ≡ entry_at G d.drive.image e
    unfolding extent_at
    row_same ext e q =
        let k = file_says G (entry_at G d.drive.image) user (fcb_of_rule name) 1 ext e q in
        used_row G d.drive.image t.drive.image (restamped_alike S P d t sane w) e k.below
        (file_used G user (fcb_of_rule name) 1 ext (entry_at G d.drive.image e) k.holds hu)

    locked_by : (ext : ℕ) (x : Option ℕ) → extent_at G d name ext ≡ x → read_only_in (entry_at G t.drive.image) x ≡ read_only_in (entry_at G d.drive.image) x
    locked_by ext (Some e) q = rw (row_same ext e q)
    locked_by ext None q = refl

    pub locked_same : (ext : ℕ) → read_only_in (entry_at G t.drive.image) (extent_at G t name ext) ≡ read_only_in (entry_at G d.drive.image) (extent_at G d name ext)
    locked_same ext = ap (read_only_in (entry_at G t.drive.image)) (extent_same ext) ∙ locked_by ext (extent_at G d name ext) refl

    block_by : (r : ℕ) (x : Option ℕ) → extent_at G d name (r / extent_records) ≡ x
        → block_in G (entry_at G t.drive.image) r x ≡ block_in G (entry_at G d.drive.image) r x
    block_by r (Some e) q = rw (row_same (r / extent_records) e q)
    block_by r None q = refl

    pub block_same : (r : ℕ) → block_in G (entry_at G t.drive.image) r (extent_at G t name (r / extent_records))
        ≡ block_in G (entry_at G d.drive.image) r (extent_at G d name (r / extent_records))
    block_same r = ap (block_in G (entry_at G t.drive.image) r) (extent_same (r / extent_records)) ∙ block_by r (extent_at G d name (r / extent_records)) refl

  module _ (v : Wanted) where
    pub has_same : (r : ℕ) → (record_is G t v.log r and has_stamp_rule v.year v.day (bytes_are G t v.log r))
        ≡ (record_is G d v.log r and has_stamp_rule v.year v.day (bytes_are G d v.log r))
    has_same r =
        bool_ext _ _
        (λ h. let k : record_is G d v.log r ≡ true = sym (record_same v.log r) ∙ and_left _ _ h in
        and_both _ _ k (ap (has_stamp_rule v.year v.day) (sym (bytes_same v.log r k)) ∙ and_right _ _ h))
        (λ h. and_both _ _ (record_same v.log r ∙ and_left _ _ h) (ap (has_stamp_rule v.year v.day) (bytes_same v.log r (and_left _ _ h)) ∙ and_right _ _ h))

    pub day_same : has_day G v t ≡ has_day G v d
    unfolding has_day
    day_same =
        ap (any_below (λ (r : ℕ). record_is G t v.log r and has_stamp_rule v.year v.day (bytes_are G t v.log r))) (size_same v.log)
        ∙ any_cong _ _ (size_is G d v.log) (λ r h. has_same r)

    next_same : next_entry G v t ≡ next_entry G v d
    next_same = ap (λ (n : ℕ). extent_at G t v.log (n / extent_records)) (size_same v.log) ∙ extent_same v.log (size_is G d v.log / extent_records)

    pub locked_log_same : log_locked G v t ≡ log_locked G v d
    unfolding log_locked
    locked_log_same = rw (size_same v.log, locked_same v.log 0, locked_same v.log (size_is G d v.log / extent_records))

    pub no_block_same : no_block G v t ≡ no_block G v d
    unfolding no_block
    no_block_same = rw (size_same v.log, block_same v.log (size_is G d v.log))

    pub growing_same : growing G v t ≡ growing G v d
    unfolding growing
    growing_same = rw (next_same, size_same v.log, locked_log_same, no_block_same, empty_same, free_same)

    pub beginning_same : beginning G v t ≡ beginning G v d
    unfolding beginning
    beginning_same = rw (empty_same, free_same)

    pub log_same : log_answer G v t ≡ log_answer G v d
    unfolding log_answer
    log_same = rw (entry_same v.log, extent_same v.log 0, day_same, growing_same, beginning_same)
