-- A disk, a session and a time that are right, as tests and as facts; and the open of a name on any disk at all.
use Rattle.std.specs.Prelude.{◌≡◌, true, cond, not, ℕ, length, is_some}
use Rattle.std.proofs.Math.Path.{refl}
use Rattle.std.proofs.Common.{◌∙◌, arith}
use borrow.Author.Tests.{eqb-true, eq-eqb, leb-true, le-leb}
use Rattle.lists.specs.Cases.{split, bool_cases, bool_ext}
use Rattle.lists.specs.Tests.{and_left, and_right, and_both}
use Rattle.format.specs.Diskette.{Bytes, Geometry}
use Rattle.format.specs.Names.{name_bytes}
use Rattle.facts.specs.Long.{long_says, long_is}
use Rattle.model.specs.Kinds.{kind_of, is_call}
use Rattle.model.specs.Table.{time_right_rule, parameters_right_rule, disk_right_rule}
use Rattle.table.specs.Reflect.{fits_of, time_of, parameters_right_law, image_of, map_of, disk_right_law}
use Rattle.invariant.specs.Good.{good_of, good_consistent, good_right}
use Rattle.demands.specs.Runs.{Disk, lent_to}
use Rattle.stored.specs.Closed.{Sane}
use Rattle.picking.specs.declared.Time.{Time}
use Rattle.picking.specs.Picker.{opening}
use Rattle.once.specs.Bytes.{length_blank, begins_fcb_of}
use Rattle.once.specs.Calls.{Timed, open_by}
use Rattle.once.specs.Deciding.{answered, answered_rows}
use Rattle.once.specs.Table.{parameters_are, disk_is, name_is, extent_at}

module _ (G : Geometry) (d : Disk) (t : Time) where
  pub timed_of : parameters_are G d t ≡ true → Timed t
  unfolding parameters_are
  timed_of p = and_right _ _ (and_right _ _ (and_right _ _ (and_right _ _ p)))

  pub sane_of : parameters_are G d t ≡ true → disk_is G d ≡ true → Sane G d
  unfolding parameters_are disk_is
  sane_of p q = record {
    good = good_of G d.drive.image d.drive.map (long_says G d.drive.image (and_left _ _ p)) (eqb-true _ _ (and_left _ _ (and_right _ _ p)))
        (and_left _ _ q) (and_right _ _ q);
    range = record {
      user = leb-true _ _ (and_left _ _ (and_right _ _ (and_right _ _ p)));
      place = leb-true _ _ (and_left _ _ (and_right _ _ (and_right _ _ (and_right _ _ p))));
    };
  }

  pub parameters_of : Sane G d → Timed t → parameters_are G d t ≡ true
  unfolding parameters_are
  parameters_of s h =
      and_both _ _ (long_is G d.drive.image s.good.image_long) (and_both _ _ (eq-eqb _ _ s.good.map_long)
      (and_both _ _ (le-leb _ _ s.range.user) (and_both _ _ (le-leb _ _ s.range.place) h)))

  pub disk_of_law : Sane G d → disk_is G d ≡ true
  unfolding disk_is
  disk_of_law s = and_both _ _ (good_consistent G d.drive.image d.drive.map s.good) (good_right G d.drive.image d.drive.map s.good)

  -- ---- 15 of a name, whatever the disk
  module _ (name : Bytes) (h : length name ≡ name_bytes) where
    parameters_same : parameters_right_rule G (lent_to d (opening t name)) (opening t name).asked d.session ≡ parameters_are G d t
    unfolding time_right_rule parameters_are
    parameters_same =
        bool_ext _ _
        (λ p. let f = fits_of G (opening t name).asked (lent_to d (opening t name)) d.session p in
        and_both _ _ (long_is G d.drive.image f.image_long) (and_both _ _ (eq-eqb _ _ f.map_long)
        (and_both _ _ (le-leb _ _ f.user_low) (and_both _ _ (le-leb _ _ f.place_low)
        (time_of G (opening t name).asked (lent_to d (opening t name)) d.session p)))))
        (λ p. parameters_right_law G (opening t name).asked (lent_to d (opening t name)) d.session
        record {
          image_long = long_says G d.drive.image (and_left _ _ p);
          map_long = eqb-true _ _ (and_left _ _ (and_right _ _ p));
          fcb_long = (begins_fcb_of name h).long;
          buffer_long = length_blank;
          user_low = leb-true _ _ (and_left _ _ (and_right _ _ (and_right _ _ p)));
          place_low = leb-true _ _ (and_left _ _ (and_right _ _ (and_right _ _ (and_right _ _ p))));
        } (timed_of p) (λ u. (begins_fcb_of name h).drive))

    disk_same : disk_right_rule G (lent_to d (opening t name)) (opening t name).asked ≡ disk_is G d
    unfolding disk_is
    disk_same =
        bool_ext _ _
        (λ p. and_both _ _ (image_of G (opening t name).asked (lent_to d (opening t name)) d.session p)
        (map_of G (opening t name).asked (lent_to d (opening t name)) d.session p (λ z. omega arith)))
        (λ p. disk_right_law G (opening t name).asked (lent_to d (opening t name)) d.session (and_left _ _ p) (λ z. and_right _ _ p))

    module _ {A : Type 0} (went : A) (not_so : ℕ → ℕ → A) where
      pub open_any : answered went not_so G d (opening t name)
          ≡ cond (not (parameters_are G d t)) (not_so 255 4)
          (cond (not (disk_is G d)) (not_so 255 1)
          (cond (not (name_is name)) (not_so 255 9) (cond (not (is_some (extent_at G d name 0))) (not_so 255 0) went)))
      unfolding is_call kind_of
      open_any =
          split (bool_cases (parameters_are G d t))
          (λ p. split (bool_cases (disk_is G d))
          (λ q. rw (p, q) (open_by d (sane_of p q) t (timed_of p) name h went not_so))
          (λ q. answered_rows went not_so G d (opening t name) refl ∙ rw (parameters_same, disk_same, p, q)))
          (λ p. answered_rows went not_so G d (opening t name) refl ∙ rw (parameters_same, p))
