-- An FCB that takes an entry, at whatever extent, ends no later than the entry. On a disk whose entries cover several extents an FCB may be
-- opened at one that the entry has not come to; its count is 0 then, and it has no end.
use Rattle.std.specs.Prelude.{◌≡◌, ℕ, ◌≤◌, length}
use Rattle.std.proofs.Common.{arith}
use Rattle.lists.specs.Cases.{split, eq_or_ne}
use Rattle.format.specs.Diskette.{Bytes, Geometry}
use Rattle.format.specs.Entries.{count_of, end_of}
use Rattle.format.specs.Fcb.{fcb_end}
use Rattle.facts.specs.Counts.{count_by_end, end_none, end_some}
use Rattle.model.specs.Entering.{entered}
use Rattle.fields.specs.Entering.{extent_entered, count_entered}

module _ (G : Geometry) (fcb row : Bytes) (ext : ℕ) (hf : 32 ≤ length fcb) (hr : length row ≡ 32) where
  -- an FCB that has taken an entry ends no later than the entry
  pub entered_ends : fcb_end (entered fcb row ext) ≤ end_of row
  unfolding end_of
  entered_ends =
      let f : Bytes = entered fcb row ext in
      let x = extent_entered fcb row ext hf (omega arith) in
      let c = count_entered fcb row ext hf (omega arith) in
      let b = count_by_end row ext in
      split (eq_or_ne (count_of f) 0) (λ z. let e = end_none f z in omega arith) (λ n. let e = end_some f n in omega arith)
