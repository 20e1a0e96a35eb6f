use mathlib.Core.Path.{refl}
use Prim.Native.Nat.{◌+◌}
use lib.ListN.{length}
use Rattle.lists.specs.Splice.{splice_part}
use Rattle.lists.proofs.get.Goals as goal

pub returns : goal.returns
returns c =
    let a = c in
    splice_part a.args.src.now a.args.dst.now c.put.new.dst a.args.at (a.args.at + length a.args.dst.now) a.requires refl c.put.ensures
