use Rattle.std.proofs.Common.{◌++◌, drop}
use Rattle.sg_tess.proofs.Listing.{Growing}
use Rattle.sg_tess.proofs.lists.add_all.Given as goal

abbrev pub invariant-loop-cell : goal.invariant-loop-cell
invariant-loop-cell l = record {
  growing : Growing l.list (drop l.cell-index l.entries) (l.initial.list ++ l.entries);
}
