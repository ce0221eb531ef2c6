use Rattle.std.proofs.Common.{drop}
use Rattle.sg_ranges.proofs.Pairs.{Still}
use Rattle.sg_ranges.proofs.queries.ranges_of.Given as goal

abbrev pub invariant-loop-cell : goal.invariant-loop-cell
invariant-loop-cell l = record {
  still : Still l.before l.pairs (drop l.cell-index l.cells) l.cells;
}
