use Rattle.std.proofs.Common.{◌++◌}
use Rattle.sg_cells.specs.Ranges.{fresh, ancestors}
use Rattle.sg_ranges.specs.Pairs.{each_alone}
use Rattle.sg_ranges.proofs.Pairs.{Rest}
use Rattle.sg_ranges.proofs.queries.add_ancestors.Given as goal

abbrev pub invariant-loop-level : goal.invariant-loop-level
invariant-loop-level l = record {
  rest : Rest l.before l.cell l.level l.pairs (l.initial.pairs ++ each_alone (fresh l.before (ancestors l.cell)));
}
