use Rattle.std.proofs.Common.{drop, ◌≡◌}
use Rattle.sg_cells.specs.Ranges.{accepted}
use Rattle.sg_ranges.proofs.filters.is_proved_by_any.Given as goal

abbrev pub invariant-loop-other : goal.invariant-loop-other
invariant-loop-other l = record {
  rest : accepted (l.cell, l.mark) (drop l.other-index l.query) ≡ accepted (l.cell, l.mark) l.query;
}
