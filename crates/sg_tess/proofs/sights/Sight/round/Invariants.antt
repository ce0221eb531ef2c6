use Rattle.std.proofs.Common.{drop}
use Rattle.sg_cells.specs.Tess.{look_at}
use Rattle.sg_tess.proofs.Steps.{Round}
use Rattle.sg_tess.proofs.sights.Sight.round.Given as goal

abbrev pub invariant-loop-cell : goal.invariant-loop-cell
invariant-loop-cell g l = record {
  so_far : Round l.self.grid.now (look_at l.self.shape.now) l.limit l.level l.count l.next.items (drop l.cell-index l.list) l.list;
}
