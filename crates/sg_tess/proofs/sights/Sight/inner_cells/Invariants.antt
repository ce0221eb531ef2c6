use Rattle.sg_cells.specs.Tess.{look_at}
use Rattle.sg_tess.proofs.Steps.{Rounds}
use Rattle.sg_tess.proofs.sights.Sight.inner_cells.Given as goal

abbrev pub invariant-loop-level : goal.invariant-loop-level
invariant-loop-level g l = record {
  so_far : Rounds l.self.grid.now (look_at l.self.shape.now) l.limit l.level l.list.items;
}
