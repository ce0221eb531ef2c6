use Rattle.std.proofs.Common.{◌≤◌, ◌-◌}
use Rattle.sg_hilbert.specs.Curve.{two_to}
use Rattle.sg_cells.specs.Cells.{split_of}
use Rattle.sg_tess.specs.Sights.{Far}
use Rattle.sg_tess.proofs.sights.Sight.right_in.Given as goal

abbrev pub invariant-loop-right : goal.invariant-loop-right
invariant-loop-right g l = record {
  far : Far l.self.grid.now l.parent l.self.bounds (λ s. l.right ≤ s.0);
  most : l.right ≤ two_to (split_of l.self.grid.now.sides l.parent);
}

abbrev pub decreases-loop-right : goal.decreases-loop-right
decreases-loop-right g l = l.right - l.left
