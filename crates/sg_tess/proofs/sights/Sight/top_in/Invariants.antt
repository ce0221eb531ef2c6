use Rattle.std.proofs.Common.{◌≤◌, ◌-◌}
use Rattle.sg_hilbert.specs.Curve.{two_to}
use Rattle.sg_cells.specs.Cells.{split_of}
use Rattle.sg_tess.specs.Sights.{Far}
use Rattle.sg_tess.proofs.sights.Sight.top_in.Given as goal

abbrev pub invariant-loop-top : goal.invariant-loop-top
invariant-loop-top g l = record {
  far : Far l.self.grid.now l.parent l.self.bounds (λ s. l.top ≤ s.1);
  most : l.top ≤ two_to (split_of l.self.grid.now.sides l.parent);
}

abbrev pub decreases-loop-top : goal.decreases-loop-top
decreases-loop-top g l = l.top - l.bottom
