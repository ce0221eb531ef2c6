use Rattle.std.proofs.Common.{◌<◌, ◌-◌}
use Rattle.sg_tess.specs.Sights.{Far}
use Rattle.sg_tess.proofs.sights.Sight.left_in.Given as goal

abbrev pub invariant-loop-left : goal.invariant-loop-left
invariant-loop-left g l = record { far : Far l.self.grid.now l.parent l.self.bounds (λ s. s.0 < l.left) }

abbrev pub decreases-loop-left : goal.decreases-loop-left
decreases-loop-left g l = l.side - l.left
