use Rattle.std.proofs.Common.{◌<◌, ◌-◌}
use Rattle.sg_tess.specs.Sights.{Far}
use Rattle.sg_tess.proofs.sights.Sight.bottom_in.Given as goal

abbrev pub invariant-loop-bottom : goal.invariant-loop-bottom
invariant-loop-bottom g l = record { far : Far l.self.grid.now l.parent l.self.bounds (λ s. s.1 < l.bottom) }

abbrev pub decreases-loop-bottom : goal.decreases-loop-bottom
decreases-loop-bottom g l = l.side - l.bottom
