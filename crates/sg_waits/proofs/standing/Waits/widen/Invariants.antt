use Rattle.std.proofs.Common.{length}
use Rattle.sg_modes.specs.Waits.{blockers_of}
use Rattle.sg_waits.proofs.Chains.{Widened}
use Rattle.sg_waits.proofs.standing.Waits.widen.Given as goal

abbrev pub invariant-loop-x : goal.invariant-loop-x
invariant-loop-x l = Widened (blockers_of l.self) l.near l.found l.rest

abbrev pub decreases-loop-x : goal.decreases-loop-x
decreases-loop-x l = length l.rest
