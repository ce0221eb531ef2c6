use Rattle.sg_modes.specs.Waits.{blockers_of}
use Rattle.sg_waits.proofs.Walks.{Way}
use Rattle.sg_waits.proofs.standing.Waits.walk.Given as goal

abbrev pub invariant-steps : goal.invariant-steps
invariant-steps l = Way (blockers_of l.self) l.fn.s l.fn.steps l.members l.at l.left

abbrev pub decreases-steps : goal.decreases-steps
decreases-steps l = l.left
