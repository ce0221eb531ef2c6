use Rattle.std.proofs.Common.{◌-◌, length}
use Rattle.sg_modes.specs.Waits.{blockers_of}
use Rattle.sg_waits.proofs.Chains.{Search}
use Rattle.sg_waits.proofs.standing.Waits.cycle.Given as goal

abbrev pub invariant-search : goal.invariant-search
invariant-search l = Search (blockers_of l.self) l.s l.near l.steps l.layers

abbrev pub decreases-search : goal.decreases-search
decreases-search l = 64 - length l.near
