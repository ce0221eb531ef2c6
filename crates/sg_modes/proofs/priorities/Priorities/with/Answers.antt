use Rattle.std.proofs.Common.{arith}
use Rattle.std.proofs.lemmas.Int.{ints}
use Rattle.sg_modes.proofs.PriorityLaws.{ArePriorities-set}
use Rattle.sg_modes.proofs.priorities.Priorities.with.Goals as goal

pub invariant_of-self : goal.invariant_of-self
invariant_of-self c = ArePriorities-set c.self.inside.by_session c.index.result _ c.self.invariant (let r = c.requires in (omega (arith, ints), omega (arith, ints)))
