use Rattle.sg_modes.proofs.PriorityLaws.{priority_of-zeros, ArePriorities-zeros}
use Rattle.sg_modes.proofs.priorities.Priorities.new.Goals as goal

pub invariant_of-result : goal.invariant_of-result
invariant_of-result c = ArePriorities-zeros 64

pub returns : goal.returns
returns c = priority_of-zeros 64
