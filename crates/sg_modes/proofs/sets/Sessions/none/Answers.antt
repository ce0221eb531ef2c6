use Rattle.std.proofs.Common.{arith}
use Rattle.sg_modes.proofs.WordLaws.{members-zero, word_of-members}
use Rattle.sg_modes.proofs.sets.Sessions.none.Goals as goal

pub invariant_of-result : goal.invariant_of-result
invariant_of-result c = (omega arith, word_of-members 0 (omega arith))

pub returns : goal.returns
returns c = members-zero
