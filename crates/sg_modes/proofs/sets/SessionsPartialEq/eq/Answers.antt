use Rattle.std.proofs.Common.{arith}
use Rattle.sg_modes.proofs.WordLaws.{word_of-members}
use Rattle.sg_modes.proofs.sets.SessionsPartialEq.eq.Goals as goal

pub returns : goal.returns
returns c = grind (arith, word_of-members)
