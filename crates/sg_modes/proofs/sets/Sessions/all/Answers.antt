use Rattle.std.proofs.Common.{arith}
use Rattle.sg_modes.proofs.WordLaws.{has_session-ones, members-AreSessions, word_of-members}
use Rattle.sg_modes.proofs.sets.Sessions.all.Goals as goal

pub invariant_of-result : goal.invariant_of-result
invariant_of-result c = (omega arith, word_of-members 18446744073709551615 (omega arith))

pub returns-clause-all : goal.returns-clause-all
returns-clause-all c = has_session-ones

pub returns-clause-sessions : goal.returns-clause-sessions
returns-clause-sessions c = members-AreSessions 18446744073709551615
