use Rattle.sg_modes.proofs.WordLaws.{members-AreSessions, first_of}
use Rattle.sg_modes.proofs.sets.Sessions.first.Goals as goal

pub returns-clause-first : goal.returns-clause-first
returns-clause-first c = rw (← c.self.view_is) (first_of c.self.inside.bits c.new.result c.self.invariant.0 c.new.ensures)

pub returns-clause-sessions : goal.returns-clause-sessions
returns-clause-sessions c = rw (← c.self.view_is) (members-AreSessions c.self.inside.bits)
