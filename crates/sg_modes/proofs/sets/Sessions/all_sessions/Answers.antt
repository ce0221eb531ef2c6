use Rattle.sg_modes.proofs.WordLaws.{members-AreSessions}
use Rattle.sg_modes.proofs.sets.Sessions.all_sessions.Goals as goal

pub returns : goal.returns
returns c = rw (← c.self.view_is) (members-AreSessions c.self.inside.bits)
