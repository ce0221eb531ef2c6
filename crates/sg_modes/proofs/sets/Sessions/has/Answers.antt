use Rattle.sg_modes.proofs.WordLaws.{members-AreSessions, bit_test}
use Rattle.sg_modes.proofs.sets.Sessions.has.Goals as goal

pub returns-clause-has : goal.returns-clause-has
returns-clause-has c = rw (← c.self.view_is, c.number.ensures.number) (bit_test c.self.inside.bits c.args.s c.number.ensures.range)

pub returns-clause-sessions : goal.returns-clause-sessions
returns-clause-sessions c = rw (← c.self.view_is) (members-AreSessions c.self.inside.bits)
