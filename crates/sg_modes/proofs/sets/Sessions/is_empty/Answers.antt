use Rattle.std.proofs.Common.{eqb-true, eq-eqb}
use Rattle.sg_modes.proofs.WordLaws.{members-AreSessions, word_empty, empty_word}
use Rattle.sg_modes.proofs.sets.Sessions.is_empty.Goals as goal

pub returns-clause-empty : goal.returns-clause-empty
returns-clause-empty c = rw (← c.self.view_is) (λ t. word_empty c.self.inside.bits (eqb-true c.self.inside.bits 0 t), λ e. eq-eqb c.self.inside.bits 0 (empty_word c.self.inside.bits c.self.invariant.0 e))

pub returns-clause-sessions : goal.returns-clause-sessions
returns-clause-sessions c = rw (← c.self.view_is) (members-AreSessions c.self.inside.bits)
