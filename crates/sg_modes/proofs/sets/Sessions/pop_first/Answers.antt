use Rattle.std.proofs.Common.{sym}
use Rattle.sg_modes.proofs.SessionLaws.{without_first}
use Rattle.sg_modes.proofs.sets.Sessions.pop_first.Goals as goal

pub returns-clause-rest : goal.returns-clause-rest
returns-clause-rest c = rw c.without.ensures (without_first c.args.self.now c.in_ok-first.first (sym c.in_ok-first.ensures.first))
