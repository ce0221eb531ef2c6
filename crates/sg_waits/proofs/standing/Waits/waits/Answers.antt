use Rattle.std.proofs.Common.{◌∙◌, sym}
use Rattle.sg_waits.proofs.Named.{waits_test}
use Rattle.sg_waits.proofs.standing.Waits.waits.Goals as goal

pub returns-clause-waits : goal.returns-clause-waits
returns-clause-waits c = waits_test c.args.self.now c.args.s c.is_empty.result c.blockers.ensures.standing (λ t. sym c.blockers.ensures.blockers ∙ c.is_empty.ensures.empty.0 t) (λ e. c.is_empty.ensures.empty.1 (c.blockers.ensures.blockers ∙ e))
