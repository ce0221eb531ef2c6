use Rattle.std.proofs.Common.{subst}
use Rattle.sg_script.specs.Plans.{IsOrderOf, Plan, numbers_of}
use Rattle.sg_script.proofs.scripts.Script.order.Goals as goal

pub returns-clause-turns : goal.returns-clause-turns
returns-clause-turns c = subst (λ (p : Plan). IsOrderOf (numbers_of p.sessions) p.order) c.self.view_is c.self.invariant.turns
