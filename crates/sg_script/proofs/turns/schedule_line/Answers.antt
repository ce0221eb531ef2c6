use Rattle.std.proofs.Common.{List, ℕ, subst}
use Rattle.sg_script.specs.Plans.{IsOrderOf}
use Rattle.sg_script.proofs.turns.schedule_line.Goals as goal

pub returns-clause-fits : goal.returns-clause-fits
returns-clause-fits c p = subst (λ (ns : List ℕ). IsOrderOf ns c.in_ok-turns.turns) c.numbers.ensures c.in_ok-turns.ensures.within
