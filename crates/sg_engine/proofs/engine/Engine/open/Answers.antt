use Rattle.sg_engine.proofs.Outer.{none_out}
use Rattle.sg_engine.proofs.engine.Engine.open.Goals as goal

pub returns-clause-jobs : goal.returns-clause-jobs
returns-clause-jobs g c = none_out c.in_ok-shared.shared c.in_ok-shared.ensures.jobs
