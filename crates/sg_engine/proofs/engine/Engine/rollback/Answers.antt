use Rattle.std.proofs.Common.{[], ◌∷◌, subst}
use Rattle.sg_trace.specs.Traces.{Rollback}
use Rattle.sg_engine.specs.Shown.{Shown, Appends}
use Rattle.sg_engine.specs.Ends.{EndsJob}
use Rattle.sg_engine.specs.Outside.{outside}
use Rattle.sg_engine.proofs.Outer.{appends_out, ends_out}
use Rattle.sg_engine.proofs.engine.Engine.rollback.Goals as goal

pub returns-clause-run : goal.returns-clause-run
returns-clause-run g c =
    subst (λ (v : Shown). Appends (Rollback c.args.s c.args.cause ∷ []) v (outside c.rollback.new.self)) c.self.view_is
    (appends_out (Rollback c.args.s c.args.cause ∷ []) c.self.inside.shared c.rollback.new.self c.rollback.ensures.run)

pub returns-clause-job : goal.returns-clause-job
returns-clause-job g c =
    subst (λ (v : Shown). EndsJob c.args.s v (outside c.rollback.new.self)) c.self.view_is
    (ends_out c.args.s c.in_range.ensures c.self.inside.shared c.rollback.new.self c.rollback.ensures.job)
