use Rattle.std.proofs.Common.{[], ◌∷◌, suc, length, subst}
use Rattle.sg_trace.specs.Traces.{Commit}
use Rattle.sg_engine.specs.Shown.{Shown, Appends}
use Rattle.sg_engine.specs.Ends.{EndsJob}
use Rattle.sg_engine.specs.Outside.{outside}
use Rattle.sg_engine.proofs.Outer.{appends_out, ends_out}
use Rattle.sg_engine.proofs.engine.Engine.commit.Goals as goal

pub returns-clause-run : goal.returns-clause-run
returns-clause-run g c =
    subst (λ (v : Shown). Appends (Commit c.args.s (suc (length v.journal)) ∷ []) v (outside c.commit.new.self)) c.self.view_is
    (appends_out (Commit c.args.s (suc (length c.self.inside.shared.journal)) ∷ []) c.self.inside.shared c.commit.new.self c.commit.ensures.run)

pub returns-clause-job : goal.returns-clause-job
returns-clause-job g c =
    subst (λ (v : Shown). EndsJob c.args.s v (outside c.commit.new.self)) c.self.view_is
    (ends_out c.args.s c.in_range.ensures c.self.inside.shared c.commit.new.self c.commit.ensures.job)
