use Rattle.std.specs.Prelude.{◌↔◌, IsOk, Err, OnOk}
use Rattle.std.proofs.Common.{◌≡◌, true, false, Option, Some, None, sym, ap, subst}
use Rattle.sg_refine.specs.Jobs.{Job}
use Rattle.sg_engine.specs.declared.delivery.Stranger.{Stranger}
use Rattle.sg_engine.specs.Shown.{Shown, Refining, job_in}
use Rattle.sg_engine.specs.Outside.{outside}
use Rattle.sg_engine.specs.Steps.{SetsJob}
use Rattle.sg_engine.specs.Strangers.{IsStranger}
use Rattle.sg_engine.proofs.Outer.{job_out, sets_out, on_ok}
use Rattle.sg_engine.proofs.engine.Engine.deliver.Goals as goal

pub returns-clause-ok : goal.returns-clause-ok
returns-clause-ok g c =
    let same = ap (λ (x : Refining). x.job) (job_out c.self.inside.shared c.args.s c.in_range.ensures) in
    subst (λ (v : Shown). IsOk c.deliver.result ↔ ((job_in v.jobs c.args.s).job ≡ Some c.args.done.job)) c.self.view_is
    (subst (λ (o : Option Job). IsOk c.deliver.result ↔ (o ≡ Some c.args.done.job)) (sym same) c.deliver.ensures.ok)

pub returns-clause-stranger : goal.returns-clause-stranger
returns-clause-stranger g c =
    let same = ap (λ (x : Refining). x.job) (job_out c.self.inside.shared c.args.s c.in_range.ensures) in
    subst (λ (v : Shown). (why : Stranger) → (c.deliver.result ≡ Err why) ↔ IsStranger (job_in v.jobs c.args.s).job c.args.done.job why) c.self.view_is
    (subst (λ (o : Option Job). (why : Stranger) → (c.deliver.result ≡ Err why) ↔ IsStranger o c.args.done.job why) (sym same) c.deliver.ensures.stranger)

pub returns-clause-job : goal.returns-clause-job
returns-clause-job g c =
    subst (λ (v : Shown). OnOk c.deliver.result (SetsJob c.args.s (record { job = None; delivered = true; writes = false }) v (outside c.deliver.new.self))) c.self.view_is
    (on_ok c.deliver.result (sets_out c.args.s c.in_range.ensures c.self.inside.shared c.deliver.new.self (record { job = None; delivered = true; writes = false })) c.deliver.ensures.job)
