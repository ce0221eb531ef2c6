use Rattle.std.specs.Prelude.{OnOk, OnErr}
use Rattle.std.proofs.Common.{◌≡◌, ◌∙◌, set, sym, ap, subst}
use Rattle.sg_trace.specs.Traces.{Stage}
use Rattle.sg_engine.specs.Shown.{Shown, Refining, job_in}
use Rattle.sg_engine.specs.Inside.{shown_in}
use Rattle.sg_engine.specs.Steps.{IsSameRun, SetsJob}
use Rattle.sg_engine.proofs.Begins.{within_is}
use Rattle.sg_engine.proofs.JobSeats.{job_at}
use Rattle.sg_engine.proofs.Strangers.{taken, refused}
use Rattle.sg_engine.proofs.Delivered.{deliver_engine, deliver_same, deliver_run, deliver_job}
use Rattle.sg_engine.proofs.shared.Shared.deliver.Goals as goal

pub invariant_of-self : goal.invariant_of-self
invariant_of-self c =
    let v = c.self.inside in
    let stage : Stage = record { settings = v.settings; opening = v.opening; priorities = v.priorities } in
    let d = c.index_mut.result.now in
    let within = within_is stage v.trace.items v.journal.items v.seats.items v.rows.rows v.cells.rows v.locks.grants v.waits v.live v.trace.spare v.journal.spare c.self.invariant
    c.args.s c.index.result c.in_range.ensures c.index.ensures.below c.index.ensures.place d c.index_mut.ensures.value in
    deliver_engine stage v.trace.items v.journal.items v.seats.items v.rows.rows v.cells.rows v.locks.grants v.waits v.live v.trace.spare v.journal.spare c.self.invariant
    c.args.s c.index.result within c.index.ensures.place d c.index_mut.ensures.value c.args.done c.receive.new.seat c.exact.ensures c.receive.result c.receive.ensures.ok c.receive.ensures.seat c.receive.ensures.err

pub returns-clause-ok : goal.returns-clause-ok
returns-clause-ok c =
    let v = c.self.inside in
    let stage : Stage = record { settings = v.settings; opening = v.opening; priorities = v.priorities } in
    let d = c.index_mut.result.now in
    let within = within_is stage v.trace.items v.journal.items v.seats.items v.rows.rows v.cells.rows v.locks.grants v.waits v.live v.trace.spare v.journal.spare c.self.invariant
    c.args.s c.index.result c.in_range.ensures c.index.ensures.below c.index.ensures.place d c.index_mut.ensures.value in
    let at = job_at v.seats.items c.index.result within c.args.s c.index.ensures.place d c.index_mut.ensures.value in
    let job = ap (λ (x : Shown). (job_in x.jobs c.args.s).job) (sym c.self.view_is) ∙ ap (λ (r : Refining). r.job) at in
    rw job (taken _ c.args.done.job c.receive.result c.receive.ensures.ok c.receive.ensures.stranger)

pub returns-clause-stranger : goal.returns-clause-stranger
returns-clause-stranger c =
    let v = c.self.inside in
    let stage : Stage = record { settings = v.settings; opening = v.opening; priorities = v.priorities } in
    let d = c.index_mut.result.now in
    let within = within_is stage v.trace.items v.journal.items v.seats.items v.rows.rows v.cells.rows v.locks.grants v.waits v.live v.trace.spare v.journal.spare c.self.invariant
    c.args.s c.index.result c.in_range.ensures c.index.ensures.below c.index.ensures.place d c.index_mut.ensures.value in
    let at = job_at v.seats.items c.index.result within c.args.s c.index.ensures.place d c.index_mut.ensures.value in
    let job = ap (λ (x : Shown). (job_in x.jobs c.args.s).job) (sym c.self.view_is) ∙ ap (λ (r : Refining). r.job) at in
    rw job (refused _ c.args.done.job c.receive.result c.receive.ensures.ok c.receive.ensures.stranger)

pub returns-clause-run : goal.returns-clause-run
returns-clause-run c =
    let v = c.self.inside in
    let stage : Stage = record { settings = v.settings; opening = v.opening; priorities = v.priorities } in
    let d = c.index_mut.result.now in
    let within = within_is stage v.trace.items v.journal.items v.seats.items v.rows.rows v.cells.rows v.locks.grants v.waits v.live v.trace.spare v.journal.spare c.self.invariant
    c.args.s c.index.result c.in_range.ensures c.index.ensures.below c.index.ensures.place d c.index_mut.ensures.value in
    subst (λ (y : Shown). OnOk c.receive.result (IsSameRun y (shown_in stage v.trace.items v.journal.items (set v.seats.items c.index.result c.receive.new.seat)))) c.self.view_is
    (deliver_run stage v.trace.items v.journal.items v.seats.items v.rows.rows v.cells.rows v.locks.grants v.waits v.live v.trace.spare v.journal.spare c.self.invariant
    c.args.s c.index.result within c.index.ensures.place d c.index_mut.ensures.value c.args.done c.receive.new.seat c.receive.result c.receive.ensures.seat)

pub returns-clause-job : goal.returns-clause-job
returns-clause-job c =
    let v = c.self.inside in
    let stage : Stage = record { settings = v.settings; opening = v.opening; priorities = v.priorities } in
    let d = c.index_mut.result.now in
    let within = within_is stage v.trace.items v.journal.items v.seats.items v.rows.rows v.cells.rows v.locks.grants v.waits v.live v.trace.spare v.journal.spare c.self.invariant
    c.args.s c.index.result c.in_range.ensures c.index.ensures.below c.index.ensures.place d c.index_mut.ensures.value in
    subst (λ (y : Shown). OnOk c.receive.result (SetsJob c.args.s _ y (shown_in stage v.trace.items v.journal.items (set v.seats.items c.index.result c.receive.new.seat)))) c.self.view_is
    (deliver_job stage v.trace.items v.journal.items v.seats.items v.rows.rows v.cells.rows v.locks.grants v.waits v.live v.trace.spare v.journal.spare c.self.invariant
    c.args.s c.index.result within c.index.ensures.place d c.index_mut.ensures.value c.args.done c.receive.new.seat c.receive.result c.receive.ensures.ok c.receive.ensures.seat)

pub returns-clause-err : goal.returns-clause-err
returns-clause-err c =
    let v = c.self.inside in
    let stage : Stage = record { settings = v.settings; opening = v.opening; priorities = v.priorities } in
    let d = c.index_mut.result.now in
    let within = within_is stage v.trace.items v.journal.items v.seats.items v.rows.rows v.cells.rows v.locks.grants v.waits v.live v.trace.spare v.journal.spare c.self.invariant
    c.args.s c.index.result c.in_range.ensures c.index.ensures.below c.index.ensures.place d c.index_mut.ensures.value in
    subst (λ (y : Shown). OnErr c.receive.result (shown_in stage v.trace.items v.journal.items (set v.seats.items c.index.result c.receive.new.seat) ≡ y)) c.self.view_is
    (deliver_same stage v.trace.items v.journal.items v.seats.items v.rows.rows v.cells.rows v.locks.grants v.waits v.live v.trace.spare v.journal.spare c.self.invariant
    c.args.s c.index.result within c.index.ensures.place d c.index_mut.ensures.value c.args.done c.receive.new.seat c.receive.result c.receive.ensures.err)
