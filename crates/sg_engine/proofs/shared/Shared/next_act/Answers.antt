use Rattle.std.specs.Prelude.{IfSome}
use Rattle.std.proofs.Common.{◌≡◌, ◌∙◌, None, sym, ap, subst}
use Rattle.sg_trace.specs.Traces.{Stage}
use Rattle.sg_engine.specs.Shown.{Shown, Refining, job_in}
use Rattle.sg_engine.specs.Nexts.{IsNextAct, WaitsForNone, HasReadAll}
use Rattle.sg_engine.specs.Acting.{act_of}
use Rattle.sg_engine.specs.Steps.{HasAllMet}
use Rattle.sg_engine.proofs.Begins.{within_is}
use Rattle.sg_engine.proofs.JobSeats.{job_at}
use Rattle.sg_engine.proofs.Nexts.{shown_swapped, swap_engine, own_now}
use Rattle.sg_engine.proofs.Placed.{placed_seat, placed_job, placed_kept, has_change, behinds, acts, all_met}
use Rattle.sg_engine.proofs.shared.Shared.next_act.Goals as goal

pub act_at-requires-clause-writes : goal.act_at-requires-clause-writes
act_at-requires-clause-writes c =
    let v = c.self.inside in
    let stage : Stage = record { settings = v.settings; opening = v.opening; priorities = v.priorities } in
    let d = c.index_mut.result.now in
    let within = within_is stage v.trace.items v.journal.items v.seats.items v.rows.rows v.cells.rows v.locks.grants v.waits v.live v.trace.spare v.journal.spare c.self.invariant
    c.args.s c.index.result c.in_range.ensures c.index.ensures.below c.index.ensures.place d c.index_mut.ensures.value in
    let at = job_at v.seats.items c.index.result within c.args.s c.index.ensures.place d c.index_mut.ensures.value in
    has_change d (ap (λ (r : Refining). r.writes) (sym at) ∙ (ap (λ (x : Shown). (job_in x.jobs c.args.s).writes) c.self.view_is ∙ c.requires.writes))

pub act_at-requires-clause-behind : goal.act_at-requires-clause-behind
act_at-requires-clause-behind c =
    let v = c.self.inside in
    let stage : Stage = record { settings = v.settings; opening = v.opening; priorities = v.priorities } in
    let d = c.index_mut.result.now in
    let within = within_is stage v.trace.items v.journal.items v.seats.items v.rows.rows v.cells.rows v.locks.grants v.waits v.live v.trace.spare v.journal.spare c.self.invariant
    c.args.s c.index.result c.in_range.ensures c.index.ensures.below c.index.ensures.place d c.index_mut.ensures.value in
    behinds stage v.trace.items v.journal.items v.seats.items v.rows.rows v.cells.rows v.locks.grants v.waits v.live v.trace.spare v.journal.spare c.self.invariant
    c.args.s c.index.result c.in_range.ensures within c.index.ensures.place d c.index_mut.ensures.value

pub invariant_of-self : goal.invariant_of-self
invariant_of-self c =
    let v = c.self.inside in
    let stage : Stage = record { settings = v.settings; opening = v.opening; priorities = v.priorities } in
    let d = c.index_mut.result.now in
    let x = c.act_at.new.seat in
    let change = c.act_at.ensures.seat in
    let within = within_is stage v.trace.items v.journal.items v.seats.items v.rows.rows v.cells.rows v.locks.grants v.waits v.live v.trace.spare v.journal.spare c.self.invariant
    c.args.s c.index.result c.in_range.ensures c.index.ensures.below c.index.ensures.place d c.index_mut.ensures.value in
    let own = own_now stage v.trace.items v.journal.items v.seats.items v.rows.rows v.cells.rows v.locks.grants v.waits v.live v.trace.spare v.journal.spare c.self.invariant
    c.args.s c.index.result c.in_range.ensures within c.index.ensures.place d c.index_mut.ensures.value in
    swap_engine v.seats.items c.index.result d x c.index_mut.ensures.value (placed_seat v.locks.grants c.args.s v.rows.rows v.cells.rows d x change) (placed_job v.locks.grants c.args.s v.rows.rows v.cells.rows d x change)
    stage v.trace.items v.journal.items v.rows.rows v.cells.rows v.locks.grants v.waits v.live v.trace.spare v.journal.spare c.self.invariant c.args.s within c.index.ensures.place
    (placed_kept stage c.self.invariant.events v.rows.rows v.cells.rows v.locks.grants c.args.s d x change own)

pub returns-clause-same : goal.returns-clause-same
returns-clause-same c =
    let v = c.self.inside in
    let stage : Stage = record { settings = v.settings; opening = v.opening; priorities = v.priorities } in
    let d = c.index_mut.result.now in
    let x = c.act_at.new.seat in
    let change = c.act_at.ensures.seat in
    shown_swapped v.seats.items c.index.result d x c.index_mut.ensures.value (placed_seat v.locks.grants c.args.s v.rows.rows v.cells.rows d x change) (placed_job v.locks.grants c.args.s v.rows.rows v.cells.rows d x change)
    stage v.trace.items v.journal.items ∙ c.self.view_is

pub returns-clause-act : goal.returns-clause-act
returns-clause-act c =
    let v = c.self.inside in
    let stage : Stage = record { settings = v.settings; opening = v.opening; priorities = v.priorities } in
    let d = c.index_mut.result.now in
    let within = within_is stage v.trace.items v.journal.items v.seats.items v.rows.rows v.cells.rows v.locks.grants v.waits v.live v.trace.spare v.journal.spare c.self.invariant
    c.args.s c.index.result c.in_range.ensures c.index.ensures.below c.index.ensures.place d c.index_mut.ensures.value in
    let at = job_at v.seats.items c.index.result within c.args.s c.index.ensures.place d c.index_mut.ensures.value in
    let has = has_change d (ap (λ (r : Refining). r.writes) (sym at) ∙ (ap (λ (x : Shown). (job_in x.jobs c.args.s).writes) c.self.view_is ∙ c.requires.writes)) in
    subst (λ (y : Shown). IfSome c.act_at.result (λ act. IsNextAct y c.args.s (act_of act))) c.self.view_is
    (acts stage v.trace.items v.journal.items v.seats.items v.rows.rows v.cells.rows v.locks.grants v.waits v.live v.trace.spare v.journal.spare c.self.invariant
    c.args.s c.index.result c.in_range.ensures within c.index.ensures.place d c.index_mut.ensures.value
    (subst (λ (y : Shown). WaitsForNone y c.args.s) (sym c.self.view_is) c.requires.free) (subst (λ (y : Shown). HasReadAll y c.args.s) (sym c.self.view_is) c.requires.read) has
    c.act_at.result c.act_at.ensures.act)

pub returns-clause-none : goal.returns-clause-none
returns-clause-none c =
    let v = c.self.inside in
    let stage : Stage = record { settings = v.settings; opening = v.opening; priorities = v.priorities } in
    let d = c.index_mut.result.now in
    let within = within_is stage v.trace.items v.journal.items v.seats.items v.rows.rows v.cells.rows v.locks.grants v.waits v.live v.trace.spare v.journal.spare c.self.invariant
    c.args.s c.index.result c.in_range.ensures c.index.ensures.below c.index.ensures.place d c.index_mut.ensures.value in
    let at = job_at v.seats.items c.index.result within c.args.s c.index.ensures.place d c.index_mut.ensures.value in
    let has = has_change d (ap (λ (r : Refining). r.writes) (sym at) ∙ (ap (λ (x : Shown). (job_in x.jobs c.args.s).writes) c.self.view_is ∙ c.requires.writes)) in
    subst (λ (y : Shown). c.act_at.result ≡ None → HasAllMet y c.args.s) c.self.view_is
    (all_met stage v.trace.items v.journal.items v.seats.items v.rows.rows v.cells.rows v.locks.grants v.waits v.live v.trace.spare v.journal.spare c.self.invariant
    c.args.s c.index.result c.in_range.ensures within c.index.ensures.place d c.index_mut.ensures.value
    (subst (λ (y : Shown). WaitsForNone y c.args.s) (sym c.self.view_is) c.requires.free) (subst (λ (y : Shown). HasReadAll y c.args.s) (sym c.self.view_is) c.requires.read) has
    c.act_at.result c.act_at.ensures.act)
