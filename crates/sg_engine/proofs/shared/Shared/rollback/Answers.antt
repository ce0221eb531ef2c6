use Rattle.std.specs.Prelude.{◌-◌}
use Rattle.std.proofs.Common.{◌≤◌, refl, set, sym, ap, subst, arith}
use Rattle.sg_trace.specs.Traces.{Stage}
use Rattle.sg_engine.specs.Shown.{Shown, IsRunOf}
use Rattle.sg_engine.specs.Inside.{shown_of, shown_in}
use Rattle.sg_engine.specs.Ends.{MayRollBack, EndsJob}
use Rattle.sg_engine.proofs.Commits.{live_some_of, live_of_may, rollback_engine, rollback_runs, ends_job_of}
use Rattle.sg_engine.proofs.shared.Shared.rollback.Goals as goal

pub push_reserved-requires : goal.push_reserved-requires
push_reserved-requires c =
    let v = c.self.inside in
    let stage : Stage = record { settings = v.settings; opening = v.opening; priorities = v.priorities } in
    let may : MayRollBack (shown_of v.settings v.opening v.priorities v.trace.items v.journal.items v.seats.items) c.args.s c.args.cause = subst (λ (x : Shown). MayRollBack x c.args.s c.args.cause) (sym c.self.view_is) c.requires in
    let on = live_of_may stage v.trace.items v.journal.items v.seats.items v.rows.rows v.cells.rows v.locks.grants v.waits v.live v.trace.spare v.journal.spare c.self.invariant
    c.args.s c.index.result c.in_range.ensures c.index.ensures.below c.index.ensures.place c.index_mut.result.now c.index_mut.ensures.value c.args.cause may in
    let some = live_some_of stage v.trace.items v.journal.items v.seats.items v.rows.rows v.cells.rows v.locks.grants v.waits v.live v.trace.spare v.journal.spare c.self.invariant
    c.args.s c.index.result c.in_range.ensures c.index.ensures.below c.index.ensures.place c.index_mut.result.now c.index_mut.ensures.value on in
    let fits = c.self.invariant.labels_fit in
    omega (arith, some, fits)

pub overflow_sub-self : goal.overflow_sub-self
overflow_sub-self c =
    let v = c.self.inside in
    let stage : Stage = record { settings = v.settings; opening = v.opening; priorities = v.priorities } in
    let may : MayRollBack (shown_of v.settings v.opening v.priorities v.trace.items v.journal.items v.seats.items) c.args.s c.args.cause = subst (λ (x : Shown). MayRollBack x c.args.s c.args.cause) (sym c.self.view_is) c.requires in
    let on = live_of_may stage v.trace.items v.journal.items v.seats.items v.rows.rows v.cells.rows v.locks.grants v.waits v.live v.trace.spare v.journal.spare c.self.invariant
    c.args.s c.index.result c.in_range.ensures c.index.ensures.below c.index.ensures.place c.index_mut.result.now c.index_mut.ensures.value c.args.cause may in
    live_some_of stage v.trace.items v.journal.items v.seats.items v.rows.rows v.cells.rows v.locks.grants v.waits v.live v.trace.spare v.journal.spare c.self.invariant
    c.args.s c.index.result c.in_range.ensures c.index.ensures.below c.index.ensures.place c.index_mut.result.now c.index_mut.ensures.value on

pub invariant_of-self : goal.invariant_of-self
invariant_of-self c =
    let v = c.self.inside in
    let stage : Stage = record { settings = v.settings; opening = v.opening; priorities = v.priorities } in
    let may : MayRollBack (shown_of v.settings v.opening v.priorities v.trace.items v.journal.items v.seats.items) c.args.s c.args.cause = subst (λ (x : Shown). MayRollBack x c.args.s c.args.cause) (sym c.self.view_is) c.requires in
    let on = live_of_may stage v.trace.items v.journal.items v.seats.items v.rows.rows v.cells.rows v.locks.grants v.waits v.live v.trace.spare v.journal.spare c.self.invariant
    c.args.s c.index.result c.in_range.ensures c.index.ensures.below c.index.ensures.place c.index_mut.result.now c.index_mut.ensures.value c.args.cause may in
    let some : 1 ≤ v.live = live_some_of stage v.trace.items v.journal.items v.seats.items v.rows.rows v.cells.rows v.locks.grants v.waits v.live v.trace.spare v.journal.spare c.self.invariant
    c.args.s c.index.result c.in_range.ensures c.index.ensures.below c.index.ensures.place c.index_mut.result.now c.index_mut.ensures.value on in
    let labels = c.self.invariant.labels_fit in
    let entries = c.self.invariant.entries_fit in
    let room = c.push_reserved.ensures.spare in
    rollback_engine stage v.trace.items v.journal.items v.seats.items v.rows.rows v.cells.rows v.locks.grants v.waits v.live v.trace.spare v.journal.spare c.self.invariant
    c.args.s c.index.result c.in_range.ensures c.index.ensures.below c.index.ensures.place c.index_mut.result.now c.index_mut.ensures.value
    c.push_reserved.new.self.items v.journal.items c.undo.new.self.rows c.undo-2.new.self.rows c.release_all.new.self.grants c.ended.new.self _ c.push_reserved.new.self.spare v.journal.spare
    c.abandon.new.seat c.abandon.ensures c.release_all.ensures.grants c.ended.ensures c.in_order.ensures (omega (arith, some)) (omega (arith, some, labels, room)) (omega (arith, some, entries))
    c.args.cause may c.push_reserved.ensures.items refl c.undo.ensures.rows c.undo-2.ensures.rows

pub returns-clause-run : goal.returns-clause-run
returns-clause-run c = record {
  stage = ap (λ (x : Shown). x.stage) c.self.view_is;
  runs = λ es run.
      let v = c.self.inside in
      let stage : Stage = record { settings = v.settings; opening = v.opening; priorities = v.priorities } in
      let old : Shown = shown_of v.settings v.opening v.priorities v.trace.items v.journal.items v.seats.items in
      let may : MayRollBack old c.args.s c.args.cause = subst (λ (x : Shown). MayRollBack x c.args.s c.args.cause) (sym c.self.view_is) c.requires in
      let on = live_of_may stage v.trace.items v.journal.items v.seats.items v.rows.rows v.cells.rows v.locks.grants v.waits v.live v.trace.spare v.journal.spare c.self.invariant
      c.args.s c.index.result c.in_range.ensures c.index.ensures.below c.index.ensures.place c.index_mut.result.now c.index_mut.ensures.value c.args.cause may in
      let some : 1 ≤ v.live = live_some_of stage v.trace.items v.journal.items v.seats.items v.rows.rows v.cells.rows v.locks.grants v.waits v.live v.trace.spare v.journal.spare c.self.invariant
      c.args.s c.index.result c.in_range.ensures c.index.ensures.below c.index.ensures.place c.index_mut.result.now c.index_mut.ensures.value on in
      let labels = c.self.invariant.labels_fit in
      let entries = c.self.invariant.entries_fit in
      let room = c.push_reserved.ensures.spare in
      rollback_runs stage v.trace.items v.journal.items v.seats.items v.rows.rows v.cells.rows v.locks.grants v.waits v.live v.trace.spare v.journal.spare c.self.invariant
      c.args.s c.index.result c.in_range.ensures c.index.ensures.below c.index.ensures.place c.index_mut.result.now c.index_mut.ensures.value
      c.push_reserved.new.self.items v.journal.items c.undo.new.self.rows c.undo-2.new.self.rows c.release_all.new.self.grants c.ended.new.self (v.live - 1) c.push_reserved.new.self.spare v.journal.spare
      c.abandon.new.seat c.abandon.ensures c.release_all.ensures.grants c.ended.ensures c.in_order.ensures (omega (arith, some)) (omega (arith, some, labels, room)) (omega (arith, some, entries))
      c.args.cause may c.push_reserved.ensures.items refl c.undo.ensures.rows c.undo-2.ensures.rows es (subst (IsRunOf es) (sym c.self.view_is) run);
}

pub returns-clause-job : goal.returns-clause-job
returns-clause-job c =
    let v = c.self.inside in
    let stage : Stage = record { settings = v.settings; opening = v.opening; priorities = v.priorities } in
    let l = c.self.invariant.seats in
    subst (λ (x : Shown). EndsJob c.args.s x (shown_in stage c.push_reserved.new.self.items v.journal.items (set v.seats.items c.index.result c.abandon.new.seat))) c.self.view_is
    (ends_job_of stage v.trace.items v.journal.items v.seats.items v.rows.rows v.cells.rows v.locks.grants v.waits v.live v.trace.spare v.journal.spare c.self.invariant
    c.args.s c.index.result c.in_range.ensures c.index.ensures.below c.index.ensures.place c.index_mut.result.now c.index_mut.ensures.value c.push_reserved.new.self.items v.journal.items c.abandon.new.seat c.abandon.ensures)
