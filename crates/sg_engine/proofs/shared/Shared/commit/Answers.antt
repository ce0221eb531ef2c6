use Rattle.std.specs.Prelude.{◌-◌}
use Rattle.std.proofs.Common.{◌≡◌, ◌≤◌, ◌+◌, suc, add-one, [], ◌∷◌, ◌++◌, length, set, sym, ap, ◌∙◌, subst, arith}
use Rattle.sg_trace.specs.declared.labels.Label.TheVariants as label
use Rattle.sg_trace.specs.Traces.{Stage, Commit}
use Rattle.sg_engine.specs.Shown.{Shown, IsRunOf, IsBetween}
use Rattle.sg_engine.specs.Inside.{shown_of, shown_in}
use Rattle.sg_engine.specs.Ends.{EndsJob}
use Rattle.sg_engine.proofs.Commits.{live_some_of, live_some_shown, live_of_between, commit_engine, commit_runs, ends_job_of}
use Rattle.sg_engine.proofs.shared.Shared.commit.Goals as goal

pub overflow_add-place : goal.overflow_add-place
overflow_add-place c =
    let v = c.self.inside in
    let stage : Stage = record { settings = v.settings; opening = v.opening; priorities = v.priorities } in
    let may : IsBetween (shown_of v.settings v.opening v.priorities v.trace.items v.journal.items v.seats.items) c.args.s = subst (λ (x : Shown). IsBetween x c.args.s) (sym c.self.view_is) c.requires in
    let some = live_some_shown stage v.trace.items v.journal.items v.seats.items v.rows.rows v.cells.rows v.locks.grants v.waits v.live v.trace.spare v.journal.spare c.self.invariant c.args.s may in
    let fits = c.self.invariant.entries_fit in
    let room = c.countable.ensures in
    let count = c.len.ensures in
    omega (arith, some, fits, room, count)

pub push_reserved-requires : goal.push_reserved-requires
push_reserved-requires c =
    let v = c.self.inside in
    let stage : Stage = record { settings = v.settings; opening = v.opening; priorities = v.priorities } in
    let may : IsBetween (shown_of v.settings v.opening v.priorities v.trace.items v.journal.items v.seats.items) c.args.s = subst (λ (x : Shown). IsBetween x c.args.s) (sym c.self.view_is) c.requires in
    let on = live_of_between stage v.trace.items v.journal.items v.seats.items v.rows.rows v.cells.rows v.locks.grants v.waits v.live v.trace.spare v.journal.spare c.self.invariant
    c.args.s c.index.result c.in_range.ensures c.index.ensures.below c.index.ensures.place c.index_mut.result.now c.index_mut.ensures.value may in
    let some = live_some_of stage v.trace.items v.journal.items v.seats.items v.rows.rows v.cells.rows v.locks.grants v.waits v.live v.trace.spare v.journal.spare c.self.invariant
    c.args.s c.index.result c.in_range.ensures c.index.ensures.below c.index.ensures.place c.index_mut.result.now c.index_mut.ensures.value on in
    let fits = c.self.invariant.entries_fit in
    omega (arith, some, fits)

pub push_reserved-requires-2 : goal.push_reserved-requires-2
push_reserved-requires-2 c =
    let v = c.self.inside in
    let stage : Stage = record { settings = v.settings; opening = v.opening; priorities = v.priorities } in
    let may : IsBetween (shown_of v.settings v.opening v.priorities v.trace.items v.journal.items v.seats.items) c.args.s = subst (λ (x : Shown). IsBetween x c.args.s) (sym c.self.view_is) c.requires in
    let on = live_of_between stage v.trace.items v.journal.items v.seats.items v.rows.rows v.cells.rows v.locks.grants v.waits v.live v.trace.spare v.journal.spare c.self.invariant
    c.args.s c.index.result c.in_range.ensures c.index.ensures.below c.index.ensures.place c.index_mut.result.now c.index_mut.ensures.value may in
    let some = live_some_of stage v.trace.items v.journal.items v.seats.items v.rows.rows v.cells.rows v.locks.grants v.waits v.live v.trace.spare v.journal.spare c.self.invariant
    c.args.s c.index.result c.in_range.ensures c.index.ensures.below c.index.ensures.place c.index_mut.result.now c.index_mut.ensures.value on in
    let fits = c.self.invariant.labels_fit in
    omega (arith, some, fits)

pub overflow_sub-self : goal.overflow_sub-self
overflow_sub-self c =
    let v = c.self.inside in
    let stage : Stage = record { settings = v.settings; opening = v.opening; priorities = v.priorities } in
    let may : IsBetween (shown_of v.settings v.opening v.priorities v.trace.items v.journal.items v.seats.items) c.args.s = subst (λ (x : Shown). IsBetween x c.args.s) (sym c.self.view_is) c.requires in
    let on = live_of_between stage v.trace.items v.journal.items v.seats.items v.rows.rows v.cells.rows v.locks.grants v.waits v.live v.trace.spare v.journal.spare c.self.invariant
    c.args.s c.index.result c.in_range.ensures c.index.ensures.below c.index.ensures.place c.index_mut.result.now c.index_mut.ensures.value may in
    live_some_of stage v.trace.items v.journal.items v.seats.items v.rows.rows v.cells.rows v.locks.grants v.waits v.live v.trace.spare v.journal.spare c.self.invariant
    c.args.s c.index.result c.in_range.ensures c.index.ensures.below c.index.ensures.place c.index_mut.result.now c.index_mut.ensures.value on

pub invariant_of-self : goal.invariant_of-self
invariant_of-self c =
    let v = c.self.inside in
    let stage : Stage = record { settings = v.settings; opening = v.opening; priorities = v.priorities } in
    let may : IsBetween (shown_of v.settings v.opening v.priorities v.trace.items v.journal.items v.seats.items) c.args.s = subst (λ (x : Shown). IsBetween x c.args.s) (sym c.self.view_is) c.requires in
    let on = live_of_between stage v.trace.items v.journal.items v.seats.items v.rows.rows v.cells.rows v.locks.grants v.waits v.live v.trace.spare v.journal.spare c.self.invariant
    c.args.s c.index.result c.in_range.ensures c.index.ensures.below c.index.ensures.place c.index_mut.result.now c.index_mut.ensures.value may in
    let some : 1 ≤ v.live = live_some_of stage v.trace.items v.journal.items v.seats.items v.rows.rows v.cells.rows v.locks.grants v.waits v.live v.trace.spare v.journal.spare c.self.invariant
    c.args.s c.index.result c.in_range.ensures c.index.ensures.below c.index.ensures.place c.index_mut.result.now c.index_mut.ensures.value on in
    let labels = c.self.invariant.labels_fit in
    let entries = c.self.invariant.entries_fit in
    let room = c.push_reserved-2.ensures.spare in
    let more = c.push_reserved.ensures.spare in
    let place : c.len.result + 1 ≡ suc (length v.journal.items) = add-one c.len.result ∙ ap suc c.len.ensures in
    commit_engine stage v.trace.items v.journal.items v.seats.items v.rows.rows v.cells.rows v.locks.grants v.waits v.live v.trace.spare v.journal.spare c.self.invariant
    c.args.s c.index.result c.in_range.ensures c.index.ensures.below c.index.ensures.place c.index_mut.result.now c.index_mut.ensures.value
    c.push_reserved-2.new.self.items c.push_reserved.new.self.items c.keep.new.self.rows c.keep-2.new.self.rows c.release_all.new.self.grants c.ended.new.self _ c.push_reserved-2.new.self.spare c.push_reserved.new.self.spare
    c.close-entry.new.seat c.close-entry.ensures.seat c.release_all.ensures.grants c.ended.ensures c.in_order.ensures (omega (arith, some)) (omega (arith, some, labels, room)) (omega (arith, some, entries, more))
    may (c.push_reserved-2.ensures.items ∙ ap (λ n. v.trace.items ++ label.Commit c.args.s n ∷ []) place) c.close-entry.result c.push_reserved.ensures.items c.close-entry.ensures.entry c.keep.ensures.rows c.keep-2.ensures.rows

pub returns-clause-run : goal.returns-clause-run
returns-clause-run c = record {
  stage = ap (λ (x : Shown). x.stage) c.self.view_is;
  runs = λ es run.
      let v = c.self.inside in
      let stage : Stage = record { settings = v.settings; opening = v.opening; priorities = v.priorities } in
      let old : Shown = shown_of v.settings v.opening v.priorities v.trace.items v.journal.items v.seats.items in
      let may : IsBetween old c.args.s = subst (λ (x : Shown). IsBetween x c.args.s) (sym c.self.view_is) c.requires in
      let on = live_of_between stage v.trace.items v.journal.items v.seats.items v.rows.rows v.cells.rows v.locks.grants v.waits v.live v.trace.spare v.journal.spare c.self.invariant
      c.args.s c.index.result c.in_range.ensures c.index.ensures.below c.index.ensures.place c.index_mut.result.now c.index_mut.ensures.value may in
      let some : 1 ≤ v.live = live_some_of stage v.trace.items v.journal.items v.seats.items v.rows.rows v.cells.rows v.locks.grants v.waits v.live v.trace.spare v.journal.spare c.self.invariant
      c.args.s c.index.result c.in_range.ensures c.index.ensures.below c.index.ensures.place c.index_mut.result.now c.index_mut.ensures.value on in
      let labels = c.self.invariant.labels_fit in
      let entries = c.self.invariant.entries_fit in
      let room = c.push_reserved-2.ensures.spare in
      let more = c.push_reserved.ensures.spare in
      let place : c.len.result + 1 ≡ suc (length v.journal.items) = add-one c.len.result ∙ ap suc c.len.ensures in
      let new : Shown = shown_in stage c.push_reserved-2.new.self.items c.push_reserved.new.self.items (set v.seats.items c.index.result c.close-entry.new.seat) in
      subst (λ (x : Shown). IsRunOf (Commit c.args.s (suc (length x.journal)) ∷ es) new) c.self.view_is
      (commit_runs stage v.trace.items v.journal.items v.seats.items v.rows.rows v.cells.rows v.locks.grants v.waits v.live v.trace.spare v.journal.spare c.self.invariant
      c.args.s c.index.result c.in_range.ensures c.index.ensures.below c.index.ensures.place c.index_mut.result.now c.index_mut.ensures.value
      c.push_reserved-2.new.self.items c.push_reserved.new.self.items c.keep.new.self.rows c.keep-2.new.self.rows c.release_all.new.self.grants c.ended.new.self (v.live - 1) c.push_reserved-2.new.self.spare c.push_reserved.new.self.spare
      c.close-entry.new.seat c.close-entry.ensures.seat c.release_all.ensures.grants c.ended.ensures c.in_order.ensures (omega (arith, some)) (omega (arith, some, labels, room)) (omega (arith, some, entries, more))
      may (c.push_reserved-2.ensures.items ∙ ap (λ n. v.trace.items ++ label.Commit c.args.s n ∷ []) place) c.close-entry.result c.push_reserved.ensures.items c.close-entry.ensures.entry c.keep.ensures.rows c.keep-2.ensures.rows es (subst (IsRunOf es) (sym c.self.view_is) run));
}

pub returns-clause-job : goal.returns-clause-job
returns-clause-job c =
    let v = c.self.inside in
    let stage : Stage = record { settings = v.settings; opening = v.opening; priorities = v.priorities } in
    let l = c.self.invariant.seats in
    subst (λ (x : Shown). EndsJob c.args.s x (shown_in stage c.push_reserved-2.new.self.items c.push_reserved.new.self.items (set v.seats.items c.index.result c.close-entry.new.seat))) c.self.view_is
    (ends_job_of stage v.trace.items v.journal.items v.seats.items v.rows.rows v.cells.rows v.locks.grants v.waits v.live v.trace.spare v.journal.spare c.self.invariant
    c.args.s c.index.result c.in_range.ensures c.index.ensures.below c.index.ensures.place c.index_mut.result.now c.index_mut.ensures.value c.push_reserved-2.new.self.items c.push_reserved.new.self.items c.close-entry.new.seat c.close-entry.ensures.seat)
