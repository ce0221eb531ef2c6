use Rattle.std.proofs.Common.{◌≡◌, List, [], ◌∷◌, ◌++◌, length, sym, ap, ◌∙◌, subst, arith, false}
use Rattle.sg_locks.specs.Grants.{Grant, has_grant, AddsGrant, IsUnblocked}
use Rattle.sg_cells.specs.declared.keys.Key.{Key}
use Rattle.sg_stores.specs.Held.{key_cmp}
use Rattle.sg_trace.specs.declared.labels.Label.{Label}
use Rattle.sg_trace.specs.declared.labels.Label.TheVariants as label
use Rattle.sg_trace.specs.Traces.{Stage}
use Rattle.sg_trace.specs.Legal.{Takes}
use Rattle.sg_engine.specs.Shown.{Shown, IsRunOf}
use Rattle.sg_engine.specs.Inside.{job_of, shown_of}
use Rattle.sg_engine.specs.Nexts.{IsNextAct, IsFree}
use Rattle.sg_engine.proofs.Begins.{live_most}
use Rattle.sg_engine.proofs.Rooms.{jobs_same}
use Rattle.sg_engine.proofs.GrantRuns.{cost_fits, counted_job, not_held, nobody, take_engine, take_runs}
use Rattle.sg_engine.proofs.shared.Shared.take.Goals as goal

pub overflow_add-self-inside : goal.overflow_add-self-inside
overflow_add-self-inside c = let h = live_most _ _ _ _ _ _ _ _ _ _ _ c.self.invariant in omega (arith, h)

pub count-requires : goal.count-requires
count-requires c =
    let v = c.self.inside in
    let stage : Stage = record { settings = v.settings; opening = v.opening; priorities = v.priorities } in
    let reserved = c.in_ok-reserve.ensures.spare in
    let fits = c.countable.ensures in
    let items : length c.reserve.new.self.items ≡ length v.trace.items = ap (λ (ls : List Label). length ls) c.reserve.ensures.items in
    cost_fits stage v.trace.items v.journal.items v.seats.items v.rows.rows v.cells.rows v.locks.grants v.waits v.live v.trace.spare v.journal.spare c.self.invariant
    c.args.s c.index.result c.in_range.ensures c.index.ensures.below c.index.ensures.place c.index_mut.result.now c.index_mut.ensures.value c.reserve.new.self.spare (omega (arith, reserved)) (omega (arith, fits, items))

pub grant_reserved-requires-clause-unblocked : goal.grant_reserved-requires-clause-unblocked
grant_reserved-requires-clause-unblocked c =
    let v = c.self.inside in
    let stage : Stage = record { settings = v.settings; opening = v.opening; priorities = v.priorities } in
    let old : Shown = shown_of v.settings v.opening v.priorities v.trace.items v.journal.items v.seats.items in
    let next : IsNextAct old c.args.s (Takes c.args.key c.args.mode) = subst (λ (x : Shown). IsNextAct x c.args.s (Takes c.args.key c.args.mode)) (sym c.self.view_is) c.requires.next in
    let free : IsFree old c.args.s c.args.key c.args.mode = subst (λ (x : Shown). IsFree x c.args.s c.args.key c.args.mode) (sym c.self.view_is) c.requires.free in
    subst (λ (g : List (Grant Key)). IsUnblocked key_cmp g c.args.s c.args.key c.args.mode) (sym c.reserve-2.ensures.grants)
    (nobody stage v.trace.items v.journal.items v.seats.items v.rows.rows v.cells.rows v.locks.grants v.waits v.live v.trace.spare v.journal.spare c.self.invariant
    c.args.s c.index.result c.in_range.ensures c.index.ensures.below c.index.ensures.place c.index_mut.result.now c.index_mut.ensures.value c.args.key c.args.mode next free c.blockers.result c.is_empty-free.ensures.sessions c.blockers.ensures.blockers)

pub grant_reserved-requires-clause-not_held : goal.grant_reserved-requires-clause-not_held
grant_reserved-requires-clause-not_held c =
    let v = c.self.inside in
    let stage : Stage = record { settings = v.settings; opening = v.opening; priorities = v.priorities } in
    let old : Shown = shown_of v.settings v.opening v.priorities v.trace.items v.journal.items v.seats.items in
    let next : IsNextAct old c.args.s (Takes c.args.key c.args.mode) = subst (λ (x : Shown). IsNextAct x c.args.s (Takes c.args.key c.args.mode)) (sym c.self.view_is) c.requires.next in
    let free : IsFree old c.args.s c.args.key c.args.mode = subst (λ (x : Shown). IsFree x c.args.s c.args.key c.args.mode) (sym c.self.view_is) c.requires.free in
    subst (λ (g : List (Grant Key)). has_grant key_cmp g c.args.s c.args.key c.args.mode ≡ false) (sym c.reserve-2.ensures.grants)
    (not_held stage v.trace.items v.journal.items v.seats.items v.rows.rows v.cells.rows v.locks.grants v.waits v.live v.trace.spare v.journal.spare c.self.invariant
    c.args.s c.index.result c.in_range.ensures c.index.ensures.below c.index.ensures.place c.index_mut.result.now c.index_mut.ensures.value c.args.key c.args.mode next free)

pub invariant_of-self-2 : goal.invariant_of-self-2
invariant_of-self-2 c =
    let v = c.self.inside in
    let stage : Stage = record { settings = v.settings; opening = v.opening; priorities = v.priorities } in
    let old : Shown = shown_of v.settings v.opening v.priorities v.trace.items v.journal.items v.seats.items in
    let next : IsNextAct old c.args.s (Takes c.args.key c.args.mode) = subst (λ (x : Shown). IsNextAct x c.args.s (Takes c.args.key c.args.mode)) (sym c.self.view_is) c.requires.next in
    let free : IsFree old c.args.s c.args.key c.args.mode = subst (λ (x : Shown). IsFree x c.args.s c.args.key c.args.mode) (sym c.self.view_is) c.requires.free in
    let grant : Grant Key = record { session = c.args.s; key = c.args.key; mode = c.args.mode } in
    let adds = subst (λ (g : List (Grant Key)). AddsGrant key_cmp g c.grant_reserved.new.self.grants grant) c.reserve-2.ensures.grants c.grant_reserved.ensures.grants in
    let pushed = c.push_reserved.ensures.items ∙ ap (λ (ls : List Label). ls ++ label.Take c.args.s c.args.key c.args.mode ∷ []) c.reserve.ensures.items in
    let room = c.push_reserved.ensures.spare in
    let reserved = c.in_ok-reserve.ensures.spare in
    take_engine stage v.trace.items v.journal.items v.seats.items v.rows.rows v.cells.rows v.locks.grants v.waits v.live v.trace.spare v.journal.spare c.self.invariant
    c.args.s c.index.result c.in_range.ensures c.index.ensures.below c.index.ensures.place c.index_mut.result.now c.index_mut.ensures.value c.args.key c.args.mode next free c.grant_reserved.new.self.grants adds c.count.new.seat c.count.ensures c.push_reserved.new.self.items pushed c.push_reserved.new.self.spare (omega (arith, room, reserved))

pub returns-clause-ok : goal.returns-clause-ok
returns-clause-ok c = record {
  stage = ap (λ (x : Shown). x.stage) c.self.view_is;
  runs = λ es run.
      let v = c.self.inside in
      let stage : Stage = record { settings = v.settings; opening = v.opening; priorities = v.priorities } in
      let old : Shown = shown_of v.settings v.opening v.priorities v.trace.items v.journal.items v.seats.items in
      let next : IsNextAct old c.args.s (Takes c.args.key c.args.mode) = subst (λ (x : Shown). IsNextAct x c.args.s (Takes c.args.key c.args.mode)) (sym c.self.view_is) c.requires.next in
      let free : IsFree old c.args.s c.args.key c.args.mode = subst (λ (x : Shown). IsFree x c.args.s c.args.key c.args.mode) (sym c.self.view_is) c.requires.free in
      let grant : Grant Key = record { session = c.args.s; key = c.args.key; mode = c.args.mode } in
      let adds = subst (λ (g : List (Grant Key)). AddsGrant key_cmp g c.grant_reserved.new.self.grants grant) c.reserve-2.ensures.grants c.grant_reserved.ensures.grants in
      let pushed = c.push_reserved.ensures.items ∙ ap (λ (ls : List Label). ls ++ label.Take c.args.s c.args.key c.args.mode ∷ []) c.reserve.ensures.items in
      take_runs stage v.trace.items v.journal.items v.seats.items v.rows.rows v.cells.rows v.locks.grants v.waits v.live v.trace.spare v.journal.spare c.self.invariant
      c.args.s c.index.result c.in_range.ensures c.index.ensures.below c.index.ensures.place c.index_mut.result.now c.index_mut.ensures.value c.args.key c.args.mode next free c.grant_reserved.new.self.grants adds c.count.new.seat c.count.ensures c.push_reserved.new.self.items pushed es (subst (IsRunOf es) (sym c.self.view_is) run);
}

pub returns-clause-jobs : goal.returns-clause-jobs
returns-clause-jobs c =
    let v = c.self.inside in
    jobs_same v.seats.items c.index.result c.index_mut.result.now c.count.new.seat c.index_mut.ensures.value (ap job_of c.count.ensures ∙ counted_job c.args.mode c.index_mut.result.now) ∙ ap (λ (x : Shown). x.jobs) c.self.view_is
