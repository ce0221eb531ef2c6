use Rattle.std.proofs.Common.{suc, List, [], ◌∷◌, ◌++◌, length, set, sym, ap, ◌∙◌, subst, arith}
use Rattle.sg_trace.specs.declared.labels.Label.{Label}
use Rattle.sg_trace.specs.declared.labels.Label.TheVariants as label
use Rattle.sg_engine.specs.Inside.{seat_of, job_of, shown_of}
use Rattle.sg_trace.specs.Traces.{Stage, Begin}
use Rattle.sg_engine.specs.Shown.{Shown, Seated, seat_in, IsIdle, IsRunOf}
use Rattle.sg_engine.proofs.Begins.{live_most, begun_most, within_is, begin_shown, begin_engine}
use Rattle.sg_engine.proofs.Seats.{seat_at}
use Rattle.sg_engine.proofs.Rooms.{jobs_same, idle_job}
use Rattle.sg_engine.proofs.shared.Shared.begin.Goals as goal

pub overflow_add-self-inside : goal.overflow_add-self-inside
overflow_add-self-inside c = let h = live_most _ _ _ _ _ _ _ _ _ _ _ c.self.invariant in omega (arith, h)

pub overflow_add-self-inside-2 : goal.overflow_add-self-inside-2
overflow_add-self-inside-2 c = let h = live_most _ _ _ _ _ _ _ _ _ _ _ c.self.invariant in omega (arith, h)

pub start-transaction-requires : goal.start-transaction-requires
start-transaction-requires c =
    let h = begun_most _ _ _ c.self.inside.seats.items _ _ _ _ _ _ _ c.self.invariant c.args.s c.index.result c.in_range.ensures c.index.ensures.below c.index.ensures.place c.index_mut-seat.result.now c.index_mut-seat.ensures.value in
    let fits = c.countable.ensures in
    let room = c.in_ok-reserve.ensures.spare in
    let items = ap (λ ls. length ls) c.reserve.ensures.items in
    omega (arith, h, fits, room, items)

pub invariant_of-self-2 : goal.invariant_of-self-2
invariant_of-self-2 c =
    let v = c.self.inside in
    let stage : Stage = record { settings = v.settings; opening = v.opening; priorities = v.priorities } in
    let idle : IsIdle (shown_of v.settings v.opening v.priorities v.trace.items v.journal.items v.seats.items) c.args.s = subst (λ (x : Shown). IsIdle x c.args.s) (sym c.self.view_is) c.requires in
    let room = c.push_reserved.ensures.spare in
    let reserved = c.in_ok-reserve.ensures.spare in
    begin_engine stage v.trace.items v.journal.items v.seats.items v.rows.rows v.cells.rows v.locks.grants v.waits v.live v.trace.spare v.journal.spare c.self.invariant
    c.args.s c.index.result c.in_range.ensures c.index.ensures.below c.index.ensures.place c.index_mut-seat.result.now c.index_mut-seat.ensures.value
    c.start-transaction.new.seat c.push_reserved.new.self.items c.reserve-2.new.self.items c.start-transaction.result c.push_reserved.new.self.spare c.reserve-2.new.self.spare
    (c.push_reserved.ensures.items ∙ ap (λ (ls : List Label). ls ++ label.Begin c.args.s c.start-transaction.result ∷ []) c.reserve.ensures.items)
    c.start-transaction.ensures.number c.reserve-2.ensures.items c.start-transaction.ensures.seat idle (omega (arith, room, reserved)) c.in_ok-reserve-2.ensures.spare

pub returns-clause-jobs : goal.returns-clause-jobs
returns-clause-jobs c =
    let v = c.self.inside in
    let d = c.index_mut-seat.result.now in
    let idle : IsIdle (shown_of v.settings v.opening v.priorities v.trace.items v.journal.items v.seats.items) c.args.s = subst (λ (x : Shown). IsIdle x c.args.s) (sym c.self.view_is) c.requires in
    let within = within_is (record { settings = v.settings; opening = v.opening; priorities = v.priorities }) v.trace.items v.journal.items v.seats.items v.rows.rows v.cells.rows v.locks.grants v.waits v.live v.trace.spare v.journal.spare c.self.invariant
    c.args.s c.index.result c.in_range.ensures c.index.ensures.below c.index.ensures.place d c.index_mut-seat.ensures.value in
    let none = ap (λ (r : Seated). r.running) (sym (seat_at v.seats.items c.index.result within c.args.s c.index.ensures.place d c.index_mut-seat.ensures.value)) ∙ idle in
    jobs_same v.seats.items c.index.result d c.start-transaction.new.seat c.index_mut-seat.ensures.value (ap job_of c.start-transaction.ensures.seat ∙ sym (idle_job d none)) ∙ ap (λ (x : Shown). x.jobs) c.self.view_is

pub returns-clause-ok : goal.returns-clause-ok
returns-clause-ok c = record {
  stage = ap (λ (x : Shown). x.stage) c.self.view_is;
  runs = λ es run.
      let v = c.self.inside in
      let stage : Stage = record { settings = v.settings; opening = v.opening; priorities = v.priorities } in
      let old : Shown = shown_of v.settings v.opening v.priorities v.trace.items v.journal.items v.seats.items in
      let new : Shown = shown_of v.settings v.opening v.priorities c.push_reserved.new.self.items c.reserve-2.new.self.items (set v.seats.items c.index.result c.start-transaction.new.seat) in
      let idle : IsIdle old c.args.s = subst (λ (x : Shown). IsIdle x c.args.s) (sym c.self.view_is) c.requires in
      let within = within_is stage v.trace.items v.journal.items v.seats.items v.rows.rows v.cells.rows v.locks.grants v.waits v.live v.trace.spare v.journal.spare c.self.invariant
      c.args.s c.index.result c.in_range.ensures c.index.ensures.below c.index.ensures.place c.index_mut-seat.result.now c.index_mut-seat.ensures.value in
      let shown = begin_shown stage v.trace.items v.journal.items v.seats.items c.args.s c.index.result c.in_range.ensures within c.index.ensures.place c.start-transaction.new.seat es
      (subst (IsRunOf es) (sym c.self.view_is) run) idle c.index_mut-seat.result.now c.index_mut-seat.ensures.value c.push_reserved.new.self.items c.reserve-2.new.self.items c.start-transaction.result
      (c.push_reserved.ensures.items ∙ ap (λ (ls : List Label). ls ++ label.Begin c.args.s c.start-transaction.result ∷ []) c.reserve.ensures.items)
      c.start-transaction.ensures.number c.reserve-2.ensures.items (ap seat_of c.start-transaction.ensures.seat) in
      subst (λ (x : Shown). IsRunOf (Begin c.args.s (suc (seat_in x.seats c.args.s).begun) ∷ es) new) c.self.view_is shown;
}
