use Rattle.std.proofs.Common.{List, [], ◌∷◌, ◌++◌, length, set, sym, ap, ◌∙◌, subst, arith}
use Rattle.sg_trace.specs.declared.labels.Label.{Label}
use Rattle.sg_trace.specs.declared.labels.Label.TheVariants as label
use Rattle.sg_trace.specs.Traces.{Stage, Ask}
use Rattle.sg_engine.specs.Shown.{Shown, Seated, HasNoneOpen, IsBetween, IsRunOf, next_statement}
use Rattle.sg_engine.specs.Inside.{seat_of, shown_of, shown_in}
use Rattle.sg_engine.specs.Ties.{IsEngine}
use Rattle.sg_engine.proofs.Seats.{seat_at}
use Rattle.sg_engine.proofs.Begins.{live_most, within_is}
use Rattle.sg_engine.proofs.Asks.{asked_most, ask_shown, ask_engine}
use Rattle.sg_engine.proofs.Rooms.{on_err, opened_seat, opened_job, no_job_at, jobs_same, quiet_engine, shown_same}
use Rattle.sg_engine.proofs.shared.Shared.ask.Goals as goal

pub overflow_add-self-inside : goal.overflow_add-self-inside
overflow_add-self-inside c = let h = live_most _ _ _ _ _ _ _ _ _ _ _ c.self.invariant in omega (arith, h)

pub open_one-requires-clause-fits : goal.open_one-requires-clause-fits
open_one-requires-clause-fits c =
    let v = c.self.inside in
    let stage : Stage = record { settings = v.settings; opening = v.opening; priorities = v.priorities } in
    let between : IsBetween (shown_of v.settings v.opening v.priorities v.trace.items v.journal.items v.seats.items) c.args.s = subst (λ (x : Shown). IsBetween x c.args.s) (sym c.self.view_is) c.requires.between in
    let h = asked_most stage v.trace.items v.journal.items v.seats.items v.rows.rows v.cells.rows v.locks.grants v.waits v.live v.trace.spare v.journal.spare c.self.invariant
    c.args.s c.index.result c.in_range.ensures c.index.ensures.below c.index.ensures.place c.index_mut-seat.result.now c.index_mut-seat.ensures.value between in
    let fits = c.countable.ensures in
    let room = c.in-Ok.ensures.spare in
    let items = ap (λ (ls : List Label). length ls) c.reserve.ensures.items in
    omega (arith, h, fits, room, items)

pub invariant_of-self-2 : goal.invariant_of-self-2
invariant_of-self-2 c =
    let v = c.self.inside in
    let stage : Stage = record { settings = v.settings; opening = v.opening; priorities = v.priorities } in
    let between : IsBetween (shown_of v.settings v.opening v.priorities v.trace.items v.journal.items v.seats.items) c.args.s = subst (λ (x : Shown). IsBetween x c.args.s) (sym c.self.view_is) c.requires.between in
    let room = c.push_reserved.ensures.spare in
    let reserved = c.in-Ok.ensures.spare in
    ask_engine stage v.trace.items v.journal.items v.seats.items v.rows.rows v.cells.rows v.locks.grants v.waits v.live v.trace.spare v.journal.spare c.self.invariant
    c.args.s c.index.result c.in_range.ensures c.index.ensures.below c.index.ensures.place c.index_mut-seat.result.now c.index_mut-seat.ensures.value
    c.open_one.new.seat c.args.statement c.requires.sound (opened_seat c.args.statement c.index_mut-seat.result.now c.open_one.new.seat c.in_ok-number.ensures.ok) c.push_reserved.new.self.items c.in_ok-number.number c.push_reserved.new.self.spare
    (c.push_reserved.ensures.items ∙ ap (λ (ls : List Label). ls ++ label.Ask c.args.s c.in_ok-number.number ∷ []) c.reserve.ensures.items)
    c.in_ok-number.ensures.number between (omega (arith, room, reserved)) c.in_ok-number.ensures.ok

pub returns-clause-ok : goal.returns-clause-ok
returns-clause-ok c = record {
  stage = ap (λ (x : Shown). x.stage) c.self.view_is;
  runs = λ es run.
      let v = c.self.inside in
      let stage : Stage = record { settings = v.settings; opening = v.opening; priorities = v.priorities } in
      let old : Shown = shown_of v.settings v.opening v.priorities v.trace.items v.journal.items v.seats.items in
      let new : Shown = shown_of v.settings v.opening v.priorities c.push_reserved.new.self.items v.journal.items (set v.seats.items c.index.result c.open_one.new.seat) in
      let between : IsBetween old c.args.s = subst (λ (x : Shown). IsBetween x c.args.s) (sym c.self.view_is) c.requires.between in
      let within = within_is stage v.trace.items v.journal.items v.seats.items v.rows.rows v.cells.rows v.locks.grants v.waits v.live v.trace.spare v.journal.spare c.self.invariant
      c.args.s c.index.result c.in_range.ensures c.index.ensures.below c.index.ensures.place c.index_mut-seat.result.now c.index_mut-seat.ensures.value in
      let shown = ask_shown stage v.trace.items v.journal.items v.seats.items c.args.s c.index.result c.in_range.ensures within c.index.ensures.place c.index_mut-seat.result.now c.index_mut-seat.ensures.value
      c.open_one.new.seat c.args.statement c.requires.sound (opened_seat c.args.statement c.index_mut-seat.result.now c.open_one.new.seat c.in_ok-number.ensures.ok) c.push_reserved.new.self.items c.in_ok-number.number
      (c.push_reserved.ensures.items ∙ ap (λ (ls : List Label). ls ++ label.Ask c.args.s c.in_ok-number.number ∷ []) c.reserve.ensures.items)
      c.in_ok-number.ensures.number es (subst (IsRunOf es) (sym c.self.view_is) run) between in
      subst (λ (x : Shown). IsRunOf (Ask c.args.s (next_statement x c.args.s) c.args.statement ∷ es) new) c.self.view_is shown;
}

pub returns-clause-jobs : goal.returns-clause-jobs
returns-clause-jobs c =
    let v = c.self.inside in
    let stage : Stage = record { settings = v.settings; opening = v.opening; priorities = v.priorities } in
    let d = c.index_mut-seat.result.now in
    let within = within_is stage v.trace.items v.journal.items v.seats.items v.rows.rows v.cells.rows v.locks.grants v.waits v.live v.trace.spare v.journal.spare c.self.invariant
    c.args.s c.index.result c.in_range.ensures c.index.ensures.below c.index.ensures.place d c.index_mut-seat.ensures.value in
    let at = seat_at v.seats.items c.index.result within c.args.s c.index.ensures.place d c.index_mut-seat.ensures.value in
    let between : IsBetween (shown_of v.settings v.opening v.priorities v.trace.items v.journal.items v.seats.items) c.args.s = subst (λ (x : Shown). IsBetween x c.args.s) (sym c.self.view_is) c.requires.between in
    let none : HasNoneOpen (seat_of d).running = subst (λ (r : Seated). HasNoneOpen r.running) at between in
    jobs_same v.seats.items c.index.result d c.open_one.new.seat c.index_mut-seat.ensures.value (opened_job c.args.statement d c.open_one.new.seat c.in_ok-number.ensures.ok ∙ sym (no_job_at d none))
    ∙ ap (λ (x : Shown). x.jobs) c.self.view_is

-- ---- where there was no room in the transaction
pub invariant_of-self-in_err-number : goal.invariant_of-self-in_err-number
invariant_of-self-in_err-number c =
    let v = c.self.inside in
    let stage : Stage = record { settings = v.settings; opening = v.opening; priorities = v.priorities } in
    let d = c.index_mut-seat.result.now in
    let within = within_is stage v.trace.items v.journal.items v.seats.items v.rows.rows v.cells.rows v.locks.grants v.waits v.live v.trace.spare v.journal.spare c.self.invariant
    c.args.s c.index.result c.in_range.ensures c.index.ensures.below c.index.ensures.place d c.index_mut-seat.ensures.value in
    let at = seat_at v.seats.items c.index.result within c.args.s c.index.ensures.place d c.index_mut-seat.ensures.value in
    let between : IsBetween (shown_of v.settings v.opening v.priorities v.trace.items v.journal.items v.seats.items) c.args.s = subst (λ (x : Shown). IsBetween x c.args.s) (sym c.self.view_is) c.requires.between in
    let none : HasNoneOpen (seat_of d).running = subst (λ (r : Seated). HasNoneOpen r.running) at between in
    let reserved = c.in-Ok.ensures.spare in
    let seats = set v.seats.items c.index.result c.open_one.new.seat in
    subst (λ (ls : List Label). IsEngine (shown_in stage ls v.journal.items seats) v.rows.rows v.cells.rows v.locks.grants v.waits seats v.live c.reserve.new.self.spare v.journal.spare) (sym c.reserve.ensures.items)
    (quiet_engine v.seats.items c.index.result d c.open_one.new.seat c.index_mut-seat.ensures.value c.in_err-number.ensures.err stage v.trace.items v.journal.items v.rows.rows v.cells.rows v.locks.grants v.waits v.live v.trace.spare v.journal.spare
    c.self.invariant c.args.s within c.index.ensures.place none c.reserve.new.self.spare (omega (arith, reserved)))

pub returns-in_err-number-clause-err : goal.returns-in_err-number-clause-err
returns-in_err-number-clause-err c =
    let v = c.self.inside in
    let stage : Stage = record { settings = v.settings; opening = v.opening; priorities = v.priorities } in
    let seats = set v.seats.items c.index.result c.open_one.new.seat in
    on_err c.from_residual.result
    (ap (λ (ls : List Label). shown_in stage ls v.journal.items seats) c.reserve.ensures.items
    ∙ (shown_same v.seats.items c.index.result c.index_mut-seat.result.now c.open_one.new.seat c.index_mut-seat.ensures.value c.in_err-number.ensures.err stage v.trace.items v.journal.items ∙ c.self.view_is))

pub returns-in_err-number-clause-jobs : goal.returns-in_err-number-clause-jobs
returns-in_err-number-clause-jobs c =
    let v = c.self.inside in
    let stage : Stage = record { settings = v.settings; opening = v.opening; priorities = v.priorities } in
    let seats = set v.seats.items c.index.result c.open_one.new.seat in
    ap (λ (x : Shown). x.jobs)
    (ap (λ (ls : List Label). shown_in stage ls v.journal.items seats) c.reserve.ensures.items
    ∙ (shown_same v.seats.items c.index.result c.index_mut-seat.result.now c.open_one.new.seat c.index_mut-seat.ensures.value c.in_err-number.ensures.err stage v.trace.items v.journal.items ∙ c.self.view_is))
