use Rattle.std.specs.Prelude.{is_some, IfOk, IfSome}
use Rattle.std.proofs.Common.{◌≡◌, ◌∙◌, true, None, sym, subst}
use Rattle.sg_trace.specs.Traces.{Stage}
use Rattle.sg_trace.specs.Legal.{Takes}
use Rattle.sg_engine.specs.Shown.{Shown, Seated, is_open_in, open_of}
use Rattle.sg_engine.specs.Inside.{shown_of}
use Rattle.sg_engine.specs.Nexts.{IsNextAct, WaitsForNone, HasReadAll}
use Rattle.sg_engine.proofs.Begins.{within_is}
use Rattle.sg_engine.proofs.Seats.{seat_at}
use Rattle.sg_engine.proofs.Nexts.{moved_seat, moved_job, moved_kept, shown_swapped, swap_engine, own_now, scans, has_pending, takes, reads, unread}
use Rattle.sg_engine.proofs.shared.Shared.search.Goals as goal

pub read_at-need-requires-clause-scan : goal.read_at-need-requires-clause-scan
read_at-need-requires-clause-scan g c =
    let v = c.self.inside in
    let stage : Stage = record { settings = v.settings; opening = v.opening; priorities = v.priorities } in
    let d = c.index_mut-seat.result.now in
    let within = within_is stage v.trace.items v.journal.items v.seats.items v.rows.rows v.cells.rows v.locks.grants v.waits v.live v.trace.spare v.journal.spare c.self.invariant
    c.args.s c.index.result c.in_range.ensures c.index.ensures.below c.index.ensures.place d c.index_mut-seat.ensures.value in
    scans stage v.trace.items v.journal.items v.seats.items v.rows.rows v.cells.rows v.locks.grants v.waits v.live v.trace.spare v.journal.spare c.self.invariant
    c.args.s c.index.result c.in_range.ensures within c.index.ensures.place d c.index_mut-seat.ensures.value

pub invariant_of-self : goal.invariant_of-self
invariant_of-self g c =
    let v = c.self.inside in
    let stage : Stage = record { settings = v.settings; opening = v.opening; priorities = v.priorities } in
    let d = c.index_mut-seat.result.now in
    let x = c.read_at-need.new.seat in
    let change = c.read_at-need.ensures.seat in
    let within = within_is stage v.trace.items v.journal.items v.seats.items v.rows.rows v.cells.rows v.locks.grants v.waits v.live v.trace.spare v.journal.spare c.self.invariant
    c.args.s c.index.result c.in_range.ensures c.index.ensures.below c.index.ensures.place d c.index_mut-seat.ensures.value in
    let own = own_now stage v.trace.items v.journal.items v.seats.items v.rows.rows v.cells.rows v.locks.grants v.waits v.live v.trace.spare v.journal.spare c.self.invariant
    c.args.s c.index.result c.in_range.ensures within c.index.ensures.place d c.index_mut-seat.ensures.value in
    swap_engine v.seats.items c.index.result d x c.index_mut-seat.ensures.value (moved_seat v.settings v.locks.grants c.args.s v.rows.rows v.cells.rows d x change) (moved_job v.settings v.locks.grants c.args.s v.rows.rows v.cells.rows d x change)
    stage v.trace.items v.journal.items v.rows.rows v.cells.rows v.locks.grants v.waits v.live v.trace.spare v.journal.spare c.self.invariant c.args.s within c.index.ensures.place
    (moved_kept stage c.self.invariant.events v.rows.rows v.cells.rows v.locks.grants c.args.s d x change own)

pub returns-clause-same : goal.returns-clause-same
returns-clause-same g c =
    let v = c.self.inside in
    let stage : Stage = record { settings = v.settings; opening = v.opening; priorities = v.priorities } in
    let d = c.index_mut-seat.result.now in
    let x = c.read_at-need.new.seat in
    let change = c.read_at-need.ensures.seat in
    shown_swapped v.seats.items c.index.result d x c.index_mut-seat.ensures.value (moved_seat v.settings v.locks.grants c.args.s v.rows.rows v.cells.rows d x change) (moved_job v.settings v.locks.grants c.args.s v.rows.rows v.cells.rows d x change)
    stage v.trace.items v.journal.items ∙ c.self.view_is

pub returns-clause-take : goal.returns-clause-take
returns-clause-take g c =
    let v = c.self.inside in
    let stage : Stage = record { settings = v.settings; opening = v.opening; priorities = v.priorities } in
    let d = c.index_mut-seat.result.now in
    let within = within_is stage v.trace.items v.journal.items v.seats.items v.rows.rows v.cells.rows v.locks.grants v.waits v.live v.trace.spare v.journal.spare c.self.invariant
    c.args.s c.index.result c.in_range.ensures c.index.ensures.below c.index.ensures.place d c.index_mut-seat.ensures.value in
    let at = seat_at v.seats.items c.index.result within c.args.s c.index.ensures.place d c.index_mut-seat.ensures.value in
    let opened : is_open_in (shown_of v.settings v.opening v.priorities v.trace.items v.journal.items v.seats.items) c.args.s ≡ true = subst (λ (y : Shown). is_open_in y c.args.s ≡ true) (sym c.self.view_is) c.requires.open in
    let has = has_pending d (subst (λ (r : Seated). is_some (open_of r.running) ≡ true) at opened) in
    subst (λ (y : Shown). IfOk c.read_at-need.result (λ need. IfSome need (λ p. IsNextAct y c.args.s (Takes p.0 p.1)))) c.self.view_is
    (takes stage v.trace.items v.journal.items v.seats.items v.rows.rows v.cells.rows v.locks.grants v.waits v.live v.trace.spare v.journal.spare c.self.invariant
    c.args.s c.index.result c.in_range.ensures within c.index.ensures.place d c.index_mut-seat.ensures.value c.read_at-need.result c.read_at-need.ensures.need has
    (subst (λ (y : Shown). WaitsForNone y c.args.s) (sym c.self.view_is) c.requires.free))

pub returns-clause-read : goal.returns-clause-read
returns-clause-read g c =
    let v = c.self.inside in
    let stage : Stage = record { settings = v.settings; opening = v.opening; priorities = v.priorities } in
    let d = c.index_mut-seat.result.now in
    let within = within_is stage v.trace.items v.journal.items v.seats.items v.rows.rows v.cells.rows v.locks.grants v.waits v.live v.trace.spare v.journal.spare c.self.invariant
    c.args.s c.index.result c.in_range.ensures c.index.ensures.below c.index.ensures.place d c.index_mut-seat.ensures.value in
    let at = seat_at v.seats.items c.index.result within c.args.s c.index.ensures.place d c.index_mut-seat.ensures.value in
    let opened : is_open_in (shown_of v.settings v.opening v.priorities v.trace.items v.journal.items v.seats.items) c.args.s ≡ true = subst (λ (y : Shown). is_open_in y c.args.s ≡ true) (sym c.self.view_is) c.requires.open in
    let has = has_pending d (subst (λ (r : Seated). is_some (open_of r.running) ≡ true) at opened) in
    subst (λ (y : Shown). IfOk c.read_at-need.result (λ need. need ≡ None → HasReadAll y c.args.s)) c.self.view_is
    (reads stage v.trace.items v.journal.items v.seats.items v.rows.rows v.cells.rows v.locks.grants v.waits v.live v.trace.spare v.journal.spare c.self.invariant
    c.args.s c.index.result c.in_range.ensures within c.index.ensures.place d c.index_mut-seat.ensures.value c.read_at-need.result c.read_at-need.ensures.need has)

pub returns-clause-unread : goal.returns-clause-unread
returns-clause-unread g c = λ read.
    let v = c.self.inside in
    let stage : Stage = record { settings = v.settings; opening = v.opening; priorities = v.priorities } in
    let d = c.index_mut-seat.result.now in
    let within = within_is stage v.trace.items v.journal.items v.seats.items v.rows.rows v.cells.rows v.locks.grants v.waits v.live v.trace.spare v.journal.spare c.self.invariant
    c.args.s c.index.result c.in_range.ensures c.index.ensures.below c.index.ensures.place d c.index_mut-seat.ensures.value in
    let at = seat_at v.seats.items c.index.result within c.args.s c.index.ensures.place d c.index_mut-seat.ensures.value in
    let opened : is_open_in (shown_of v.settings v.opening v.priorities v.trace.items v.journal.items v.seats.items) c.args.s ≡ true = subst (λ (y : Shown). is_open_in y c.args.s ≡ true) (sym c.self.view_is) c.requires.open in
    let has = has_pending d (subst (λ (r : Seated). is_some (open_of r.running) ≡ true) at opened) in
    unread stage v.trace.items v.journal.items v.seats.items v.rows.rows v.cells.rows v.locks.grants v.waits v.live v.trace.spare v.journal.spare c.self.invariant
    c.args.s c.index.result c.in_range.ensures within c.index.ensures.place d c.index_mut-seat.ensures.value c.read_at-need.result c.read_at-need.ensures.need has (subst (λ (y : Shown). HasReadAll y c.args.s) (sym c.self.view_is) read)
