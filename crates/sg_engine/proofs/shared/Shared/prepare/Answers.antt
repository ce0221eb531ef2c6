use Rattle.std.specs.Prelude.{is_some}
use Rattle.std.proofs.Common.{◌≡◌, ◌∙◌, true, set, sym, ap, subst}
use Rattle.sg_trace.specs.Traces.{Stage}
use Rattle.sg_engine.specs.declared.shared.Seat.{Seat}
use Rattle.sg_engine.specs.declared.preparing.Prepared.{Prepared}
use Rattle.sg_engine.specs.Shown.{Shown, Seated, is_open_in, open_of}
use Rattle.sg_engine.specs.Inside.{shown_of}
use Rattle.sg_engine.specs.Ties.{IsEngine}
use Rattle.sg_engine.specs.Nexts.{WaitsForNone, HasReadAll}
use Rattle.sg_engine.specs.Preparing.{Prepares, IsNoJob, HasNoneLeft}
use Rattle.sg_engine.specs.Reaching.{settled_at, prepared_of}
use Rattle.sg_engine.proofs.Begins.{within_is}
use Rattle.sg_engine.proofs.Seats.{seat_at}
use Rattle.sg_engine.proofs.Nexts.{has_pending, sounds}
use Rattle.sg_engine.proofs.Prepared.{same_read, answers_fit, scan_for, replying, comes_engine, comes_prepares, comes_left}
use Rattle.sg_engine.proofs.shared.Shared.prepare.Goals as goal

pub reached_at-requires-clause-fits : goal.reached_at-requires-clause-fits
reached_at-requires-clause-fits g c =
    let v = c.self.inside in
    let stage : Stage = record { settings = v.settings; opening = v.opening; priorities = v.priorities } in
    let d = c.index.result.now in
    let within = within_is stage v.trace.items v.journal.items v.seats.items v.rows.rows v.cells.rows v.locks.grants v.waits v.live v.trace.spare v.journal.spare c.self.invariant
    c.args.s c.index-place.result c.in_range.ensures c.index-place.ensures.below c.index-place.ensures.place d c.index.ensures in
    let at = seat_at v.seats.items c.index-place.result within c.args.s c.index-place.ensures.place d c.index.ensures in
    let opened : is_open_in (shown_of v.settings v.opening v.priorities v.trace.items v.journal.items v.seats.items) c.args.s ≡ true = subst (λ (y : Shown). is_open_in y c.args.s ≡ true) (sym c.self.view_is) c.requires.open in
    let some = has_pending d (subst (λ (r : Seated). is_some (open_of r.running) ≡ true) at opened) in
    answers_fit stage v.trace.items v.journal.items v.seats.items v.rows.rows v.cells.rows v.locks.grants v.waits v.live v.trace.spare v.journal.spare c.self.invariant
    c.args.s c.index-place.result c.in_range.ensures within c.index-place.ensures.place d c.index.ensures some c.countable.ensures

pub reached_at-requires-clause-sound : goal.reached_at-requires-clause-sound
reached_at-requires-clause-sound g c =
    let v = c.self.inside in
    let stage : Stage = record { settings = v.settings; opening = v.opening; priorities = v.priorities } in
    let d = c.index.result.now in
    let within = within_is stage v.trace.items v.journal.items v.seats.items v.rows.rows v.cells.rows v.locks.grants v.waits v.live v.trace.spare v.journal.spare c.self.invariant
    c.args.s c.index-place.result c.in_range.ensures c.index-place.ensures.below c.index-place.ensures.place d c.index.ensures in
    sounds stage v.trace.items v.journal.items v.seats.items v.rows.rows v.cells.rows v.locks.grants v.waits v.live v.trace.spare v.journal.spare c.self.invariant
    c.args.s c.index-place.result c.in_range.ensures within c.index-place.ensures.place d c.index.ensures

pub reached_at-requires-clause-scan : goal.reached_at-requires-clause-scan
reached_at-requires-clause-scan g c =
    let v = c.self.inside in
    let stage : Stage = record { settings = v.settings; opening = v.opening; priorities = v.priorities } in
    let d = c.index.result.now in
    let within = within_is stage v.trace.items v.journal.items v.seats.items v.rows.rows v.cells.rows v.locks.grants v.waits v.live v.trace.spare v.journal.spare c.self.invariant
    c.args.s c.index-place.result c.in_range.ensures c.index-place.ensures.below c.index-place.ensures.place d c.index.ensures in
    scan_for stage v.trace.items v.journal.items v.seats.items v.rows.rows v.cells.rows v.locks.grants v.waits v.live v.trace.spare v.journal.spare c.self.invariant
    c.args.s c.index-place.result c.in_range.ensures within c.index-place.ensures.place d c.index.ensures

pub reached_at-requires-clause-reply : goal.reached_at-requires-clause-reply
reached_at-requires-clause-reply g c =
    let v = c.self.inside in
    let stage : Stage = record { settings = v.settings; opening = v.opening; priorities = v.priorities } in
    let d = c.index.result.now in
    let within = within_is stage v.trace.items v.journal.items v.seats.items v.rows.rows v.cells.rows v.locks.grants v.waits v.live v.trace.spare v.journal.spare c.self.invariant
    c.args.s c.index-place.result c.in_range.ensures c.index-place.ensures.below c.index-place.ensures.place d c.index.ensures in
    replying stage v.trace.items v.journal.items v.seats.items v.rows.rows v.cells.rows v.locks.grants v.waits v.live v.trace.spare v.journal.spare c.self.invariant
    c.args.s c.index-place.result c.in_range.ensures within c.index-place.ensures.place d c.index.ensures

pub invariant_of-self : goal.invariant_of-self
invariant_of-self g c =
    let v = c.self.inside in
    let stage : Stage = record { settings = v.settings; opening = v.opening; priorities = v.priorities } in
    let d = c.index.result.now in
    let within = within_is stage v.trace.items v.journal.items v.seats.items v.rows.rows v.cells.rows v.locks.grants v.waits v.live v.trace.spare v.journal.spare c.self.invariant
    c.args.s c.index-place.result c.in_range.ensures c.index-place.ensures.below c.index-place.ensures.place d c.index.ensures in
    let at = seat_at v.seats.items c.index-place.result within c.args.s c.index-place.ensures.place d c.index.ensures in
    let opened : is_open_in (shown_of v.settings v.opening v.priorities v.trace.items v.journal.items v.seats.items) c.args.s ≡ true = subst (λ (y : Shown). is_open_in y c.args.s ≡ true) (sym c.self.view_is) c.requires.open in
    let some = has_pending d (subst (λ (r : Seated). is_some (open_of r.running) ≡ true) at opened) in
    let r = c.in_ok-reached.reached in
    let x = c.settle_at.new.seat in
    let is : x ≡ settled_at r d = c.settle_at.ensures.seat ∙ ap (settled_at r) (same_read v.seats.items c.index-place.result c.index_mut.result.now d within c.index_mut.ensures.value c.index.ensures) in
    let read = subst (λ (y : Shown). HasReadAll y c.args.s) (sym c.self.view_is) c.requires.read in
    subst (λ (y : Seat). IsEngine (shown_of v.settings v.opening v.priorities v.trace.items v.journal.items (set v.seats.items c.index-place.result y)) v.rows.rows v.cells.rows v.locks.grants v.waits (set v.seats.items c.index-place.result y) v.live v.trace.spare v.journal.spare) (sym is)
    (comes_engine stage v.trace.items v.journal.items v.seats.items v.rows.rows v.cells.rows v.locks.grants v.waits v.live v.trace.spare v.journal.spare c.self.invariant
    c.args.s c.index-place.result c.in_range.ensures within c.index-place.ensures.place d c.index.ensures some read r c.in_ok-reached.ensures)

pub returns-clause-ok : goal.returns-clause-ok
returns-clause-ok g c =
    let v = c.self.inside in
    let stage : Stage = record { settings = v.settings; opening = v.opening; priorities = v.priorities } in
    let d = c.index.result.now in
    let within = within_is stage v.trace.items v.journal.items v.seats.items v.rows.rows v.cells.rows v.locks.grants v.waits v.live v.trace.spare v.journal.spare c.self.invariant
    c.args.s c.index-place.result c.in_range.ensures c.index-place.ensures.below c.index-place.ensures.place d c.index.ensures in
    let at = seat_at v.seats.items c.index-place.result within c.args.s c.index-place.ensures.place d c.index.ensures in
    let opened : is_open_in (shown_of v.settings v.opening v.priorities v.trace.items v.journal.items v.seats.items) c.args.s ≡ true = subst (λ (y : Shown). is_open_in y c.args.s ≡ true) (sym c.self.view_is) c.requires.open in
    let some = has_pending d (subst (λ (r : Seated). is_some (open_of r.running) ≡ true) at opened) in
    let r = c.in_ok-reached.reached in
    let x = c.settle_at.new.seat in
    let is : x ≡ settled_at r d = c.settle_at.ensures.seat ∙ ap (settled_at r) (same_read v.seats.items c.index-place.result c.index_mut.result.now d within c.index_mut.ensures.value c.index.ensures) in
    let read = subst (λ (y : Shown). HasReadAll y c.args.s) (sym c.self.view_is) c.requires.read in
    let free = subst (λ (y : Shown). WaitsForNone y c.args.s) (sym c.self.view_is) c.requires.free in
    subst (λ (o : Prepared). Prepares c.args.s c.args.self.now (shown_of v.settings v.opening v.priorities v.trace.items v.journal.items (set v.seats.items c.index-place.result x)) o) (sym c.settle_at.ensures.result)
    (subst (λ (y : Seat). Prepares c.args.s c.args.self.now (shown_of v.settings v.opening v.priorities v.trace.items v.journal.items (set v.seats.items c.index-place.result y)) (prepared_of r)) (sym is)
    (subst (λ (y : Shown). Prepares c.args.s y (shown_of v.settings v.opening v.priorities v.trace.items v.journal.items (set v.seats.items c.index-place.result (settled_at r d))) (prepared_of r)) c.self.view_is
    (comes_prepares stage v.trace.items v.journal.items v.seats.items v.rows.rows v.cells.rows v.locks.grants v.waits v.live v.trace.spare v.journal.spare c.self.invariant
    c.args.s c.index-place.result c.in_range.ensures within c.index-place.ensures.place d c.index.ensures some read r c.in_ok-reached.ensures free)))

pub returns-clause-left : goal.returns-clause-left
returns-clause-left g c =
    let v = c.self.inside in
    let stage : Stage = record { settings = v.settings; opening = v.opening; priorities = v.priorities } in
    let d = c.index.result.now in
    let within = within_is stage v.trace.items v.journal.items v.seats.items v.rows.rows v.cells.rows v.locks.grants v.waits v.live v.trace.spare v.journal.spare c.self.invariant
    c.args.s c.index-place.result c.in_range.ensures c.index-place.ensures.below c.index-place.ensures.place d c.index.ensures in
    let at = seat_at v.seats.items c.index-place.result within c.args.s c.index-place.ensures.place d c.index.ensures in
    let opened : is_open_in (shown_of v.settings v.opening v.priorities v.trace.items v.journal.items v.seats.items) c.args.s ≡ true = subst (λ (y : Shown). is_open_in y c.args.s ≡ true) (sym c.self.view_is) c.requires.open in
    let some = has_pending d (subst (λ (r : Seated). is_some (open_of r.running) ≡ true) at opened) in
    let r = c.in_ok-reached.reached in
    let x = c.settle_at.new.seat in
    let is : x ≡ settled_at r d = c.settle_at.ensures.seat ∙ ap (settled_at r) (same_read v.seats.items c.index-place.result c.index_mut.result.now d within c.index_mut.ensures.value c.index.ensures) in
    let read = subst (λ (y : Shown). HasReadAll y c.args.s) (sym c.self.view_is) c.requires.read in
    let free = subst (λ (y : Shown). WaitsForNone y c.args.s) (sym c.self.view_is) c.requires.free in
    subst (λ (o : Prepared). IsNoJob o → HasNoneLeft c.args.self.now c.args.s) (sym c.settle_at.ensures.result)
    (subst (λ (y : Shown). IsNoJob (prepared_of r) → HasNoneLeft y c.args.s) c.self.view_is
    (comes_left stage v.trace.items v.journal.items v.seats.items v.rows.rows v.cells.rows v.locks.grants v.waits v.live v.trace.spare v.journal.spare c.self.invariant
    c.args.s c.index-place.result c.in_range.ensures within c.index-place.ensures.place d c.index.ensures some read r c.in_ok-reached.ensures free))
