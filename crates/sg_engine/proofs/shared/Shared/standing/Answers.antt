use Rattle.std.proofs.Common.{◌≡◌, ◌≢◌, [], true, subst, refl}
use Rattle.sg_modes.proofs.BoolLaws.{clash}
use Rattle.sg_trace.specs.Traces.{Stage}
use Rattle.sg_engine.specs.Shown.{Shown, is_open_in}
use Rattle.sg_engine.specs.Nexts.{WaitsForNone}
use Rattle.sg_engine.specs.Steps.{Stands}
use Rattle.sg_engine.proofs.Begins.{within_is}
use Rattle.sg_engine.proofs.Wished.{waits_for_none, open_there, has_wish_there, stands_there}
use Rattle.sg_engine.proofs.shared.Shared.standing.Goals as goal

pub returns-then-is_empty-clause-free : goal.returns-then-is_empty-clause-free
returns-then-is_empty-clause-free c = λ _.
    let v = c.self.inside in
    let stage : Stage = record { settings = v.settings; opening = v.opening; priorities = v.priorities } in
    subst (λ (x : Shown). WaitsForNone x c.args.s) c.self.view_is
    (waits_for_none stage v.trace.items v.journal.items v.seats.items v.rows.rows v.cells.rows v.locks.grants v.waits v.live v.trace.spare v.journal.spare c.self.invariant
    c.args.s c.in_range.ensures c.blockers-blockers.result c.blockers-blockers.ensures.blockers (c.if-is_empty.ensures.empty.0 refl))

pub wish_at-key-requires : goal.wish_at-key-requires
wish_at-key-requires c =
    let v = c.self.inside in
    let stage : Stage = record { settings = v.settings; opening = v.opening; priorities = v.priorities } in
    let some : c.blockers-blockers.result ≢ [] = (λ e. clash _ (c.if-is_empty.ensures.empty.1 e) refl) in
    let d = c.index-2.result.now in
    let within = within_is stage v.trace.items v.journal.items v.seats.items v.rows.rows v.cells.rows v.locks.grants v.waits v.live v.trace.spare v.journal.spare c.self.invariant
    c.args.s c.index.result c.in_range.ensures c.index.ensures.below c.index.ensures.place d c.index-2.ensures in
    has_wish_there stage v.trace.items v.journal.items v.seats.items v.rows.rows v.cells.rows v.locks.grants v.waits v.live v.trace.spare v.journal.spare c.self.invariant
    c.args.s c.in_range.ensures c.blockers-blockers.result c.blockers-blockers.ensures.blockers some c.index.result within c.index.ensures.place d c.index-2.ensures

pub returns-clause-stands : goal.returns-clause-stands
returns-clause-stands c =
    let v = c.self.inside in
    let stage : Stage = record { settings = v.settings; opening = v.opening; priorities = v.priorities } in
    let some : c.blockers-blockers.result ≢ [] = (λ e. clash _ (c.if-is_empty.ensures.empty.1 e) refl) in
    let d = c.index-2.result.now in
    let within = within_is stage v.trace.items v.journal.items v.seats.items v.rows.rows v.cells.rows v.locks.grants v.waits v.live v.trace.spare v.journal.spare c.self.invariant
    c.args.s c.index.result c.in_range.ensures c.index.ensures.below c.index.ensures.place d c.index-2.ensures in
    subst (λ (x : Shown). Stands x c.args.s c.wish_at-key.result.0 c.wish_at-key.result.1 c.blockers-blockers.result) c.self.view_is
    (stands_there stage v.trace.items v.journal.items v.seats.items v.rows.rows v.cells.rows v.locks.grants v.waits v.live v.trace.spare v.journal.spare c.self.invariant
    c.args.s c.in_range.ensures c.blockers-blockers.result c.blockers-blockers.ensures.blockers some c.index.result within c.index.ensures.place d c.index-2.ensures
    c.wish_at-key.result.0 c.wish_at-key.result.1 c.wish_at-key.ensures)

pub returns-clause-open : goal.returns-clause-open
returns-clause-open c = λ _.
    let v = c.self.inside in
    let stage : Stage = record { settings = v.settings; opening = v.opening; priorities = v.priorities } in
    let some : c.blockers-blockers.result ≢ [] = (λ e. clash _ (c.if-is_empty.ensures.empty.1 e) refl) in
    subst (λ (x : Shown). is_open_in x c.args.s ≡ true) c.self.view_is
    (open_there stage v.trace.items v.journal.items v.seats.items v.rows.rows v.cells.rows v.locks.grants v.waits v.live v.trace.spare v.journal.spare c.self.invariant
    c.args.s c.in_range.ensures c.blockers-blockers.result c.blockers-blockers.ensures.blockers some)
