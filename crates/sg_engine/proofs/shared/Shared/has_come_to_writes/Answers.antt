use Rattle.std.proofs.Common.{◌∙◌, sym, subst}
use Rattle.sg_trace.specs.Traces.{Stage}
use Rattle.sg_engine.specs.Shown.{Shown}
use Rattle.sg_engine.specs.Preparing.{HasNoneLeft}
use Rattle.sg_engine.proofs.Begins.{within_is}
use Rattle.sg_engine.proofs.Refines.{writes_refined}
use Rattle.sg_engine.proofs.shared.Shared.has_come_to_writes.Goals as goal

pub returns-clause-left : goal.returns-clause-left
returns-clause-left c = λ come.
    let v = c.self.inside in
    let stage : Stage = record { settings = v.settings; opening = v.opening; priorities = v.priorities } in
    let d = c.index-2.result.now in
    let within = within_is stage v.trace.items v.journal.items v.seats.items v.rows.rows v.cells.rows v.locks.grants v.waits v.live v.trace.spare v.journal.spare c.self.invariant
    c.args.s c.index.result c.in_range.ensures c.index.ensures.below c.index.ensures.place d c.index-2.ensures in
    subst (λ (y : Shown). HasNoneLeft y c.args.s) c.self.view_is
    (writes_refined stage v.trace.items v.journal.items v.seats.items v.rows.rows v.cells.rows v.locks.grants v.waits v.live v.trace.spare v.journal.spare c.self.invariant
    c.args.s c.index.result c.in_range.ensures within c.index.ensures.place d c.index-2.ensures (sym c.is_writing.ensures ∙ come))
