use Rattle.std.proofs.Common.{subst}
use Rattle.sg_rows.specs.Table.{committed_rows}
use Rattle.sg_trace.specs.Replies.{SerialIn}
use Rattle.sg_engine.specs.Shown.{Shown}
use Rattle.sg_engine.proofs.Committed.{rows_serial}
use Rattle.sg_engine.proofs.shared.Shared.rows.Goals as goal

pub returns : goal.returns
returns c =
    let v = c.self.inside in
    subst (λ (x : Shown). SerialIn x.stage.settings x.stage.opening x.journal (committed_rows v.rows.rows)) c.self.view_is
    (rows_serial _ v.rows.rows v.cells.rows v.locks.grants v.waits v.seats.items v.live v.trace.spare v.journal.spare c.self.invariant c.in_order.ensures.sound)
