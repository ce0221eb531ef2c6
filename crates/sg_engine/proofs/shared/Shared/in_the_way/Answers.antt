use Rattle.std.proofs.Common.{sym, subst}
use Rattle.sg_trace.specs.Traces.{Stage}
use Rattle.sg_engine.specs.Shown.{Shown}
use Rattle.sg_engine.specs.Wishes.{IsWish, AreInTheWay}
use Rattle.sg_engine.proofs.Wished.{in_the_way}
use Rattle.sg_engine.proofs.shared.Shared.in_the_way.Goals as goal

pub returns : goal.returns
returns c =
    let v = c.self.inside in
    let stage : Stage = record { settings = v.settings; opening = v.opening; priorities = v.priorities } in
    let wish = subst (λ (x : Shown). IsWish x c.args.s c.args.key.now c.args.mode) (sym c.self.view_is) c.requires in
    subst (λ (x : Shown). AreInTheWay x c.args.s c.args.key.now c.args.mode c.blockers-blockers.result) c.self.view_is
    (in_the_way stage v.trace.items v.journal.items v.seats.items v.rows.rows v.cells.rows v.locks.grants v.waits v.live v.trace.spare v.journal.spare c.self.invariant
    c.args.s c.args.key.now c.args.mode wish c.blockers-blockers.result c.all_sessions.ensures c.blockers-blockers.ensures.blockers)
