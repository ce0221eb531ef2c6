use Rattle.sg_engine.proofs.Breaking.{Breaks}
use Rattle.sg_engine.proofs.shared.Shared.wait.Given as goal

abbrev pub invariant-cycles : goal.invariant-cycles
invariant-cycles l =
    let v = l.self-inside in
    Breaks l.s l.fn.key l.fn.mode l.fn.blockers l.fn.self (record { settings = v.settings; opening = v.opening; priorities = v.priorities }) v.trace.items v.journal.items v.seats.items v.rows.rows v.cells.rows v.locks.grants v.waits v.live v.trace.spare v.journal.spare l.cycle l.own

abbrev pub decreases-cycles : goal.decreases-cycles
decreases-cycles l = l.self-inside.live
