use Rattle.sg_trace.specs.Traces.{Stage}
use Rattle.sg_db.proofs.Seated.{opened_locked, all_seats}
use Rattle.sg_db.proofs.opened.Opened.open.Goals as goal

pub invariant_of-result : goal.invariant_of-result
invariant_of-result g c =
    let t = c.in_ok-counter.counter in
    let pen = c.in_ok-counter.pen in
    let engine = c.in_ok-engine.engine in
    let w : Stage = record { settings = c.args.settings; opening = c.args.rows; priorities = c.args.priorities } in
    record {
      locked = opened_locked t pen c.of.new.pen engine w c.args.callers c.in_ok-counter.ensures.table c.in_ok-counter.ensures.pen c.in_ok-seats.ensures.table c.in_ok-seats.ensures.pen c.in_ok-engine.ensures.stage c.in_ok-engine.ensures.run c.in_ok-engine.ensures.staged;
      all = all_seats t pen engine w c.args.callers c.in_ok-seats.seats c.in_ok-counter.ensures.table c.in_ok-counter.ensures.pen c.in_ok-engine.ensures.stage c.in_ok-seats.ensures.seats;
      least = c.requires.least_workers;
      most = c.requires.most_workers;
    }
