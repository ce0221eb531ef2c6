use Rattle.std.proofs.Common.{arith}
use Rattle.sg_engine.proofs.Opened.{more_unused, more_seats}
use Rattle.sg_engine.proofs.opens.unused_seats.Goals as goal

pub loop-preserved : goal.loop-preserved
loop-preserved c =
    let before = c.loop.invariant in
    let more = more_seats c.loop.seats.items c.push.new.self.items c.in_ok-push.ensures.items in
    let below = c.loop-test.true in
    let length = before.length in
    record {
      length = omega (arith, length, more);
      most = omega (arith, below);
      unused = more_unused c.loop.seats.items c.push.new.self.items c.in_ok-push.ensures.items before.unused;
    }
