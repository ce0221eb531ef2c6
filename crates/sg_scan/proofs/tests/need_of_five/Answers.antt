use Rattle.std.proofs.Common.{arith}
use Rattle.sg_scan.proofs.tests.need_of_five.Goals as goal

pub need_of-requires : goal.need_of-requires
need_of-requires c = c.in-Ok.ensures.fresh (record { grid = tt; least = omega arith; most = omega arith })
