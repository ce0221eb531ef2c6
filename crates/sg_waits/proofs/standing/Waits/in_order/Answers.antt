use Rattle.sg_waits.proofs.Named.{standing-AreWaits}
use Rattle.sg_waits.proofs.standing.Waits.in_order.Goals as goal

pub returns : goal.returns
returns c = rw (← c.self.view_is) (standing-AreWaits c.self.inside.named c.self.invariant.0 c.self.invariant.1)
